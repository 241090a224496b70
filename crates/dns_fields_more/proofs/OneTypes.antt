-- Tokens are one bitmap of types at most, as far as it is of octets; and each has few octets.
use Rattle.std.proofs.Common.{◌≡◌, ◌+◌, ◌*◌, ◌≤◌, ℕ, List, [], ◌∷◌, length, Some, sym, ◌∙◌, ap, subst, arith, length-append}
use Rattle.std.specs.List.{Contains, flat_map}
use Rattle.dns_label.specs.Octets.{AreOctets}
use Rattle.dns_scan.specs.Token.{Token}
use Rattle.dns_field_texts.specs.TypeBitmap.{AreWindows, IsTypeBitmap, ScansTypes, SpellTypes, SpellsType, Window, window_octets}
use Rattle.dns_field_texts.specs.TypeWords.{type_word_read}
use Rattle.dns_field_texts.proofs.OneBitmap.{one_bitmap}

type_one : (token : Token) (type other : ℕ) → SpellsType token type → SpellsType token other → type ≡ other
type_one token type other is also =
    let texts = ap (λ (t : Token). t.text) (sym is.word.0 ∙ also.word.0) in
    let both : Some type ≡ Some other = sym is.reads ∙ ap type_word_read texts ∙ also.reads in cc

spelled_one : (tokens : List Token) (types others : List ℕ) → SpellTypes tokens types → SpellTypes tokens others → types ≡ others
spelled_one [] types others is also = is ∙ sym also
spelled_one (token ∷ tokens) types others is also =
    let first = type_one token is.0 also.0 is.2 also.2 in
    let behind = spelled_one tokens is.1 also.1 is.3 also.3 in
    is.4 ∙ (λ i. first i ∷ behind i) ∙ sym also.4

pub types_one : {tokens left rest : List Token} {octets others : List ℕ} → AreOctets octets → AreOctets others → ScansTypes tokens left octets
    → ScansTypes tokens rest others → octets ≡ others
types_one {tokens} {octets = octets} {others} are also_are scans also =
    let types = spelled_one tokens scans.types also.types scans.spelled also.spelled in
    one_bitmap octets others scans.bitmap.bitmap also.bitmap.bitmap are also_are
    (λ t. (
      λ has. (also.bitmap.same t).1 (subst (λ (l : List ℕ). Contains l t) types ((scans.bitmap.same t).0 has)),
      λ has. (scans.bitmap.same t).1 (subst (λ (l : List ℕ). Contains l t) (sym types) ((also.bitmap.same t).0 has)),
    ))

-- 256 windows of 34 octets each
windows_few : (low : ℕ) (windows : List Window) → AreWindows low windows → low ≤ 256 → length (flat_map window_octets windows) + 34 * low ≤ 8704
windows_few low [] are small = omega arith
windows_few low (window ∷ windows) are small =
    let from = are.0 in
    let less = are.1.small in
    let few = are.1.few in
    let others = windows_few (window.number + 1) windows are.2 (omega (arith, less)) in
    let sum = length-append window.octets (flat_map window_octets windows) in
    omega (arith, from, few, others, sum)

pub bitmap_few : (octets : List ℕ) → IsTypeBitmap octets → length octets ≤ 8704
bitmap_few octets is =
    let few = windows_few 0 is.windows is.are (omega arith) in
    let size = ap (length {A = ℕ}) is.written in
    omega (arith, few, size)
