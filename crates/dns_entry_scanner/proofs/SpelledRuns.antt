-- Runs of octets that stand for themselves, read at once.
use Rattle.std.proofs.Common.{◌≡◌, ◌+◌, ℕ, Bool, true, List, [], ◌∷◌, ◌++◌, take, drop, refl, sym, ◌∙◌, ap, subst, arith, append_assoc, append-nil}
use lib.ListN.{take-append-drop}
use Rattle.std.specs.List.{prefix_len}
use Rattle.dns_label.specs.declared.symbol.Symbol.TheVariants.{Char}
use Rattle.dns_scan.proofs.Texts.{Reading, reading_more}
use Rattle.dns_entry_scanner.specs.Octets.{is_plain_in}
use Rattle.dns_entry_scanner.proofs.PlainOctets.{ArePlain, run_plain}

reading_run : (quoted : Bool) (text front behind rest taken : List ℕ) → Reading text rest taken → ArePlain quoted front → rest ≡ front ++ behind
    → Reading text behind (taken ++ front)
reading_run quoted text [] behind rest taken reading each is =
    subst (λ (l : List ℕ). Reading text l (taken ++ [])) is (subst (λ (l : List ℕ). Reading text rest l) (sym (append-nil taken)) reading)
reading_run quoted text (octet ∷ front) behind rest taken reading each is =
    let more = reading_more text rest (front ++ behind) taken (Char octet) reading each.0.0 is in
    subst (λ (l : List ℕ). Reading text behind l) (append_assoc taken (octet ∷ []) front)
    (reading_run quoted text front behind (front ++ behind) (taken ++ octet ∷ []) more each.1 refl)

-- the longest run at the front
pub reading_front : (text rest taken : List ℕ) (len : ℕ) → Reading text rest taken → len ≡ 0 + prefix_len (is_plain_in true) rest
    → Reading text (drop len rest) (taken ++ take len rest)
reading_front text rest taken len reading is =
    let same : prefix_len (is_plain_in true) rest ≡ len = omega (arith, is) in
    let plain : ArePlain true (take len rest) = subst (λ (n : ℕ). ArePlain true (take n rest)) same (run_plain true rest) in
    reading_run true text (take len rest) (drop len rest) rest taken reading plain (sym (take-append-drop len rest))
