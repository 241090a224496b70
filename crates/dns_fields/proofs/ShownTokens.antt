-- The tokens of addresses and of rests.
use Rattle.std.proofs.Common.{◌≡◌, ◌+◌, ◌*◌, ◌/◌, ◌%◌, ◌<◌, ◌==◌, ℕ, Bool, true, false, List, [], ◌∷◌, ◌++◌, length, map, refl, arith, length-append}
use Rattle.std.specs.Prelude.{if◌then◌else◌}
use Rattle.std.proofs.lemmas.List.{length-map}
use Rattle.std.specs.Net.Addr.{octets_of, segments_of}
use Rattle.dns_scan.specs.Bits.{bits, all_bits, grouped}
use Rattle.dns_scan.specs.Encodings.{encoded_16, encoded_64}
use Rattle.dns_scan.proofs.BitLists.{length-bits}
use Rattle.dns_scan.proofs.Groups.{eq_differs}
use Rattle.dns_text.specs.Document.Piece.{Token}
use Rattle.dns_fields.specs.Fields.{rest16, rest64}
use Rattle.dns_fields.specs.Shown.{one_unless_empty, field_pieces}

-- the segments of segments' octets
pub segments_of-octets_of : (segments : List ℕ) → segments_of (octets_of segments) ≡ segments
segments_of-octets_of [] = refl
segments_of-octets_of (s ∷ segments) =
    let here : s / 256 * 256 + s % 256 ≡ s = omega arith in
    let others : segments_of (octets_of segments) ≡ segments = segments_of-octets_of segments in
    rw (here, others) refl

one_group : (group : List ℕ) → 0 < length (group ∷ [])
one_group group = omega arith

-- bits that are cut into groups give one
grouped_some : (count : ℕ) (held others : List ℕ) → 0 < length held + length others → 0 < length (grouped count held others)
grouped_some count [] [] some = absurd (omega arith)
grouped_some count (first ∷ held) [] some = rw (eq_differs (length (first ∷ held)) 0 (λ none. omega arith)) (one_group (first ∷ held))
grouped_some count held (bit ∷ others) some =
    let on = grouped_some count (held ++ bit ∷ []) others (omega (arith, length-append held (bit ∷ []))) in
    next (length held + 1 == count) on
  where
    next : (whole : Bool) → 0 < length (grouped count (held ++ bit ∷ []) others)
        → 0 < length (if whole then (held ++ bit ∷ []) ∷ grouped count [] others else grouped count (held ++ bit ∷ []) others)
    next true on = omega arith
    next false on = on

-- so octets have some characters
text_some : (character : ℕ → ℕ) (number : List ℕ → ℕ) (count : ℕ) (octets padding : List ℕ) → 0 < length octets
    → 0 < length (map character (map number (grouped count [] (all_bits 8 octets))) ++ padding)
text_some character number count [] padding some = absurd (omega arith)
text_some character number count (octet ∷ octets) padding some =
    let cut : List ℕ = all_bits 8 (octet ∷ octets) in
    let groups : List (List ℕ) = grouped count [] cut in
    let many : 0 < length cut = omega (arith, length-bits 8 octet, length-append (bits 8 octet) (all_bits 8 octets)) in
    omega (
      arith,
      grouped_some count [] cut (omega (arith, many)),
      length-map groups number,
      length-map (map number groups) character,
      length-append (map character (map number groups)) padding,
    )

one_token : (text : List ℕ) → 0 < length text → map Token (one_unless_empty text) ≡ Token text ∷ []
one_token [] some = absurd (omega arith)
one_token (c ∷ text) some = refl

pub rest16_pieces : (octets : List ℕ) → 0 < length octets → field_pieces (rest16 octets) ≡ Token (encoded_16 octets) ∷ []
rest16_pieces octets some = one_token (encoded_16 octets) (text_some _ _ 4 octets _ some)

pub rest64_pieces : (octets : List ℕ) → 0 < length octets → field_pieces (rest64 octets) ≡ Token (encoded_64 octets) ∷ []
rest64_pieces octets some = one_token (encoded_64 octets) (text_some _ _ 6 octets _ some)
