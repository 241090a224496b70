-- Octets in base 16, one after another.
use Rattle.std.proofs.Common.{◌≡◌, ◌<◌, ◌+◌, ◌/◌, ◌%◌, ℕ, true, false, List, [], ◌∷◌, ◌++◌, length, take, get_or, sym, ◌∙◌, ap}
use Rattle.std.specs.Prelude.{◌^◌, ◌-◌}
use Rattle.std.specs.Fmt.{digits, digit_glyph, padded_integral, format_spec}
use Rattle.std.proofs.lemmas.Fmt.{hex_byte}
use Rattle.std.proofs.lemmas.List.{take_more, flat_map_more}
use Rattle.dns_name.specs.UnknownText.{hex_of}

-- one octet more
pub hex_more : (octets : List ℕ) (i : ℕ) → i < length octets → get_or octets i 0 < 256
    → hex_of (take (i + 1) octets)
    ≡ hex_of (take i octets) ++ padded_integral (format_spec 32 0 4 2 (2 ^ 64 - 1)) false [] (digits 16 true (get_or octets i 0))
hex_more octets i within small =
    ap hex_of (take_more octets i 0 within)
    ∙ sym (flat_map_more (λ n. digit_glyph true (n / 16) ∷ digit_glyph true (n % 16) ∷ []) [] (take i octets) (get_or octets i 0))
    ∙ ap (λ l. hex_of (take i octets) ++ l) (sym (hex_byte true (get_or octets i 0) small))
