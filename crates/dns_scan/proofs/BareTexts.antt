-- Octets of strings that are written as themselves.
use Rattle.std.proofs.Common.{◌≡◌, ℕ, ◌<◌, ◌+◌, zero, suc, true, List, [], ◌∷◌, ◌++◌, refl, ◌∙◌, ap, arith}
use Rattle.std.specs.List.{list_all}
use Rattle.std.specs.Str.{IsAscii, IsUtf8}
use Rattle.std.proofs.lemmas.Bool.{and_parts}
use Rattle.std.proofs.lemmas.Bool.Decides.{nat_tests}
use Rattle.std.proofs.lemmas.Str.{IsUtf8-from_ascii}
use Rattle.std.proofs.lemmas.Grind.{flat_map-append}
use Rattle.dns_label.specs.Symbol.{spelled, is_printable}
use Rattle.dns_scan.specs.declared.char_str.text.Style.{Style}
use Rattle.dns_scan.specs.StringText.{is_bare, symbol_of, text_of}

one_bare : (style : Style) (octet : ℕ) → is_bare style octet ≡ true → spelled (symbol_of style octet) ≡ octet ∷ []
one_bare style octet is = grind (arith, is)

pub bare_text : (style : Style) (octets : List ℕ) → list_all (is_bare style) octets ≡ true → text_of style octets ≡ octets
bare_text style [] all = refl
bare_text style (octet ∷ octets) all =
    let both = and_parts (is_bare style octet) (list_all (is_bare style) octets) all in
    let one = one_bare style octet both.0 in
    let others = bare_text style octets both.1 in λ i. one i ++ others i

small : (style : Style) (octet : ℕ) → is_bare style octet ≡ true → octet < 128
small style octet is =
    let both = and_parts (is_printable octet) _ is in grind (arith, nat_tests, both.0)

bare_ascii : (style : Style) (octets : List ℕ) → list_all (is_bare style) octets ≡ true → IsAscii octets
bare_ascii style [] all i = omega arith
bare_ascii style (octet ∷ octets) all zero = small style octet (and_parts (is_bare style octet) (list_all (is_bare style) octets) all).0
bare_ascii style (octet ∷ octets) all (suc i) = bare_ascii style octets (and_parts (is_bare style octet) (list_all (is_bare style) octets) all).1 i

pub bare_utf8 : (style : Style) (octets : List ℕ) → list_all (is_bare style) octets ≡ true → IsUtf8 octets
bare_utf8 style octets all = IsUtf8-from_ascii octets (bare_ascii style octets all)

-- a run of them, a symbol and the rest
pub run_and_symbol : (style : Style) (run rest : List ℕ) (octet : ℕ) → list_all (is_bare style) run ≡ true
    → text_of style (run ++ octet ∷ rest) ≡ run ++ (spelled (symbol_of style octet) ++ text_of style rest)
run_and_symbol style run rest octet all =
    flat_map-append (λ o. spelled (symbol_of style o)) run (octet ∷ rest)
    ∙ ap (λ l. l ++ (spelled (symbol_of style octet) ++ text_of style rest)) (bare_text style run all)
