-- Texts of printable characters other than the backslash.
use Rattle.std.proofs.Common.{◌≡◌, ◌≢◌, ℕ, true, List, [], ◌∷◌, refl, arith, zero, suc}
use Rattle.std.proofs.lemmas.Bool.{and_parts}
use Rattle.std.proofs.lemmas.Bool.Decides.{nat_tests}
use Rattle.std.proofs.lemmas.Str.{IsUtf8-from_ascii}
use Rattle.std.specs.List.{list_all}
use Rattle.std.specs.Str.{IsAscii, IsUtf8}
use Rattle.dns_label.specs.declared.symbol.Symbol.TheVariants.{Char}
use Rattle.dns_label.specs.Symbol.{IsPrintable, is_plain}
use Rattle.dns_scan.specs.StringText.{Spells}
use Rattle.dns_scan.proofs.Texts.{spells_more, spells_none}

printable : (octet : ℕ) → is_plain octet ≡ true → IsPrintable octet
printable octet passes = grind (arith, nat_tests)

no_backslash : (octet : ℕ) → is_plain octet ≡ true → octet ≢ 92
no_backslash octet passes = grind (arith, nat_tests)

-- each spells itself
pub plain_spells : (text : List ℕ) → list_all is_plain text ≡ true → Spells text text
plain_spells [] all = spells_none
plain_spells (octet ∷ text) all =
    let both = and_parts (is_plain octet) (list_all is_plain text) all in
    spells_more (octet ∷ text) text text (Char octet) (printable octet both.0, no_backslash octet both.0) refl (plain_spells text both.1)

-- they are UTF-8
plain_ascii : (text : List ℕ) → list_all is_plain text ≡ true → IsAscii text
plain_ascii [] all i = omega arith
plain_ascii (octet ∷ text) all zero =
    let both = and_parts (is_plain octet) (list_all is_plain text) all in
    let is = printable octet both.0 in omega arith
plain_ascii (octet ∷ text) all (suc i) =
    let both = and_parts (is_plain octet) (list_all is_plain text) all in plain_ascii text both.1 i

pub plain_utf8 : (text : List ℕ) → list_all is_plain text ≡ true → IsUtf8 text
plain_utf8 text all = IsUtf8-from_ascii text (plain_ascii text all)
