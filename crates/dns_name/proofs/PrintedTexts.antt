-- Printed names are read back.
use Rattle.std.proofs.Common.{◌≡◌, ℕ, List, [], ◌∷◌, ◌++◌, map, refl, sym, ◌∙◌, ap, subst, arith, append-nil}
use Rattle.std.specs.List.{AllByRecursion, flat_map}
use Rattle.std.proofs.lemmas.Grind.{flat_map-append}
use Rattle.dns_label.specs.declared.symbol.Symbol.{Symbol}
use Rattle.dns_label.specs.declared.symbol.Symbol.TheVariants.{Char}
use Rattle.dns_label.specs.Name.{IsName, with_root}
use Rattle.dns_label.specs.NameText.{HasParts, IsAbsoluteText, onto, parts_of, IsRelativeNameText}
use Rattle.dns_label.specs.NameText.IsAbsoluteText.{root, labels as dotted}
use Rattle.dns_label.specs.Symbol.{IsSymbol, spelled}
use Rattle.dns_label.specs.Printed.{printed_label, printed_name, printed_symbol}
use Rattle.dns_label.specs.Octets.{AreOctets}
use Rattle.dns_flat.specs.PrintedLabels.{printed_behind, printed_relative}
use Rattle.dns_label.specs.NameText.IsRelativeNameText.{empty, labels}
use Rattle.dns_wire.proofs.Parts.{joined, joined_none, some_part, each_append}
use Rattle.dns_flat.proofs.PrintedNames.{dotted-relative}
use Rattle.dns_name.proofs.PrintedSymbols.{StandsFor, printed_stands}

-- the symbols of a label, and those of labels after dots
abbrev label_symbols : List ℕ → List Symbol
label_symbols label = map printed_symbol label

abbrev behind_symbols : List (List ℕ) → List Symbol
behind_symbols names = flat_map (λ label. Char 46 ∷ label_symbols label) names

dot_symbol : IsSymbol (Char 46)
dot_symbol = ((omega arith, omega arith), λ same. omega arith)

label_each : (label : List ℕ) → AreOctets label → AllByRecursion IsSymbol (label_symbols label)
label_each [] octets = tt
label_each (c ∷ label) octets = ((printed_stands c octets.0).is_symbol, label_each label octets.1)

behind_each : (names : List (List ℕ)) → AllByRecursion AreOctets names → AllByRecursion IsSymbol (behind_symbols names)
behind_each [] octets = tt
behind_each (label ∷ names) octets =
    (dot_symbol, each_append (label_symbols label) (behind_symbols names) (label_each label octets.0) (behind_each names octets.1))

label_written : (label : List ℕ) → printed_label label ≡ flat_map spelled (label_symbols label)
label_written [] = refl
label_written (c ∷ label) = ap (λ l. spelled (printed_symbol c) ++ l) (label_written label)

behind_written : (names : List (List ℕ)) → printed_behind names ≡ flat_map spelled (behind_symbols names)
behind_written [] = refl
behind_written (label ∷ names) =
    ap (λ l. 46 ∷ (l ++ printed_behind names)) (label_written label)
    ∙ ap (λ l. 46 ∷ (flat_map spelled (label_symbols label) ++ l)) (behind_written names)
    ∙ ap (λ l. 46 ∷ l) (sym (flat_map-append spelled (label_symbols label) (behind_symbols names)))

onto_joined : (c : ℕ) (label : List ℕ) (parts : List (List ℕ)) → onto c (joined label parts) ≡ joined (c ∷ label) parts
onto_joined c label [] = refl
onto_joined c label (part ∷ parts) = refl

octet_parts : (c : ℕ) (symbol : Symbol) (label : List ℕ) (symbols : List Symbol) (parts : List (List ℕ)) → StandsFor c symbol
    → parts_of symbols ≡ joined label parts → parts_of (symbol ∷ symbols) ≡ joined (c ∷ label) parts
octet_parts c symbol label symbols parts stands are =
    rw (stands.plain, are) (ap (λ (n : ℕ). onto n (joined label parts)) stands.same ∙ onto_joined c label parts)

-- the octets come before the first part of what follows
label_parts : (label : List ℕ) (more : List Symbol) → AreOctets label → parts_of (label_symbols label ++ more) ≡ joined label (parts_of more)
label_parts [] more octets = sym (joined_none (parts_of more) (some_part more))
label_parts (c ∷ label) more octets =
    octet_parts c (printed_symbol c) label (label_symbols label ++ more) (parts_of more) (printed_stands c octets.0)
    (label_parts label more octets.1)

behind_parts : (names : List (List ℕ)) → AllByRecursion AreOctets names → parts_of (behind_symbols names) ≡ [] ∷ names
behind_parts [] octets = refl
behind_parts (label ∷ names) octets =
    ap (λ l. [] ∷ l) (label_parts label (behind_symbols names) octets.0 ∙ ap (joined label) (behind_parts names octets.1)
    ∙ ap (λ l. l ∷ names) (append-nil label))

-- printed labels are the parts of their text
pub printed_parts : (label : List ℕ) (names : List (List ℕ)) → AllByRecursion AreOctets (label ∷ names)
    → HasParts (printed_relative (label ∷ names)) (label ∷ names)
printed_parts label names octets = record {
  symbols = label_symbols label ++ behind_symbols names;
  each = each_append (label_symbols label) (behind_symbols names) (label_each label octets.0) (behind_each names octets.1);
  written = ap (λ l. l ++ printed_behind names) (label_written label)
      ∙ ap (λ l. flat_map spelled (label_symbols label) ++ l) (behind_written names)
      ∙ sym (flat_map-append spelled (label_symbols label) (behind_symbols names));
  between = label_parts label (behind_symbols names) octets.0 ∙ ap (joined label) (behind_parts names octets.1)
      ∙ ap (λ l. l ∷ names) (append-nil label);
}

rooted_octets : (name : List (List ℕ)) → AllByRecursion AreOctets name → AllByRecursion AreOctets (with_root name)
rooted_octets [] octets = (tt, tt)
rooted_octets (label ∷ name) octets = (octets.0, rooted_octets name octets.1)

pub printed_absolute : (name : List (List ℕ)) → IsName name → AllByRecursion AreOctets name → IsAbsoluteText (printed_name name) name
printed_absolute [] is_name octets = root refl
printed_absolute (label ∷ name) is_name octets =
    let P : List ℕ → Type 0 = λ t. HasParts t (with_root (label ∷ name)) in
    dotted (omega arith)
    (subst P (dotted-relative label name) (printed_parts label (with_root name) (rooted_octets (label ∷ name) octets))) is_name

pub printed_relative_text : (name : List (List ℕ)) → IsName name → AllByRecursion AreOctets name → IsRelativeNameText (printed_relative name) name
printed_relative_text [] is_name octets = empty refl
printed_relative_text (label ∷ name) is_name octets =
    labels (record { parts = printed_parts label name octets; each = is_name.labels }) is_name
