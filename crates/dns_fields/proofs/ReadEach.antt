-- Strings that are all that is left, and that they alone are.
use Rattle.std.proofs.Common.{◌≡◌, ◌∷◌, [], ℕ, List, length, drop, map, refl, sym, ap}
use Rattle.std.specs.List.{flat_map}
use Rattle.dns_name.specs.Page.Parts.{End}
use Rattle.dns_name.specs.SpelledParts.{SpellsParts}
use Rattle.dns_scan.specs.CharStr.{string_wire}
use Rattle.dns_fields.specs.Fields.{Strings, Field, strings, kind_of}
use Rattle.dns_fields.specs.Reading.{read_field, ReadsFields, AreSoleFields, NoFields}
use Rattle.dns_fields.specs.Strings.{AreStringOctets}
use Rattle.dns_fields.proofs.FieldKinds.{of_strings}
use Rattle.dns_fields.proofs.ReadStrings.{all_one}
use Rattle.dns_fields.proofs.StringsOf.{strings_one}

pub strings_sole : (message : List ℕ) (each : List (List ℕ)) (place : ℕ) → flat_map string_wire each ≡ drop place message
    → AreSoleFields message place (strings each ∷ [])
strings_sole message each place is = record { sole = by }
  where
    one : (f : Field) → kind_of f ≡ Strings → SpellsParts message place (read_field f End) (length message) → f ≡ strings each
    one f same = of_strings (λ f. SpellsParts message place (read_field f End) (length message) → f ≡ strings each) f
        (λ found that. ap strings (strings_one found each (all_one message (flat_map string_wire each) (flat_map string_wire found) place is that))) same

    by : (others : List Field) → map kind_of others ≡ map kind_of (strings each ∷ []) → ReadsFields message place others → others ≡ strings each ∷ []
    by [] are that = absurd (cc)
    by (f ∷ []) are that = ap (λ f. f ∷ []) (one f (cc) that.spelled)
    by (f ∷ (g ∷ others)) are that = absurd (cc)

pub none_read : (message : List ℕ) (place : ℕ) → (AreStringOctets (drop place message) → ⊥) → NoFields message place (Strings ∷ [])
none_read message place none [] are reads = absurd (cc)
none_read message place none (f ∷ []) are reads =
    of_strings (λ f. ReadsFields message place (f ∷ []) → ⊥) f
    (λ each those. none (record {
      each = each;
      is_field = those.each.0;
      written = sym (all_one message (drop place message) (flat_map string_wire each) place refl those.spelled);
    })) (cc) reads
none_read message place none (f ∷ (g ∷ others)) are reads = absurd (cc)
