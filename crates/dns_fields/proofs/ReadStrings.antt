-- Strings and rests that are at a place, and that no others are.
use Rattle.std.proofs.Common.{◌≡◌, ◌+◌, ◌≤◌, ℕ, List, [], ◌∷◌, ◌++◌, length, drop, map, refl, sym, ◌∙◌, ap, subst, arith, length-drop, length-append}
use Rattle.std.proofs.lemmas.List.{append-nil}
use Rattle.dns_name.specs.Page.{Parts}
use Rattle.dns_name.specs.Page.Parts.{End, Octets}
use Rattle.dns_name.specs.SpelledParts.{SpellsParts, nothing, octets}
use Rattle.dns_name.proofs.Flat.{same_front}
use Rattle.dns_scan.specs.CharStr.{StartsWithString, string_wire}
use Rattle.dns_fields.specs.Fields.{Kind, String, Tag, RestText, Rest16, Rest64, Field, string, tag, rest_text, rest16, rest64, kind_of}
use Rattle.dns_fields.specs.Reading.{read_field, ReadsField, ReadsFields, IsSoleField, AreSoleFields, NoField}
use Rattle.dns_fields.proofs.FieldKinds.{of_string, of_tag, of_rest_text, of_rest16, of_rest64}
use Rattle.dns_fields.proofs.ReadFields.{opened}

pub string_read : {message text rest : List ℕ} {place next : ℕ} → StartsWithString (drop place message) text rest
    → next ≡ place + length (string_wire text) → next ≤ length message → SpellsParts message place (Octets (string_wire text) End) next
string_read {message} {text} {rest} {place} {next} starts ends fits =
    subst (λ n. SpellsParts message place (Octets (string_wire text) End) n) (sym ends)
    (octets rest starts.spelled (nothing (omega (arith, ends, fits))))

-- a string ends at one place
string_one : (message text other : List ℕ) (place next end : ℕ) → SpellsParts message place (Octets (string_wire text) End) next
    → SpellsParts message place (Octets (string_wire other) End) end → (other ≡ text) × (end ≡ next)
string_one message text other place next end this that =
    let here = opened this in
    let there = opened that in
    let same : string_wire other ++ there.rest ≡ string_wire text ++ here.rest = sym there.at ∙ here.at in
    let long : length other ≡ length text = cc in
    let tails : other ++ there.rest ≡ text ++ here.rest = cc in
    let fronts = same_front other text there.rest here.rest tails long in
    (fronts.0, omega (arith, here.ends, there.ends, long))

pub string_sole : {message text : List ℕ} {place next : ℕ} → SpellsParts message place (Octets (string_wire text) End) next
    → IsSoleField message place (string text) next
string_sole {message} {text} {place} {next} this = record {
  sole = λ other end same. of_string (λ f. ReadsField message place f end → (f ≡ string text) × (end ≡ next)) other
      (λ found there. let one = string_one message text found place next end this there.spelled in (ap string one.0, one.1)) same;
}

pub tag_sole : {message text : List ℕ} {place next : ℕ} → SpellsParts message place (Octets (string_wire text) End) next
    → IsSoleField message place (tag text) next
tag_sole {message} {text} {place} {next} this = record {
  sole = λ other end same. of_tag (λ f. ReadsField message place f end → (f ≡ tag text) × (end ≡ next)) other
      (λ found there. let one = string_one message text found place next end this there.spelled in (ap tag one.0, one.1)) same;
}

pub no_string : {message : List ℕ} {place : ℕ} → ((text rest : List ℕ) → StartsWithString (drop place message) text rest → ⊥)
    → NoField message place String
no_string {message} {place} none field next is =
    of_string (λ f. ReadsField message place f next → ⊥) field
    (λ text there. let open' = opened there.spelled in none text open'.rest (record { spelled = open'.at; short = there.is_field })) is

pub no_tag : {message : List ℕ} {place : ℕ} → ((text rest : List ℕ) → StartsWithString (drop place message) text rest → ⊥)
    → NoField message place Tag
no_tag {message} {place} none field next is =
    of_tag (λ f. ReadsField message place f next → ⊥) field
    (λ text there. let open' = opened there.spelled in none text open'.rest (record { spelled = open'.at; short = there.is_field })) is

-- all that is left
pub all_read : {message text : List ℕ} {place : ℕ} → text ≡ drop place message → place ≤ length message
    → SpellsParts message place (Octets text End) (length message)
all_read {message} {text} {place} is fits =
    let long : place + length text ≡ length message = omega (arith, ap (length {A = ℕ}) is, length-drop place message) in
    subst (λ n. SpellsParts message place (Octets text End) n) long
    (octets [] (sym is ∙ sym (append-nil text)) (nothing (omega (arith, long))))

-- is one
pub all_one : (message text other : List ℕ) (place : ℕ) → text ≡ drop place message → SpellsParts message place (Octets other End) (length message)
    → other ≡ text
all_one message text other place is that =
    let there = opened that in
    let long : length other ≡ length text =
    omega (arith, ap (length {A = ℕ}) is, ap (length {A = ℕ}) there.at, length-append other there.rest, length-drop place message, there.ends) in
    (same_front other text there.rest [] (sym there.at ∙ sym is ∙ sym (append-nil text)) long).0

-- a row of a rest alone, where fields of its kind are their octets
rest_sole : (its : Kind) (rest : List ℕ → Field)
    → ((P : Field → Type 0) (f : Field) → ((text : List ℕ) → P (rest text)) → kind_of f ≡ its → P f)
    → ((text : List ℕ) → read_field (rest text) End ≡ Octets text End)
    → (message text : List ℕ) (place : ℕ) → kind_of (rest text) ≡ its → text ≡ drop place message
    → AreSoleFields message place (rest text ∷ [])
rest_sole its rest known reads message text place kind is = record { sole = by }
  where
    one : (f : Field) → kind_of f ≡ its → SpellsParts message place (read_field f End) (length message) → f ≡ rest text
    one f same = known (λ f. SpellsParts message place (read_field f End) (length message) → f ≡ rest text) f
        (λ found that. ap rest (all_one message text found place is (subst (λ (p : Parts). SpellsParts message place p (length message)) (reads found) that))) same

    by : (others : List Field) → map kind_of others ≡ map kind_of (rest text ∷ []) → ReadsFields message place others → others ≡ rest text ∷ []
    by [] are that = absurd (cc)
    by (f ∷ []) are that = let same : kind_of f ≡ kind_of (rest text) = cc in ap (λ f. f ∷ []) (one f (same ∙ kind) that.spelled)
    by (f ∷ (g ∷ others)) are that = absurd (cc)

pub rest_text_sole : (message text : List ℕ) (place : ℕ) → text ≡ drop place message → AreSoleFields message place (rest_text text ∷ [])
rest_text_sole message text place is = rest_sole RestText rest_text of_rest_text (λ text. refl) message text place refl is

pub rest16_sole : (message text : List ℕ) (place : ℕ) → text ≡ drop place message → AreSoleFields message place (rest16 text ∷ [])
rest16_sole message text place is = rest_sole Rest16 rest16 of_rest16 (λ text. refl) message text place refl is

pub rest64_sole : (message text : List ℕ) (place : ℕ) → text ≡ drop place message → AreSoleFields message place (rest64 text ∷ [])
rest64_sole message text place is = rest_sole Rest64 rest64 of_rest64 (λ text. refl) message text place refl is
