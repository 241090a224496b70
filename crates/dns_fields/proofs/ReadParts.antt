-- What a message spells, taken apart and put together field by field.
use Rattle.std.proofs.Common.{◌≡◌, ◌+◌, ◌≤◌, ◌<◌, ℕ, List, [], ◌∷◌, length, drop, map, refl, sym, ap, subst, arith, length-drop}
use Rattle.std.specs.Prelude.{Result, Ok, Err, OnErr}
use Rattle.dns_label.specs.Spelled as names
use Rattle.dns_name.specs.Page.{Parts}
use Rattle.dns_name.specs.Page.Parts.{End, Octets, Named}
use Rattle.dns_name.specs.SpelledParts.{SpellsParts, nothing, octets, named, counted}
use Rattle.dns_fields.specs.Fields.{Kind, Field, number8, number16, number32, ipv4, ipv6, compressible, uncompressed, string, strings, tag, rest_text, rest16, rest64, kind_of, field_octets}
use Rattle.dns_fields.specs.Reading.{read_field, ReadsField, ReadsFields, IsSoleField, AreSoleFields, NoField, NoFields}

-- octets before a list are a place before its end
pub some_left : (message : List ℕ) (place : ℕ) {first : ℕ} {rest : List ℕ} → drop place message ≡ first ∷ rest → place < length message
some_left message place at = omega (arith, ap (length {A = ℕ}) at, length-drop place message)

name_within : {message : List ℕ} {pointers place next : ℕ} {name : List (List ℕ)} → names.EncodesName message pointers place name next → place ≤ length message
name_within {message} {place = place} (names.root rest at) = let some = some_left message place at in omega arith
name_within {message} {place = place} (names.label rest at is_label parent) = let some = some_left message place at in omega arith
name_within {message} {place = place} (names.pointer first second after rest at both back name) = let some = some_left message place at in omega arith

pub within : {message : List ℕ} {place next : ℕ} {parts : Parts} → SpellsParts message place parts next → place ≤ length message
within (nothing fits) = fits
within (octets rest at on) = let front = within on in omega arith
within (named behind reads on) = name_within reads.spelled
within (counted count rest at few fits inner on) = omega arith

-- a field is read as octets or as a name
data ReadsAs (field : Field) : Type 0 where
  as_octets : (text : List ℕ) → ((behind : Parts) → read_field field behind ≡ Octets text behind) → ReadsAs field
  as_name : (name : List (List ℕ)) → ((behind : Parts) → read_field field behind ≡ Named name behind) → ReadsAs field

reads_as : (field : Field) → ReadsAs field
reads_as (compressible name) = as_name name (λ _. refl)
reads_as (uncompressed name) = as_name name (λ _. refl)
reads_as (number8 n) = as_octets (field_octets (number8 n)) (λ _. refl)
reads_as (number16 n) = as_octets (field_octets (number16 n)) (λ _. refl)
reads_as (number32 n) = as_octets (field_octets (number32 n)) (λ _. refl)
reads_as (ipv4 text) = as_octets text (λ _. refl)
reads_as (ipv6 text) = as_octets text (λ _. refl)
reads_as (string text) = as_octets (field_octets (string text)) (λ _. refl)
reads_as (strings each) = as_octets (field_octets (strings each)) (λ _. refl)
reads_as (tag text) = as_octets (field_octets (tag text)) (λ _. refl)
reads_as (rest_text text) = as_octets text (λ _. refl)
reads_as (rest16 text) = as_octets text (λ _. refl)
reads_as (rest64 text) = as_octets text (λ _. refl)

join_octets : {message : List ℕ} {place : ℕ} {text : List ℕ} {middle next : ℕ} {parts : Parts} → SpellsParts message place (Octets text End) middle
    → SpellsParts message middle parts next → SpellsParts message place (Octets text parts) next
join_octets (octets rest at (nothing fits)) on = octets rest at on

join_name : {message : List ℕ} {place middle next : ℕ} {name : List (List ℕ)} {parts : Parts} → SpellsParts message place (Named name End) middle
    → SpellsParts message middle parts next → SpellsParts message place (Named name parts) next
join_name (named behind reads (nothing fits)) on = named behind reads on

-- a field, and parts after it
join : {message : List ℕ} {place middle next : ℕ} {parts : Parts} (field : Field) → SpellsParts message place (read_field field End) middle
    → SpellsParts message middle parts next → SpellsParts message place (read_field field parts) next
join {message} {place} {middle} {next} {parts} field first on = by (reads_as field)
  where
    by : ReadsAs field → SpellsParts message place (read_field field parts) next
    by (as_octets text is) =
        subst (λ (p : Parts). SpellsParts message place p next) (sym (is parts))
        (join_octets (subst (λ (p : Parts). SpellsParts message place p middle) (is End) first) on)
    by (as_name name is) =
        subst (λ (p : Parts). SpellsParts message place p next) (sym (is parts))
        (join_name (subst (λ (p : Parts). SpellsParts message place p middle) (is End) first) on)

record Split (message : List ℕ) (place : ℕ) (first behind : Parts) (next : ℕ) : Type 0 where
  middle : ℕ
  front : SpellsParts message place first middle
  on : SpellsParts message middle behind next

split_octets : {message : List ℕ} {place next : ℕ} {text : List ℕ} {parts : Parts} → SpellsParts message place (Octets text parts) next
    → Split message place (Octets text End) parts next
split_octets (octets {place = place} {text = text} rest at on) =
    record { middle = place + length text; front = octets rest at (nothing (within on)); on = on }

split_name : {message : List ℕ} {place next : ℕ} {name : List (List ℕ)} {parts : Parts} → SpellsParts message place (Named name parts) next
    → Split message place (Named name End) parts next
split_name (named behind reads on) = record { middle = behind; front = named behind reads (nothing (within on)); on = on }

split : {message : List ℕ} {place next : ℕ} {parts : Parts} (field : Field) → SpellsParts message place (read_field field parts) next
    → Split message place (read_field field End) parts next
split {message} {place} {next} {parts} field whole = by (reads_as field)
  where
    by : ReadsAs field → Split message place (read_field field End) parts next
    by (as_octets text is) =
        subst (λ (p : Parts). Split message place p parts next) (sym (is End))
        (split_octets (subst (λ (p : Parts). SpellsParts message place p next) (is parts) whole))
    by (as_name name is) =
        subst (λ (p : Parts). Split message place p parts next) (sym (is End))
        (split_name (subst (λ (p : Parts). SpellsParts message place p next) (is parts) whole))

-- a row is read field by field
pub row_read : {message : List ℕ} {place middle : ℕ} {field : Field} {row : List Field} → ReadsField message place field middle
    → ReadsFields message middle row → ReadsFields message place (field ∷ row)
row_read {field = field} first others = record {
  each = (first.is_field, others.each);
  spelled = join field first.spelled others.spelled;
}

-- and taken apart so
pub record SplitRow (message : List ℕ) (place : ℕ) (field : Field) (row : List Field) : Type 0 where
  pub middle : ℕ
  pub first : ReadsField message place field middle
  pub others : ReadsFields message middle row

pub split_row : {message : List ℕ} {place : ℕ} {field : Field} {row : List Field} → ReadsFields message place (field ∷ row)
    → SplitRow message place field row
split_row {field = field} reads =
    let both = split field reads.spelled in
    record {
      middle = both.middle;
      first = record { is_field = reads.each.0; spelled = both.front };
      others = record { each = reads.each.1; spelled = both.on };
    }

pub no_first : {message : List ℕ} {place : ℕ} {its : Kind} (kinds : List Kind) → NoField message place its → NoFields message place (its ∷ kinds)
no_first kinds none [] are reads = absurd (cc)
no_first kinds none (field ∷ row) are reads = let both = split_row reads in none field both.middle (cc) both.first

pub no_others : {message : List ℕ} {place next : ℕ} {field : Field} (kinds : List Kind) → IsSoleField message place field next
    → NoFields message next kinds → NoFields message place (kind_of field ∷ kinds)
no_others kinds alone none [] are reads = absurd (cc)
no_others {message} kinds alone none (other ∷ row) are reads =
    let both = split_row reads in
    let one = alone.sole other both.middle (cc) both.first in
    none row (cc) (subst (λ n. ReadsFields message n row) one.1 both.others)

pub sole_row : {message : List ℕ} {place next : ℕ} {field : Field} {row : List Field} → IsSoleField message place field next
    → AreSoleFields message next row → AreSoleFields message place (field ∷ row)
sole_row {message} {place} {next} {field} {row} first behind = record { sole = by }
  where
    by : (others : List Field) → map kind_of others ≡ map kind_of (field ∷ row) → ReadsFields message place others → others ≡ field ∷ row
    by [] are reads = absurd (cc)
    by (other ∷ others) are reads =
        let both = split_row reads in
        let one = first.sole other both.middle (cc) both.first in
        let more = behind.sole others (cc) (subst (λ n. ReadsFields message n others) one.1 both.others) in
        λ i. one.0 i ∷ more i

-- nothing is left, and only then
pub nothing_read : {message : List ℕ} {place : ℕ} → place ≡ length message → ReadsFields message place []
nothing_read {message} {place} ends =
    record { each = tt; spelled = subst (λ n. SpellsParts message place End n) ends (nothing (omega arith)) }

end_read : {message : List ℕ} {place next : ℕ} → SpellsParts message place End next → place ≡ next
end_read (nothing fits) = refl

pub none_left : {message : List ℕ} {place : ℕ} → place < length message → NoFields message place []
none_left left [] are reads = let ends = end_read reads.spelled in omega arith
none_left left (field ∷ row) are reads = absurd (cc)

pub sole_nothing : {message : List ℕ} {place : ℕ} → AreSoleFields message place []
sole_nothing {message} {place} = record { sole = by }
  where
    by : (others : List Field) → map kind_of others ≡ [] → ReadsFields message place others → others ≡ []
    by [] are reads = refl
    by (other ∷ others) are reads = absurd (cc)

pub on_err : {T E P : Type 0} (result : Result T E) → P → OnErr result P
on_err (Ok value) fact = tt
on_err (Err error) fact = fact
