-- A field of a kind that is at a place, and that no other is.
use Rattle.std.proofs.Common.{◌≡◌, ◌+◌, ◌≤◌, ◌<◌, ℕ, w16, w32, List, ◌++◌, length, take, drop, refl, sym, ◌∙◌, ap, subst, arith, length-drop, length-append, length-take}
use Rattle.std.specs.Int.{from_be_bytes}
use Rattle.std.proofs.lemmas.List.{take-append-drop}
use Rattle.std.proofs.lemmas.Nat.{from_be_bytes-to_be_bytes_2, from_be_bytes-to_be_bytes_4}
use Rattle.dns_label.specs.Spelled.{DecodesName}
use Rattle.dns_label.proofs.Spelling.{reads_one}
use Rattle.dns_name.specs.Page.{Parts}
use Rattle.dns_name.specs.Page.Parts.{End, Octets, Named}
use Rattle.dns_name.specs.SpelledParts.{SpellsParts, nothing, octets, named}
use Rattle.dns_name.proofs.Flat.{same_front}
use Rattle.dns_fields.specs.Fields.{Kind, Number8, Number16, Number32, Ipv4, Ipv6, Compressible, Uncompressed, Field, number8, number16, number32, ipv4, ipv6, compressible, uncompressed, kind_of, field_octets, IsField}
use Rattle.dns_fields.specs.Reading.{read_field, ReadsField, IsSoleField, NoField}
use Rattle.dns_fields.proofs.FieldKinds.{of_number8, of_number16, of_number32, of_ipv4, of_ipv6, of_compressible, of_uncompressed}

-- octets at a place
pub record Stands (message : List ℕ) (place : ℕ) (text : List ℕ) (next : ℕ) : Type 0 where
  pub rest : List ℕ
  pub at : drop place message ≡ text ++ rest
  pub ends : next ≡ place + length text

pub opened : {message : List ℕ} {place : ℕ} {text : List ℕ} {next : ℕ} → SpellsParts message place (Octets text End) next → Stands message place text next
opened (octets rest at (nothing fits)) = record { rest = rest; at = at; ends = refl }

pub long_take : (message : List ℕ) (place size : ℕ) (text : List ℕ) → text ≡ take size (drop place message) → place + size ≤ length message
    → length text ≡ size
long_take message place size text is fits =
    ap (length {A = ℕ}) is ∙ length-take size (drop place message) ∙ omega (arith, length-drop place message)

-- the octets from the place on
pub octets_read : (message : List ℕ) (place next size : ℕ) (text : List ℕ) → text ≡ take size (drop place message)
    → place + size ≤ length message → next ≡ place + size → SpellsParts message place (Octets text End) next
octets_read message place next size text is fits ends =
    let long = long_take message place size text is fits in
    subst (λ n. SpellsParts message place (Octets text End) n) (omega (arith, long, ends))
    (octets (drop size (drop place message)) (sym (take-append-drop size (drop place message)) ∙ ap (λ l. l ++ drop size (drop place message)) (sym is))
    (nothing (omega (arith, long))))

-- fields of the kind have that number of octets, and differ in them
pub record IsFixed (its : Kind) (size : ℕ) : Type 0 where
  pub some : 0 < size
  pub read : (field : Field) → kind_of field ≡ its → read_field field End ≡ Octets (field_octets field) End
  pub long : (field : Field) → kind_of field ≡ its → IsField field → length (field_octets field) ≡ size
  pub one : (field other : Field) → kind_of field ≡ its → kind_of other ≡ its → IsField field → IsField other
      → field_octets field ≡ field_octets other → field ≡ other

fixed_stands : {its : Kind} {size : ℕ} {message : List ℕ} {place next : ℕ} {field : Field} → IsFixed its size → kind_of field ≡ its
    → ReadsField message place field next → Stands message place (field_octets field) next
fixed_stands {message = message} {place} {next} {field} fixed is reads =
    opened (subst (λ (p : Parts). SpellsParts message place p next) (fixed.read field is) reads.spelled)

pub fixed_sole : {its : Kind} {size : ℕ} {message : List ℕ} {place next : ℕ} {field : Field} → IsFixed its size → kind_of field ≡ its
    → ReadsField message place field next → IsSoleField message place field next
fixed_sole {its} {size} {message} {place} {next} {field} fixed is reads = record {
  sole = λ other end same others.
      let that = fixed_stands fixed (same ∙ is) others in
      let this = fixed_stands fixed is reads in
      let long = fixed.long field is reads.is_field in
      let long' = fixed.long other (same ∙ is) others.is_field in
      let fronts = same_front (field_octets other) (field_octets field) that.rest this.rest (sym that.at ∙ this.at) (long' ∙ sym long) in
      (fixed.one other field (same ∙ is) is others.is_field reads.is_field fronts.0, omega (arith, that.ends, this.ends, long, long'));
}

pub fixed_none : {its : Kind} {size : ℕ} {message : List ℕ} {place : ℕ} → IsFixed its size → length message < place + size → NoField message place its
fixed_none {size = size} {message} {place} fixed short field next is reads =
    let there = fixed_stands fixed is reads in
    omega (
      arith,
      fixed.some,
      fixed.long field is reads.is_field,
      ap (length {A = ℕ}) there.at,
      length-append (field_octets field) there.rest,
      length-drop place message,
    )

pub number8_fixed : IsFixed Number8 1
number8_fixed = record {
  some = omega arith;
  read = λ f is. of_number8 (λ f. read_field f End ≡ Octets (field_octets f) End) f (λ n. refl) is;
  long = λ f is. of_number8 (λ f. IsField f → length (field_octets f) ≡ 1) f (λ n small. refl) is;
  one = λ f g is is'. of_number8 (λ f. IsField f → IsField g → field_octets f ≡ field_octets g → f ≡ g) f
      (λ n. of_number8 (λ g. IsField (number8 n) → IsField g → field_octets (number8 n) ≡ field_octets g → number8 n ≡ g) g
      (λ m small small' same. ap number8 (let same = same in cc)) is') is;
}

pub number16_fixed : IsFixed Number16 2
number16_fixed = record {
  some = omega arith;
  read = λ f is. of_number16 (λ f. read_field f End ≡ Octets (field_octets f) End) f (λ n. refl) is;
  long = λ f is. of_number16 (λ f. IsField f → length (field_octets f) ≡ 2) f (λ n small. refl) is;
  one = λ f g is is'. of_number16 (λ f. IsField f → IsField g → field_octets f ≡ field_octets g → f ≡ g) f
      (λ n. of_number16 (λ g. IsField (number16 n) → IsField g → field_octets (number16 n) ≡ field_octets g → number16 n ≡ g) g
      (λ m small small' same. ap number16 (sym (from_be_bytes-to_be_bytes_2 n small) ∙ ap (from_be_bytes w16) same ∙ from_be_bytes-to_be_bytes_2 m small')) is') is;
}

pub number32_fixed : IsFixed Number32 4
number32_fixed = record {
  some = omega arith;
  read = λ f is. of_number32 (λ f. read_field f End ≡ Octets (field_octets f) End) f (λ n. refl) is;
  long = λ f is. of_number32 (λ f. IsField f → length (field_octets f) ≡ 4) f (λ n small. refl) is;
  one = λ f g is is'. of_number32 (λ f. IsField f → IsField g → field_octets f ≡ field_octets g → f ≡ g) f
      (λ n. of_number32 (λ g. IsField (number32 n) → IsField g → field_octets (number32 n) ≡ field_octets g → number32 n ≡ g) g
      (λ m small small' same. ap number32 (sym (from_be_bytes-to_be_bytes_4 n small) ∙ ap (from_be_bytes w32) same ∙ from_be_bytes-to_be_bytes_4 m small')) is') is;
}

pub ipv4_fixed : IsFixed Ipv4 4
ipv4_fixed = record {
  some = omega arith;
  read = λ f is. of_ipv4 (λ f. read_field f End ≡ Octets (field_octets f) End) f (λ n. refl) is;
  long = λ f is. of_ipv4 (λ f. IsField f → length (field_octets f) ≡ 4) f (λ n long. long) is;
  one = λ f g is is'. of_ipv4 (λ f. IsField f → IsField g → field_octets f ≡ field_octets g → f ≡ g) f
      (λ n. of_ipv4 (λ g. IsField (ipv4 n) → IsField g → field_octets (ipv4 n) ≡ field_octets g → ipv4 n ≡ g) g
      (λ m long long' same. ap ipv4 same) is') is;
}

pub ipv6_fixed : IsFixed Ipv6 16
ipv6_fixed = record {
  some = omega arith;
  read = λ f is. of_ipv6 (λ f. read_field f End ≡ Octets (field_octets f) End) f (λ n. refl) is;
  long = λ f is. of_ipv6 (λ f. IsField f → length (field_octets f) ≡ 16) f (λ n long. long) is;
  one = λ f g is is'. of_ipv6 (λ f. IsField f → IsField g → field_octets f ≡ field_octets g → f ≡ g) f
      (λ n. of_ipv6 (λ g. IsField (ipv6 n) → IsField g → field_octets (ipv6 n) ≡ field_octets g → ipv6 n ≡ g) g
      (λ m long long' same. ap ipv6 same) is') is;
}

-- names
pub name_opened : {message : List ℕ} {place next : ℕ} {name : List (List ℕ)} → SpellsParts message place (Named name End) next → DecodesName message place name next
name_opened (named behind reads (nothing fits)) = reads

pub name_read : {message : List ℕ} {place next : ℕ} {name : List (List ℕ)} → DecodesName message place name next → next ≤ length message
    → SpellsParts message place (Named name End) next
name_read {next = next} reads fits = named next reads (nothing fits)

pub compressible_sole : {message : List ℕ} {place next : ℕ} {name : List (List ℕ)} → DecodesName message place name next
    → IsSoleField message place (compressible name) next
compressible_sole {message} {place} {next} {name} reads = record {
  sole = λ other end same. of_compressible (λ f. ReadsField message place f end → (f ≡ compressible name) × (end ≡ next)) other
      (λ found there. let one = reads_one (name_opened there.spelled) reads in (ap compressible one.0, one.1)) same;
}

pub uncompressed_sole : {message : List ℕ} {place next : ℕ} {name : List (List ℕ)} → DecodesName message place name next
    → IsSoleField message place (uncompressed name) next
uncompressed_sole {message} {place} {next} {name} reads = record {
  sole = λ other end same. of_uncompressed (λ f. ReadsField message place f end → (f ≡ uncompressed name) × (end ≡ next)) other
      (λ found there. let one = reads_one (name_opened there.spelled) reads in (ap uncompressed one.0, one.1)) same;
}

pub no_compressible : {message : List ℕ} {place : ℕ} → ((name : List (List ℕ)) (next : ℕ) → DecodesName message place name next → ⊥)
    → NoField message place Compressible
no_compressible {message} {place} none field next is =
    of_compressible (λ f. ReadsField message place f next → ⊥) field (λ name there. none name next (name_opened there.spelled)) is

pub no_uncompressed : {message : List ℕ} {place : ℕ} → ((name : List (List ℕ)) (next : ℕ) → DecodesName message place name next → ⊥)
    → NoField message place Uncompressed
no_uncompressed {message} {place} none field next is =
    of_uncompressed (λ f. ReadsField message place f next → ⊥) field (λ name there. none name next (name_opened there.spelled)) is
