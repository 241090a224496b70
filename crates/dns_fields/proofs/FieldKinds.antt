-- A field is known by its kind and its value, so that what holds of each value of a kind holds of each field of it.
use Rattle.std.proofs.Common.{◌≡◌, ℕ, List, [], refl, sym, ◌∙◌, ap, subst}
use Rattle.dns_fields.specs.Fields.{Kind, Number8, Number16, Number32, Ipv4, Ipv6, Compressible, Uncompressed, String, Strings, Tag, RestText, Rest16, Rest64}
use Rattle.dns_fields.specs.Fields.{Field, number8, number16, number32, ipv4, ipv6, compressible, uncompressed, string, strings, tag, rest_text, rest16, rest64, kind_of}

abbrev number_in : Field → ℕ
number_in (number8 n) = n
number_in (number16 n) = n
number_in (number32 n) = n
number_in field = 0

abbrev octets_in : Field → List ℕ
octets_in (ipv4 octets) = octets
octets_in (ipv6 octets) = octets
octets_in (string octets) = octets
octets_in (tag octets) = octets
octets_in (rest_text octets) = octets
octets_in (rest16 octets) = octets
octets_in (rest64 octets) = octets
octets_in field = []

abbrev lists_in : Field → List (List ℕ)
lists_in (compressible name) = name
lists_in (uncompressed name) = name
lists_in (strings each) = each
lists_in field = []

abbrev field_of : ℕ → List ℕ → List (List ℕ) → Kind → Field
field_of n octets lists Number8 = number8 n
field_of n octets lists Number16 = number16 n
field_of n octets lists Number32 = number32 n
field_of n octets lists Ipv4 = ipv4 octets
field_of n octets lists Ipv6 = ipv6 octets
field_of n octets lists Compressible = compressible lists
field_of n octets lists Uncompressed = uncompressed lists
field_of n octets lists String = string octets
field_of n octets lists Strings = strings lists
field_of n octets lists Tag = tag octets
field_of n octets lists RestText = rest_text octets
field_of n octets lists Rest16 = rest16 octets
field_of n octets lists Rest64 = rest64 octets

rebuilt : (field : Field) → field ≡ field_of (number_in field) (octets_in field) (lists_in field) (kind_of field)
rebuilt (number8 n) = refl
rebuilt (number16 n) = refl
rebuilt (number32 n) = refl
rebuilt (ipv4 octets) = refl
rebuilt (ipv6 octets) = refl
rebuilt (compressible name) = refl
rebuilt (uncompressed name) = refl
rebuilt (string octets) = refl
rebuilt (strings each) = refl
rebuilt (tag octets) = refl
rebuilt (rest_text octets) = refl
rebuilt (rest16 octets) = refl
rebuilt (rest64 octets) = refl

module _ (P : Field → Type 0) (field : Field) where
  of_kind : (its : Kind) → kind_of field ≡ its → P (field_of (number_in field) (octets_in field) (lists_in field) its) → P field
  of_kind its is there = subst P (sym (rebuilt field ∙ ap (field_of (number_in field) (octets_in field) (lists_in field)) is)) there

  pub of_number8 : ((n : ℕ) → P (number8 n)) → kind_of field ≡ Number8 → P field
  of_number8 each is = of_kind Number8 is (each (number_in field))

  pub of_number16 : ((n : ℕ) → P (number16 n)) → kind_of field ≡ Number16 → P field
  of_number16 each is = of_kind Number16 is (each (number_in field))

  pub of_number32 : ((n : ℕ) → P (number32 n)) → kind_of field ≡ Number32 → P field
  of_number32 each is = of_kind Number32 is (each (number_in field))

  pub of_ipv4 : ((octets : List ℕ) → P (ipv4 octets)) → kind_of field ≡ Ipv4 → P field
  of_ipv4 each is = of_kind Ipv4 is (each (octets_in field))

  pub of_ipv6 : ((octets : List ℕ) → P (ipv6 octets)) → kind_of field ≡ Ipv6 → P field
  of_ipv6 each is = of_kind Ipv6 is (each (octets_in field))

  pub of_compressible : ((name : List (List ℕ)) → P (compressible name)) → kind_of field ≡ Compressible → P field
  of_compressible each is = of_kind Compressible is (each (lists_in field))

  pub of_uncompressed : ((name : List (List ℕ)) → P (uncompressed name)) → kind_of field ≡ Uncompressed → P field
  of_uncompressed each is = of_kind Uncompressed is (each (lists_in field))

  pub of_string : ((octets : List ℕ) → P (string octets)) → kind_of field ≡ String → P field
  of_string each is = of_kind String is (each (octets_in field))

  pub of_strings : ((each : List (List ℕ)) → P (strings each)) → kind_of field ≡ Strings → P field
  of_strings each is = of_kind Strings is (each (lists_in field))

  pub of_tag : ((octets : List ℕ) → P (tag octets)) → kind_of field ≡ Tag → P field
  of_tag each is = of_kind Tag is (each (octets_in field))

  pub of_rest_text : ((octets : List ℕ) → P (rest_text octets)) → kind_of field ≡ RestText → P field
  of_rest_text each is = of_kind RestText is (each (octets_in field))

  pub of_rest16 : ((octets : List ℕ) → P (rest16 octets)) → kind_of field ≡ Rest16 → P field
  of_rest16 each is = of_kind Rest16 is (each (octets_in field))

  pub of_rest64 : ((octets : List ℕ) → P (rest64 octets)) → kind_of field ≡ Rest64 → P field
  of_rest64 each is = of_kind Rest64 is (each (octets_in field))
