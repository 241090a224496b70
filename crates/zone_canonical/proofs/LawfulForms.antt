-- The canonical form of a record is a record too, with data of its type: it has the same length.
use Rattle.std.proofs.Common.{◌≡◌, ◌+◌, ◌<◌, ◌^◌, ℕ, Some, List, [], ◌∷◌, length, map, refl, sym, ap, ◌∙◌, subst, length-append}
use Rattle.std.specs.List.{AllByRecursion}
use Rattle.dns_label.specs.Name.{IsName}
use Rattle.dns_wire.proofs.LowNames.{length-wire-low, low_name}
use Rattle.dns_rdata.specs.Fields as fields
use Rattle.dns_rdata.specs.Fields.{Field, number8, number16, number32, ipv4, ipv6, compressible, uncompressed, string, strings, tag, rest_text, rest16, rest64, IsData, IsField, IsRow, field_octets, kind_of, octets, lowered, canonical_octets}
use Rattle.dns_rdata.specs.OctetsForm.{IsCanonicalData, typed, unknown}
use Rattle.zone_records.specs.MessageRecord.{IsRecord}
use Rattle.zone_records.specs.Record.{Record}
use Rattle.zone_canonical.specs.Canonical.{HasCanonicalForm, IsCanonicalOf}

length-lowered : (field : Field) → IsField field → length (field_octets (lowered field)) ≡ length (field_octets field)
length-lowered (compressible name) is = length-wire-low name is
length-lowered (uncompressed name) is = length-wire-low name is
length-lowered (number8 n) is = refl
length-lowered (number16 n) is = refl
length-lowered (number32 n) is = refl
length-lowered (ipv4 text) is = refl
length-lowered (ipv6 text) is = refl
length-lowered (string text) is = refl
length-lowered (strings each) is = refl
length-lowered (tag text) is = refl
length-lowered (rest_text text) is = refl
length-lowered (rest16 text) is = refl
length-lowered (rest64 text) is = refl

length-canonical : (row : List Field) → AllByRecursion IsField row → length (canonical_octets row) ≡ length (octets row)
length-canonical [] each = refl
length-canonical (field ∷ row) each =
    length-append (field_octets (lowered field)) (canonical_octets row)
    ∙ (λ i. length-lowered field each.0 i + length-canonical row each.1 i)
    ∙ sym (length-append (field_octets field) (octets row))

pub length-form : (rtype : ℕ) (data' form : List ℕ) → IsCanonicalData rtype data' form → length form ≡ length data'
length-form rtype data' form (typed row is are form_is) =
    ap length form_is ∙ length-canonical row is.each ∙ sym (ap length are)
length-form rtype data' form (unknown none form_is) = ap length form_is

pub form_lawful : (r form : Record) → IsRecord r → IsCanonicalOf r form → IsRecord form
form_lawful r form is of = record {
  owner = subst IsName (sym of.owner) (low_name r.owner is.owner);
  rtype = subst (λ n. n < 2 ^ 16) (sym of.rtype) is.rtype;
  class = subst (λ n. n < 2 ^ 16) (sym of.class) is.class;
  ttl = subst (λ n. n < 2 ^ 32) (sym of.ttl) is.ttl;
  rdata = subst (λ n. n < 2 ^ 16) (sym (length-form r.rtype r.rdata form.rdata of.rdata)) is.rdata;
}

lowered_field : (field : Field) → IsField field → IsField (lowered field) × (kind_of field ≡ kind_of (lowered field))
lowered_field (compressible name) is = (low_name name is, refl)
lowered_field (uncompressed name) is = (low_name name is, refl)
lowered_field (number8 n) is = (is, refl)
lowered_field (number16 n) is = (is, refl)
lowered_field (number32 n) is = (is, refl)
lowered_field (ipv4 text) is = (is, refl)
lowered_field (ipv6 text) is = (is, refl)
lowered_field (string text) is = (is, refl)
lowered_field (strings each) is = (is, refl)
lowered_field (tag text) is = (is, refl)
lowered_field (rest_text text) is = (is, refl)
lowered_field (rest16 text) is = (is, refl)
lowered_field (rest64 text) is = (is, refl)

lowered_each : (row : List Field) → AllByRecursion IsField row → AllByRecursion IsField (map lowered row) × (map kind_of row ≡ map kind_of (map lowered row))
lowered_each [] each = (tt, refl)
lowered_each (field ∷ row) each =
    let first = lowered_field field each.0 in
    let rest = lowered_each row each.1 in
    ((first.0, rest.0), λ i. first.1 i ∷ rest.1 i)

lowered_row : (rtype : ℕ) (row : List Field) → IsRow rtype row → IsRow rtype (map lowered row)
lowered_row rtype row is =
    let both = lowered_each row is.each in
    record {
      kinds = is.kinds ∙ ap Some both.1;
      each = both.0;
      short = subst (λ n. n < 2 ^ 16) (sym (length-canonical row is.each)) is.short;
    }

form_data : (rtype : ℕ) (data' form : List ℕ) → IsCanonicalData rtype data' form → length data' < 2 ^ 16 → IsData rtype form
form_data rtype data' form (typed row is are form_is) short = fields.typed (map lowered row) (lowered_row rtype row is) form_is
form_data rtype data' form (unknown none form_is) short = fields.unknown none (subst (λ (l : List ℕ). length l < 2 ^ 16) (sym form_is) short)

-- so the form of a form is there too
pub form_has : (r form : Record) → HasCanonicalForm r → IsCanonicalOf r form → HasCanonicalForm form
form_has r form has of = record {
  lawful = form_lawful r form has.lawful of;
  data_is = subst (λ n. IsData n form.rdata) (sym of.rtype) (form_data r.rtype r.rdata form.rdata of.rdata has.lawful.rdata);
}
