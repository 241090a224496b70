-- Records in canonical form and order, and the octets of a list of them (RFC 4034 6).
use Rattle.std.specs.Prelude.{◌≡◌, ℕ, List, flat_map}
use Rattle.std.specs.List.{AllByRecursion, Contains}
use Rattle.std.specs.List.Sorted.{IsStrictlySortedBy}
use Rattle.std.specs.Ordering.{on, then_cmp, nat_cmp}
use Rattle.std.specs.Cmp.Lexicographic.{slice_cmp}
use Rattle.std.specs.declared.cmp.Ordering.{Ordering}
use Rattle.dns_label.specs.Name.{low}
use Rattle.dns_wire.specs.Order.{labels_order}
use Rattle.dns_rdata.specs.Fields.{IsData}
use Rattle.dns_rdata.specs.OctetsForm.{IsCanonicalData}
use Rattle.zone_records.specs.MessageRecord.{IsRecord, record_octets}
use Rattle.zone_records.specs.Record.{Record}

-- a record in canonical form: its owner in lower case, its data in canonical form (RFC 4034 6.2)
pub record IsCanonicalOf (r form : Record) : Type 0 where
  pub owner : form.owner ≡ low r.owner
  pub rtype : form.rtype ≡ r.rtype
  pub class : form.class ≡ r.class
  pub ttl : form.ttl ≡ r.ttl
  pub rdata : IsCanonicalData r.rtype r.rdata form.rdata

-- the order of records in canonical form: by owner, type and data (RFC 4034 6.1, 6.3), then by TTL, and by class
unfoldable pub canonical_cmp : Record → Record → Ordering
canonical_cmp =
    then_cmp (on (λ (r : Record). r.owner) labels_order)
    (then_cmp (on (λ (r : Record). r.rtype) nat_cmp)
    (then_cmp (on (λ (r : Record). r.rdata) (slice_cmp nat_cmp))
    (then_cmp (on (λ (r : Record). r.ttl) nat_cmp) (on (λ (r : Record). r.class) nat_cmp))))

-- a record that has a canonical form
pub record HasCanonicalForm (r : Record) : Type 0 where
  pub lawful : IsRecord r
  pub data_is : IsData r.rtype r.rdata

-- this is the canonical form of one of the records
abbrev pub IsFormOfOne : List Record → Record → Type 0
IsFormOfOne records form = (r : Record) × Contains records r × IsCanonicalOf r form

-- the forms have that of the record
abbrev pub HaveFormOf : List Record → Record → Type 0
HaveFormOf forms r = (form : Record) × Contains forms form × IsCanonicalOf r form

-- The canonical forms of records, each once, in canonical order (RFC 4034 6.2, 6.3).
pub record AreFormsOf (records forms : List Record) : Type 0 where
  pub ascend : IsStrictlySortedBy canonical_cmp forms
  pub only : AllByRecursion (IsFormOfOne records) forms
  pub all : AllByRecursion (HaveFormOf forms) records

-- The canonical octets of records: their canonical forms in canonical order, each written once (RFC 4034 6.3).
pub record IsCanonical (records : List Record) (octets : List ℕ) : Type 0 where
  pub forms : List Record
  pub ascend : IsStrictlySortedBy canonical_cmp forms
  pub only : AllByRecursion (IsFormOfOne records) forms
  pub all : AllByRecursion (HaveFormOf forms) records
  pub written : octets ≡ flat_map record_octets forms

-- two records with the same canonical form: they differ at most in the case of names (RFC 4034 6.2)
abbrev pub AreAlike : Record → Record → Type 0
AreAlike r other = (form : Record) × IsCanonicalOf r form × IsCanonicalOf other form

-- each of the records is like one of the others
abbrev pub AreAmong : List Record → List Record → Type 0
AreAmong records others = AllByRecursion (λ r. (other : Record) × Contains others other × AreAlike r other) records
