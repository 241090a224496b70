-- Records in canonical form, sorted by keys. Only contracts inside the crate name them.
use Rattle.std.specs.Prelude.{◌≡◌, ◌≢◌, ◌<◌, ◌≤◌, ℕ, List, length, map, slice_index_or}
use Rattle.std.specs.Cmp.{IsTotalOrder, on_total, nat_cmp_total}
use Rattle.std.specs.Ordering.{on, then_cmp, nat_cmp}
use Rattle.std.specs.declared.cmp.Ordering.{Ordering}
use Rattle.std.proofs.lemmas.Cmp.{then_total}
use Rattle.zone_records.specs.MessageRecord.{record_octets}
use Rattle.zone_records.specs.Record.{Record}
use Rattle.zone_canonical.specs.Canonical.{AreFormsOf, canonical_cmp}
use Rattle.zone_canonical.specs.CanonicalLaws.{canonical_total}
use Rattle.zone_canonical.specs.Form.{form_of}
use Rattle.zone_canonical.specs.OwnerKey.{key_of}

-- a record in canonical form, with a key
pub record Keyed : Type 0 where
  pub key : ℕ
  pub form : Record

abbrev pub with_key : ℕ → Record → Keyed
with_key key form = record { key = key; form = form }

abbrev pub form_in : Keyed → Record
form_in entry = entry.form

-- the octets of the form
abbrev pub form_octets : Keyed → List ℕ
form_octets entry = record_octets entry.form

-- the canonical form of a record with the key of its owner relative to an apex
abbrev pub keyed : List (List ℕ) → Record → Keyed
keyed apex r = with_key (key_of apex r.owner) (form_of r)

-- a form with the key of its owner relative to an apex
abbrev pub tagged : List (List ℕ) → Record → Keyed
tagged apex form = with_key (key_of apex form.owner) form

-- the entries are the canonical forms of the records, each once and in canonical order, with keys relative to an apex
abbrev pub AreEntriesOf : List (List ℕ) → List Record → List Keyed → Type 0
AreEntriesOf apex records entries = (forms : List Record) × (entries ≡ map (tagged apex) forms) × AreFormsOf records forms

-- by key, then by canonical form
unfoldable pub keyed_cmp : Keyed → Keyed → Ordering
keyed_cmp = then_cmp (on (λ (entry : Keyed). entry.key) nat_cmp) (on (λ (entry : Keyed). entry.form) canonical_cmp)

pub keyed_total : IsTotalOrder keyed_cmp
unfolding keyed_cmp
keyed_total = then_total (on_total (λ (entry : Keyed). entry.key) nat_cmp_total) (on_total (λ (entry : Keyed). entry.form) canonical_total)

-- the entries from `start` to `end` have one key, and the one after them has another
pub record EndsTie (entries : List Keyed) (start end : ℕ) : Type 0 where
  pub after : start < end
  pub within : end ≤ length entries
  pub alike : (k : ℕ) (d : Keyed) → start ≤ k → k < end → (slice_index_or entries k d).key ≡ (slice_index_or entries start d).key
  pub apart : (d : Keyed) → end < length entries → (slice_index_or entries end d).key ≢ (slice_index_or entries start d).key
