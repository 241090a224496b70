-- Records that differ only in case have the same canonical form.
use Rattle.std.proofs.Common.{◌≡◌, ℕ, ◌<◌, ◌^◌, true, List, [], ◌∷◌, ◌++◌, refl, sym, ap, subst}
use Rattle.std.specs.List.{AllByRecursion, AllZip}
use Rattle.dns_label.specs.Name.{low}
use Rattle.dns_name.specs.Spelling.{static_spelling, tree_spelling, hash_spelling}
use Rattle.dns_rdata.specs.Fields.{Field, compressible, uncompressed, number8, number16, number32, ipv4, ipv6, string, strings, tag, rest_text, rest16, rest64, field_octets, octets, lowered, canonical_octets, IsData}
use Rattle.dns_rdata.specs.Fields.IsData.{typed as typed_data, unknown as unknown_data}
use Rattle.dns_rdata.specs.OctetsForm.{IsCanonicalData, typed, unknown}
use Rattle.zone.specs.Canonical.{IsCanonical, HasCanonicalForm, AreAlike}
use Rattle.zone.proofs.Alike.{alike_same}
use Rattle.zone_records.specs.Record.{Record}
use Rattle.zone_records.specs.Records.{AreSendable, IsSendable}
use Rattle.zone_core.specs.Query.{AxfrQuery}
use Rattle.zone_core.specs.Transfer.{IsTransfer}
use Rattle.zone_core.proofs.OneTransfer.{transfer_one}
use Rattle.zone_send.specs.Sent.{IsQueryFor}
use Rattle.zone_send.specs.SentBy.{IsSentBy}
use Rattle.zone_send.specs.SpelledSent.{IsNear, IsNearData, IsNearField, IsTakenAs}
use Rattle.zone_send.specs.SpelledSent.IsNearData.{same as same_data, fields as near_fields}
use Rattle.zone_core.specs.declared.spelling.Spelling.{Spelling}
use Rattle.zone_core.specs.declared.spelling.Spelling.TheVariants.{Plain, Static, Tree, Hash}
use Rattle.zone_send.proofs.SentTransfers.{sendable_is_transfer}
use Rattle.zone_send.proofs.SpelledTransfers.{spelled_exact, spelled_taken}

near_lowered : (field other : Field) → IsNearField field other → lowered field ≡ lowered other
near_lowered (compressible name) (compressible other) near = ap compressible near
near_lowered (compressible name) (uncompressed other) near = ap lowered near
near_lowered (compressible name) (number8 n) near = ap lowered near
near_lowered (compressible name) (number16 n) near = ap lowered near
near_lowered (compressible name) (number32 n) near = ap lowered near
near_lowered (compressible name) (ipv4 text) near = ap lowered near
near_lowered (compressible name) (ipv6 text) near = ap lowered near
near_lowered (compressible name) (string text) near = ap lowered near
near_lowered (compressible name) (strings each) near = ap lowered near
near_lowered (compressible name) (tag text) near = ap lowered near
near_lowered (compressible name) (rest_text text) near = ap lowered near
near_lowered (compressible name) (rest16 text) near = ap lowered near
near_lowered (compressible name) (rest64 text) near = ap lowered near
near_lowered (uncompressed name) other near = ap lowered near
near_lowered (number8 n) other near = ap lowered near
near_lowered (number16 n) other near = ap lowered near
near_lowered (number32 n) other near = ap lowered near
near_lowered (ipv4 text) other near = ap lowered near
near_lowered (ipv6 text) other near = ap lowered near
near_lowered (string text) other near = ap lowered near
near_lowered (strings each) other near = ap lowered near
near_lowered (tag text) other near = ap lowered near
near_lowered (rest_text text) other near = ap lowered near
near_lowered (rest16 text) other near = ap lowered near
near_lowered (rest64 text) other near = ap lowered near

near_rows : (row others : List Field) → AllZip IsNearField row others → canonical_octets row ≡ canonical_octets others
near_rows [] [] near = refl
near_rows [] (other ∷ others) near = absurd near
near_rows (field ∷ row) [] near = absurd near
near_rows (field ∷ row) (other ∷ others) near =
    λ i. field_octets (near_lowered field other near.0 i) ++ near_rows row others near.1 i

-- a canonical form of data, which near data has too
record FormOfBoth (rtype : ℕ) (one other : List ℕ) : Type 0 where
  form : List ℕ
  of_one : IsCanonicalData rtype one form
  of_other : IsCanonicalData rtype other form

form_of_data : (rtype : ℕ) (one : List ℕ) → IsData rtype one → FormOfBoth rtype one one
form_of_data rtype one (typed_data row is are) = record {
  form = canonical_octets row;
  of_one = typed row is are refl;
  of_other = typed row is are refl;
}
form_of_data rtype one (unknown_data none short) = record { form = one; of_one = unknown none refl; of_other = unknown none refl }

form_of_near : (rtype : ℕ) (one other : List ℕ) → IsData rtype one → IsNearData rtype one other → FormOfBoth rtype one other
form_of_near rtype one other is (same_data same) = subst (FormOfBoth rtype one) same (form_of_data rtype one is)
form_of_near rtype one other is (near_fields row others is_row is_other one_is other_is near) = record {
  form = canonical_octets row;
  of_one = typed row is_row one_is refl;
  of_other = typed others is_other other_is (near_rows row others near);
}

near_alike : (r other : Record) → HasCanonicalForm r → IsNear r other → AreAlike r other
near_alike r other has near =
    let both = form_of_near r.rtype r.rdata other.rdata has.data_is near.rdata in
    let form : Record = record { owner = low r.owner; rtype = r.rtype; class = r.class; ttl = r.ttl; rdata = both.form } in (
      form,
      record { owner = refl; rtype = refl; class = refl; ttl = refl; rdata = both.of_one },
      record {
        owner = near.owner;
        rtype = near.rtype;
        class = near.class;
        ttl = near.ttl;
        rdata = subst (λ rtype. IsCanonicalData rtype other.rdata both.form) near.rtype both.of_other;
      },
    )

near_each : (records others : List Record) → AllByRecursion HasCanonicalForm records → AllZip IsNear records others → AllZip AreAlike records others
near_each [] [] has near = tt
near_each [] (other ∷ others) has near = absurd near
near_each (r ∷ records) [] has near = absurd near
near_each (r ∷ records) (other ∷ others) has near = (near_alike r other has.0 near.0, near_each records others has.1 near.1)

pub near_canonical : (records others : List Record) (octets : List ℕ) → AllByRecursion HasCanonicalForm records → AllZip IsNear records others
    → (IsCanonical records octets → IsCanonical others octets) × (IsCanonical others octets → IsCanonical records octets)
near_canonical records others octets has near = alike_same records others octets (near_each records others has near)

same_canonical : (records others : List Record) (octets : List ℕ) → records ≡ others
    → (IsCanonical records octets → IsCanonical others octets) × (IsCanonical others octets → IsCanonical records octets)
same_canonical records others octets same =
    (subst (λ rs. IsCanonical rs octets) same, subst (λ rs. IsCanonical rs octets) (sym same))

all_forms : (class : ℕ) (records : List Record) → AllByRecursion (IsSendable class) records → AllByRecursion HasCanonicalForm records
all_forms class [] each = tt
all_forms class (r ∷ records) each =
    (record { lawful = each.0.lawful; data_is = each.0.data_is }, all_forms class records each.1)

folded_canonical : (records others : List Record) (class : ℕ) (query : AxfrQuery) (stream octets : List ℕ) → AreSendable class records
    → ((near : List Record) × IsTransfer query stream near × AllZip (IsTakenAs true) records near) → IsTransfer query stream others
    → (IsCanonical records octets → IsCanonical others octets) × (IsCanonical others octets → IsCanonical records octets)
folded_canonical records others class query stream octets are taken received =
    let same = transfer_one query stream taken.0 others taken.1 received in
    near_canonical records others octets (all_forms class records are.each) (subst (AllZip IsNear records) same taken.2)

pub kept_canonical : (spelling : Spelling) (records others : List Record) (class : ℕ) (query : AxfrQuery) (max : ℕ) (stream octets : List ℕ)
    → max < 2 ^ 16 → AreSendable class records → IsQueryFor records class query → IsSentBy spelling records query max stream
    → IsTransfer query stream others
    → (IsCanonical records octets → IsCanonical others octets) × (IsCanonical others octets → IsCanonical records octets)
kept_canonical Plain records others class query max stream octets fits are asks sent received =
    same_canonical records others octets
    (transfer_one query stream records others (sendable_is_transfer records class query max stream fits are asks sent).transfer received)
kept_canonical Static records others class query max stream octets fits are asks sent received =
    folded_canonical records others class query stream octets are
    (spelled_taken static_spelling records class query max stream fits are asks sent) received
kept_canonical Tree records others class query max stream octets fits are asks sent received =
    same_canonical records others octets
    (transfer_one query stream records others (spelled_exact tree_spelling records class query max stream refl fits are asks sent).transfer received)
kept_canonical Hash records others class query max stream octets fits are asks sent received =
    folded_canonical records others class query stream octets are
    (spelled_taken hash_spelling records class query max stream fits are asks sent) received
