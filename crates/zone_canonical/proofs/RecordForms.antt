-- The canonical form of a record, as a function and as octets.
use Rattle.std.proofs.Common.{◌≡◌, ◌≤◌, ℕ, ◌+◌, ◌-◌, List, [], ◌∷◌, ◌++◌, length, take, drop, map, true, refl, sym, ap, ◌∙◌, subst, arith, append_assoc, length-append}
use Rattle.std.specs.Prelude.{nat_eq}
use Rattle.std.specs.Char.{to_ascii_lowercase}
use Rattle.std.specs.Cmp.Lexicographic.{pointwise}
use Rattle.std.specs.Int.{to_be_bytes, w16}
use Rattle.std.specs.List.{AllByRecursion, AllZip}
use Rattle.std.specs.declared.cmp.Ordering.TheVariants.{Equal}
use Rattle.std.proofs.Math.Seq.{take-append_seam, drop-append_seam}
use Rattle.std.proofs.lemmas.Cmp.{tied_itself}
use Rattle.std.proofs.lemmas.List.{length-drop, take-append-drop}
use lib.Pointwise.{bytes_decides}
use Rattle.dns_label.specs.Name.{low, wire}
use Rattle.dns_wire.proofs.Case.{low_wire, wire_one}
use Rattle.dns_wire.specs.Order.{labels_order}
use Rattle.dns_flat.specs.OrderLaws.{labels_total}
use Rattle.zone_records.specs.Head.{fixed_octets}
use Rattle.zone_records.specs.MessageRecord.{IsRecord, record_octets}
use Rattle.dns_rdata.specs.Fields.{IsData}
use Rattle.dns_rdata.specs.OctetsForm.{IsCanonicalData}
use Rattle.zone_records.specs.Record.{Record}
use Rattle.zone_canonical.specs.Canonical.{IsCanonicalOf, HasCanonicalForm}
use Rattle.zone_canonical.specs.DataForm.{EndsInNames, data_form}
use Rattle.zone_canonical.specs.Form.{form_of}
use Rattle.zone_canonical.proofs.DataForms.{data_formed}
use Rattle.zone_canonical.proofs.LawfulForms.{form_lawful, length-form}

-- a record's form is its canonical one
is_formed : (r : Record) → HasCanonicalForm r → IsCanonicalOf r (form_of r)
is_formed r has = record { owner = refl; rtype = refl; class = refl; ttl = refl; rdata = data_formed r.rtype r.rdata has.data_is }

-- so it is a record
pub formed_lawful : (r : Record) → HasCanonicalForm r → IsRecord (form_of r)
formed_lawful r has = form_lawful r (form_of r) has.lawful (is_formed r has)

-- data that is read from a record has the form of the record's
pub read_formed : (r : Record) (rtype : ℕ) (data' : List ℕ) → rtype ≡ r.rtype → data' ≡ r.rdata → HasCanonicalForm r
    → IsCanonicalData rtype data' (data_form r.rtype r.rdata)
read_formed r rtype data' rtype_is data_is has =
    subst (λ n. IsCanonicalData n data' (data_form r.rtype r.rdata)) (sym rtype_is)
    (subst (λ l. IsCanonicalData r.rtype l (data_form r.rtype r.rdata)) (sym data_is) (data_formed r.rtype r.rdata has.data_is))

pub are_formed : (records : List Record) → AllByRecursion HasCanonicalForm records → AllZip IsCanonicalOf records (map form_of records)
are_formed [] each = tt
are_formed (r ∷ records) each = (is_formed r each.0, are_formed records each.1)

-- names with the same octets are one
pub same_owner : (name other : List (List ℕ)) (octets others : List ℕ) → octets ≡ wire name → others ≡ wire other
    → pointwise nat_eq octets others ≡ true → Equal ≡ labels_order name other
same_owner name other octets others is are same =
    let one : name ≡ other = wire_one name other (sym is ∙ (bytes_decides octets others).0 same ∙ are) in
    sym (tied_itself labels_total name) ∙ ap (labels_order name) one

-- what is in a record between its owner and its data
abbrev middle_of : Record → List ℕ
middle_of r = fixed_octets r.rtype r.class r.ttl ++ to_be_bytes w16 (length r.rdata)

in_parts : (r : Record) → record_octets r ≡ wire r.owner ++ (middle_of r ++ r.rdata)
in_parts r =
    append_assoc (wire r.owner) (fixed_octets r.rtype r.class r.ttl) (to_be_bytes w16 (length r.rdata) ++ r.rdata)
    ∙ ap (λ l. wire r.owner ++ l) (sym (append_assoc (fixed_octets r.rtype r.class r.ttl) (to_be_bytes w16 (length r.rdata)) r.rdata))

middle_long : (r : Record) (whole : List ℕ) → whole ≡ record_octets r
    → length whole ≡ length (wire r.owner) + (length (middle_of r) + length r.rdata)
middle_long r whole is =
    omega (arith, ap (length {A = ℕ}) (is ∙ in_parts r), length-append (wire r.owner) (middle_of r ++ r.rdata), length-append (middle_of r) r.rdata)

-- what is before the data
head_found : (r : Record) (whole : List ℕ) (end : ℕ) → whole ≡ record_octets r → end ≡ length whole - length r.rdata
    → take end whole ≡ wire r.owner ++ middle_of r
head_found r whole end is to =
    let head = wire r.owner ++ middle_of r in
    let long : end ≡ length head = omega (arith, middle_long r whole is, length-append (wire r.owner) (middle_of r)) in
    ap (λ n. take n whole) long
    ∙ ap (take (length head)) (is ∙ in_parts r ∙ sym (append_assoc (wire r.owner) (middle_of r) r.rdata))
    ∙ take-append_seam head r.rdata

-- octets that begin with a name, with this in lower case
name_lowered : (name : List (List ℕ)) (source rest : List ℕ) (start : ℕ) → source ≡ wire name ++ rest → start ≡ length (wire name)
    → map to_ascii_lowercase (take start source) ++ drop start source ≡ map to_ascii_lowercase (wire name) ++ rest
name_lowered name source rest start is from =
    (λ i. map to_ascii_lowercase (take (from i) (is i)) ++ drop (from i) (is i))
    ∙ (λ i. map to_ascii_lowercase (take-append_seam (wire name) rest i) ++ drop-append_seam (wire name) rest i)

-- the owner in lower case, what follows it, and the data in canonical form
form_written : (r : Record) (old : List ℕ) → HasCanonicalForm r
    → ((old ++ map to_ascii_lowercase (wire r.owner)) ++ middle_of r) ++ data_form r.rtype r.rdata ≡ old ++ record_octets (form_of r)
form_written r old is =
    let form = data_form r.rtype r.rdata in
    let owner = map to_ascii_lowercase (wire r.owner) in
    let long : middle_of r ≡ middle_of (form_of r) =
    ap (λ n. fixed_octets r.rtype r.class r.ttl ++ to_be_bytes w16 n) (sym (length-form r.rtype r.rdata form (data_formed r.rtype r.rdata is.data_is))) in
    append_assoc (old ++ owner) (middle_of r) form
    ∙ append_assoc old owner (middle_of r ++ form)
    ∙ ap (λ l. old ++ (l ++ (middle_of r ++ form))) (low_wire r.owner is.lawful.owner.labels)
    ∙ ap (λ l. old ++ (wire (low r.owner) ++ (l ++ form))) long
    ∙ ap (λ l. old ++ l) (sym (in_parts (form_of r)))

-- the same, appended at once, where the data is in canonical form
pub plain_appended : (r : Record) (name : List (List ℕ)) (old whole new : List ℕ) (start : ℕ) → HasCanonicalForm r
    → whole ≡ record_octets r → name ≡ r.owner → start ≡ length (wire name) → data_form r.rtype r.rdata ≡ r.rdata
    → new ≡ old ++ (map to_ascii_lowercase (take start whole) ++ drop start whole) → new ≡ old ++ record_octets (form_of r)
plain_appended r name old whole new start is whole_is name_is start_is plain new_is =
    let owner = map to_ascii_lowercase (wire r.owner) in
    new_is
    ∙ ap (λ l. old ++ l)
    (name_lowered r.owner whole (middle_of r ++ r.rdata) start (whole_is ∙ in_parts r) (start_is ∙ ap (λ (n : List (List ℕ)). length (wire n)) name_is))
    ∙ sym (append_assoc old owner (middle_of r ++ r.rdata))
    ∙ sym (append_assoc (old ++ owner) (middle_of r) r.rdata)
    ∙ ap (λ l. ((old ++ owner) ++ middle_of r) ++ l) (sym plain)
    ∙ form_written r old is

-- the same, appended before the data and then with it
pub form_appended : (r : Record) (name : List (List ℕ)) (old whole data' extended new : List ℕ) (start : ℕ) → HasCanonicalForm r
    → whole ≡ record_octets r → name ≡ r.owner → start ≡ length (wire name) → data' ≡ r.rdata
    → extended ≡ old ++ (map to_ascii_lowercase (take start (take (length whole - length data') whole)) ++ drop start (take (length whole - length data') whole))
    → new ≡ extended ++ data_form r.rtype r.rdata → new ≡ old ++ record_octets (form_of r)
form_appended r name old whole data' extended new start is whole_is name_is start_is data_is extended_is new_is =
    let form = data_form r.rtype r.rdata in
    let owner = map to_ascii_lowercase (wire r.owner) in
    let head = head_found r whole (length whole - length data') whole_is (ap (λ (l : List ℕ). length whole - length l) data_is) in
    new_is
    ∙ ap (λ l. l ++ form) extended_is
    ∙ ap (λ l. (old ++ l) ++ form)
    (name_lowered r.owner (take (length whole - length data') whole) (middle_of r) start head (start_is ∙ ap (λ (n : List (List ℕ)). length (wire n)) name_is))
    ∙ ap (λ l. l ++ form) (sym (append_assoc old owner (middle_of r)))
    ∙ form_written r old is

-- names are in the data
pub place_within : (r : Record) (rtype place : ℕ) (data' : List ℕ) → rtype ≡ r.rtype → data' ≡ r.rdata → HasCanonicalForm r
    → EndsInNames rtype place → place ≤ length data'
place_within r rtype place data' rtype_is data_is has ends =
    subst (λ (l : List ℕ). place ≤ length l) (sym data_is) (subst (λ n. EndsInNames n place) rtype_is ends r.rdata has.data_is).0

-- the same, appended at once and then lowered from where its names are
pub names_appended : (r : Record) (name : List (List ℕ)) (old whole appended new : List ℕ) (start place count : ℕ) → HasCanonicalForm r
    → whole ≡ record_octets r → name ≡ r.owner → start ≡ length (wire name)
    → appended ≡ old ++ (map to_ascii_lowercase (take start whole) ++ drop start whole) → EndsInNames r.rtype place → count ≡ length r.rdata - place
    → new ≡ take (length appended - count) appended ++ map to_ascii_lowercase (drop (length appended - count) appended)
    → new ≡ old ++ record_octets (form_of r)
names_appended r name old whole appended new start place count is whole_is name_is start_is appended_is ends count_is new_is =
    let owner = map to_ascii_lowercase (wire r.owner) in
    let head = (old ++ owner) ++ middle_of r in
    let front = head ++ take place r.rdata in
    let names = drop place r.rdata in
    let form = ends r.rdata is.data_is in
    let parts : appended ≡ front ++ names =
    appended_is
    ∙ ap (λ l. old ++ l)
    (name_lowered r.owner whole (middle_of r ++ r.rdata) start (whole_is ∙ in_parts r) (start_is ∙ ap (λ (n : List (List ℕ)). length (wire n)) name_is))
    ∙ sym (append_assoc old owner (middle_of r ++ r.rdata))
    ∙ sym (append_assoc (old ++ owner) (middle_of r) r.rdata)
    ∙ ap (λ l. head ++ l) (sym (take-append-drop place r.rdata))
    ∙ sym (append_assoc head (take place r.rdata) names) in
    let long : length appended - count ≡ length front =
    omega (arith, ap (length {A = ℕ}) parts, length-append front names, length-drop place r.rdata) in
    new_is
    ∙ (λ i. take (long i) (parts i) ++ map to_ascii_lowercase (drop (long i) (parts i)))
    ∙ (λ i. take-append_seam front names i ++ map to_ascii_lowercase (drop-append_seam front names i))
    ∙ append_assoc head (take place r.rdata) (map to_ascii_lowercase names)
    ∙ ap (λ l. head ++ l) (sym form.1)
    ∙ form_written r old is
