-- Which rules of a transfer a record keeps after those that are held.
use Rattle.std.proofs.Common.{◌≡◌, ◌≢◌, ℕ, ◌-◌, Bool, true, false, List, [], ◌∷◌, Some, nat_eq, length, refl, sym, ap, ◌∙◌, subst, arith, append-nil, length-append, ◌⊎◌, inl, inr}
use Rattle.std.specs.Prelude.{not}
use Rattle.std.specs.List.{AllByRecursion, slice_get, push}
use Rattle.std.proofs.lemmas.Bool.{eqb-true, eq-eqb}
use Rattle.std.proofs.lemmas.List.{same_from_push}
use Rattle.dns_rdata.specs.Fields.{IsData}
use Rattle.dns_rdata.specs.DataOctets.{IsSpellable}
use Rattle.dns_message.specs.Record.{IsRecord, record_octets}
use Rattle.dns_message.proofs.Spellable.{spellable_unless_caa}
use Rattle.zone_records.specs.Record.{Record}
use Rattle.zone_records.specs.Zone.{soa_type}
use Rattle.zone_core.specs.Query.{AxfrQuery}
use Rattle.zone_records.specs.Records.{AreOctets, IsRecordOf, SameSoa}
use Rattle.zone_core.specs.Transfer.{IsInZoneOf, IsTransferred, ClosesTransfer}
use Rattle.zone_receive.specs.Receiving.{IsOpen, IsClosed, KeepsFirstRule, KeepsLastRule}
use Rattle.zone_receive.specs.FrameBuffer.{HoldsFront, IsNext, HasRole}
use Rattle.zone_receive.specs.FrameBuffer.HoldsFront.{begun, ended}
use Rattle.zone_receive.specs.declared.rules.RecordRole.{RecordRole}
use Rattle.zone_receive.specs.declared.rules.RecordRole.TheVariants.{Inner, Last}
use Rattle.zone_records.proofs.Each.{all_append}
use Rattle.zone_records.proofs.RecordOctets.{octets_of_record}
use Rattle.zone_receive.proofs.LawfulRecords.{closed_not_open}

-- whether a record is held
pub none_held : (held : List Record) → length held ≡ 0 → held ≡ []
none_held [] none = refl
none_held (r ∷ held) none = absurd (omega (arith, none))

pub some_held : (held : List Record) → (length held ≡ 0 → ⊥) → (r : Record) × (others : List Record) × (held ≡ r ∷ others)
some_held [] some = absurd (some refl)
some_held (r ∷ held) some = (r, held, refl)

-- the next record comes after those that are held
next_at : (held : List Record) (r : Record) → slice_get (push held r) (length held) ≡ Some r
next_at [] r = refl
next_at (x ∷ held) r = next_at held r

pub held_long : {records : List Record} (held : List Record) (r : Record) (len : ℕ) → len ≡ length records → records ≡ push held r
    → len - 1 ≡ length held
held_long held r len long splits =
    omega (arith, long, ap (length {A = Record}) splits, length-append held (r ∷ []))

pub next_there : {records : List Record} (held : List Record) (r : Record) (len : ℕ) → len ≡ length records → records ≡ push held r
    → slice_get records (len - 1) ≡ Some r
next_there held r len long splits =
    ap (λ (l : List Record). slice_get l (len - 1)) splits ∙ ap (slice_get (push held r)) (held_long held r len long splits) ∙ next_at held r

pub next_is : {records : List Record} {next : Record} {octets : List ℕ} (held : List Record) (r : Record) (len : ℕ)
    → len ≡ length records → records ≡ push held r
    → ((s : Record) → slice_get records (len - 1) ≡ Some s → octets ≡ record_octets s)
    → ((s : Record) → slice_get records (len - 1) ≡ Some s → IsRecord s)
    → ((s : Record) → IsRecord s → octets ≡ record_octets s → next ≡ s) → next ≡ r
next_is held r len long splits octets_are known is =
    let there = next_there held r len long splits in
    is r (known r there) (octets_are r there)

-- and the first of all is the first that is held, if there is one
pub first_held : {records : List Record} (held : List Record) (r soa : Record) → records ≡ push held r → (length held ≡ 0 → ⊥)
    → slice_get records 0 ≡ Some soa → slice_get held 0 ≡ Some soa
first_held [] r soa splits some at = absurd (some refl)
first_held (x ∷ held) r soa splits some at = sym (ap (λ (l : List Record). slice_get l 0) splits) ∙ at

-- what is known of a record whose octets are below 256
pub known_record : (class : ℕ) (octets : List ℕ) (r : Record) → IsRecord r → IsData r.rtype r.rdata → r.class ≡ class
    → IsSpellable r.rtype r.rdata → AreOctets octets → octets ≡ record_octets r → IsRecordOf class r
known_record class octets r lawful data_is class_is spellable each are =
    let own = octets_of_record r (subst AreOctets are each) in
    record {
      sendable = record { lawful = lawful; data_is = data_is; class_is = class_is; spellable = spellable };
      owner_octets = own.0;
      data_octets = own.1;
    }

-- what holds of the records before the next one
pub holds_so_far : {query : AxfrQuery} {records : List Record} {closed : Bool} {number : ℕ} → IsNext query records closed number
    → (held : List Record) (r : Record) → records ≡ push held r → (front : List Record) × HoldsFront query held closed front
holds_so_far {query} {closed = closed} next held r splits =
    let same = same_from_push next.held held next.r r (sym next.splits ∙ splits) in
    let P : List Record → Type 0 = λ held. HoldsFront query held closed next.front in
    (next.front, subst P same.0 next.holds)

-- text can spell an SOA
pub soa_spellable : (r : Record) → r.rtype ≡ soa_type → IsSpellable r.rtype r.rdata
soa_spellable r soa = spellable_unless_caa r.rtype r.rdata (λ caa. absurd (omega (arith, soa, caa)))

-- if no record is held, the transfer has none so far
holds_empty : {query : AxfrQuery} {held xs : List Record} {closed : Bool} → HoldsFront query held closed xs → held ≡ [] → xs ≡ []
holds_empty (begun so_far) is = is
holds_empty {query} (ended last transferred closes) is =
    let P : List Record → Type 0 = λ l. IsTransferred query l in absurd (subst P is transferred)

holds_behind : {query : AxfrQuery} {held xs : List Record} {closed : Bool} (soa : Record) (others : List Record)
    → HoldsFront query held closed xs → held ≡ soa ∷ others → (rest : List Record) × (xs ≡ soa ∷ rest)
holds_behind soa others (begun so_far) is = (others, is)
holds_behind soa others (ended last transferred closes) is = (push others last, ap (λ l. push l last) is)

holds_transferred : {query : AxfrQuery} {held xs : List Record} {closed : Bool} (soa : Record) (others : List Record)
    → HoldsFront query held closed xs → held ≡ soa ∷ others → IsTransferred query (soa ∷ others)
holds_transferred {query} soa others (begun so_far) is =
    let P : List Record → Type 0 = λ l. IsOpen query l in subst P is so_far
holds_transferred {query} soa others (ended last transferred closes) is =
    let P : List Record → Type 0 = λ l. IsTransferred query l in subst P is transferred

-- the first record that is held is an SOA of the class
pub first_known : (class : ℕ) (held : List Record) (soa : Record) → slice_get held 0 ≡ Some soa → AllByRecursion (IsRecordOf class) held
    → IsRecordOf class soa
first_known class [] soa first each = absurd cc
first_known class (r ∷ held) soa first each =
    let there : r ≡ soa = cc in
    let P : Record → Type 0 = λ x. IsRecordOf class x in
    subst P there each.0

pub first_is_soa : {query : AxfrQuery} {xs : List Record} {closed : Bool} (held : List Record) (soa : Record) → HoldsFront query held closed xs
    → slice_get held 0 ≡ Some soa → soa.rtype ≡ soa_type
first_is_soa [] soa holds first = absurd cc
first_is_soa (r ∷ held) soa holds first =
    let there : soa ≡ r = cc in ap (λ (x : Record). x.rtype) there ∙ (holds_transferred r held holds refl).0

-- the rule of the first record
pub first_kept : {query : AxfrQuery} {held xs : List Record} {closed : Bool} (r : Record) → HoldsFront query held closed xs → held ≡ []
    → KeepsFirstRule query [] r → KeepsFirstRule query xs r
first_kept {query} r holds empty keeps =
    let P : List Record → Type 0 = λ l. KeepsFirstRule query l r in subst P (sym (holds_empty holds empty)) keeps

pub first_broken : {query : AxfrQuery} {held xs : List Record} {closed : Bool} (r : Record) → HoldsFront query held closed xs → held ≡ []
    → KeepsFirstRule query xs r → KeepsFirstRule query [] r
first_broken {query} r holds empty keeps =
    let P : List Record → Type 0 = λ l. KeepsFirstRule query l r in subst P (holds_empty holds empty) keeps

pub first_behind : {query : AxfrQuery} {held xs : List Record} {closed : Bool} (r soa : Record) (others : List Record)
    → HoldsFront query held closed xs → held ≡ soa ∷ others → KeepsFirstRule query xs r
first_behind {query} r soa others holds is =
    let behind = holds_behind soa others holds is in
    let P : List Record → Type 0 = λ l. KeepsFirstRule query l r in
    subst P (sym behind.1) tt

-- the rule of a later SOA
pub last_kept : {query : AxfrQuery} {xs : List Record} {closed : Bool} (held : List Record) (soa r : Record) → HoldsFront query held closed xs
    → slice_get held 0 ≡ Some soa → SameSoa soa r → KeepsLastRule xs r
last_kept [] soa r holds first same = absurd cc
last_kept (x ∷ held) soa r holds first same =
    let there : soa ≡ x = cc in
    let behind = holds_behind x held holds refl in
    let P : List Record → Type 0 = λ l. KeepsLastRule l r in
    let Q : Record → Type 0 = λ y. SameSoa y r in
    subst P (sym behind.1) (λ is. subst Q there same)

pub last_broken : {query : AxfrQuery} {xs : List Record} {closed : Bool} (held : List Record) (soa r : Record) → HoldsFront query held closed xs
    → slice_get held 0 ≡ Some soa → KeepsLastRule xs r → r.rtype ≡ soa_type → SameSoa soa r
last_broken [] soa r holds first keeps is = absurd cc
last_broken (x ∷ held) soa r holds first keeps is =
    let there : x ≡ soa = cc in
    let behind = holds_behind x held holds refl in
    let P : List Record → Type 0 = λ l. KeepsLastRule l r in
    let Q : Record → Type 0 = λ y. SameSoa y r in
    subst Q there (subst P behind.1 keeps is)

pub last_free : {query : AxfrQuery} {held : List Record} {closed : Bool} (xs : List Record) (r : Record) → HoldsFront query held closed xs
    → (held ≡ []) ⊎ (r.rtype ≡ soa_type → ⊥) → KeepsLastRule xs r
last_free [] r holds either = tt
last_free (soa ∷ others) r holds (inl empty) = let none = holds_empty holds empty in absurd cc
last_free (soa ∷ others) r holds (inr no_soa) = λ is. absurd (no_soa is)

-- the records of the transfer after the last SOA
pub holds_closed : {query : AxfrQuery} {held xs : List Record} {closed : Bool} → HoldsFront query held closed xs → closed ≡ true
    → IsClosed query xs
holds_closed (begun so_far) is = absurd cc
holds_closed {held = held} (ended last transferred closes) is =
    record { front = held; last = last; splits = refl; transferred = transferred; closes = closes }

pub holds_open : {query : AxfrQuery} {held xs : List Record} {closed : Bool} → HoldsFront query held closed xs → closed ≡ false
    → IsClosed query xs → ⊥
holds_open {query} {held} (begun so_far) is closed =
    let P : List Record → Type 0 = λ records. IsOpen query records in
    closed_not_open query held [] closed (subst P (sym (append-nil held)) so_far)
holds_open (ended last transferred closes) is closed = cc

-- a record of the zone after those that are held
still_open : {query : AxfrQuery} {xs : List Record} {closed : Bool} (held : List Record) (r : Record) → HoldsFront query held closed xs
    → KeepsFirstRule query xs r → (held ≡ []) ⊎ (r.rtype ≡ soa_type → ⊥) → IsInZoneOf query r → IsOpen query (push held r)
still_open [] r holds keeps either zone = let first = first_broken r holds refl keeps in (first.0, first.1, (zone, tt), tt)
still_open (soa ∷ others) r holds keeps (inl empty) zone = absurd cc
still_open {query} (soa ∷ others) r holds keeps (inr no_soa) zone =
    let transferred = holds_transferred soa others holds refl in
    let each = all_append (IsInZoneOf query) (soa ∷ others) (r ∷ []) transferred.2 (zone, tt) in
    let no_others = all_append (λ x. x.rtype ≢ soa_type) others (r ∷ []) transferred.3 (no_soa, tt) in
    (transferred.0, transferred.1, each, no_others)

pub inner_role : {query : AxfrQuery} {xs : List Record} {closed : Bool} (held : List Record) (r : Record) (role : RecordRole)
    → role ≡ Inner → HoldsFront query held closed xs → KeepsFirstRule query xs r → (held ≡ []) ⊎ (r.rtype ≡ soa_type → ⊥)
    → IsInZoneOf query r → HasRole query held r role
inner_role {query} held r role is holds keeps either zone =
    let P : RecordRole → Type 0 = λ p. HasRole query held r p in
    subst P (sym is) (still_open held r holds keeps either zone)

-- and the last SOA
closes_here : {query : AxfrQuery} {xs : List Record} {closed : Bool} (held : List Record) (soa r : Record) → HoldsFront query held closed xs
    → slice_get held 0 ≡ Some soa → r.rtype ≡ soa_type → SameSoa soa r → IsTransferred query held × ClosesTransfer held r
closes_here [] soa r holds first rtype same = absurd cc
closes_here (x ∷ held) soa r holds first rtype same =
    let there : soa ≡ x = cc in
    let P : Record → Type 0 = λ y. SameSoa y r in
    (holds_transferred x held holds refl, (rtype, subst P there same))

pub last_role : {query : AxfrQuery} {xs : List Record} {closed : Bool} (held : List Record) (soa r : Record) (role : RecordRole)
    → role ≡ Last → HoldsFront query held closed xs → slice_get held 0 ≡ Some soa → r.rtype ≡ soa_type → SameSoa soa r
    → HasRole query held r role
last_role {query} held soa r role is holds first rtype same =
    let P : RecordRole → Type 0 = λ p. HasRole query held r p in
    subst P (sym is) (closes_here held soa r holds first rtype same)

-- what a negated test says
pub not_false : (b : Bool) → not b ≡ false → b ≡ true
not_false true is = refl
not_false false is = cc

pub not_true : (b : Bool) → not b ≡ true → b ≡ false
not_true true is = cc
not_true false is = refl

pub told_equal : (n m : ℕ) (result : Bool) → result ≡ not (nat_eq n m) → result ≡ false → n ≡ m
told_equal n m result told is = eqb-true n m (not_false (nat_eq n m) (sym told ∙ is))

pub told_other : (n m : ℕ) (result : Bool) → result ≡ not (nat_eq n m) → result ≡ true → n ≡ m → ⊥
told_other n m result told is same =
    let equal = eq-eqb n m same in
    let none : true ≡ false = sym is ∙ told ∙ ap not equal in cc

pub told_no : (n m : ℕ) (result : Bool) → result ≡ nat_eq n m → result ≡ false → n ≡ m → ⊥
told_no n m result told is same =
    let equal = eq-eqb n m same in
    let none : true ≡ false = sym equal ∙ sym told ∙ is in cc
