-- The stream of all records of a zone.
use Rattle.std.proofs.Common.{◌≡◌, ℕ, ◌+◌, ◌<◌, ◌≤◌, zero, suc, Bool, false, Option, Some, None, List, [], ◌∷◌, ◌++◌, length, map, take, sym, ap, ◌∙◌, subst, arith}
use Rattle.std.specs.Prelude.{slice_get, ◌==◌}
use Rattle.std.specs.List.{push}
use Rattle.std.proofs.lemmas.List.{map-append, take_all, take-append-le}
use Rattle.std.proofs.lemmas.Option.{slice_get_within}
use Rattle.zone_records.specs.Record.{Record}
use Rattle.zone_send.specs.declared.sending.plain.Sender.{Sender}
use Rattle.zone_core.specs.Query.{AxfrQuery}
use Rattle.zone_core.specs.Frames.{frame, frames}
use Rattle.zone_core.specs.Cutting.{IsFullCut, IsBlocked}
use Rattle.zone_send.specs.Sent.{message, size, with_soa_again, IsSent}
use Rattle.zone_send.specs.Sending.{LastIs, HoldsGroups, Holds, FitsNowhere}
use Rattle.zone_core.proofs.Framing.{frames_push}
use Rattle.zone_core.proofs.Greedy.{blocked_at, next_is_blocked}
use Rattle.zone_records.proofs.Indexed.{slice_get-front}

-- the frames of the messages of some groups, and one more
pub frames-push : {X : Type 0} (message : X → List ℕ) (front : List X) (x : X)
    → frames (map message front) ++ frame (message x) ≡ frames (map message (push front x))
frames-push message front x =
    frames_push (map message front) (message x) ∙ ap frames (sym (map-append message front (x ∷ [])))

whole_from : (sender : Sender) (query : AxfrQuery) (last : Option ℕ) (groups : List (List Record)) → LastIs sender query last groups
    → sender.stream.items ≡ frames (map (message query) groups)
whole_from sender query None groups last = last.1 ∙ ap (λ gs. frames (map (message query) gs)) (sym last.0)
whole_from sender query (Some start) groups last =
    last.stands.octets ∙ frames-push (message query) last.front last.group ∙ ap (λ gs. frames (map (message query) gs)) (sym last.are)

-- the stream is whole messages
whole_stream : (sender : Sender) (query : AxfrQuery) (groups : List (List Record)) → HoldsGroups sender query groups
    → sender.stream.items ≡ frames (map (message query) groups)
whole_stream sender query groups holds = whole_from sender query sender.last groups holds.last

pub sent : (sender : Sender) (query : AxfrQuery) (records held : List Record) (stream : List ℕ) (max : ℕ) → Holds sender query held
    → held ≡ with_soa_again records → sender.max ≡ max → stream ≡ sender.stream.items → IsSent records query max stream
sent sender query records held stream max holds are same is =
    let P : List Record → Type 0 = λ rs. IsFullCut (size query) sender.max rs holds.groups in
    let Q : ℕ → Type 0 = λ m. IsFullCut (size query) m (with_soa_again records) holds.groups in
    record {
      groups = holds.groups;
      cut = subst Q same (subst P are holds.cut);
      framed = is ∙ whole_stream sender query holds.groups holds.holds;
    }

-- a record that fits nowhere after those before it is blocked
pub record_blocked : (sender : Sender) (query : AxfrQuery) (records : List Record) (i : ℕ) (r : Record) (max : ℕ)
    → FitsNowhere sender query (take i records) r → slice_get records i ≡ Some r → sender.max ≡ max
    → IsBlocked (size query) max (with_soa_again records) (i + 1)
record_blocked sender query [] i r max nowhere at same = absurd cc
record_blocked sender query (soa ∷ others) i r max nowhere at same =
    let records : List Record = soa ∷ others in
    let within = slice_get_within records i r at in
    let P : List Record → Type 0 = λ rs. IsFullCut (size query) sender.max rs nowhere.groups in
    let Q : ℕ → Type 0 = λ m. IsBlocked (size query) m (with_soa_again records) (i + 1) in
    subst Q same (blocked_at (size query) sender.max (records ++ soa ∷ []) i nowhere.groups r (slice_get-front records (soa ∷ []) i r at)
    (subst P (sym (take-append-le i records (soa ∷ []) (omega arith))) nowhere.cut) nowhere.behind nowhere.alone)

-- all records and the first of them again
pub all_again : (records : List Record) (i : ℕ) (soa : Record) → length records ≤ i → slice_get records 0 ≡ Some soa
    → push (take i records) soa ≡ with_soa_again records
all_again [] i soa all first = absurd cc
all_again (r ∷ others) i soa all first =
    let same : soa ≡ r = cc in
    ap (λ l. push l soa) (take_all i (r ∷ others) all) ∙ ap (λ x. push (r ∷ others) x) same

-- the SOA is blocked if it fits nowhere after all records
pub soa_blocked : (sender : Sender) (query : AxfrQuery) (records : List Record) (i : ℕ) (soa : Record) (max : ℕ)
    → FitsNowhere sender query (take i records) soa → length records ≤ i → slice_get records 0 ≡ Some soa → sender.max ≡ max
    → IsBlocked (size query) max (with_soa_again records) (length records + 1)
soa_blocked sender query records i soa max nowhere all first same =
    let whole = take_all i records all in
    let P : List Record → Type 0 = λ rs. IsFullCut (size query) sender.max rs nowhere.groups in
    let blocked = next_is_blocked (size query) sender.max records nowhere.groups soa [] (subst P whole nowhere.cut) nowhere.behind nowhere.alone in
    let again : push records soa ≡ with_soa_again records = ap (λ l. push l soa) (sym whole) ∙ all_again records i soa all first in
    let Q : ℕ → Type 0 = λ m. IsBlocked (size query) m (push records soa) (length records + 1) in
    let R : List Record → Type 0 = λ rs. IsBlocked (size query) max rs (length records + 1) in
    subst R again (subst Q same blocked)

-- if there are no records, none is sent
pub none_again : (records : List Record) (i : ℕ) → length records ≡ 0 → take i records ≡ with_soa_again records
none_again [] i empty = take_all i [] (omega arith)
none_again (r ∷ records) i empty = absurd (omega arith)

-- whether there are records
pub some_of : (n : ℕ) (none : Bool) → none ≡ (n == 0) → none ≡ false → 0 < n
some_of zero none is false_is = absurd cc
some_of (suc n) none is false_is = omega arith
