-- A stream of spelled messages while it grows.
use Rattle.std.proofs.Common.{◌≡◌, ℕ, ◌+◌, ◌<◌, ◌≤◌, zero, suc, true, false, Option, Some, None, List, [], ◌∷◌, ◌++◌, length, map, take, refl, sym, ap, ◌∙◌, subst, arith, append_assoc, length-append}
use Rattle.std.specs.Prelude.{slice_get, IfSome}
use Rattle.std.specs.List.{push}
use Rattle.std.proofs.lemmas.List.{take_all}
use Rattle.dns_name.specs.Spelling.{Spelling}
use Rattle.dns_name.specs.Page.{Parts}
use Rattle.dns_builder.specs.Built.{Draft}
use Rattle.zone_records.specs.Record.{Record}
use Rattle.zone_records.proofs.Indexed.{take-next}
use Rattle.zone_core.specs.Query.{AxfrQuery}
use Rattle.zone_core.specs.Frames.{frame, frames}
use Rattle.zone_core.specs.Cutting.{IsFullCut, FitsNotBehind, IsBlocked}
use Rattle.zone_send.specs.Sent.{with_soa_again}
use Rattle.zone_send.specs.Spelled.{spelled_size}
use Rattle.zone_send.specs.SpelledSent.{spelled_message}
use Rattle.zone_send.specs.SpelledSending.{HoldsGroup, IsPushed, HoldsUpTo, IsNextFrame, HasNoRoomAlone, SendsUpTo}
use Rattle.zone_core.proofs.Greedy.{blocked_at, full_cut_closes, not_behind_last}
use Rattle.zone_send.proofs.SpelledPages.{page_is, size_more}
use Rattle.zone_send.proofs.Streams.{frames-push}

-- the first record of a message
pub held_first : {s : Spelling} {query : AxfrQuery} {item : Record → Parts} {max start : ℕ} {all : List Record} {r : Record} {draft : Draft}
    → slice_get all start ≡ Some r → IsPushed s query item max [] r true draft → HoldsUpTo s query item max all start (start + 1) draft
held_first {start = start} {all = all} {r = r} there pushed = record {
  first = r;
  others = [];
  there = there;
  splits = take-next all start r there;
  small = pushed.1;
  holds = pushed.0;
}

-- one more record
pub held_next : {s : Spelling} {query : AxfrQuery} {item : Record → Parts} {max start next : ℕ} {all : List Record} {r : Record} {draft new : Draft}
    → (held : HoldsUpTo s query item max all start next draft) → slice_get all next ≡ Some r
    → IsPushed s query item max (held.first ∷ held.others) r true new → HoldsUpTo s query item max all start (next + 1) new
held_next {start = start} {next = next} {all = all} {r = r} held there pushed = record {
  first = held.first;
  others = push held.others r;
  there = held.there;
  splits = take-next all next r there ∙ ap (λ l. l ++ r ∷ []) held.splits
      ∙ append_assoc (take start all) (held.first ∷ held.others) (r ∷ []);
  small = pushed.1;
  holds = pushed.0;
}

-- a record that has no room even in a message of its own
pub no_room : {s : Spelling} {query : AxfrQuery} {item : Record → Parts} {max start : ℕ} {all : List Record} {r : Record}
    → slice_get all start ≡ Some r → max < spelled_size s query item (r ∷ []) → HasNoRoomAlone s query item max all start
no_room {r = r} there large = record { r = r; there = there; large = large }

-- nor has it if the question alone has no room
pub no_room_asked : {s : Spelling} {query : AxfrQuery} {item : Record → Parts} {max start : ℕ} {all : List Record} {r : Record}
    → slice_get all start ≡ Some r → max < spelled_size s query item [] → HasNoRoomAlone s query item max all start
no_room_asked {s} {query} {item} {r = r} there large = no_room there (omega (arith, size_more s query item [] r, large))

past_all : {X : Type 0} (xs : List X) (i : ℕ) → length xs ≤ i → slice_get xs i ≡ None
past_all [] i past = refl
past_all (x ∷ xs) zero past = absurd (omega arith)
past_all (x ∷ xs) (suc i) past = past_all xs i (omega arith)

none_behind : {X : Type 0} (P : X → Type 0) (xs : List X) (i : ℕ) → length xs ≤ i → IfSome (slice_get xs i) P
none_behind {X} P xs i past = let Q : Option X → Type 0 = λ o. IfSome o P in subst Q (sym (past_all xs i past)) tt

some_behind : {X : Type 0} (P : X → Type 0) (xs : List X) (i : ℕ) (x : X) → slice_get xs i ≡ Some x → P x → IfSome (slice_get xs i) P
some_behind {X} P xs i x there holds = let Q : Option X → Type 0 = λ o. IfSome o P in subst Q (sym there) holds

if_there : {X : Type 0} (P : X → Type 0) (xs : List X) (i : ℕ) (x : X) → slice_get xs i ≡ Some x → IfSome (slice_get xs i) P → P x
if_there {X} P xs i x there holds = let Q : Option X → Type 0 = λ o. IfSome o P in subst Q there holds

-- the octets of a builder's message
pub octets_of : {s : Spelling} {query : AxfrQuery} {item : Record → Parts} {max : ℕ} {group : List Record} {draft : Draft}
    → HoldsGroup s query item max group draft → draft.page.octets ≡ spelled_message s query item group
octets_of {s} {query} {item} {group = group} holds = ap (λ p. p.octets) holds.built.page ∙ page_is s query item group

-- a frame is full if the next record has no room, and if there is no next one
pub next_frame : {s : Spelling} {query : AxfrQuery} {item : Record → Parts} {max start next : ℕ} {all : List Record} {r : Record} {draft : Draft}
    (new : Draft) (octets : List ℕ) (held : HoldsUpTo s query item max all start next draft) → start < next → next < length all
    → slice_get all next ≡ Some r → IsPushed s query item max (held.first ∷ held.others) r false new → octets ≡ frame new.page.octets
    → IsNextFrame s query item max all start next octets
next_frame {s} {query} {item} {max} {next = next} {all = all} {r = r} new octets held later within there pushed is = record {
  first = held.first;
  others = held.others;
  there = held.there;
  splits = held.splits;
  small = held.small;
  later = later;
  within = omega (arith, within);
  full = some_behind (λ x. max < spelled_size s query item (push (held.first ∷ held.others) x)) all next r there pushed.1;
  framed = is ∙ ap frame (octets_of pushed.0);
}

pub last_frame : {s : Spelling} {query : AxfrQuery} {item : Record → Parts} {max start at : ℕ} {all : List Record} {draft : Draft}
    (octets : List ℕ) (next : ℕ) (held : HoldsUpTo s query item max all start at draft) → at ≡ next → start < next → next ≡ length all
    → octets ≡ frame draft.page.octets → IsNextFrame s query item max all start next octets
last_frame {s} {query} {item} {max} {start} {at} {all} octets next held same later end is = record {
  first = held.first;
  others = held.others;
  there = held.there;
  splits = ap (λ n. take n all) (sym same) ∙ held.splits;
  small = held.small;
  later = later;
  within = omega (arith, end);
  full = none_behind (λ x. max < spelled_size s query item (push (held.first ∷ held.others) x)) all next (omega (arith, end));
  framed = is ∙ ap frame (octets_of held.holds);
}

-- the same stream with one more frame
behind_last : {X : Type 0} (size : List X → ℕ) (max : ℕ) (groups : List (List X)) (group all : List X) (next : ℕ)
    → IfSome (slice_get all next) (λ x. max < size (push group x)) → IfSome (slice_get all next) (FitsNotBehind size max (push groups group))
behind_last size max groups group [] next full = tt
behind_last size max groups group (x ∷ xs) zero full = not_behind_last size max groups group x full
behind_last size max groups group (x ∷ xs) (suc next) full = behind_last size max groups group xs next full

pub sends_next : {s : Spelling} {query : AxfrQuery} {item : Record → Parts} {max start next : ℕ} {all : List Record} {stream octets new : List ℕ}
    → SendsUpTo s query item max all start stream → IsNextFrame s query item max all start next octets → new ≡ stream ++ octets
    → SendsUpTo s query item max all next new
sends_next {s} {query} {item} {max} {start} {next} {all} {stream} {octets} sends found is =
    let size : List Record → ℕ = spelled_size s query item in
    let group : List Record = found.first ∷ found.others in
    let behind = if_there (FitsNotBehind size max sends.groups) all start found.first found.there sends.behind in
    let P : List Record → Type 0 = λ rs. IsFullCut size max rs (push sends.groups group) in
    record {
      groups = push sends.groups group;
      cut = subst P (sym found.splits) (full_cut_closes size max (take start all) sends.groups found.first found.others sends.cut behind found.small);
      behind = behind_last size max sends.groups group all next found.full;
      framed = is ∙ ap (λ l. l ++ octets) sends.framed ∙ ap (λ l. frames (map (spelled_message s query item) sends.groups) ++ l) found.framed
          ∙ frames-push (spelled_message s query item) sends.groups group;
    }

-- the record that would begin a message but has no room in it is blocked
pub blocked_alone : {s : Spelling} {query : AxfrQuery} {item : Record → Parts} {max start : ℕ} {all : List Record} {stream : List ℕ}
    → SendsUpTo s query item max all start stream → HasNoRoomAlone s query item max all start
    → IsBlocked (spelled_size s query item) max all (start + 1)
blocked_alone {s} {query} {item} {max} {start} {all} sends alone =
    blocked_at (spelled_size s query item) max all start sends.groups alone.r alone.there sends.cut
    (if_there (FitsNotBehind (spelled_size s query item) max sends.groups) all start alone.r alone.there sends.behind) alone.large

-- the whole cut
pub cut_of_all : {s : Spelling} {query : AxfrQuery} {item : Record → Parts} {max next : ℕ} {all : List Record} {stream : List ℕ}
    → (sends : SendsUpTo s query item max all next stream) → length all ≤ next → IsFullCut (spelled_size s query item) max all sends.groups
cut_of_all {s} {query} {item} {max} {next} {all} sends past =
    let P : List Record → Type 0 = λ rs. IsFullCut (spelled_size s query item) max rs sends.groups in subst P (take_all next all past) sends.cut

behind_all : {X : Type 0} (xs : List X) (x : X) (i : ℕ) → i ≡ length xs → slice_get (xs ++ x ∷ []) i ≡ Some x
behind_all [] x zero is = refl
behind_all [] x (suc i) is = absurd (omega arith)
behind_all (y ∷ xs) x zero is = absurd (omega arith)
behind_all (y ∷ xs) x (suc i) is = behind_all xs x i (omega arith)

-- the SOA again
pub again_last : (records : List Record) (i : ℕ) (soa : Record) → slice_get records 0 ≡ Some soa → length records ≤ i
    → i < length (with_soa_again records) → slice_get (with_soa_again records) i ≡ Some soa
again_last [] i soa first past within = absurd cc
again_last (r ∷ others) i soa first past within =
    let last : i ≡ length (r ∷ others) = omega (arith, length-append others (r ∷ []), within, past) in
    behind_all (r ∷ others) r i last ∙ first
