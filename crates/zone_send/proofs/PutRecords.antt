-- Where a record goes, and what the sender holds after that.
use Rattle.std.proofs.Common.{◌≡◌, ℕ, ◌+◌, ◌-◌, ◌<◌, ◌≤◌, ◌^◌, Option, Some, None, List, [], ◌∷◌, ◌++◌, length, map, refl, sym, ap, ◌∙◌, subst, arith, append-nil, length-append}
use Rattle.std.specs.Prelude.{flat_map}
use Rattle.std.proofs.lemmas.List.Concat.{flat_map-append}
use Rattle.std.specs.Int.{to_be_bytes, w16}
use Rattle.std.specs.List.{AllByRecursion, push}
use Rattle.dns_label.specs.Name.{wire}
use Rattle.dns_header.specs.Question.{question_octets}
use Rattle.dns_message.specs.Record.{Record, record_octets}
use Rattle.zone_core.specs.Query.{AxfrQuery, question_of}
use Rattle.zone_core.specs.Frames.{frames}
use Rattle.zone_send.specs.Sent.{message, size}
use Rattle.zone_core.specs.Cutting.{IsFullCut, FitsNotBehind}
use Rattle.zone_send.specs.Sending.{IsFor, Stands, StandsWhole, LastStands, LastIs, HoldsGroups, Holds, HasNoRoom, FitsNowhere, before_count, behind_count, counted_message}
use Rattle.zone_send.specs.declared.sending.plain.Sender.{Sender}
use Rattle.dns_message.proofs.AsWritten.{least_record}
use Rattle.zone_send.proofs.Plain.{size_is, records_append}
use Rattle.zone_send.proofs.Patched.{written_over}
use Rattle.zone_core.proofs.Greedy.{full_cut_goes_on, full_cut_opens, not_behind_last}

-- records take at least one octet each
pub few_records : (group : List Record) → length group ≤ length (flat_map record_octets group)
few_records [] = omega arith
few_records (r ∷ group) = omega (arith, few_records group, least_record r, length-append (record_octets r) (flat_map record_octets group))

-- a message with more records has the octets of these records more
pub size-append : (query : AxfrQuery) (group more : List Record)
    → size query (group ++ more) ≡ size query group + length (flat_map record_octets more)
size-append query group more =
    omega (arith, size_is query group, size_is query (group ++ more), records_append group more)

-- the octets of one record
pub alone_octets : (r : Record) → flat_map record_octets (r ∷ []) ≡ record_octets r
alone_octets r = append-nil (record_octets r)

-- a message with one more record has the octets of that record more
pub size-push : (query : AxfrQuery) (group : List Record) (r : Record) → size query (push group r) ≡ size query group + length (record_octets r)
size-push query group r =
    omega (arith, size_is query group, size_is query (push group r), records_append group (r ∷ []), ap length (append-nil (record_octets r)))

-- how many octets there are from the start of the last message on
pub length-stands : (sender : Sender) (query : AxfrQuery) (start : ℕ) (front : List (List Record)) (group : List Record) (mark count : List ℕ)
    → Stands sender query start front group mark count → length sender.stream.items ≡ start + size query group
length-stands sender query start front group mark count stands =
    let message : List ℕ = counted_message query count group in
    let behind : List ℕ = question_octets (question_of query) ++ flat_map record_octets group in
    omega (
      arith,
      ap length stands.octets,
      stands.place,
      stands.mark_long,
      stands.count_long,
      size_is query group,
      length-append (frames (map (Rattle.zone_send.specs.Sent.message query) front)) (mark ++ message),
      length-append mark message,
      length-append count (0 ∷ 0 ∷ 0 ∷ 0 ∷ behind),
      length-append (question_octets (question_of query)) (flat_map record_octets group),
    )

-- the last message, given that it begins at `start`
pub last_at : (sender : Sender) (query : AxfrQuery) (start : ℕ) (groups : List (List Record)) → HoldsGroups sender query groups
    → sender.last ≡ Some start → LastStands sender query start groups
last_at sender query start groups holds is =
    let P : Option ℕ → Type 0 = λ last. LastIs sender query last groups in
    subst P is holds.last

all_last : {X : Type 0} (P : X → Type 0) (front : List X) (x : X) → AllByRecursion P (push front x) → P x
all_last P [] x each = each.0
all_last P (y ∷ front) x each = all_last P front x each.1

-- the last message is no larger than a message may be
pub last_small : (sender : Sender) (query : AxfrQuery) (records : List Record) (start : ℕ) → Holds sender query records
    → sender.last ≡ Some start → length sender.stream.items < start + 2 ^ 16
last_small sender query records start holds is =
    let last = last_at sender query start holds.groups holds.holds is in
    let long = length-stands sender query start last.front last.group _ _ last.stands in
    let P : List (List Record) → Type 0 = λ gs. AllByRecursion (λ g. size query g ≤ sender.max) gs in
    let small = all_last (λ g. size query g ≤ sender.max) last.front last.group (subst P last.are holds.cut.fits.small) in
    omega (arith, long, small, holds.holds.is_for.small)

-- with a whole last message, the stream is whole messages
pub holds_last : (sender : Sender) (query : AxfrQuery) (start : ℕ) (front : List (List Record)) (group : List Record)
    → StandsWhole sender query start front group → HoldsGroups sender query (push front group)
holds_last sender query start front group stands =
    let P : Option ℕ → Type 0 = λ last. LastIs sender query last (push front group) in
    let last : LastStands sender query start (push front group) = record { front = front; group = group; are = refl; stands = stands } in
    record { is_for = stands.is_for; last = subst P (sym stands.last) last }

-- a record without room in the last message does not fit after its group
behind_last : (sender : Sender) (query : AxfrQuery) (last : Option ℕ) (groups : List (List Record)) (r : Record) (len : ℕ)
    → LastIs sender query last groups → HasNoRoom sender last len → len ≡ length (record_octets r)
    → FitsNotBehind (size query) sender.max groups r
behind_last sender query None groups r len last full is =
    let P : List (List Record) → Type 0 = λ gs. FitsNotBehind (size query) sender.max gs r in
    subst P (sym last.0) tt
behind_last sender query (Some start) groups r len last full is =
    let P : List (List Record) → Type 0 = λ gs. FitsNotBehind (size query) sender.max gs r in
    let long = length-stands sender query start last.front last.group _ _ last.stands in
    let large : sender.max < size query (push last.group r) = omega (arith, size-push query last.group r, long, full, is) in
    subst P (sym last.are) (not_behind_last (size query) sender.max last.front last.group r large)

pub not_behind : (sender : Sender) (query : AxfrQuery) (groups : List (List Record)) (r : Record) (len : ℕ)
    → HoldsGroups sender query groups → HasNoRoom sender sender.last len → len ≡ length (record_octets r)
    → FitsNotBehind (size query) sender.max groups r
not_behind sender query groups r len holds full is = behind_last sender query sender.last groups r len holds.last full is

-- the size of a message with one record
pub size_alone : (sender : Sender) (query : AxfrQuery) (r : Record) → IsFor sender query
    → size query (r ∷ []) ≡ length sender.opening.items + length (record_octets r)
size_alone sender query r is_for = omega (arith, size-push query [] r, ap length is_for.opening)

-- a record in the last message
pub placed_behind : (old new : Sender) (query : AxfrQuery) (records : List Record) (r : Record) (start len : ℕ) → Holds old query records
    → old.last ≡ Some start → length old.stream.items + len ≤ old.max + start → len ≡ length (record_octets r) → new.max ≡ old.max
    → ((front : List (List Record)) (group : List Record) (mark count : List ℕ) → Stands old query start front group mark count
    → StandsWhole new query start front (push group r))
    → Holds new query (push records r)
placed_behind old new query records r start len holds is room long same whole =
    let last = last_at old query start holds.groups holds.holds is in
    let long' = length-stands old query start last.front last.group _ _ last.stands in
    let fits : size query (push last.group r) ≤ new.max = omega (arith, size-push query last.group r) in
    let P : List (List Record) → Type 0 = λ gs. IsFullCut (size query) old.max records gs in
    let Q : ℕ → Type 0 = λ max. IsFullCut (size query) max records (push last.front last.group) in
    let cut = subst Q (sym same) (subst P last.are holds.cut) in
    record {
      groups = push last.front (push last.group r);
      holds = holds_last new query start last.front (push last.group r) (whole last.front last.group _ _ last.stands);
      cut = full_cut_goes_on (size query) new.max records last.front last.group r cut fits;
    }

-- a record in a message of its own, after the others
pub placed_alone : (old new : Sender) (query : AxfrQuery) (records : List Record) (r : Record) (start len : ℕ) → (holds : Holds old query records)
    → HasNoRoom old old.last len → len ≡ length (record_octets r) → length old.opening.items + len ≤ old.max → new.max ≡ old.max
    → StandsWhole new query start holds.groups (r ∷ [])
    → Holds new query (push records r)
placed_alone old new query records r start len holds full long room same whole =
    let behind = not_behind old query holds.groups r len holds.holds full long in
    let fits : size query (r ∷ []) ≤ old.max = omega (arith, size_alone old query r holds.holds.is_for) in
    let Q : ℕ → Type 0 = λ max. IsFullCut (size query) max (push records r) (push holds.groups (r ∷ [])) in
    record {
      groups = push holds.groups (r ∷ []);
      holds = holds_last new query start holds.groups (r ∷ []) whole;
      cut = subst Q (sym same) (full_cut_opens (size query) old.max records holds.groups r holds.cut behind fits);
    }

-- a record that fits neither way
pub placed_nowhere : (sender : Sender) (query : AxfrQuery) (records : List Record) (r : Record) (len : ℕ) → Holds sender query records
    → HasNoRoom sender sender.last len → len ≡ length (record_octets r) → sender.max < length sender.opening.items + len
    → FitsNowhere sender query records r
placed_nowhere sender query records r len holds full long large = record {
  groups = holds.groups;
  cut = holds.cut;
  behind = not_behind sender query holds.groups r len holds.holds full long;
  alone = omega (arith, size_alone sender query r holds.holds.is_for);
}

-- what is before the records is short
pub opening_short : (sender : Sender) (query : AxfrQuery) → IsFor sender query → length sender.opening.items ≤ 271
opening_short sender query is_for =
    let name : List ℕ = wire query.name in
    omega (
      arith,
      ap length is_for.opening,
      size_is query [],
      is_for.name.short,
      length-append (name ++ 0 ∷ 252 ∷ []) (to_be_bytes w16 query.class),
      length-append name (0 ∷ 252 ∷ []),
    )

-- records are added, and the length and the count are overwritten
pub appended : (old new : Sender) (query : AxfrQuery) (start : ℕ) (front : List (List Record)) (group : List Record) (mark count : List ℕ)
    (more : List Record) (longer once : List ℕ) (len answers : ℕ) → Stands old query start front group mark count → IsFor new query
    → new.last ≡ Some start → new.answers ≡ answers → answers ≡ old.answers + length more
    → longer ≡ old.stream.items ++ flat_map record_octets more → len ≡ length longer - start
    → ((a b c : List ℕ) → longer ≡ a ++ (b ++ c) → length a ≡ start - 2 → length b ≡ 2 → once ≡ a ++ (to_be_bytes w16 len ++ c))
    → ((a b c : List ℕ) → once ≡ a ++ (b ++ c) → length a ≡ start + 6 → length b ≡ 2 → new.stream.items ≡ a ++ (to_be_bytes w16 answers ++ c))
    → StandsWhole new query start front (group ++ more)
appended old new query start front group mark count more longer once len answers stands is_for last counts so_many grows len_is first second =
    let frames_octets : List ℕ = frames (map (message query) front) in
    let octets = written_over frames_octets mark (before_count query) count (behind_count query) (flat_map record_octets group) (flat_map record_octets more)
    (to_be_bytes w16 len) (to_be_bytes w16 answers) old.stream.items longer once new.stream.items start
    stands.place refl stands.mark_long stands.count_long refl stands.octets grows first second in
    let long = length-stands old query start front group mark count stands in
    let size_new : len ≡ size query (group ++ more) =
    omega (arith, ap length grows, length-append old.stream.items (flat_map record_octets more), size-append query group more, len_is, long) in
    let answers_new : answers ≡ length (group ++ more) = omega (arith, length-append group more, so_many, stands.answers) in
    let records_new : flat_map record_octets group ++ flat_map record_octets more ≡ flat_map record_octets (group ++ more) =
    sym (flat_map-append record_octets group more) in
    let f : ℕ → ℕ → List ℕ → List ℕ = λ l n records. frames_octets ++ (to_be_bytes w16 l ++ (before_count query ++ (to_be_bytes w16 n ++ (behind_count query ++ records)))) in
    record {
      is_for = is_for;
      place = stands.place;
      last = last;
      answers = counts ∙ answers_new;
      mark_long = refl;
      count_long = refl;
      octets = octets ∙ ap (λ l. f l answers (flat_map record_octets group ++ flat_map record_octets more)) size_new
          ∙ ap (λ n. f (size query (group ++ more)) n (flat_map record_octets group ++ flat_map record_octets more)) answers_new
          ∙ ap (λ records. f (size query (group ++ more)) (length (group ++ more)) records) records_new;
    }
