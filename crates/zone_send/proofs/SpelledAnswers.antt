-- A message that is sent under a spelling is an answer with the records that a reader gets.
use Rattle.std.proofs.Common.{◌≡◌, ℕ, ◌+◌, ◌<◌, ◌≤◌, ◌^◌, Bool, false, List, [], ◌∷◌, ◌++◌, length, map, refl, sym, ap, ◌∙◌, subst, arith, append-nil, length-append, length-drop, inr}
use Rattle.std.specs.List.{AllByRecursion, AllZip}
use Rattle.std.specs.Int.{to_be_bytes, w16}
use Rattle.dns_octets.specs.Builder.{Known}
use Rattle.dns_name.specs.Spelling.{Spelling, folded, name_text, known_after}
use Rattle.dns_label.specs.Name.{low}
use Rattle.dns_name.specs.Page.{Page, Parts}
use Rattle.dns_name.specs.Page.Parts.{End, Octets, Named, Counted}
use Rattle.dns_name.specs.RecordData.{page_of}
use Rattle.dns_name.specs.Remembered.{sound_none}
use Rattle.dns_name.specs.SpelledParts.{SpellsParts}
use Rattle.dns_name.specs.SpelledParts.SpellsParts.{nothing, octets as spells_octets, named as spells_named, counted as spells_counted}
use Rattle.dns_header.specs.Head.{fixed_octets}
use Rattle.dns_header.specs.Header.{answer_header}
use Rattle.dns_header.specs.Question.{Question, ReadsQuestion, question_parts}
use Rattle.dns_header.proofs.Headers.{header_says}
use Rattle.dns_message.specs.Record.{IsWritten, record_parts}
use Rattle.dns_message.specs.Record.IsWritten.{fields, untold}
use Rattle.dns_message.proofs.AsWritten.{as_written_read}
use Rattle.dns_message.proofs.Opened.{BeginsWith, BeginsNamed, opened}
use Rattle.dns_message.proofs.SpelledQuestions.{question_read}
use Rattle.dns_rdata.specs.Written.{written_parts}
use Rattle.dns_compression_laws.specs.Joined.{join_parts}
use Rattle.dns_compression_laws.specs.Groups.{items, group_parts}
use Rattle.dns_compression_laws.specs.Alike.{AreAlike, HaveNames, SpellsAlike}
use Rattle.dns_compression_laws.specs.Alike.AreAlike.{end as alike_end, octets as alike_octets, named as alike_named}
use Rattle.dns_compression_laws.proofs.ReadParts.{TailsFit, parts_read}
use Rattle.dns_compression_laws.proofs.Tails.{tail, write_is}
use Rattle.zone_records.specs.Record.{Record}
use Rattle.zone_records.specs.Records.{IsSendable}
use Rattle.zone_records.specs.Zone.{axfr_type}
use Rattle.zone_core.specs.Query.{AxfrQuery, question_of}
use Rattle.zone_send.specs.Sent.{IsQueryFor}
use Rattle.zone_send.specs.Spelled.{answer_head, spelled_size}
use Rattle.zone_send.specs.SpelledSent.{spelled_message}
use Rattle.zone_core.specs.Frames.{IsFramable}
use Rattle.zone_core.specs.Transfer.{IsQuestionOf, SpellsRecords, IsAnswer, AreAnswers}
use Rattle.zone_core.specs.Transfer.SpellsRecords.{none, one}
use Rattle.zone_send.proofs.Plain.{length-header}
use Rattle.zone_send.proofs.SpelledSums.{written_names}
use Rattle.zone_send.proofs.AlikeRecords.{IsTaken, low_same, taken_parts}

-- lengths fit if everything that is written is small
tails_small : (s : Spelling) (known : Known) (place : ℕ) (parts : Parts) → length (tail s known place parts).octets < 2 ^ 16
    → TailsFit s known place parts
tails_small s known place End small = tt
tails_small s known place (Octets text parts) small =
    tails_small s known (place + length text) parts (omega (arith, small, length-append text (tail s known (place + length text) parts).octets))
tails_small s known place (Named name parts) small =
    let text : List ℕ = name_text s known place name in
    let after : Known = known_after s known place name in
    tails_small s after (place + length text) parts (omega (arith, small, length-append text (tail s after (place + length text) parts).octets))
tails_small s known place (Counted inner parts) small =
    let t : Page = tail s known (place + 2) inner in
    let u : Page = tail s t.known (place + 2 + length t.octets) parts in
    let mark : List ℕ = to_be_bytes w16 (length t.octets) in
    let long = length-append (mark ++ t.octets) u.octets in
    let long' = length-append mark t.octets in (
      omega (arith, small, long, long'),
      tails_small s known (place + 2) inner (omega (arith, small, long, long')),
      tails_small s t.known (place + 2 + length t.octets) parts (omega (arith, small, long, long')),
    )

-- the names of the parts of a message are names
names_join : (a b : Parts) → HaveNames a → HaveNames b → HaveNames (join_parts a b)
names_join End b own other = other
names_join (Octets text a) b own other = names_join a b own other
names_join (Named name a) b own other = (own.0, names_join a b own.1 other)
names_join (Counted inner a) b own other = (own.0, names_join a b own.1 other)

items_names : (item : Record → Parts) (class : ℕ) (group : List Record) → AllByRecursion (IsSendable class) group
    → AllByRecursion (λ r. IsWritten r (item r)) group → HaveNames (items item group)
items_names item class [] each given = tt
items_names item class (r ∷ group) each given =
    names_join (item r) (items item group) (written_names r (item r) each.0.lawful given.0) (items_names item class group each.1 given.1)

-- a record takes at least one octet
around : (s : Spelling) (owner : List (List ℕ)) (text : List ℕ) (inner more : Parts) (known : Known) (place count : ℕ) → 1 ≤ length text
    → ((known : Known) (place : ℕ) → count ≤ length (tail s known place more).octets)
    → count + 1 ≤ length (tail s known place (Named owner (Octets text (Counted inner more)))).octets
around s owner text inner more known place count some onward =
    let name : List ℕ = name_text s known place owner in
    let after : Known = known_after s known place owner in
    let at : ℕ = place + length name + length text in
    let t : Page = tail s after (at + 2) inner in
    let u : Page = tail s t.known (at + 2 + length t.octets) more in
    let mark : List ℕ = to_be_bytes w16 (length t.octets) in
    omega (
      arith,
      some,
      onward t.known (at + 2 + length t.octets),
      length-append name (text ++ ((mark ++ t.octets) ++ u.octets)),
      length-append text ((mark ++ t.octets) ++ u.octets),
      length-append (mark ++ t.octets) u.octets,
    )

one_more : (s : Spelling) (r : Record) {parts : Parts} (more : Parts) (known : Known) (place count : ℕ) → IsWritten r parts
    → ((known : Known) (place : ℕ) → count ≤ length (tail s known place more).octets)
    → count + 1 ≤ length (tail s known place (join_parts parts more)).octets
one_more s r more known place count (fields row is_row is) onward =
    around s r.owner (fixed_octets r.rtype r.class r.ttl) (written_parts row) more known place count (omega arith) onward
one_more s r more known place count (untold no_row) onward =
    around s r.owner (fixed_octets r.rtype r.class r.ttl) (Octets r.rdata End) more known place count (omega arith) onward

few_items : (s : Spelling) (item : Record → Parts) (group : List Record) → AllByRecursion (λ r. IsWritten r (item r)) group
    → (known : Known) (place : ℕ) → length group ≤ length (tail s known place (items item group)).octets
few_items s item [] given known place = omega arith
few_items s item (r ∷ group) given known place =
    omega (arith, one_more s r (items item group) known place (length group) given.0 (few_items s item group given.1))

-- a record's parts with more parts after them
record_spelled : {message : List ℕ} {place next : ℕ} (r : Record) (inner rest : Parts)
    → SpellsParts message place (Named r.owner (Octets (fixed_octets r.rtype r.class r.ttl) (Counted inner rest))) next
    → (behind : ℕ) × SpellsParts message place (record_parts r inner) behind × SpellsParts message behind rest next
record_spelled r inner rest spelled =
    let begun = opened spelled in
    let numbers = opened begun.behind in
    let held = opened numbers.behind in
    let inside = spells_counted held.count held.rest held.at held.small held.within held.held (nothing held.within) in (
      begun.end + length (fixed_octets r.rtype r.class r.ttl) + 2 + held.count,
      spells_named begun.end begun.reads (spells_octets numbers.rest numbers.at inside),
      held.behind,
    )

-- the records that a reader gets for those of a group
record TakenRecords (s : Spelling) (message : List ℕ) (place : ℕ) (group : List Record) (next : ℕ) : Type 0 where
  others : List Record
  taken : AllZip (IsTaken s) group others
  spelled : SpellsRecords message place others next

nothing_alike : {s : Spelling} {read : Parts} → AreAlike s End read → read ≡ End
nothing_alike alike_end = refl

records_taken : (s : Spelling) (item : Record → Parts) (class : ℕ) (message : List ℕ) (place next : ℕ) (group : List Record) (read : Parts)
    → AllByRecursion (IsSendable class) group → AllByRecursion (λ r. IsWritten r (item r)) group
    → AreAlike s (items item group) read → SpellsParts message place read next → TakenRecords s message place group next
records_taken s item class message place next [] read each given alike spelled =
    let P : ℕ → Type 0 = λ next. SpellsRecords message place [] next in
    let at_end : SpellsParts message place End next = subst (λ p. SpellsParts message place p next) (nothing_alike alike) spelled in
    let ends : next ≡ place = opened at_end in
    record { others = []; taken = tt; spelled = subst P (sym ends) none }
records_taken s item class message place next (r ∷ group) read each given alike spelled =
    let t = taken_parts s r (items item group) read each.0.lawful given.0 alike in
    let first = record_spelled t.other t.data_parts t.rest (subst (λ p. SpellsParts message place p next) t.read_is spelled) in
    let goes = records_taken s item class message first.0 next group t.rest each.1 given.1 t.alike first.2 in
    record {
      others = t.other ∷ goes.others;
      taken = (t.taken, goes.taken);
      spelled = one first.0 (as_written_read t.other t.taken.lawful t.is_written first.1) goes.spelled;
    }

-- the parts of a message, as a reader gets them
record AlikeMessage (s : Spelling) (header : List ℕ) (name : List (List ℕ)) (numbers : List ℕ) (more read : Parts) : Type 0 where
  other : List (List ℕ)
  rest : Parts
  same : map (folded s) name ≡ map (folded s) other
  alike : AreAlike s more rest
  read_is : read ≡ Octets header (Named other (Octets numbers rest))

message_alike : {s : Spelling} {header : List ℕ} {name : List (List ℕ)} {numbers : List ℕ} {more read : Parts}
    → AreAlike s (Octets header (Named name (Octets numbers more))) read → AlikeMessage s header name numbers more read
message_alike (alike_octets _ (alike_named {other = other} same (alike_octets {others = rest} _ alike))) = record {
  other = other;
  rest = rest;
  same = same;
  alike = alike;
  read_is = refl;
}

pub zip_long : {A B : Type 0} (R : A → B → Type 0) (xs : List A) (ys : List B) → AllZip R xs ys → length xs ≡ length ys
zip_long R [] [] all = refl
zip_long R [] (y ∷ ys) all = absurd all
zip_long R (x ∷ xs) [] all = absurd all
zip_long R (x ∷ xs) (y ∷ ys) all = omega (arith, zip_long R xs ys all.1)

-- the records that a reader gets from an answer
pub record SpelledAnswer (s : Spelling) (query : AxfrQuery) (first : Bool) (message : List ℕ) (group : List Record) : Type 0 where
  pub others : List Record
  pub taken : AllZip (IsTaken s) group others
  pub answer : IsAnswer query first message others

-- the octets of a message: its header, and what follows it
abbrev header_of : AxfrQuery → List Record → List ℕ
header_of query group = answer_header query.id query.recursion (length group)

abbrev numbers_of : AxfrQuery → List ℕ
numbers_of query = to_be_bytes w16 axfr_type ++ to_be_bytes w16 query.class

abbrev behind_header : Spelling → (Record → Parts) → AxfrQuery → List Record → List ℕ
behind_header s item query group = (tail s [] 12 (join_parts (question_parts (question_of query)) (items item group))).octets

message_is : (s : Spelling) (item : Record → Parts) (query : AxfrQuery) (group : List Record)
    → spelled_message s query item group ≡ header_of query group ++ behind_header s item query group
message_is s item query group = ap (λ (p : Page). p.octets) (write_is s (page_of [] []) (group_parts (answer_head query) item group))

-- its records are at most as many as its octets
few_records : (s : Spelling) (item : Record → Parts) (query : AxfrQuery) (group : List Record)
    → AllByRecursion (λ r. IsWritten r (item r)) group → length group ≤ length (behind_header s item query group)
few_records s item query group given =
    let name : List ℕ = name_text s [] 12 query.name in
    let after : Known = known_after s [] 12 query.name in
    let u : Page = tail s after (12 + length name + 4) (items item group) in
    omega (
      arith,
      few_items s item group given after (12 + length name + 4),
      length-append name (numbers_of query ++ u.octets),
      length-append (numbers_of query) u.octets,
    )

-- the question that a reader gets, and what follows it
record TakenQuestion (query : AxfrQuery) (message : List ℕ) (rest : Parts) (next : ℕ) : Type 0 where
  place : ℕ
  q : Question
  reads : ReadsQuestion message 12 q place
  is : IsQuestionOf query q
  behind : SpellsParts message place rest next

question_taken : (query : AxfrQuery) (group : List Record) (message : List ℕ) (next : ℕ) (name : List (List ℕ)) (rest : Parts)
    → query.class < 2 ^ 16 → low name ≡ low query.name
    → SpellsParts message 0 (Octets (header_of query group) (Named name (Octets (numbers_of query) rest))) next
    → TakenQuestion query message rest next
question_taken query group message next name rest fits same spelled =
    let begun = opened spelled in
    let named : BeginsNamed message 12 name (Octets (numbers_of query) rest) next = opened begun.behind in
    let numbers : BeginsWith message named.end (numbers_of query) rest next = opened named.behind in
    let within : named.end + 4 ≤ length message = omega (arith, length-drop named.end message, ap (length {A = ℕ}) numbers.at) in
    let q : Question = record { name = name; qtype = axfr_type; qclass = query.class } in
    let parts : SpellsParts message 12 (question_parts q) (named.end + 4) =
    spells_named named.end named.reads (spells_octets numbers.rest numbers.at (nothing within)) in
    record {
      place = named.end + 4;
      q = q;
      reads = question_read message 12 (named.end + 4) q parts (omega arith) fits;
      is = record { name = same; qtype = refl; qclass = refl };
      behind = numbers.behind;
    }

module _ (s : Spelling) (item : Record → Parts) (query : AxfrQuery) (first : Bool) (class : ℕ) (records group : List Record)
    (asks : IsQueryFor records class query) (each : AllByRecursion (IsSendable class) group)
    (given : AllByRecursion (λ r. IsWritten r (item r)) group) where
  -- the parts that a reader gets from the message
  octets_read : length (header_of query group ++ behind_header s item query group) < 2 ^ 16
      → SpellsAlike s (header_of query group ++ behind_header s item query group) 0 (group_parts (answer_head query) item group)
      (length (header_of query group ++ behind_header s item query group))
  octets_read small =
      let message : List ℕ = header_of query group ++ behind_header s item query group in
      let parts : Parts = group_parts (answer_head query) item group in
      let names : HaveNames parts = (asks.name, items_names item class group each given) in
      let read = parts_read s [] [] 0 refl parts (sound_none s []) names (tails_small s [] 0 parts small) [] in
      subst (λ n. SpellsAlike s message 0 parts n) (omega arith)
      (subst (λ l. SpellsAlike s l 0 parts (0 + length message)) (append-nil message) read)

  octets_answer : length (header_of query group ++ behind_header s item query group) < 2 ^ 16
      → SpelledAnswer s query first (header_of query group ++ behind_header s item query group) group
  octets_answer small =
      let behind : List ℕ = behind_header s item query group in
      let message : List ℕ = header_of query group ++ behind in
      let read = octets_read small in
      let m : AlikeMessage s (header_of query group) query.name (numbers_of query) (items item group) read.read = message_alike read.alike in
      let spelled = subst (λ p. SpellsParts message 0 p (length message)) m.read_is read.spelled in
      let asked = question_taken query group message (length message) m.other m.rest asks.class_fits
      (sym (low_same s query.name m.other m.same)) spelled in
      let found = records_taken s item class message asked.place (length message) group m.rest each given m.alike asked.behind in
      let many = zip_long (IsTaken s) group found.others found.taken in
      let long = length-append (header_of query group) behind in
      let few : length group < 2 ^ 16 = omega (arith, few_records s item query group given, long, small) in
      let says = header_says query.id query.recursion (length group) behind asks.id few in
      record {
        others = found.others;
        taken = found.taken;
        answer = record {
          header = record {
            long = omega (arith, long, length-header query (length group));
            id = says.id_is;
            response = says.response;
            opcode = says.opcode;
            rcode = says.rcode;
            counts = record { questions = omega (arith, says.questions); authority = says.authority; additional = says.additional };
          };
          place = asked.place;
          asked = inr (says.questions, asked.q, asked.reads, asked.is);
          counted = says.answers_are ∙ many;
          spelled = found.spelled;
        };
      }

  -- the message of a group that isn't too large is an answer
  answer_spelled : spelled_size s query item group < 2 ^ 16 → SpelledAnswer s query first (spelled_message s query item group) group
  answer_spelled small =
      let is = message_is s item query group in
      subst (λ m. SpelledAnswer s query first m group) (sym is) (octets_answer (subst (λ (m : List ℕ). length m < 2 ^ 16) is small))

-- the records that a reader gets from several answers
pub record SpelledAnswers (s : Spelling) (query : AxfrQuery) (first : Bool) (messages : List (List ℕ)) (groups : List (List Record)) : Type 0 where
  pub others : List (List Record)
  pub taken : AllZip (AllZip (IsTaken s)) groups others
  pub answers : AreAnswers query first messages others

-- messages of groups that aren't too large are answers
pub answers_spelled : (s : Spelling) (item : Record → Parts) (query : AxfrQuery) (first : Bool) (class : ℕ) (records : List Record)
    (groups : List (List Record)) → IsQueryFor records class query → AllByRecursion (AllByRecursion (IsSendable class)) groups
    → AllByRecursion (AllByRecursion (λ r. IsWritten r (item r))) groups
    → AllByRecursion (λ group. spelled_size s query item group < 2 ^ 16) groups
    → SpelledAnswers s query first (map (spelled_message s query item) groups) groups
answers_spelled s item query first class records [] asks each given small = record { others = []; taken = tt; answers = tt }
answers_spelled s item query first class records (group ∷ groups) asks each given small =
    let own = answer_spelled s item query first class records group asks each.0 given.0 small.0 in
    let on = answers_spelled s item query false class records groups asks each.1 given.1 small.1 in
    record { others = own.others ∷ on.others; taken = (own.taken, on.taken); answers = (own.answer, on.answers) }

-- and their lengths fit in two octets
pub framable_spelled : (s : Spelling) (item : Record → Parts) (query : AxfrQuery) (groups : List (List Record))
    → AllByRecursion (λ group. spelled_size s query item group < 2 ^ 16) groups
    → AllByRecursion IsFramable (map (spelled_message s query item) groups)
framable_spelled s item query [] small = tt
framable_spelled s item query (group ∷ groups) small = (small.0, framable_spelled s item query groups small.1)
