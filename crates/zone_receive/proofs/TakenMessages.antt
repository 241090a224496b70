-- The records of a message are taken one after another.
use Rattle.std.proofs.Common.{◌≡◌, ℕ, ◌+◌, ◌<◌, Bool, false, List, [], ◌∷◌, ◌++◌, length, refl, sym, ◌∙◌, subst, arith, append_assoc, append-nil, length-append, inl, inr, ◌⊎◌}
use Rattle.std.specs.List.{push}
use Rattle.dns_octets.specs.declared.parser.Parser.{Parser}
use Rattle.dns_octets.specs.Parser.{octets_of, place_of}
use Rattle.dns_header.specs.Header.{answer_count}
use Rattle.zone_records.specs.Record.{Record}
use Rattle.zone_core.specs.Query.{AxfrQuery}
use Rattle.dns_message.specs.Record.{ReadsRecord}
use Rattle.zone_core.specs.Transfer.{AsksAgain, HasAnswerHeader, SpellsRecords}
use Rattle.zone_core.specs.Transfer.SpellsRecords.{none, one}
use Rattle.zone_receive.specs.Receiving.{IsOpen, IsClosed, IsRecordFault, IsMessageFault, KeepsRulesTo}
use Rattle.zone_receive.specs.FrameBuffer.{HoldsFront, IsFaultOr, TakesRecord}
use Rattle.zone_receive.specs.FrameBuffer.HoldsFront.{begun, ended}
use Rattle.zone_receive.specs.declared.error.ReceiveError.{ReceiveError}
use Rattle.zone_receive.specs.declared.error.ReceiveError.TheVariants as receive_error

-- The parser is after the first records of a message, which keep all rules after those before them.
pub record HasTaken (query : AxfrQuery) (front : List Record) (first : Bool) (message : List ℕ) (count : ℕ) (parser : Parser)
    (held : List Record) (closed : Bool) : Type 0 where
  pub group : List Record
  pub octets : octets_of parser ≡ message
  pub counted : length group ≡ count
  pub rules : KeepsRulesTo query front first message group (place_of parser)
  pub holds : HoldsFront query held closed (front ++ group)

-- the records so far are lawful
holds_lawful : {query : AxfrQuery} {held front : List Record} {closed : Bool} → HoldsFront query held closed front
    → IsOpen query front ⊎ IsClosed query front
holds_lawful (begun still) = inl still
holds_lawful {held = held} (ended last all closes) = inr (record { front = held; last = last; splits = refl; transferred = all; closes = closes })

-- before the first record
pub taken_none : (query : AxfrQuery) (front : List Record) (first : Bool) (message : List ℕ) (start : ℕ) (parser : Parser)
    → HasAnswerHeader query message → AsksAgain query first message start → octets_of parser ≡ message → place_of parser ≡ start
    → IsOpen query front → HasTaken query front first message 0 parser front false
taken_none query front first message start parser header asked octets place still =
    let P : List Record → Type 0 = λ all. HoldsFront query front false all in
    let Q : List Record → Type 0 = λ all. IsOpen query all ⊎ IsClosed query all in
    let R : ℕ → Type 0 = λ here. SpellsRecords message start [] here in
    record {
      group = [];
      octets = octets;
      counted = refl;
      rules = record {
        header = header;
        start = start;
        asked = asked;
        spelled = subst R (sym place) none;
        lawful = subst Q (sym (append-nil front)) (inl still);
      };
      holds = subst P (sym (append-nil front)) (begun still);
    }

-- one more record is spelled
spells_more : {message : List ℕ} {place here next : ℕ} {records : List Record} (r : Record) → SpellsRecords message place records here
    → ReadsRecord message here r next → SpellsRecords message place (push records r) next
spells_more {next = next} r none has = one next has none
spells_more r (one behind first rest) has = one behind first (spells_more r rest has)

-- one more record is taken
pub taken_more : (query : AxfrQuery) (front : List Record) (first : Bool) (message : List ℕ) (count : ℕ) (parser next : Parser)
    (held more : List Record) (closed ends : Bool) → HasTaken query front first message count parser held closed
    → octets_of next ≡ octets_of parser
    → ((xs : List Record) → HoldsFront query held closed xs → TakesRecord query (octets_of parser) (place_of parser) (place_of next) more ends xs)
    → HasTaken query front first message (count + 1) next more ends
taken_more query front first message count parser next held more closed ends taken same takes =
    let one = takes (front ++ taken.group) taken.holds in
    let P : List ℕ → Type 0 = λ octets. ReadsRecord octets (place_of parser) one.r (place_of next) in
    let Q : List Record → Type 0 = λ all. HoldsFront query more ends all in
    let R : List Record → Type 0 = λ all. IsOpen query all ⊎ IsClosed query all in
    let joined : (front ++ taken.group) ++ one.r ∷ [] ≡ front ++ (taken.group ++ one.r ∷ []) = append_assoc front taken.group (one.r ∷ []) in
    let holds = subst Q joined one.holds in
    record {
      group = push taken.group one.r;
      octets = same ∙ taken.octets;
      counted = omega (arith, taken.counted, length-append taken.group (one.r ∷ []));
      rules = record {
        header = taken.rules.header;
        start = taken.rules.start;
        asked = taken.rules.asked;
        spelled = spells_more one.r taken.rules.spelled (subst P taken.octets one.has);
        lawful = holds_lawful holds;
      };
      holds = holds;
    }

-- a fault of a record is one of its message
record_fault : (query : AxfrQuery) (front : List Record) (first : Bool) (message : List ℕ) (group : List Record) (place : ℕ) (error : ReceiveError)
    → KeepsRulesTo query front first message group place → length group < answer_count message
    → IsRecordFault query (front ++ group) message place error → IsMessageFault query front first message error
record_fault query front first message group place (receive_error.Query why) rules few fault = absurd fault
record_fault query front first message group place receive_error.Short rules few fault = absurd fault
record_fault query front first message group place receive_error.Id rules few fault = absurd fault
record_fault query front first message group place receive_error.NotResponse rules few fault = absurd fault
record_fault query front first message group place receive_error.Opcode rules few fault = absurd fault
record_fault query front first message group place (receive_error.Rcode rcode) rules few fault = absurd fault
record_fault query front first message group place receive_error.Counts rules few fault = absurd fault
record_fault query front first message group place receive_error.Question rules few fault = absurd fault
record_fault query front first message group place (receive_error.Record n) rules few fault = (group, place, rules, few, fault)
record_fault query front first message group place receive_error.FirstNotSoa rules few fault = (group, place, rules, few, fault)
record_fault query front first message group place (receive_error.Class n) rules few fault = (group, place, rules, few, fault)
record_fault query front first message group place (receive_error.OutOfZone n) rules few fault = (group, place, rules, few, fault)
record_fault query front first message group place (receive_error.SoaDiffers n) rules few fault = (group, place, rules, few, fault)
record_fault query front first message group place (receive_error.AfterLast n) rules few fault = (group, place, rules, few, fault)
record_fault query front first message group place (receive_error.Unspellable n) rules few fault = (group, place, rules, few, fault)
record_fault query front first message group place receive_error.Trailing rules few fault = absurd fault
record_fault query front first message group place receive_error.Unfinished rules few fault = absurd fault
record_fault query front first message group place receive_error.OutOfMemory rules few fault = absurd fault

-- a fault that implies another, or out of memory
fault_on : (Fault Other : ReceiveError → Type 0) (error : ReceiveError) → ((e : ReceiveError) → Fault e → Other e) → IsFaultOr Fault error
    → IsFaultOr Other error
fault_on Fault Other (receive_error.Query why) on fault = on _ fault
fault_on Fault Other receive_error.Short on fault = on _ fault
fault_on Fault Other receive_error.Id on fault = on _ fault
fault_on Fault Other receive_error.NotResponse on fault = on _ fault
fault_on Fault Other receive_error.Opcode on fault = on _ fault
fault_on Fault Other (receive_error.Rcode rcode) on fault = on _ fault
fault_on Fault Other receive_error.Counts on fault = on _ fault
fault_on Fault Other receive_error.Question on fault = on _ fault
fault_on Fault Other (receive_error.Record n) on fault = on _ fault
fault_on Fault Other receive_error.FirstNotSoa on fault = on _ fault
fault_on Fault Other (receive_error.Class n) on fault = on _ fault
fault_on Fault Other (receive_error.OutOfZone n) on fault = on _ fault
fault_on Fault Other (receive_error.SoaDiffers n) on fault = on _ fault
fault_on Fault Other (receive_error.AfterLast n) on fault = on _ fault
fault_on Fault Other (receive_error.Unspellable n) on fault = on _ fault
fault_on Fault Other receive_error.Trailing on fault = on _ fault
fault_on Fault Other receive_error.Unfinished on fault = on _ fault
fault_on Fault Other receive_error.OutOfMemory on fault = tt

-- a record is bad
pub taken_fault : (query : AxfrQuery) (front : List Record) (first : Bool) (message : List ℕ) (count : ℕ) (parser : Parser)
    (held : List Record) (closed : Bool) (error : ReceiveError) → HasTaken query front first message count parser held closed
    → count < answer_count message
    → IsFaultOr (λ e. (xs : List Record) → HoldsFront query held closed xs → IsRecordFault query xs (octets_of parser) (place_of parser) e) error
    → IsFaultOr (IsMessageFault query front first message) error
taken_fault query front first message count parser held closed error taken few fault =
    let Fault : ReceiveError → Type 0 = λ e. (xs : List Record) → HoldsFront query held closed xs → IsRecordFault query xs (octets_of parser) (place_of parser) e in
    let here : (e : ReceiveError) → Fault e → IsMessageFault query front first message e = λ e why.
    let P : List ℕ → Type 0 = λ octets. IsRecordFault query (front ++ taken.group) octets (place_of parser) e in
    record_fault query front first message taken.group (place_of parser) e taken.rules (omega (arith, few, taken.counted))
    (subst P taken.octets (why (front ++ taken.group) taken.holds)) in
    fault_on Fault (IsMessageFault query front first message) error here fault
