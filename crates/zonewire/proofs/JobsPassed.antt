-- What the program sends for a text, it receives.
use Rattle.std.proofs.Common.{◌≡◌, ◌∙◌, ℕ, ◌<◌, ◌^◌, List, [], ◌∷◌, Option, Some, None, refl, sym, ap, subst, append-nil}
use Rattle.std.specs.Prelude.{IfSome, unwrap_or}
use Rattle.dns_label.specs.Name.{IsName, low}
use Rattle.dns_label.specs.Octets.{AreOctets}
use Rattle.dns_name.specs.Spelling.{hash_spelling, static_spelling, tree_spelling}
use Rattle.dns_text.specs.Layout.{layout_of}
use Rattle.dns_text.specs.declared.layout.DisplayKind.{DisplayKind}
use Rattle.zone_records.specs.Record.{Record}
use Rattle.zone_records.specs.Records.{AreRecordsOf, AreSendable}
use Rattle.zone.specs.View.{apex_of}
use Rattle.zone.specs.Printed.{IsPrinted}
use Rattle.zone.specs.ZoneText.{IsZoneText}
use Rattle.zone.proofs.OneFault.{one_reading}
use Rattle.zone.proofs.PrintedOnce.{some_printed}
use Rattle.zone_core.specs.Query.{AxfrQuery, IsQuery, query_octets}
use Rattle.zone_core.specs.Transfer.{IsTransfer}
use Rattle.zone_core.proofs.MadeQueries.{made_query}
use Rattle.zone_core.proofs.OneQuery.{query_one}
use Rattle.zone_send.specs.Best.{IsTransferBy}
use Rattle.zone_send.specs.Sent.{AsksFor, IsQueryFor}
use Rattle.zone_send.specs.SentBy.{IsSentBy}
use Rattle.zone_core.specs.declared.spelling.Spelling.{Spelling}
use Rattle.zone_core.specs.declared.spelling.Spelling.TheVariants.{Plain, Static, Tree, Hash}
use Rattle.zone_send.proofs.SentTransfers.{sendable_is_transfer}
use Rattle.zone_send.proofs.SpelledTransfers.{spelled_exact, spelled_taken}
use Rattle.zonewire.specs.Output.{IsReceiveOutput, IsSendOutput, query_of}
use Rattle.zonewire.specs.Passed.{ArePassedBy, HasLawfulValues}
use Rattle.zonewire_words.specs.declared.jobs.Job.TheVariants.{Send}
use Rattle.zonewire.proofs.AskedNames.{AskAlike, transfer_for_other}
use Rattle.zonewire.proofs.Passed.{passed_by}
use Rattle.zonewire.proofs.SendableTexts.{text_sendable}
use Rattle.zonewire.proofs.SpelledOctets.{transfer_is_zone}

transfer_by : (spelling : Spelling) (class : ℕ) (query : AxfrQuery) (records : List Record) (max : ℕ) (stream : List ℕ) → max < 2 ^ 16
    → AreSendable class records → IsQueryFor records class query → IsSentBy spelling records query max stream
    → IsTransferBy spelling query stream records
transfer_by Plain class query records max stream fits are asks sent = sendable_is_transfer records class query max stream fits are asks sent
transfer_by Static class query records max stream fits are asks sent =
    let t = spelled_taken static_spelling records class query max stream fits are asks sent in
    record { others = t.0; transfer = t.1; near = t.2 }
transfer_by Tree class query records max stream fits are asks sent =
    spelled_exact tree_spelling records class query max stream refl fits are asks sent
transfer_by Hash class query records max stream fits are asks sent =
    let t = spelled_taken hash_spelling records class query max stream fits are asks sent in
    record { others = t.0; transfer = t.1; near = t.2 }

-- a transfer that is received
record SomeTransfer (query : AxfrQuery) (stream : List ℕ) : Type 0 where
  others : List Record
  transfer : IsTransfer query stream others

some_transfer : (spelling : Spelling) (query : AxfrQuery) (stream : List ℕ) (records : List Record) → IsTransferBy spelling query stream records
    → SomeTransfer query stream
some_transfer Plain query stream records by = record { others = records; transfer = by.transfer }
some_transfer Static query stream records by = record { others = by.others; transfer = by.transfer }
some_transfer Tree query stream records by = record { others = records; transfer = by.transfer }
some_transfer Hash query stream records by = record { others = by.others; transfer = by.transfer }

-- The records that are received, and the output of the job that receives them.
pub record IsReceivedBack (spelling : Spelling) (kind : DisplayKind) (class id : ℕ) (name : List (List ℕ)) (records : List Record)
    (stream : List ℕ) : Type 0 where
  pub others : List Record
  pub passed : ArePassedBy spelling records others
  pub known : AreRecordsOf class others
  pub printed : List ℕ
  pub print : IsPrinted (layout_of kind) others printed
  pub output : IsReceiveOutput class id name kind stream printed

-- the name that is asked for
asked_name : (apex : Option (List (List ℕ))) (class : ℕ) (records : List Record) → IfSome apex IsName → AreSendable class records
    → IsName (unwrap_or apex (apex_of records))
asked_name (Some name) class records known are = known
asked_name None class [] known are = absurd are.zone
asked_name None class (soa ∷ others) known are = are.each.0.lawful.owner

module _ (spelling : Spelling) (kind : DisplayKind) (origin apex : Option (List (List ℕ))) (class id max : ℕ) (name : List (List ℕ))
    (records : List Record) (text stream : List ℕ) where
  received_back : HasLawfulValues (Send origin class id apex max spelling) → IsName name → AreOctets stream
      → IsZoneText text origin class records → low name ≡ low (unwrap_or apex (apex_of records))
      → (query : AxfrQuery) → IsQuery (query_octets (query_of id class apex records)) query
      → AsksFor query (apex_of records) class → IsSentBy spelling records query max stream
      → IsReceivedBack spelling kind class id name records stream
  received_back values named each zone same query asked asks sent =
      let small : class < 2 ^ 16 = values.1 in
      let short : id < 2 ^ 16 = values.2 in
      let are = text_sendable text origin class records values.0 small zone in
      let own : AxfrQuery = query_of id class apex records in
      let made = made_query own refl short (asked_name apex class records values.3 are) small zone.class_known in
      let is_own : query ≡ own = query_one (query_octets own) query own asked made in
      let other : AxfrQuery = query_of id class (Some name) [] in
      let alike : AskAlike query other = record {
        id = ap (λ (q : AxfrQuery). q.id) is_own;
        name = ap (λ (q : AxfrQuery). low q.name) is_own ∙ sym same;
        class = ap (λ (q : AxfrQuery). q.class) is_own;
      } in
      let is_for : IsQueryFor records class query = record {
        id = subst (λ (n : ℕ). n < 2 ^ 16) (sym alike.id) short;
        name = asked.question.name.is_name;
        class_fits = subst (λ (n : ℕ). n < 2 ^ 16) (sym asks.class_is) small;
        asks = asks;
      } in
      let by = transfer_by spelling class query records max stream values.4 are is_for sent in
      let some = some_transfer spelling query stream records by in
      let zone_again : AreRecordsOf class some.others =
      subst (λ (n : ℕ). AreRecordsOf n some.others) asks.class_is (transfer_is_zone query stream some.others each some.transfer) in
      let text_again = some_printed (layout_of kind) class some.others zone_again.each in
      record {
        others = some.others;
        passed = passed_by spelling query stream records some.others by some.transfer;
        known = zone_again;
        printed = text_again.0;
        print = text_again.1;
        output = record {
          records = some.others;
          received = record {
            query = other;
            asked = made_query other refl short named small zone.class_known;
            stream = stream;
            behind = [];
            begins = sym (append-nil stream);
            transfer = transfer_for_other query other alike stream some.others some.transfer;
          };
          text = text_again.1;
        };
      }

  pub sent_back : HasLawfulValues (Send origin class id apex max spelling) → IsName name → AreOctets stream
      → IsZoneText text origin class records → low name ≡ low (unwrap_or apex (apex_of records))
      → IsSendOutput origin class id apex max spelling text stream → IsReceivedBack spelling kind class id name records stream
  sent_back values named each zone same_name output =
      let same : output.records ≡ records = one_reading text origin class output.records records output.text zone in
      received_back values named each zone same_name output.query
      (subst (λ (rs : List Record). IsQuery (query_octets (query_of id class apex rs)) output.query) same output.asked)
      (subst (λ (rs : List Record). AsksFor output.query (apex_of rs) class) same output.asks)
      (subst (λ (rs : List Record). IsSentBy spelling rs output.query max stream) same output.sent)
