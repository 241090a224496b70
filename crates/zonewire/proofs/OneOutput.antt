-- A job has at most one output for an input, or one fault.
use Rattle.std.proofs.Common.{◌≡◌, ◌≢◌, ◌∙◌, ℕ, List, Option, refl, sym, ap, subst}
use Rattle.dns_text.specs.Layout.{layout_of}
use Rattle.dns_text.specs.declared.layout.DisplayKind.{DisplayKind}
use Rattle.zone_records.specs.Record.{Record}
use Rattle.zone_canonical.specs.Canonical.{IsCanonical}
use Rattle.zone_canonical.proofs.Alike.{one_canonical}
use Rattle.zone.specs.View.{apex_of}
use Rattle.zone.specs.Printed.{IsPrinted}
use Rattle.zone.specs.ZoneText.{IsZoneFault, IsZoneText}
use Rattle.zone.specs.declared.zone_error.ZoneError.{ZoneError}
use Rattle.zone.specs.declared.zone_error.ZoneError.TheVariants as zone_error
use Rattle.zone.proofs.OneFault.{one_fault, one_reading, zone_no_fault}
use Rattle.zone.proofs.PrintedOnce.{one_printed}
use Rattle.zone_core.specs.Query.{AxfrQuery, IsQuery, IsQueryFault, query_octets}
use Rattle.zone_core.specs.Transfer.{IsTransfer}
use Rattle.zone_core.specs.declared.query_error.QueryError.{QueryError}
use Rattle.zone_core.proofs.OneQuery.{query_fault_one, query_no_fault, query_one}
use Rattle.zone_core.proofs.OneTransfer.{transfer_one}
use Rattle.zone_send.specs.Sent.{AsksFor}
use Rattle.zone_send.specs.SentBy.{IsBlockedBy, IsSendFault, IsSentBy}
use Rattle.zone_core.specs.declared.spelling.Spelling.{Spelling}
use Rattle.zone_send.specs.declared.sending.error.SendError.{SendError}
use Rattle.zone_send.specs.declared.sending.error.SendError.TheVariants as send_error
use Rattle.zone_send.proofs.SentOnce.{blocked_once, sent_once, sent_or_blocked}
use Rattle.zone_receive.specs.Receiving.{HasBadMessage, IsBegun}
use Rattle.zone_receive.specs.declared.error.ReceiveError.{ReceiveError}
use Rattle.zone_receive.specs.declared.error.ReceiveError.TheVariants as receive_error
use Rattle.zone_receive.proofs.OneOfThree.{bad_one, begun_not_bad, transfer_beginning_one, transfer_not_bad, transfer_not_begun}
use Rattle.zonewire.specs.Output.{IsCanonOutput, IsCheckOutput, IsJobFault, IsNotSent, IsOutput, IsReceived, IsReceiveJobFault, IsReceiveOutput, IsSendJobFault, IsSendOutput, IsTextJobFault, asking_for, count_line, query_of}
use Rattle.zonewire_words.specs.declared.jobs.Job.{Job}
use Rattle.zonewire_words.specs.declared.jobs.Job.TheVariants as job
use Rattle.zonewire.specs.declared.fault.Fault.{Fault}
use Rattle.zonewire.specs.declared.fault.Fault.TheVariants as fault

-- ---- texts

-- the fault is a rule that the text breaks
record IsTextFault (origin : Option (List (List ℕ))) (class : ℕ) (input : List ℕ) (e : Fault) : Type 0 where
  error : ZoneError
  real : error ≢ zone_error.OutOfMemory
  is : e ≡ fault.Zone error
  broken : IsZoneFault input origin class error

text_fault : (origin : Option (List (List ℕ))) (class : ℕ) (input : List ℕ) (e : Fault) → e ≢ fault.OutOfMemory
    → IsTextJobFault origin class input e → IsTextFault origin class input e
text_fault origin class input (fault.Zone zone_error.OutOfMemory) real broken = absurd broken
text_fault origin class input (fault.Zone error) real broken = record { error = error; real = λ is. cc; is = refl; broken = broken }
text_fault origin class input fault.OutOfMemory real broken = absurd (real refl)
text_fault origin class input (fault.Send error) real broken = absurd broken
text_fault origin class input (fault.Receive error) real broken = absurd broken
text_fault origin class input fault.Read real broken = absurd broken
text_fault origin class input fault.Write real broken = absurd broken

one_text_fault : (origin : Option (List (List ℕ))) (class : ℕ) (input : List ℕ) (e d : Fault) → IsTextFault origin class input e
    → IsTextFault origin class input d → e ≡ d
one_text_fault origin class input e d a b =
    a.is ∙ ap fault.Zone (one_fault input origin class a.error b.error a.real b.real a.broken b.broken) ∙ sym b.is

text_no_fault : (origin : Option (List (List ℕ))) (class : ℕ) (input : List ℕ) (records : List Record) (e : Fault)
    → IsZoneText input origin class records → IsTextFault origin class input e → ⊥
text_no_fault origin class input records e zone a = a.real (zone_no_fault input origin class records a.error zone a.broken)

-- ---- jobs that send

-- at most one rule of sending is broken
one_send_fault : (spelling : Spelling) (records : List Record) (apex : List (List ℕ)) (class : ℕ) (octets : List ℕ) (max : ℕ) (e d : SendError)
    → e ≢ send_error.OutOfMemory → d ≢ send_error.OutOfMemory → IsSendFault spelling records apex class octets max e
    → IsSendFault spelling records apex class octets max d → e ≡ d
one_send_fault spelling records apex class octets max (send_error.Query f) (send_error.Query g) real real' a b =
    ap send_error.Query (query_fault_one octets f g a b)
one_send_fault spelling records apex class octets max (send_error.Query f) send_error.WrongZone real real' a b =
    absurd (query_no_fault octets b.0 f b.1 a)
one_send_fault spelling records apex class octets max (send_error.Query f) (send_error.Record n) real real' a b =
    absurd (query_no_fault octets b.0 f b.1 a)
one_send_fault spelling records apex class octets max send_error.WrongZone (send_error.Query g) real real' a b =
    absurd (query_no_fault octets a.0 g a.1 b)
one_send_fault spelling records apex class octets max send_error.WrongZone send_error.WrongZone real real' a b = refl
one_send_fault spelling records apex class octets max send_error.WrongZone (send_error.Record n) real real' a b =
    absurd (a.2 (subst (λ (q : AxfrQuery). AsksFor q apex class) (query_one octets b.0 a.0 b.1 a.1) b.2))
one_send_fault spelling records apex class octets max (send_error.Record m) (send_error.Query g) real real' a b =
    absurd (query_no_fault octets a.0 g a.1 b)
one_send_fault spelling records apex class octets max (send_error.Record m) send_error.WrongZone real real' a b =
    absurd (b.2 (subst (λ (q : AxfrQuery). AsksFor q apex class) (query_one octets a.0 b.0 a.1 b.1) a.2))
one_send_fault spelling records apex class octets max (send_error.Record m) (send_error.Record n) real real' a b =
    let blocked : IsBlockedBy spelling records a.0 max n =
    subst (λ (q : AxfrQuery). IsBlockedBy spelling records q max n) (query_one octets b.0 a.0 b.1 a.1) b.3 in
    ap send_error.Record (blocked_once spelling records a.0 max m n a.3 blocked)
one_send_fault spelling records apex class octets max send_error.OutOfMemory d real real' a b = absurd (real refl)
one_send_fault spelling records apex class octets max e send_error.OutOfMemory real real' a b = absurd (real' refl)

-- and none if a stream is sent
sent_no_fault : (spelling : Spelling) (records : List Record) (apex : List (List ℕ)) (class : ℕ) (octets : List ℕ) (max : ℕ) (query : AxfrQuery)
    (stream : List ℕ) (e : SendError) → IsQuery octets query → AsksFor query apex class → IsSentBy spelling records query max stream
    → e ≢ send_error.OutOfMemory → IsSendFault spelling records apex class octets max e → ⊥
sent_no_fault spelling records apex class octets max query stream (send_error.Query f) is asks sent real a =
    query_no_fault octets query f is a
sent_no_fault spelling records apex class octets max query stream send_error.WrongZone is asks sent real a =
    a.2 (subst (λ (q : AxfrQuery). AsksFor q apex class) (query_one octets query a.0 is a.1) asks)
sent_no_fault spelling records apex class octets max query stream (send_error.Record n) is asks sent real a =
    sent_or_blocked spelling records query max n stream sent
    (subst (λ (q : AxfrQuery). IsBlockedBy spelling records q max n) (query_one octets a.0 query a.1 is) a.3)
sent_no_fault spelling records apex class octets max query stream send_error.OutOfMemory is asks sent real a = real refl

-- which fault the job has
data SendFault (origin : Option (List (List ℕ))) (class id : ℕ) (apex : Option (List (List ℕ))) (max : ℕ) (spelling : Spelling)
    (input : List ℕ) (e : Fault) : Type 0 where
  in_text : IsTextFault origin class input e → SendFault origin class id apex max spelling input e
  not_sent : (error : SendError) → error ≢ send_error.OutOfMemory → e ≡ fault.Send error
      → IsNotSent origin class id apex max spelling input error → SendFault origin class id apex max spelling input e

module _ (origin : Option (List (List ℕ))) (class id : ℕ) (apex : Option (List (List ℕ))) (max : ℕ) (spelling : Spelling) (input : List ℕ) where
  -- the octets of the job's query
  abbrev asking : List Record → List ℕ
  asking records = query_octets (query_of id class apex records)

  abbrev Refuses : Fault → Type 0
  Refuses e = SendFault origin class id apex max spelling input e

  send_fault : (e : Fault) → e ≢ fault.OutOfMemory → IsSendJobFault origin class id apex max spelling input e → Refuses e
  send_fault (fault.Send send_error.OutOfMemory) real broken = absurd broken
  send_fault (fault.Send error) real broken = not_sent error (λ is. cc) refl broken
  send_fault e real broken = in_text (text_fault origin class input e real broken)

  -- the zone that was not sent is the text's
  not_sent_for : (records : List Record) (error : SendError) → IsZoneText input origin class records
      → IsNotSent origin class id apex max spelling input error
      → IsSendFault spelling records (apex_of records) class (asking records) max error
  not_sent_for records error zone a =
      subst (λ (rs : List Record). IsSendFault spelling rs (apex_of rs) class (asking rs) max error)
      (one_reading input origin class a.records records a.text zone) a.refused

  one_send_job_fault : (e d : Fault) → Refuses e → Refuses d → e ≡ d
  one_send_job_fault e d (in_text a) (in_text b) = one_text_fault origin class input e d a b
  one_send_job_fault e d (in_text a) (not_sent error real is b) = absurd (text_no_fault origin class input b.records e b.text a)
  one_send_job_fault e d (not_sent error real is a) (in_text b) = absurd (text_no_fault origin class input a.records d a.text b)
  one_send_job_fault e d (not_sent error real is a) (not_sent error' real' is' b) =
      is
      ∙ ap fault.Send (one_send_fault spelling a.records (apex_of a.records) class (asking a.records) max error error' real real' a.refused
      (not_sent_for a.records error' a.text b))
      ∙ sym is'

  send_output_no_fault : (output : List ℕ) (e : Fault) → IsSendOutput origin class id apex max spelling input output → Refuses e → ⊥
  send_output_no_fault output e a (in_text b) = text_no_fault origin class input a.records e a.text b
  send_output_no_fault output e a (not_sent error real is b) =
      sent_no_fault spelling a.records (apex_of a.records) class (asking a.records) max a.query output error a.asked a.asks a.sent real
      (not_sent_for a.records error a.text b)

  one_send_output : (output other : List ℕ) → IsSendOutput origin class id apex max spelling input output
      → IsSendOutput origin class id apex max spelling input other → output ≡ other
  one_send_output output other a b =
      let same : b.records ≡ a.records = one_reading input origin class b.records a.records b.text a.text in
      let asked : IsQuery (asking a.records) b.query = subst (λ (rs : List Record). IsQuery (asking rs) b.query) same b.asked in
      let query : b.query ≡ a.query = query_one (asking a.records) b.query a.query asked a.asked in
      let sent : IsSentBy spelling a.records b.query max other = subst (λ (rs : List Record). IsSentBy spelling rs b.query max other) same b.sent in
      sent_once spelling a.records a.query max output other a.sent
      (subst (λ (q : AxfrQuery). IsSentBy spelling a.records q max other) query sent)

-- ---- jobs that check, and that write canonical octets

one_check_output : (origin : Option (List (List ℕ))) (class : ℕ) (input output other : List ℕ) → IsCheckOutput origin class input output
    → IsCheckOutput origin class input other → output ≡ other
one_check_output origin class input output other a b =
    a.line ∙ ap count_line (one_reading input origin class a.records b.records a.text b.text) ∙ sym b.line

one_canon_output : (origin : Option (List (List ℕ))) (class : ℕ) (input output other : List ℕ) → IsCanonOutput origin class input output
    → IsCanonOutput origin class input other → output ≡ other
one_canon_output origin class input output other a b =
    one_canonical a.records output other a.canonical
    (subst (λ (rs : List Record). IsCanonical rs other) (one_reading input origin class b.records a.records b.text a.text) b.canonical)

-- ---- jobs that receive

-- why nothing is received
data ReceiveFault (asking input : List ℕ) (e : Fault) : Type 0 where
  asks_nothing : (why : QueryError) → e ≡ fault.Receive (receive_error.Query why) → IsQueryFault asking why → ReceiveFault asking input e
  begun : (query : AxfrQuery) → e ≡ fault.Receive receive_error.Unfinished → IsQuery asking query → IsBegun query input
      → ReceiveFault asking input e
  bad : (error : ReceiveError) (query : AxfrQuery) → e ≡ fault.Receive error → IsQuery asking query → HasBadMessage query input error
      → ReceiveFault asking input e

receive_fault : (class id : ℕ) (apex : List (List ℕ)) (input : List ℕ) (e : Fault) → e ≢ fault.OutOfMemory
    → IsReceiveJobFault class id apex input e → ReceiveFault (asking_for class id apex) input e
receive_fault class id apex input (fault.Receive receive_error.OutOfMemory) real broken = absurd broken
receive_fault class id apex input (fault.Receive (receive_error.Query why)) real broken = asks_nothing why refl broken
receive_fault class id apex input (fault.Receive receive_error.Unfinished) real broken = begun broken.0 refl broken.1 broken.2
receive_fault class id apex input (fault.Receive error) real broken = bad error broken.0 refl broken.1 broken.2
receive_fault class id apex input fault.OutOfMemory real broken = absurd (real refl)
receive_fault class id apex input (fault.Zone error) real broken = absurd broken
receive_fault class id apex input (fault.Send error) real broken = absurd broken
receive_fault class id apex input fault.Read real broken = absurd broken
receive_fault class id apex input fault.Write real broken = absurd broken

-- an input that is only begun is not at fault
not_both : (asking input : List ℕ) (query other : AxfrQuery) (error : ReceiveError) → IsQuery asking query → IsQuery asking other
    → IsBegun query input → HasBadMessage other input error → ⊥
not_both asking input query other error is is' started broken =
    begun_not_bad query input error started
    (subst (λ (q : AxfrQuery). HasBadMessage q input error) (query_one asking other query is' is) broken)

one_receive_fault : (asking input : List ℕ) (e d : Fault) → ReceiveFault asking input e → ReceiveFault asking input d → e ≡ d
one_receive_fault asking input e d (asks_nothing why is a) (asks_nothing why' is' b) =
    is ∙ ap (λ (w : QueryError). fault.Receive (receive_error.Query w)) (query_fault_one asking why why' a b) ∙ sym is'
one_receive_fault asking input e d (asks_nothing why is a) (begun query is' asked b) = absurd (query_no_fault asking query why asked a)
one_receive_fault asking input e d (asks_nothing why is a) (bad error query is' asked b) = absurd (query_no_fault asking query why asked a)
one_receive_fault asking input e d (begun query is asked a) (asks_nothing why is' b) = absurd (query_no_fault asking query why asked b)
one_receive_fault asking input e d (begun query is asked a) (begun query' is' asked' b) = is ∙ sym is'
one_receive_fault asking input e d (begun query is asked a) (bad error query' is' asked' b) =
    absurd (not_both asking input query query' error asked asked' a b)
one_receive_fault asking input e d (bad error query is asked a) (asks_nothing why is' b) = absurd (query_no_fault asking query why asked b)
one_receive_fault asking input e d (bad error query is asked a) (begun query' is' asked' b) =
    absurd (not_both asking input query' query error asked' asked b a)
one_receive_fault asking input e d (bad error query is asked a) (bad error' query' is' asked' b) =
    is
    ∙ ap fault.Receive (bad_one query input error error' a
    (subst (λ (q : AxfrQuery). HasBadMessage q input error') (query_one asking query' query asked' asked) b))
    ∙ sym is'

received_no_fault : (asking input : List ℕ) (records : List Record) (e : Fault) → IsReceived asking input records
    → ReceiveFault asking input e → ⊥
received_no_fault asking input records e a (asks_nothing why is b) = query_no_fault asking a.query why a.asked b
received_no_fault asking input records e a (begun query is asked b) =
    transfer_not_begun a.query input a.stream a.behind records a.begins a.transfer
    (subst (λ (q : AxfrQuery). IsBegun q input) (query_one asking query a.query asked a.asked) b)
received_no_fault asking input records e a (bad error query is asked b) =
    transfer_not_bad a.query input a.stream a.behind records error a.begins a.transfer
    (subst (λ (q : AxfrQuery). HasBadMessage q input error) (query_one asking query a.query asked a.asked) b)

-- an input begins with a transfer of one list of records
one_received : (asking input : List ℕ) (records others : List Record) → IsReceived asking input records → IsReceived asking input others
    → records ≡ others
one_received asking input records others a b =
    let query : b.query ≡ a.query = query_one asking b.query a.query b.asked a.asked in
    let transfer : IsTransfer a.query b.stream others = subst (λ (q : AxfrQuery). IsTransfer q b.stream others) query b.transfer in
    let stream : a.stream ≡ b.stream =
    transfer_beginning_one a.query input a.stream a.behind b.stream b.behind records others a.begins b.begins a.transfer transfer in
    transfer_one a.query a.stream records others a.transfer
    (subst (λ (s : List ℕ). IsTransfer a.query s others) (sym stream) transfer)

one_receive_output : (class id : ℕ) (apex : List (List ℕ)) (layout : DisplayKind) (input output other : List ℕ)
    → IsReceiveOutput class id apex layout input output → IsReceiveOutput class id apex layout input other → output ≡ other
one_receive_output class id apex layout input output other a b =
    let same : b.records ≡ a.records = one_received (asking_for class id apex) input b.records a.records b.received a.received in
    one_printed (layout_of layout) a.text (subst (λ (rs : List Record). IsPrinted (layout_of layout) rs other) same b.text)

-- ---- by the job

pub one_output : (the_job : Job) (input output other : List ℕ) → IsOutput the_job input output → IsOutput the_job input other → output ≡ other
one_output (job.Send origin class id apex max spelling) input output other a b =
    one_send_output origin class id apex max spelling input output other a b
one_output (job.Receive class id apex layout) input output other a b = one_receive_output class id apex layout input output other a b
one_output (job.Check origin class) input output other a b = one_check_output origin class input output other a b
one_output (job.Canon origin class) input output other a b = one_canon_output origin class input output other a b

pub output_no_fault : (the_job : Job) (input output : List ℕ) (e : Fault) → e ≢ fault.OutOfMemory → IsOutput the_job input output
    → IsJobFault the_job input e → ⊥
output_no_fault (job.Send origin class id apex max spelling) input output e real a b =
    send_output_no_fault origin class id apex max spelling input output e a (send_fault origin class id apex max spelling input e real b)
output_no_fault (job.Receive class id apex layout) input output e real a b =
    received_no_fault (asking_for class id apex) input a.records e a.received (receive_fault class id apex input e real b)
output_no_fault (job.Check origin class) input output e real a b =
    text_no_fault origin class input a.records e a.text (text_fault origin class input e real b)
output_no_fault (job.Canon origin class) input output e real a b =
    text_no_fault origin class input a.records e a.text (text_fault origin class input e real b)

pub one_job_fault : (the_job : Job) (input : List ℕ) (e d : Fault) → e ≢ fault.OutOfMemory → d ≢ fault.OutOfMemory
    → IsJobFault the_job input e → IsJobFault the_job input d → e ≡ d
one_job_fault (job.Send origin class id apex max spelling) input e d real real' a b =
    one_send_job_fault origin class id apex max spelling input e d (send_fault origin class id apex max spelling input e real a)
    (send_fault origin class id apex max spelling input d real' b)
one_job_fault (job.Receive class id apex layout) input e d real real' a b =
    one_receive_fault (asking_for class id apex) input e d (receive_fault class id apex input e real a)
    (receive_fault class id apex input d real' b)
one_job_fault (job.Check origin class) input e d real real' a b =
    one_text_fault origin class input e d (text_fault origin class input e real a) (text_fault origin class input d real' b)
one_job_fault (job.Canon origin class) input e d real real' a b =
    one_text_fault origin class input e d (text_fault origin class input e real a) (text_fault origin class input d real' b)
