-- The items of the records that are sent.
use Rattle.std.proofs.Common.{ℕ, List, [], ◌∷◌, sym, subst}
use Rattle.std.specs.List.{AllByRecursion}
use Rattle.dns_name.specs.Spelling.{Spelling}
use Rattle.dns_message.specs.Record.{IsWritten}
use Rattle.dns_message.proofs.WrittenItems.{written_item, item_written, written_one}
use Rattle.zone_records.specs.Record.{Record}
use Rattle.zone_records.specs.Typed.{HasLawfulData}
use Rattle.zone_records.proofs.Each.{all_append}
use Rattle.zone_core.specs.Query.{AxfrQuery}
use Rattle.zone_core.specs.Cutting.{IsBlocked}
use Rattle.zone_send.specs.Sent.{with_soa_again}
use Rattle.zone_send.specs.Spelled.{spelled_size}
use Rattle.zone_send.specs.SpelledSending.{IsItem, AreItems, SendsUpTo, IsFrameFault, IsRefusedSpelled}
use Rattle.zone_send.specs.declared.sending.error.SendError.{SendError}
use Rattle.zone_send.specs.declared.sending.error.SendError.TheVariants as send_error
use Rattle.zone_send.proofs.SpelledStreams.{blocked_alone}

-- a writer gives each record as its item
pub each_written : (records : List Record) → AllByRecursion HasLawfulData records → AllByRecursion (λ r. IsWritten r (written_item r)) records
each_written [] each = tt
each_written (r ∷ records) each = (item_written r each.0, each_written records each.1)

is_item : (r : Record) → HasLawfulData r → IsItem written_item r
is_item r lawful = λ parts is. written_one r parts (written_item r) is (item_written r lawful)

each_item : (records : List Record) → AllByRecursion HasLawfulData records → AreItems written_item records
each_item [] each = tt
each_item (r ∷ records) each = (is_item r each.0, each_item records each.1)

pub items_again : (records : List Record) → AllByRecursion HasLawfulData records → AreItems written_item (with_soa_again records)
items_again [] each = tt
items_again (soa ∷ others) each =
    all_append (IsItem written_item) (soa ∷ others) (soa ∷ []) (each_item (soa ∷ others) each) (is_item soa each.0, tt)

-- the reason why no frame is made is the reason why the stream fails
pub frame_refused : {s : Spelling} {query : AxfrQuery} {max start : ℕ} {stream : List ℕ} (records : List Record) (error : SendError)
    → AllByRecursion HasLawfulData records → SendsUpTo s query written_item max (with_soa_again records) start stream
    → IsFrameFault s query written_item max (with_soa_again records) start error → IsRefusedSpelled s records query max error
frame_refused records (send_error.Query fault) lawful sends why = absurd why
frame_refused records send_error.WrongZone lawful sends why = absurd why
frame_refused {s} {query} {max} records (send_error.Record n) lawful sends why =
    let P : ℕ → Type 0 = λ m. IsBlocked (spelled_size s query written_item) max (with_soa_again records) m in
    record { item = written_item; each = each_written records lawful; blocked = subst P (sym why.0) (blocked_alone sends why.1) }
frame_refused records send_error.OutOfMemory lawful sends why = tt
