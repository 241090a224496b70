-- A zone that is sent, received and printed.
use Rattle.std.proofs.Common.{◌≡◌, ℕ, List, subst}
use Rattle.std.specs.List.{AllZip}
use Rattle.dns_label.specs.Octets.{AreOctets}
use Rattle.zone_records.specs.Record.{Record}
use Rattle.zone_records.specs.Records.{AreRecordsOf}
use Rattle.zone_core.specs.Query.{AxfrQuery, IsQuery}
use Rattle.zone_core.specs.Transfer.{IsTransfer}
use Rattle.zone_core.proofs.OneQuery.{query_one}
use Rattle.zone_core.proofs.OneTransfer.{transfer_one}
use Rattle.zone_send.specs.Best.{IsNearTransfer, IsSentFor, IsTransferBy}
use Rattle.zone_send.specs.SpelledSent.{IsNear}
use Rattle.zone_core.specs.declared.spelling.Spelling.{Spelling}
use Rattle.zone_core.specs.declared.spelling.Spelling.TheVariants.{Plain, Static, Tree, Hash}
use Rattle.zonewire.specs.Passed.{ArePassedBy}
use Rattle.zonewire.proofs.SpelledOctets.{transfer_is_zone}

near_passed : (query : AxfrQuery) (stream : List ℕ) (records others : List Record) → IsNearTransfer query stream records
    → IsTransfer query stream others → AllZip IsNear records others
near_passed query stream records others sent received =
    subst (λ (rs : List Record). AllZip IsNear records rs) (transfer_one query stream sent.others others sent.transfer received) sent.near

-- what a reader gets is what was received
pub passed_by : (spelling : Spelling) (query : AxfrQuery) (stream : List ℕ) (records others : List Record)
    → IsTransferBy spelling query stream records → IsTransfer query stream others → ArePassedBy spelling records others
passed_by Plain query stream records others sent received = transfer_one query stream others records received sent.transfer
passed_by Static query stream records others sent received = near_passed query stream records others sent received
passed_by Tree query stream records others sent received = transfer_one query stream others records received sent.transfer
passed_by Hash query stream records others sent received = near_passed query stream records others sent received

module _ (spelling : Spelling) (records others : List Record) (class : ℕ) (octets : List ℕ) (max : ℕ) (stream : List ℕ) (query : AxfrQuery) where
  pub sent_passed : IsSentFor spelling records class octets max stream → IsQuery octets query → IsTransfer query stream others
      → ArePassedBy spelling records others
  sent_passed sent asked received =
      passed_by spelling sent.query stream records others sent.transfer
      (subst (λ (q : AxfrQuery). IsTransfer q stream others) (query_one octets query sent.query asked sent.is) received)

  pub passed_known : AreOctets stream → IsSentFor spelling records class octets max stream → IsQuery octets query
      → IsTransfer query stream others → AreRecordsOf class others
  passed_known each sent asked received =
      let class_is : sent.query.class ≡ class = sent.asks.class_is in
      subst (λ (n : ℕ). AreRecordsOf n others) class_is
      (transfer_is_zone sent.query stream others each
      (subst (λ (q : AxfrQuery). IsTransfer q stream others) (query_one octets query sent.query asked sent.is) received))
