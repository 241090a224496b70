-- Records have at most one stream by a spelling, or one blocked record.
use Rattle.std.proofs.Common.{◌≡◌, ℕ, ◌<◌, ◌^◌, List, [], ◌∷◌, length, map, refl, sym, ap, ◌∙◌, subst}
use Rattle.std.specs.List.{AllByRecursion}
use Rattle.dns_name.specs.Spelling.{static_spelling, tree_spelling, hash_spelling}
use Rattle.dns_name.specs.Spelling as names
use Rattle.dns_name.specs.Page.{Parts}
use Rattle.dns_message.specs.Record.{IsWritten}
use Rattle.dns_message.proofs.WrittenItems.{written_one}
use Rattle.dns_compression_laws.specs.Cost.{written}
use Rattle.dns_compression_laws.specs.Joined.{join_parts}
use Rattle.dns_compression_laws.specs.Groups.{items}
use Rattle.zone_records.specs.Record.{Record}
use Rattle.zone_records.specs.Records.{AreSendable}
use Rattle.zone_records.proofs.Each.{all_fronts, all_append}
use Rattle.zone_core.specs.Query.{AxfrQuery}
use Rattle.zone_core.specs.Frames.{frames}
use Rattle.zone_core.specs.Cutting.{joined, IsFullCut, IsBlocked, FrontsFit}
use Rattle.zone_core.specs.Transfer.{IsTransfer}
use Rattle.zone_core.proofs.Cuttings.{grows_fits, full_cut_is_one, blocked_is_one, cut_and_blocked}
use Rattle.zone_send.specs.Sent.{message, size, with_soa_again, IsQueryFor, IsSent}
use Rattle.zone_send.specs.SentBy.{IsSentBy, IsBlockedBy, KeepsCase}
use Rattle.zone_send.specs.Spelled.{answer_head, spelled_size}
use Rattle.zone_send.specs.SpelledSent.{spelled_message, IsSpelledSent, IsSpelledBlocked}
use Rattle.zone_core.specs.declared.spelling.Spelling.{Spelling}
use Rattle.zone_core.specs.declared.spelling.Spelling.TheVariants.{Plain, Static, Tree, Hash}
use Rattle.zone_send.proofs.AgreedCuts.{full_cut_agrees, blocked_agrees}
use Rattle.zone_send.proofs.Plain.{size_grows}
use Rattle.zone_send.proofs.SentTransfers.{received_is_sent_again}
use Rattle.zone_send.proofs.SpelledCuts.{spelled_fronts_fit}
use Rattle.zone_send.proofs.SpelledTransfers.{spelled_again}

-- two writers give a record by the same parts
abbrev Agree : (item other : Record → Parts) → Record → Type 0
Agree item other r = item r ≡ other r

each_agrees : (item other : Record → Parts) (records : List Record) → AllByRecursion (λ r. IsWritten r (item r)) records
    → AllByRecursion (λ r. IsWritten r (other r)) records → AllByRecursion (Agree item other) records
each_agrees item other [] given also = tt
each_agrees item other (r ∷ records) given also =
    (written_one r (item r) (other r) given.0 also.0, each_agrees item other records given.1 also.1)

again_agrees : (item other : Record → Parts) (records : List Record) → AllByRecursion (λ r. IsWritten r (item r)) records
    → AllByRecursion (λ r. IsWritten r (other r)) records → AllByRecursion (Agree item other) (with_soa_again records)
again_agrees item other [] given also = tt
again_agrees item other (soa ∷ others) given also =
    let each = each_agrees item other (soa ∷ others) given also in
    all_append (Agree item other) (soa ∷ others) (soa ∷ []) each (each.0, tt)

items_same : (item other : Record → Parts) (group : List Record) → AllByRecursion (Agree item other) group → items item group ≡ items other group
items_same item other [] agree = refl
items_same item other (r ∷ group) agree = λ i. join_parts (agree.0 i) (items_same item other group agree.1 i)

-- so their messages are the same
module _ (s : names.Spelling) (query : AxfrQuery) (item other : Record → Parts) where
  message_same : (group : List Record) → AllByRecursion (Agree item other) group → spelled_message s query item group ≡ spelled_message s query other group
  message_same group agree = ap (λ (parts : Parts). written s (join_parts (answer_head query group) parts)) (items_same item other group agree)

  size_same : (group : List Record) → AllByRecursion (Agree item other) group → spelled_size s query item group ≡ spelled_size s query other group
  size_same group agree = ap (length {A = ℕ}) (message_same group agree)

  messages_same : (groups : List (List Record)) → AllByRecursion (Agree item other) (joined groups)
      → map (spelled_message s query item) groups ≡ map (spelled_message s query other) groups
  messages_same [] agree = refl
  messages_same (group ∷ groups) agree =
      let both = all_fronts (Agree item other) group (joined groups) agree in
      λ i. message_same group both.0 i ∷ messages_same groups both.1 i

-- ---- with pointers

module _ (s : names.Spelling) (records : List Record) (query : AxfrQuery) (max : ℕ) where
  -- the groups of a stream are the full cut of another's writer too
  cut_by : (item : Record → Parts) → AllByRecursion (λ r. IsWritten r (item r)) records → {stream : List ℕ}
      → (sent : IsSpelledSent s records query max stream) → IsFullCut (spelled_size s query item) max (with_soa_again records) sent.groups
  cut_by item given sent =
      full_cut_agrees (Agree sent.item item) (spelled_size s query sent.item) (spelled_size s query item) (size_same s query sent.item item) max
      (with_soa_again records) sent.groups (again_agrees sent.item item records sent.each given) sent.cut

  blocked_by : (item : Record → Parts) → AllByRecursion (λ r. IsWritten r (item r)) records → {n : ℕ}
      → IsSpelledBlocked s records query max n → IsBlocked (spelled_size s query item) max (with_soa_again records) n
  blocked_by item given {n} b =
      blocked_agrees (Agree b.item item) (spelled_size s query b.item) (spelled_size s query item) (size_same s query b.item item) max
      (with_soa_again records) n (again_agrees b.item item records b.each given) b.blocked

  spelled_once : (stream other : List ℕ) → IsSpelledSent s records query max stream → IsSpelledSent s records query max other → stream ≡ other
  spelled_once stream other a b =
      let agree = again_agrees b.item a.item records b.each a.each in
      let groups : a.groups ≡ b.groups =
      full_cut_is_one (spelled_size s query a.item) max (with_soa_again records) a.groups b.groups (spelled_fronts_fit s query a.item max) a.cut (cut_by a.item a.each b) in
      let messages = messages_same s query b.item a.item b.groups (subst (AllByRecursion (Agree b.item a.item)) (sym b.cut.fits.cut.joins) agree) in
      a.framed ∙ ap (λ groups. frames (map (spelled_message s query a.item) groups)) groups ∙ ap frames (sym messages) ∙ sym b.framed

  spelled_or_blocked : (stream : List ℕ) (n : ℕ) → IsSpelledSent s records query max stream → IsSpelledBlocked s records query max n → ⊥
  spelled_or_blocked stream n sent blocked =
      cut_and_blocked (spelled_size s query sent.item) max (with_soa_again records) sent.groups n (spelled_fronts_fit s query sent.item max) sent.cut
      (blocked_by sent.item sent.each blocked)

  spelled_blocked_once : (m n : ℕ) → IsSpelledBlocked s records query max m → IsSpelledBlocked s records query max n → m ≡ n
  spelled_blocked_once m n a b =
      blocked_is_one (spelled_size s query a.item) max (with_soa_again records) m n (spelled_fronts_fit s query a.item max) a.blocked (blocked_by a.item a.each b)

-- ---- in full

plain_fronts_fit : (query : AxfrQuery) (max : ℕ) → FrontsFit (size query) max
plain_fronts_fit query max = (grows_fits (size query) max (size_grows query)).front

plain_once : (records : List Record) (query : AxfrQuery) (max : ℕ) (stream other : List ℕ) → IsSent records query max stream
    → IsSent records query max other → stream ≡ other
plain_once records query max stream other a b =
    let groups : a.groups ≡ b.groups = full_cut_is_one (size query) max (with_soa_again records) a.groups b.groups (plain_fronts_fit query max) a.cut b.cut in
    a.framed ∙ ap (λ groups. frames (map (message query) groups)) groups ∙ sym b.framed

-- ---- by each spelling

pub sent_once : (spelling : Spelling) (records : List Record) (query : AxfrQuery) (max : ℕ) (stream other : List ℕ)
    → IsSentBy spelling records query max stream → IsSentBy spelling records query max other → stream ≡ other
sent_once Plain records query max stream other a b = plain_once records query max stream other a b
sent_once Static records query max stream other a b = spelled_once static_spelling records query max stream other a b
sent_once Tree records query max stream other a b = spelled_once tree_spelling records query max stream other a b
sent_once Hash records query max stream other a b = spelled_once hash_spelling records query max stream other a b

pub sent_or_blocked : (spelling : Spelling) (records : List Record) (query : AxfrQuery) (max n : ℕ) (stream : List ℕ)
    → IsSentBy spelling records query max stream → IsBlockedBy spelling records query max n → ⊥
sent_or_blocked Plain records query max n stream sent blocked =
    cut_and_blocked (size query) max (with_soa_again records) sent.groups n (plain_fronts_fit query max) sent.cut blocked
sent_or_blocked Static records query max n stream sent blocked = spelled_or_blocked static_spelling records query max stream n sent blocked
sent_or_blocked Tree records query max n stream sent blocked = spelled_or_blocked tree_spelling records query max stream n sent blocked
sent_or_blocked Hash records query max n stream sent blocked = spelled_or_blocked hash_spelling records query max stream n sent blocked

pub blocked_once : (spelling : Spelling) (records : List Record) (query : AxfrQuery) (max m n : ℕ)
    → IsBlockedBy spelling records query max m → IsBlockedBy spelling records query max n → m ≡ n
blocked_once Plain records query max m n a b = blocked_is_one (size query) max (with_soa_again records) m n (plain_fronts_fit query max) a b
blocked_once Static records query max m n a b = spelled_blocked_once static_spelling records query max m n a b
blocked_once Tree records query max m n a b = spelled_blocked_once tree_spelling records query max m n a b
blocked_once Hash records query max m n a b = spelled_blocked_once hash_spelling records query max m n a b

-- What is sent for the records that were received is the stream they were received from.
pub same_again : (spelling : Spelling) (records others : List Record) (class : ℕ) (query : AxfrQuery) (max : ℕ) (stream again : List ℕ)
    → KeepsCase spelling → max < 2 ^ 16 → AreSendable class records → IsQueryFor records class query
    → IsSentBy spelling records query max stream → IsTransfer query stream others → IsSentBy spelling others query max again → again ≡ stream
same_again Plain records others class query max stream again keeps fits are asks sent received next =
    sent_once Plain others query max again stream next (received_is_sent_again records others class query max stream fits are asks sent received).1
same_again Static records others class query max stream again keeps fits are asks sent received next = absurd keeps
same_again Tree records others class query max stream again keeps fits are asks sent received next =
    sent_once Tree others query max again stream next
    (spelled_again tree_spelling records others class query max stream refl fits are asks sent received).1
same_again Hash records others class query max stream again keeps fits are asks sent received next = absurd keeps
