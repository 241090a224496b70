-- Records, for any types of owner and data (RFC 1035 3.2.1).
use Rattle.std.specs.Prelude.{◌≡◌, ◌+◌, ◌≤◌, ◌<◌, ◌⊎◌, ℕ, Bool, true, List, length, take}
use Rattle.dns_header.specs.Head.{Head}

pub record RecordOf (Owner Data : Type 0) : Type 0 where
  pub owner : Owner
  pub class : ℕ
  pub ttl : ℕ
  pub rdata : Data

-- the same with the owner's labels
abbrev pub with_labels : {Owner Data : Type 0} → (Owner → List (List ℕ)) → RecordOf Owner Data → RecordOf (List (List ℕ)) Data
with_labels labels rr = record { owner = labels rr.owner; class = rr.class; ttl = rr.ttl; rdata = rr.rdata }

-- The place has data of the header's length and type. The record has the header's other fields.
pub record ReadsData {Owner Data : Type 0} (reads : List ℕ → ℕ → ℕ → Data → Type 0) (message : List ℕ) (place : ℕ) (head : Head Owner)
    (found : RecordOf Owner Data) : Type 0 where
  pub within : place + head.data_len ≤ length message
  pub owner : found.owner ≡ head.owner
  pub class : found.class ≡ head.class
  pub ttl : found.ttl ≡ head.ttl
  pub rdata : reads (take (place + head.data_len) message) place head.rtype found.rdata

-- the message ends before the data does, or it is no data of the type
abbrev pub NoData : {Data : Type 0} → (List ℕ → ℕ → ℕ → Data → Type 0) → List ℕ → ℕ → ℕ → ℕ → Type 0
NoData {Data} reads message place rtype len =
    (rdata : Data) → place + len ≤ length message → reads (take (place + len) message) place rtype rdata → ⊥

-- the message ends before the data does; or the type is taken, and this is no data of it
abbrev pub DataIsRefused : {Data : Type 0} → (ℕ → Bool) → (List ℕ → ℕ → ℕ → Data → Type 0) → List ℕ → ℕ → ℕ → ℕ → Type 0
DataIsRefused takes reads message place rtype len =
    (length message < place + len) ⊎ ((takes rtype ≡ true) × NoData reads message place rtype len)
