-- Record headers: owner, type, class, TTL and RDLENGTH (RFC 1035 3.2.1).
use Rattle.std.specs.Prelude.{◌≡◌, ◌+◌, ◌<◌, ◌≤◌, ℕ, List, ◌++◌, length, take, drop}
use Rattle.std.specs.Int.{from_be_bytes, to_be_bytes, w16, w32}
use Rattle.dns_label.specs.Name.{wire, low}
use Rattle.dns_label.specs.Spelled.{DecodesName}
use Rattle.dns_wire.specs.Cut.{IsCut}
use Rattle.dns_name.specs.Page.{Parts}
use Rattle.dns_name.specs.Page.Parts.{End, Octets, Named, Counted}
use Rattle.dns_octets.specs.Numbers.{number_at}

-- the fields, for any type of owner
pub record Head (Owner : Type 0) : Type 0 where
  pub owner : Owner
  pub rtype : ℕ
  pub class : ℕ
  pub ttl : ℕ
  pub data_len : ℕ

-- the same with the owner's labels
abbrev pub labelled : {Owner : Type 0} → (Owner → List (List ℕ)) → Head Owner → Head (List (List ℕ))
labelled labels head = record {
  owner = labels head.owner;
  rtype = head.rtype;
  class = head.class;
  ttl = head.ttl;
  data_len = head.data_len;
}

-- The message has this header at the place, and `next` is the place after it.
pub record ReadsHead (message : List ℕ) (place : ℕ) (head : Head (List (List ℕ))) (next : ℕ) : Type 0 where
  pub behind : ℕ
  pub owner : DecodesName message place head.owner behind
  pub whole : behind + 10 ≤ length message
  pub rtype : head.rtype ≡ number_at message behind
  pub class : head.class ≡ number_at message (behind + 2)
  pub ttl : head.ttl ≡ from_be_bytes w32 (take 4 (drop (behind + 4) message))
  pub data_len : head.data_len ≡ number_at message (behind + 8)
  pub ends : next ≡ behind + 10

-- The message has a record at the place, whose data begins at `data_place` and is not parsed; `next` is the place after
-- it.
pub record ReadsWhole (message : List ℕ) (place : ℕ) (head : Head (List (List ℕ))) (data_place next : ℕ) : Type 0 where
  pub reads : ReadsHead message place head data_place
  pub ends : next ≡ data_place + head.data_len
  pub within : next ≤ length message

-- The message ends too early for a record header: in the owner, or after it.
pub data HeadIsCut (message : List ℕ) (place : ℕ) : Type 0 where
  in_owner : IsCut message 255 254 place → HeadIsCut message place
  behind_owner : (name : List (List ℕ)) (behind : ℕ) → DecodesName message place name behind → length message < behind + 10 → HeadIsCut message place

-- The same, or in the data.
pub data WholeIsCut (message : List ℕ) (place : ℕ) : Type 0 where
  in_head : HeadIsCut message place → WholeIsCut message place
  in_data : (head : Head (List (List ℕ))) (data_place : ℕ) → ReadsHead message place head data_place
      → length message < data_place + head.data_len → WholeIsCut message place

-- no record header, or no record, is at the place
abbrev pub NoHead : List ℕ → ℕ → Type 0
NoHead message place = (head : Head (List (List ℕ))) (next : ℕ) → ReadsHead message place head next → ⊥

abbrev pub NoWhole : List ℕ → ℕ → Type 0
NoWhole message place = (head : Head (List (List ℕ))) (data_place next : ℕ) → ReadsWhole message place head data_place next → ⊥

-- the octets of the type, the class and the TTL
abbrev pub fixed_octets : ℕ → ℕ → ℕ → List ℕ
fixed_octets rtype class ttl = to_be_bytes w16 rtype ++ to_be_bytes w16 class ++ to_be_bytes w32 ttl

-- the parts of a record, given those of its data
abbrev pub record_parts : List (List ℕ) → ℕ → ℕ → ℕ → Parts → Parts
record_parts owner rtype class ttl data' = Named owner (Octets (fixed_octets rtype class ttl) (Counted data' End))

-- the parts of a record header
abbrev pub head_parts : Head (List (List ℕ)) → Parts
head_parts head =
    Named head.owner (Octets (fixed_octets head.rtype head.class head.ttl ++ to_be_bytes w16 head.data_len) End)

-- data after its length
abbrev pub after_length : List ℕ → List ℕ
after_length data' = to_be_bytes w16 (length data') ++ data'

-- a record with no name compressed, given the octets of its data
abbrev pub record_octets : List (List ℕ) → ℕ → ℕ → ℕ → List ℕ → List ℕ
record_octets owner rtype class ttl data' = wire owner ++ fixed_octets rtype class ttl ++ after_length data'

-- the canonical form, given that of the data: the owner is in lower case (RFC 4034 6.2)
abbrev pub canonical_record : List (List ℕ) → ℕ → ℕ → ℕ → List ℕ → List ℕ
canonical_record owner rtype class ttl data' = record_octets (low owner) rtype class ttl data'

abbrev pub canonical_head : Head (List (List ℕ)) → List ℕ
canonical_head head =
    wire (low head.owner) ++ fixed_octets head.rtype head.class head.ttl ++ to_be_bytes w16 head.data_len
