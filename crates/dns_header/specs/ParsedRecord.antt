-- A record in a message, with unparsed data.
use Rattle.std.specs.Prelude.{◌≡◌, ℕ, Bool, true, List, take, nat_eq}
use Rattle.std.specs.Cmp.{IsEquivalence, on_equiv, and_equiv, nat_eq_equiv}
use Rattle.std.specs.Cmp.Lexicographic.{pointwise, lists_equiv}
use Rattle.std.specs.Ordering.{on, eq_of_both}
use Rattle.dns_octets.specs.Parser.{octets_of, place_of, rest_of}
use Rattle.dns_octets.specs.declared.parser.Parser.{Parser}
use Rattle.dns_header.specs.Head.{Head, ReadsWhole}
use Rattle.dns_header.specs.HeadLaws.{heads_equivalence}
use Rattle.dns_header.specs.HeadOrder.{heads_eq}
use Rattle.dns_header.specs.Record.{RecordOf, NoData}

-- the record header, and the parser at the start of the data, which ends with it
pub record Parsed : Type 0 where
  pub head : Head (List (List ℕ))
  pub rdata : Parser

-- This is the record at the place of the message, and `next` is the place after it.
pub record HoldsRecord (message : List ℕ) (place : ℕ) (found : Parsed) (next : ℕ) : Type 0 where
  pub whole : ReadsWhole message place found.head (place_of found.rdata) next
  pub octets : octets_of found.rdata ≡ take next message

-- The record at the place, if there is one, has a type that is taken, and its data is none of the type.
abbrev pub NoRecord : {Data : Type 0} → (ℕ → Bool) → (List ℕ → ℕ → ℕ → Data → Type 0) → List ℕ → ℕ → Type 0
NoRecord takes reads message place = (head : Head (List (List ℕ))) (data_place next : ℕ) → ReadsWhole message place head data_place next
    → (takes head.rtype ≡ true) × NoData reads message data_place head.rtype head.data_len

-- the data is read as this record's
pub record IsRecordOf {Data : Type 0} (reads : List ℕ → ℕ → ℕ → Data → Type 0) (parsed : Parsed) (rr : RecordOf (List (List ℕ)) Data) : Type 0 where
  pub owner : rr.owner ≡ parsed.head.owner
  pub class : rr.class ≡ parsed.head.class
  pub ttl : rr.ttl ≡ parsed.head.ttl
  pub rdata : reads (octets_of parsed.rdata) (place_of parsed.rdata) parsed.head.rtype rr.rdata

-- it is no data of the type
abbrev pub HasNoData : {Data : Type 0} → (List ℕ → ℕ → ℕ → Data → Type 0) → Parsed → Type 0
HasNoData {Data} reads parsed = (rdata : Data) → reads (octets_of parsed.rdata) (place_of parsed.rdata) parsed.head.rtype rdata → ⊥

-- equal record headers, owners up to ASCII case (RFC 4343), and octet for octet the same data
abbrev pub parsed_eq : Parsed → Parsed → Bool
parsed_eq = eq_of_both (on (λ parsed. parsed.head) heads_eq) (on (λ parsed. rest_of parsed.rdata) (pointwise nat_eq))

pub parsed_equivalence : IsEquivalence parsed_eq
parsed_equivalence =
    and_equiv (on_equiv (λ (parsed : Parsed). parsed.head) heads_equivalence)
    (on_equiv (λ (parsed : Parsed). rest_of parsed.rdata) (lists_equiv nat_eq_equiv))
