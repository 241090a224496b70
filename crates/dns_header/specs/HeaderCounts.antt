-- The counts of questions and records in a message (RFC 1035 4.1.1), as eight octets.
use Rattle.std.specs.Prelude.{◌≡◌, ◌+◌, ℕ, List, ◌++◌, length, slice_index, slice_set}
use Rattle.std.specs.Int.{to_be_bytes, w16}
use Rattle.dns_header.specs.Header.{question_count, answer_count, authority_count, additional_count}
use Rattle.dns_octets.specs.Numbers.{number_at}

-- the questions, answers, authority and additional records
pub record Counts : Type 0 where
  pub qd : ℕ
  pub an : ℕ
  pub ns : ℕ
  pub ar : ℕ

abbrev pub counts_of : List ℕ → Counts
counts_of counts = record {
  qd = number_at counts 0;
  an = number_at counts 2;
  ns = number_at counts 4;
  ar = number_at counts 6;
}

-- the counts of a message
abbrev pub counts_in : List ℕ → Counts
counts_in message = record {
  qd = question_count message;
  an = answer_count message;
  ns = authority_count message;
  ar = additional_count message;
}

-- the octets of the counts
abbrev pub counts_octets : Counts → List ℕ
counts_octets c = to_be_bytes w16 c.qd ++ to_be_bytes w16 c.an ++ to_be_bytes w16 c.ns ++ to_be_bytes w16 c.ar

-- eight octets that differ in at most the number at a place
pub record ChangesNumber (place number : ℕ) (old new : List ℕ) : Type 0 where
  pub eight : length old ≡ 8
  pub is : new ≡ slice_set (slice_set old place (slice_index (to_be_bytes w16 number) 0)) (place + 1) (slice_index (to_be_bytes w16 number) 1)
