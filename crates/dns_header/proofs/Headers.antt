-- The header of an answer has the fields that it was made from.
use Rattle.std.proofs.Common.{◌≡◌, ℕ, ◌<◌, ◌^◌, List, ◌++◌, Bool, true, false, refl}
use Rattle.std.proofs.lemmas.Nat.{from_be_bytes-to_be_bytes_2}
use Rattle.dns_header.specs.Header.{answer_header, id_of, is_response, opcode_of, recursion_desired, rcode_of, question_count, answer_count, authority_count, additional_count}

-- the header fields of a message that begins as an answer does
pub record SaysAnswer (message : List ℕ) (id : ℕ) (recursion : Bool) (answers : ℕ) : Type 0 where
  pub id_is : id_of message ≡ id
  pub response : is_response message ≡ true
  pub opcode : opcode_of message ≡ 0
  pub recursion_is : recursion_desired message ≡ recursion
  pub rcode : rcode_of message ≡ 0
  pub questions : question_count message ≡ 1
  pub answers_are : answer_count message ≡ answers
  pub authority : authority_count message ≡ 0
  pub additional : additional_count message ≡ 0

pub header_says : (id : ℕ) (recursion : Bool) (answers : ℕ) (rest : List ℕ) → id < 2 ^ 16 → answers < 2 ^ 16
    → SaysAnswer (answer_header id recursion answers ++ rest) id recursion answers
header_says id true answers rest small few = record {
  id_is = from_be_bytes-to_be_bytes_2 id small;
  response = refl;
  opcode = refl;
  recursion_is = refl;
  rcode = refl;
  questions = refl;
  answers_are = from_be_bytes-to_be_bytes_2 answers few;
  authority = refl;
  additional = refl;
}
header_says id false answers rest small few = record {
  id_is = from_be_bytes-to_be_bytes_2 id small;
  response = refl;
  opcode = refl;
  recursion_is = refl;
  rcode = refl;
  questions = refl;
  answers_are = from_be_bytes-to_be_bytes_2 answers few;
  authority = refl;
  additional = refl;
}
