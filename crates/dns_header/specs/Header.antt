-- The header of a message: its first twelve octets (RFC 1035 4.1.1).
use Rattle.std.specs.Prelude.{◌/◌, ◌%◌, ◌==◌, ℕ, Bool, List, ◌∷◌, ◌++◌, slice_index, nat_lt}
use Rattle.std.specs.Prelude.{if◌then◌else◌}
use Rattle.std.specs.Int.{to_be_bytes, w16}
use Rattle.dns_octets.specs.Numbers.{number_at}

abbrev pub id_of : List ℕ → ℕ
id_of message = number_at message 0

-- whether the message is a response (QR)
abbrev pub is_response : List ℕ → Bool
is_response message = nat_lt 127 (slice_index message 2)

abbrev pub opcode_of : List ℕ → ℕ
opcode_of message = slice_index message 2 / 8 % 16

-- the bit with which a query asks for recursion (RD)
abbrev pub recursion_desired : List ℕ → Bool
recursion_desired message = slice_index message 2 % 2 == 1

abbrev pub rcode_of : List ℕ → ℕ
rcode_of message = slice_index message 3 % 16

-- how many questions, answers, authority and additional records the message counts
abbrev pub question_count : List ℕ → ℕ
question_count message = number_at message 4

abbrev pub answer_count : List ℕ → ℕ
answer_count message = number_at message 6

abbrev pub authority_count : List ℕ → ℕ
authority_count message = number_at message 8

abbrev pub additional_count : List ℕ → ℕ
additional_count message = number_at message 10

-- The header of an authoritative answer of opcode 0 and without an error: QR, AA and perhaps RD are set, and every
-- other bit is clear. It counts one question and `answers` answers.
abbrev pub answer_header : ℕ → Bool → ℕ → List ℕ
answer_header id recursion answers =
    to_be_bytes w16 id ++ (if recursion then 133 else 132) ∷ 0 ∷ to_be_bytes w16 1 ++ to_be_bytes w16 answers
    ++ to_be_bytes w16 0 ++ to_be_bytes w16 0
