-- The header of an answer (RFC 1035 4.1.1, RFC 5936 2.2.1).
use Rattle.std.specs.Prelude.{ℕ, Bool, true, false}
use Rattle.dns_header.specs.HeaderFields.{HeaderFields}
use Rattle.dns_header.specs.HeaderCounts.{Counts}

-- an authoritative response (QR, AA) of opcode 0 and without an error; of the other bits only RD may be set
abbrev pub answer_fields : ℕ → Bool → HeaderFields
answer_fields id recursion = record {
  id = id;
  qr = true;
  opcode = 0;
  aa = true;
  tc = false;
  rd = recursion;
  ra = false;
  z = false;
  ad = false;
  cd = false;
  rcode = 0;
}

-- one question, and `answers` answers
abbrev pub answer_counts : ℕ → Counts
answer_counts answers = record { qd = 1; an = answers; ns = 0; ar = 0 }
