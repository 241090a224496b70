-- The definitions on octets that are written out.
use Rattle.std.specs.Prelude.{◌≡◌, [], ◌∷◌, refl, true, false}
use Rattle.dns_header.specs.Header.{answer_header, id_of, is_response, opcode_of, rcode_of, recursion_desired, answer_count}
use Rattle.dns_header.specs.Opt.{options_of, options_octets}
use Rattle.dns_header.specs.OptFields.{opt_fields, extended_rcode}
use Rattle.dns_header.specs.Question.{question_octets}

pub header_tried : answer_header 4660 false 3 ≡ 18 ∷ 52 ∷ 132 ∷ 0 ∷ 0 ∷ 1 ∷ 0 ∷ 3 ∷ 0 ∷ 0 ∷ 0 ∷ 0 ∷ []
header_tried = refl

pub header_read : (id_of (answer_header 4660 true 3) ≡ 4660) × (is_response (answer_header 4660 true 3) ≡ true)
    × (opcode_of (answer_header 4660 true 3) ≡ 0) × (rcode_of (answer_header 4660 true 3) ≡ 0)
    × (recursion_desired (answer_header 4660 true 3) ≡ true) × (answer_count (answer_header 4660 true 3) ≡ 3)
header_read = (refl, refl, refl, refl, refl, refl)

-- `a. IN AXFR`
pub question_tried : question_octets (record { name = (97 ∷ []) ∷ []; qtype = 252; qclass = 1 }) ≡ 1 ∷ 97 ∷ 0 ∷ 0 ∷ 252 ∷ 0 ∷ 1 ∷ []
question_tried = refl

-- code 10 with two octets, and code 3 without any
pub options_tried : options_of (0 ∷ 10 ∷ 0 ∷ 2 ∷ 171 ∷ 205 ∷ 0 ∷ 3 ∷ 0 ∷ 0 ∷ [])
    ≡ record { code = 10; octets = 171 ∷ 205 ∷ [] } ∷ record { code = 3; octets = [] } ∷ []
options_tried = refl

pub options_written : options_octets (record { code = 10; octets = 171 ∷ 205 ∷ [] } ∷ record { code = 3; octets = [] } ∷ [])
    ≡ 0 ∷ 10 ∷ 0 ∷ 2 ∷ 171 ∷ 205 ∷ 0 ∷ 3 ∷ 0 ∷ 0 ∷ []
options_written = refl

-- BADVERS (16), version 0 and DO
pub opt_tried : opt_fields 1232 16809984
    ≡ record { payload_size = 1232; high_rcode = 1; version = 0; dnssec_ok = true; reserved = 0 }
opt_tried = refl

pub rcode_tried : extended_rcode (opt_fields 1232 16809984) 0 ≡ 16
rcode_tried = refl
