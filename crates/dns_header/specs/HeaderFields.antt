-- The fields in the first four octets of a message (RFC 1035 4.1.1; AD and CD: RFC 4035 3.1.6, 3.2).
use Rattle.std.specs.Prelude.{◌+◌, ◌*◌, ◌/◌, ◌%◌, ◌==◌, ℕ, Bool, List, [], ◌∷◌, ◌++◌, slice_index, if◌then◌else◌}
use Rattle.std.specs.Int.{to_be_bytes, w16}
use Rattle.dns_header.specs.Header.{id_of, is_response, opcode_of, recursion_desired, rcode_of}

-- the bit of an octet with a weight
abbrev pub has_bit : ℕ → ℕ → Bool
has_bit weight octet = octet / weight % 2 == 1

abbrev pub is_authoritative : List ℕ → Bool
is_authoritative header = has_bit 4 (slice_index header 2)

abbrev pub is_truncated : List ℕ → Bool
is_truncated header = has_bit 2 (slice_index header 2)

abbrev pub recursion_available : List ℕ → Bool
recursion_available header = has_bit 128 (slice_index header 3)

-- the reserved bit
abbrev pub is_reserved : List ℕ → Bool
is_reserved header = has_bit 64 (slice_index header 3)

abbrev pub is_authentic : List ℕ → Bool
is_authentic header = has_bit 32 (slice_index header 3)

abbrev pub checking_disabled : List ℕ → Bool
checking_disabled header = has_bit 16 (slice_index header 3)

-- all fields
pub record HeaderFields : Type 0 where
  pub id : ℕ
  pub qr : Bool
  pub opcode : ℕ
  pub aa : Bool
  pub tc : Bool
  pub rd : Bool
  pub ra : Bool
  pub z : Bool
  pub ad : Bool
  pub cd : Bool
  pub rcode : ℕ

abbrev pub fields_of : List ℕ → HeaderFields
fields_of header = record {
  id = id_of header;
  qr = is_response header;
  opcode = opcode_of header;
  aa = is_authoritative header;
  tc = is_truncated header;
  rd = recursion_desired header;
  ra = recursion_available header;
  z = is_reserved header;
  ad = is_authentic header;
  cd = checking_disabled header;
  rcode = rcode_of header;
}

abbrev number : Bool → ℕ
number set = if set then 1 else 0

-- the octets of the fields
abbrev pub header_octets : HeaderFields → List ℕ
header_octets h =
    to_be_bytes w16 h.id
    ++ (128 * number h.qr + 8 * h.opcode + 4 * number h.aa + 2 * number h.tc + number h.rd)
    ∷ (128 * number h.ra + 64 * number h.z + 32 * number h.ad + 16 * number h.cd + h.rcode) ∷ []
