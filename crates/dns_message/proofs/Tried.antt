-- The definitions on records that are written out.
use Rattle.std.specs.Prelude.{◌≡◌, ℕ, List, [], ◌∷◌, refl}
use Rattle.dns_rdata.specs.Fields.{number16, compressible, uncompressed}
use Rattle.dns_rdata.specs.Data.{Data, typed}
use Rattle.dns_name.specs.Page.Parts.{End, Octets, Named, Counted}
use Rattle.dns_header.specs.Record.{RecordOf}
use Rattle.dns_message.specs.Record.{record_octets}
use Rattle.dns_message.specs.Held.{record_of, written_parts_of}

-- `a. 60 IN A 1.2.3.4`
pub record_tried : record_octets (record { owner = (97 ∷ []) ∷ []; rtype = 1; class = 1; ttl = 60; rdata = 1 ∷ 2 ∷ 3 ∷ 4 ∷ [] })
    ≡ 1 ∷ 97 ∷ 0 ∷ 0 ∷ 1 ∷ 0 ∷ 1 ∷ 0 ∷ 0 ∷ 0 ∷ 60 ∷ 0 ∷ 4 ∷ 1 ∷ 2 ∷ 3 ∷ 4 ∷ []
record_tried = refl

-- `a. 60 IN MX 10 b.`: both names may be compressed
abbrev mx : RecordOf (List (List ℕ)) Data
mx = record {
  owner = (97 ∷ []) ∷ [];
  class = 1;
  ttl = 60;
  rdata = typed 15 (number16 10 ∷ compressible ((98 ∷ []) ∷ []) ∷ []);
}

pub mx_written : written_parts_of mx
    ≡ Named ((97 ∷ []) ∷ []) (Octets (0 ∷ 15 ∷ 0 ∷ 1 ∷ 0 ∷ 0 ∷ 0 ∷ 60 ∷ [])
    (Counted (Octets (0 ∷ 10 ∷ []) (Named ((98 ∷ []) ∷ []) End)) End))
mx_written = refl

pub mx_octets : record_octets (record_of mx)
    ≡ 1 ∷ 97 ∷ 0 ∷ 0 ∷ 15 ∷ 0 ∷ 1 ∷ 0 ∷ 0 ∷ 0 ∷ 60 ∷ 0 ∷ 5 ∷ 0 ∷ 10 ∷ 1 ∷ 98 ∷ 0 ∷ []
mx_octets = refl

-- `a. 60 IN SRV 1 2 3 b.`: only the owner may be compressed (RFC 2782)
abbrev srv : RecordOf (List (List ℕ)) Data
srv = record {
  owner = (97 ∷ []) ∷ [];
  class = 1;
  ttl = 60;
  rdata = typed 33 (number16 1 ∷ number16 2 ∷ number16 3 ∷ uncompressed ((98 ∷ []) ∷ []) ∷ []);
}

pub srv_written : written_parts_of srv
    ≡ Named ((97 ∷ []) ∷ []) (Octets (0 ∷ 33 ∷ 0 ∷ 1 ∷ 0 ∷ 0 ∷ 0 ∷ 60 ∷ [])
    (Counted (Octets (0 ∷ 1 ∷ []) (Octets (0 ∷ 2 ∷ []) (Octets (0 ∷ 3 ∷ []) (Octets (1 ∷ 98 ∷ 0 ∷ []) End)))) End))
srv_written = refl
