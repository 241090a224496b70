-- The definitions tried on the transfer of a zone of two records: `a. 60 IN SOA b. c. 1 2 3 4 5` and `a. 60 IN A
-- 1.2.3.4`.
use Rattle.std.specs.Prelude.{◌≡◌, [], ◌∷◌, refl, false}
use Rattle.zone_records.specs.Record.{Record}
use Rattle.zone_core.specs.Query.{AxfrQuery}
use Rattle.zone_core.specs.Frames.{frames}
use Rattle.zone_send.specs.Sent.{message, size, with_soa_again}

abbrev pub soa : Record
soa = record {
  owner = (97 ∷ []) ∷ [];
  rtype = 6;
  class = 1;
  ttl = 60;
  rdata = 1 ∷ 98 ∷ 0 ∷ 1 ∷ 99 ∷ 0 ∷ 0 ∷ 0 ∷ 0 ∷ 1 ∷ 0 ∷ 0 ∷ 0 ∷ 2 ∷ 0 ∷ 0 ∷ 0 ∷ 3 ∷ 0 ∷ 0 ∷ 0 ∷ 4 ∷ 0 ∷ 0 ∷ 0 ∷ 5 ∷ [];
}

abbrev pub address : Record
address = record { owner = (97 ∷ []) ∷ []; rtype = 1; class = 1; ttl = 60; rdata = 1 ∷ 2 ∷ 3 ∷ 4 ∷ [] }

abbrev pub query : AxfrQuery
query = record { id = 4660; recursion = false; name = (97 ∷ []) ∷ []; class = 1 }

-- the question and the header take 19 octets, an SOA record 39, and an A record 17
pub sizes : (size query [] ≡ 19) × (size query (soa ∷ []) ≡ 58) × (size query (address ∷ []) ≡ 36)
    × (size query (with_soa_again (soa ∷ address ∷ [])) ≡ 114)
sizes = (refl, refl, refl, refl)

-- the stream of one message
pub stream : frames (message query (with_soa_again (soa ∷ address ∷ [])) ∷ [])
    ≡ 0 ∷ 114 ∷ 18 ∷ 52 ∷ 132 ∷ 0 ∷ 0 ∷ 1 ∷ 0 ∷ 3 ∷ 0 ∷ 0 ∷ 0 ∷ 0 ∷ 1 ∷ 97 ∷ 0 ∷ 0 ∷ 252 ∷ 0 ∷ 1
    ∷ 1 ∷ 97 ∷ 0 ∷ 0 ∷ 6 ∷ 0 ∷ 1 ∷ 0 ∷ 0 ∷ 0 ∷ 60 ∷ 0 ∷ 26 ∷ 1 ∷ 98 ∷ 0 ∷ 1 ∷ 99 ∷ 0
    ∷ 0 ∷ 0 ∷ 0 ∷ 1 ∷ 0 ∷ 0 ∷ 0 ∷ 2 ∷ 0 ∷ 0 ∷ 0 ∷ 3 ∷ 0 ∷ 0 ∷ 0 ∷ 4 ∷ 0 ∷ 0 ∷ 0 ∷ 5
    ∷ 1 ∷ 97 ∷ 0 ∷ 0 ∷ 1 ∷ 0 ∷ 1 ∷ 0 ∷ 0 ∷ 0 ∷ 60 ∷ 0 ∷ 4 ∷ 1 ∷ 2 ∷ 3 ∷ 4
    ∷ 1 ∷ 97 ∷ 0 ∷ 0 ∷ 6 ∷ 0 ∷ 1 ∷ 0 ∷ 0 ∷ 0 ∷ 60 ∷ 0 ∷ 26 ∷ 1 ∷ 98 ∷ 0 ∷ 1 ∷ 99 ∷ 0
    ∷ 0 ∷ 0 ∷ 0 ∷ 1 ∷ 0 ∷ 0 ∷ 0 ∷ 2 ∷ 0 ∷ 0 ∷ 0 ∷ 3 ∷ 0 ∷ 0 ∷ 0 ∷ 4 ∷ 0 ∷ 0 ∷ 0 ∷ 5 ∷ []
stream = refl
