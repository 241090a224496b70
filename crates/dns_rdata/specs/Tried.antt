-- The definitions tried on data that is written out.
use Rattle.std.specs.Prelude.{◌≡◌, [], ◌∷◌, refl}
use Rattle.dns_rdata.specs.Fields.{number16, number32, compressible, uncompressed, octets, canonical_octets}

-- `SOA b. c. 1 2 3 4 5`
pub soa_octets : octets (compressible ((98 ∷ []) ∷ []) ∷ compressible ((99 ∷ []) ∷ []) ∷ number32 1 ∷ number32 2 ∷ number32 3
    ∷ number32 4 ∷ number32 5 ∷ [])
    ≡ 1 ∷ 98 ∷ 0 ∷ 1 ∷ 99 ∷ 0 ∷ 0 ∷ 0 ∷ 0 ∷ 1 ∷ 0 ∷ 0 ∷ 0 ∷ 2 ∷ 0 ∷ 0 ∷ 0 ∷ 3 ∷ 0 ∷ 0 ∷ 0 ∷ 4 ∷ 0 ∷ 0 ∷ 0 ∷ 5 ∷ []
soa_octets = refl

-- `SRV 1 2 3 a.`
pub srv_octets : octets (number16 1 ∷ number16 2 ∷ number16 3 ∷ uncompressed ((97 ∷ []) ∷ []) ∷ [])
    ≡ 0 ∷ 1 ∷ 0 ∷ 2 ∷ 0 ∷ 3 ∷ 1 ∷ 97 ∷ 0 ∷ []
srv_octets = refl

-- `MX 10 MAIL.A.`
pub mx_canonical : canonical_octets (number16 10 ∷ compressible ((77 ∷ 65 ∷ 73 ∷ 76 ∷ []) ∷ (65 ∷ []) ∷ []) ∷ [])
    ≡ 0 ∷ 10 ∷ 4 ∷ 109 ∷ 97 ∷ 105 ∷ 108 ∷ 1 ∷ 97 ∷ 0 ∷ []
mx_canonical = refl
