-- The pieces of data tried on a row that is written out.
use Rattle.std.specs.Prelude.{◌≡◌, [], ◌∷◌, codes, decimal, refl}
use Rattle.dns_text.specs.Document.Piece.{Token, Comment}
use Rattle.dns_fields.specs.Fields.{compressible, number32}
use Rattle.dns_fields.specs.Shown.{data_pieces}

-- `SOA b. c. 1 2 3 4 5`
pub soa_tried : data_pieces 6 (compressible (codes "b" ∷ []) ∷ compressible (codes "c" ∷ []) ∷ number32 1 ∷ number32 2 ∷ number32 3
    ∷ number32 4 ∷ number32 5 ∷ [])
    ≡ Token (codes "b.") ∷ Token (codes "c.") ∷ Token (decimal 1) ∷ Comment (codes "serial") ∷ Token (decimal 2)
    ∷ Comment (codes "refresh") ∷ Token (decimal 3) ∷ Comment (codes "retry") ∷ Token (decimal 4) ∷ Comment (codes "expire")
    ∷ Token (decimal 5) ∷ Comment (codes "minimum") ∷ []
soa_tried = refl
