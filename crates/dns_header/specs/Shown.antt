-- How a record is printed (RFC 1035 5.1).
use Rattle.std.specs.Prelude.{ℕ, List, ◌∷◌, decimal}
use Rattle.dns_label.specs.Printed.{printed_name}
use Rattle.dns_values.specs.Mnemonic.{class_written, type_written}
use Rattle.dns_text.specs.Document.{Piece}
use Rattle.dns_text.specs.Document.Piece.{Token}

-- its document: owner, TTL, class and type, and then that of its data
abbrev pub record_document : List (List ℕ) → ℕ → ℕ → ℕ → List Piece → List Piece
record_document owner ttl class rtype data' =
    Token (printed_name owner) ∷ Token (decimal ttl) ∷ Token (class_written class) ∷ Token (type_written rtype) ∷ data'
