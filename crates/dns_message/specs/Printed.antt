-- How a record is printed: its owner, TTL, class and type, and then its data (RFC 1035 5.1).
use Rattle.std.specs.Prelude.{◌≡◌, ℕ, List, None}
use Rattle.dns_rdata.specs.Document.{Piece}
use Rattle.dns_header.specs.Shown.{record_document}
use Rattle.dns_rdata.specs.Fields.{kinds_of}
use Rattle.dns_rdata.specs.Data.{document_of, unknown_data}
use Rattle.dns_rdata.specs.DataOctets.{IsDataDocument}
use Rattle.dns_message.specs.Record.{Record}

-- The document of a record's data: its fields if the type has some, and else unknown data (RFC 3597 5).
pub data ShowsData (rtype : ℕ) (data' : List ℕ) (document : List Piece) : Type 0 where
  fields : IsDataDocument rtype data' document → ShowsData rtype data' document
  untold : kinds_of rtype ≡ None → document ≡ document_of (unknown_data (record { number = rtype; octets = data' }))
      → ShowsData rtype data' document

-- a record, and its document
pub record IsDocument (r : Record) (document : List Piece) : Type 0 where
  pub data_document : List Piece
  pub data_is : ShowsData r.rtype r.rdata data_document
  pub is : document ≡ record_document r.owner r.ttl r.class r.rtype data_document
