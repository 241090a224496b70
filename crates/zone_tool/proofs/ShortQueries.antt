-- The query for a transfer is short.
use Rattle.std.proofs.Common.{◌<◌, ◌^◌, ◌++◌, length, arith, length-append}
use Rattle.std.specs.Int.{to_be_bytes, w16}
use Rattle.dns_label.specs.Name.{IsName, wire}
use Rattle.zone_records.specs.Zone.{axfr_type}
use Rattle.zone_core.specs.Query.{AxfrQuery, query_octets}

pub query_short : (query : AxfrQuery) → IsName query.name → length (query_octets query) < 2 ^ 16
query_short query is =
    omega (
      arith,
      is.short,
      length-append (wire query.name ++ to_be_bytes w16 axfr_type) (to_be_bytes w16 query.class),
      length-append (wire query.name) (to_be_bytes w16 axfr_type),
    )
