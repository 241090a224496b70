-- The query for a zone's own transfer.
use Rattle.std.proofs.Common.{◌≡◌, ◌<◌, ◌^◌, ℕ, false, List, refl, ◌∙◌, arith}
use Rattle.std.specs.Prelude.{◌≢◌}
use Rattle.dns_label.specs.Name.{IsName}
use Rattle.zone_records.specs.Zone.{any_class}
use Rattle.zone_core.specs.Query.{AxfrQuery, IsQuery, query_octets}
use Rattle.zone_core.proofs.MadeQueries.{made_query}
use Rattle.zone.specs.View.{Contents, apex_of}
use Rattle.zone_send.specs.Sent.{AsksFor}
use Rattle.zone_tool.specs.Statistics.{transfer_query}

pub query_is : (zone : Contents) (name : List (List ℕ)) (class : ℕ) (query octets : List ℕ) → octets ≡ query
    → query ≡ query_octets (record { id = 0; recursion = false; name = name; class = class }) → name ≡ apex_of zone.records → class ≡ zone.class
    → octets ≡ transfer_query zone
query_is zone name class query octets whole is apex same =
    whole ∙ is ∙ (λ i. query_octets (record { id = 0; recursion = false; name = apex i; class = same i }))

-- it asks for the zone
pub asks_for_zone : (zone : Contents) → IsName (apex_of zone.records) → zone.class < 2 ^ 16 → zone.class ≢ any_class
    → (query : AxfrQuery) × IsQuery (transfer_query zone) query × AsksFor query (apex_of zone.records) zone.class
asks_for_zone zone name small known =
    let query : AxfrQuery = record { id = 0; recursion = false; name = apex_of zone.records; class = zone.class } in
    (query, made_query query refl (omega arith) name small known, record { name = refl; class_is = refl })
