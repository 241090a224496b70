-- What a query that the receiver keeps asks.
use Rattle.zone_core.specs.Query.{AxfrQuery}
use Rattle.zone_receive.specs.declared.owned_query.OwnedQuery.{OwnedQuery}

abbrev pub asked_of : OwnedQuery → AxfrQuery
asked_of query = record { id = query.id; recursion = query.rd; name = query.name; class = query.class }
