-- What a query that the code parsed asks.
use Rattle.dns_name.specs.ParsedName.{labels_of}
use Rattle.zone_core.specs.Query.{AxfrQuery}
use Rattle.zone_core.specs.declared.query.Query.{Query}

-- a parsed query, with its name as labels
abbrev pub asked_by : Query → AxfrQuery
asked_by query = record {
  id = query.id;
  recursion = query.rd;
  name = labels_of query.name;
  class = query.class;
}
