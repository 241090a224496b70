-- The records of a transfer are a zone.
use Rattle.std.proofs.Common.{◌≡◌, ◌≢◌, List, [], ◌∷◌, ◌++◌, sym, ap, ◌∙◌}
use Rattle.std.specs.List.{AllByRecursion}
use Rattle.dns_label.specs.Name.{low}
use Rattle.zone_records.specs.Record.{Record}
use Rattle.zone_records.specs.Zone.{IsBehindSoa, IsZone, soa_type}
use Rattle.zone_core.specs.Query.{AxfrQuery}
use Rattle.zone_core.specs.Transfer.{IsInZoneOf, IsTransferred}

behind_first : (query : AxfrQuery) (soa : Record) (others : List Record) → low soa.owner ≡ low query.name
    → AllByRecursion (IsInZoneOf query) others → AllByRecursion (λ r. r.rtype ≢ soa_type) others → AllByRecursion (IsBehindSoa soa) others
behind_first query soa [] same inside not_soa = tt
behind_first query soa (r ∷ others) same inside not_soa = (
  record {
    no_soa = not_soa.0;
    under = record { front = inside.0.under.front; whole_is = inside.0.under.whole_is ∙ ap (λ l. inside.0.under.front ++ l) (sym same) };
  },
  behind_first query soa others same inside.1 not_soa.1,
)

pub transferred_is_zone : (query : AxfrQuery) (records : List Record) → IsTransferred query records → IsZone records
transferred_is_zone query [] is = absurd is
transferred_is_zone query (soa ∷ others) is = (is.0, behind_first query soa others is.1 is.2.1 is.3)
