-- A field that ends a row.
use Rattle.std.specs.Prelude.{◌≡◌}
use Rattle.dns_name.specs.Page.Parts.{End, Octets}
use Rattle.dns_fields.specs.Fields.{Kind, Field, kind_of, field_octets, lowered}
use Rattle.dns_fields.specs.Alike.{folded}
use Rattle.dns_fields.specs.Written.{written_field}

-- a field of the kind that is nothing but its octets
pub record IsLast (its : Kind) (field : Field) : Type 0 where
  pub kind : kind_of field ≡ its
  pub lowered : lowered field ≡ field
  pub folded : folded field ≡ field
  pub written : written_field field End ≡ Octets (field_octets field) End
