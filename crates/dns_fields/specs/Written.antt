-- The parts by which data is written in a message.
use Rattle.std.specs.Prelude.{Bool, true, false, List, [], ◌∷◌}
use Rattle.dns_name.specs.Page.{Parts}
use Rattle.dns_name.specs.Page.Parts.{End, Octets, Named}
use Rattle.dns_fields.specs.Fields.{Kind, Compressible, Number8, Number16, Number32, Ipv4, Ipv6, Uncompressed, String, Strings, Tag, RestText, Rest16, Rest64}
use Rattle.dns_fields.specs.Fields.{Field, compressible, field_octets}

-- whether fields of a kind may be written with a pointer (RFC 3597 4)
abbrev pub may_point : Kind → Bool
may_point Compressible = true
may_point Number8 = false
may_point Number16 = false
may_point Number32 = false
may_point Ipv4 = false
may_point Ipv6 = false
may_point Uncompressed = false
may_point String = false
may_point Strings = false
may_point Tag = false
may_point RestText = false
may_point Rest16 = false
may_point Rest64 = false

-- a field before parts, as a writer gives it: only a compressible name may have a pointer (RFC 3597 4)
abbrev pub written_field : Field → Parts → Parts
written_field (compressible name) behind = Named name behind
written_field field behind = Octets (field_octets field) behind

-- the parts of a row
abbrev pub written_parts : List Field → Parts
written_parts [] = End
written_parts (field ∷ row) = written_field field (written_parts row)
