use Rattle.std.proofs.Common.{◌≤◌, ℕ, List, length, subst}
use Rattle.dns_octets.specs.Parser.{octets_of, place_of}
use Rattle.dns_fields.proofs.CutFields.{name_whole}
use Rattle.dns_fields.proofs.ReadFields.{name_read, uncompressed_sole}
use Rattle.dns_fields.proofs.read.leaves.UncompressedParsedNameRefSliceU8ReadField.read_field.Goals as goal

pub returns-in-Ok-clause-ok : goal.returns-in-Ok-clause-ok
returns-in-Ok-clause-ok c =
    let fits : place_of c.parse.new.parser ≤ length (octets_of c.args.parser.now) =
    subst (λ (octets : List ℕ). place_of c.parse.new.parser ≤ length octets) c.parse.ensures.same c.parse.new.parser.within in
    record { is_field = c.in-Ok.ensures.ok.is_name; spelled = name_read c.in-Ok.ensures.ok fits }

pub returns-in-Ok-clause-sole : goal.returns-in-Ok-clause-sole
returns-in-Ok-clause-sole c = uncompressed_sole c.in-Ok.ensures.ok

pub returns-in-Ok-clause-short : goal.returns-in-Ok-clause-short
returns-in-Ok-clause-short c = name_whole c.in-Ok.ensures.ok
