use Rattle.dns_octets.specs.Parser.{octets_of, place_of}
use Rattle.std.proofs.Common.{length, refl}
use Rattle.dns_fields.specs.Fields.{rest64}
use Rattle.dns_fields.proofs.CutFields.{row_whole}
use Rattle.dns_fields.proofs.ReadStrings.{all_read, rest64_sole}
use Rattle.dns_fields.proofs.read.rests.LastRest64RefSliceU8ReadRow.read_fields.Goals as goal

pub returns-clause-ok : goal.returns-clause-ok
returns-clause-ok c = record { each = (tt, tt); spelled = all_read c.peek_all-octets.ensures c.args.parser.now.within }

pub returns-clause-sole : goal.returns-clause-sole
returns-clause-sole c = rest64_sole (octets_of c.args.parser.now) _ (place_of c.args.parser.now) c.peek_all-octets.ensures

pub returns-clause-short : goal.returns-clause-short
returns-clause-short c =
    row_whole
    (λ none. none (rest64 c.peek_all-octets.result.now) (length (octets_of c.args.parser.now)) refl
    (record { is_field = tt; spelled = (returns-clause-ok c).spelled }))
