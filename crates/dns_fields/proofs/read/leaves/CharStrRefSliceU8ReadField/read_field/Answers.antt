use Rattle.std.proofs.Common.{◌≤◌, ℕ, List, length, subst, ap, Bor}
use Rattle.dns_octets.specs.Parser.{octets_of, place_of}
use Rattle.dns_fields.proofs.CutFields.{field_whole}
use Rattle.dns_fields.proofs.ReadStrings.{string_read, string_sole, no_string}
use Rattle.dns_fields.proofs.read.leaves.CharStrRefSliceU8ReadField.read_field.Goals as goal

pub returns-in-Ok-clause-ok : goal.returns-in-Ok-clause-ok
returns-in-Ok-clause-ok c =
    let fits : place_of c.parse.new.parser ≤ length (octets_of c.args.parser.now) =
    subst (λ (octets : List ℕ). place_of c.parse.new.parser ≤ length octets) (ap (λ (octets : Bor (List ℕ)). octets.now) c.in-Ok.ensures.place.octets) c.parse.new.parser.within in
    record { is_field = c.in-Ok.ensures.ok.short; spelled = string_read c.in-Ok.ensures.ok c.in-Ok.ensures.place.place fits }

pub returns-in-Ok-clause-sole : goal.returns-in-Ok-clause-sole
returns-in-Ok-clause-sole c = string_sole (returns-in-Ok-clause-ok c).spelled

pub returns-in-Err-clause-err : goal.returns-in-Err-clause-err
returns-in-Err-clause-err c = no_string c.in-Err.ensures.err

pub returns-in-Ok-clause-short : goal.returns-in-Ok-clause-short
returns-in-Ok-clause-short c = field_whole (returns-in-Ok-clause-ok c)
