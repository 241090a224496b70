use Rattle.std.proofs.Common.{◌∷◌, ℕ, List, subst}
use Rattle.dns_octets.specs.Parser.{octets_of, place_of}
use Rattle.dns_fields.specs.Fields.{Kind}
use Rattle.dns_fields.specs.Reading.{ReadsFields, AreSoleFields, NoFields}
use Rattle.dns_fields.proofs.ReadParts.{on_err, row_read, no_first, no_others, sole_row}
use Rattle.dns_fields.proofs.read.Tuple2ReadRow.read_fields.Goals as goal

pub returns-in_err-first-clause-err : goal.returns-in_err-first-clause-err
returns-in_err-first-clause-err g c = on_err c.from_residual.result (no_first g.B.HasFields.kinds c.in_err-first.ensures.err)

pub returns-in_err-others-clause-err : goal.returns-in_err-others-clause-err
returns-in_err-others-clause-err g c =
    let m : List ℕ = octets_of c.args.parser.now in
    let none = subst (λ (octets : List ℕ). NoFields octets (place_of c.read_field.new.parser) g.B.HasFields.kinds) c.read_field.ensures.same c.in_err-others.ensures.err in
    on_err c.from_residual-in_err-others.result
    (subst (λ (k : Kind). NoFields m (place_of c.args.parser.now) (k ∷ g.B.HasFields.kinds)) (g.met.A.HasField.of_kind c.in_ok-first.first)
    (no_others g.B.HasFields.kinds c.in_ok-first.ensures.sole none))

pub returns-clause-ok : goal.returns-clause-ok
returns-clause-ok g c =
    row_read c.in_ok-first.ensures.ok
    (subst (λ (octets : List ℕ). ReadsFields octets (place_of c.read_field.new.parser) (g.B.HasFields.fields c.in_ok-others.others)) c.read_field.ensures.same c.in_ok-others.ensures.ok)

pub returns-clause-sole : goal.returns-clause-sole
returns-clause-sole g c =
    sole_row c.in_ok-first.ensures.sole
    (subst (λ (octets : List ℕ). AreSoleFields octets (place_of c.read_field.new.parser) (g.B.HasFields.fields c.in_ok-others.others)) c.read_field.ensures.same c.in_ok-others.ensures.sole)
