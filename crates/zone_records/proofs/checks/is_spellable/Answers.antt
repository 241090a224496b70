use Rattle.std.proofs.Common.{◌≡◌, ◌≢◌, arith, refl}
use Rattle.std.proofs.lemmas.Bool.Decides.{nat_tests}
use Rattle.zone_records.proofs.CheckedData.{missing_tag, other_spellable, second_found, second_missing, tag_tested}
use Rattle.zone_records.proofs.checks.is_spellable.Goals as goal

pub returns-then-ne : goal.returns-then-ne
returns-then-ne c =
    let other : c.args.record.now.rtype ≢ 257 = λ caa. absurd (grind (arith, nat_tests, caa, c.rtype.ensures, c.ne.ensures, c.if-ne.true)) in
    other_spellable c.args.record.now.rtype c.args.record.now.rdata other

pub returns-in-Some : goal.returns-in-Some
returns-in-Some c =
    let caa : c.args.record.now.rtype ≡ 257 = grind (arith, nat_tests, c.rtype.ensures, c.ne.ensures, c.if-ne.false) in
    let lookup = c.in-Some.ensures.lookup in
    let found = second_found c.data.result.now c.in-Some.field-0.now _ lookup.0 lookup.1 in
    tag_tested c.args.record.now.rtype c.args.record.now.rdata c.in-Some.field-0.now _ c.requires caa (rw c.data.ensures at found) refl

pub returns-in-None : goal.returns-in-None
returns-in-None c =
    let caa : c.args.record.now.rtype ≡ 257 = grind (arith, nat_tests, c.rtype.ensures, c.ne.ensures, c.if-ne.false) in
    let short = second_missing c.data.result.now c.in-None.ensures.lookup.0 in
    missing_tag c.args.record.now.rtype c.args.record.now.rdata c.requires caa (rw c.data.ensures at short)
