use Rattle.std.proofs.Common.{◌≡◌, ◌<◌, ◌^◌, ◌++◌, true, false, length, drop, arith, rules}
use Rattle.std.proofs.lemmas.Grind.{common_steps}
use Rattle.dns_text.specs.Tokens.{is_end}
use Rattle.dns_entry_scanner.proofs.HandedOn.{handed_on}
use Rattle.zone_forms.proofs.GoingOn.{fails_there, fails_whole, goes_whole}
use Rattle.zone_forms.proofs.texts.rewrite.Goals as goal

pub returns-in_err-end-clause-err : goal.returns-in_err-end-clause-err
returns-in_err-end-clause-err g c =
    let short : length c.args.text.now < 2 ^ 63 = search rules in
    handed_on c.from_residual.result c.in_err-end.field-0.0 _ c.from_residual.ensures.1
    (λ line same. fails_whole (omega (arith, short)) (c.in_err-end.ensures.err line same))

pub returns-then-not-end-clause-err : goal.returns-then-not-end-clause-err
returns-then-not-end-clause-err g c =
    let short : length c.args.text.now < 2 ^ 63 = search rules in
    let goes_on : is_end (drop c.in_ok-end.end.place c.args.text.now) ≡ false = grind (arith, common_steps) in
    fails_there c.in_ok-end.ensures.goes (omega (arith, short)) goes_on c.in_ok-end.ensures.no_row c.error_at.result c.error_at.ensures

pub slice_bounds-extend_from_slice-count : goal.slice_bounds-extend_from_slice-count
slice_bounds-extend_from_slice-count g c = omega (arith, c.in_ok-end.ensures.goes.within)

pub slice_bounds-extend_from_slice-start : goal.slice_bounds-extend_from_slice-start
slice_bounds-extend_from_slice-start g c = omega (arith, c.in_ok-end.ensures.goes.within)

pub returns-in-Ok-clause-ok : goal.returns-in-Ok-clause-ok
returns-in-Ok-clause-ok g c =
    let ends : is_end (drop c.in_ok-end.end.place c.args.text.now) ≡ true = grind (arith, common_steps) in
    let all : c.extend_from_slice.new.self.items ≡ c.append_rows.new.out.items ++ drop c.in_ok-end.end.place c.args.text.now = grind (arith, common_steps) in
    goes_whole c.in_ok-end.ensures.goes c.new-out.ensures.items ends all
