use Rattle.std.proofs.Common.{◌∙◌, ℕ, length, length-append, refl, ap, arith}
use Rattle.std.specs.Prelude.{None, Ok, Err}
use Rattle.std.proofs.lemmas.Result.{err_from_is_err_and}
use Rattle.dns_text.specs.CharStr.{string_wire}
use Rattle.dns_rr_data.specs.Built.{StandsFor, with_string}
use Rattle.dns_rr_data.proofs.Appended.{ok_not_long, short_not_long, no_long}
use Rattle.dns_rr_data.proofs.Builds.{stands_string, stands_here, stands_is, stands_seen, string_size}
use Rattle.dns_rr_data.proofs.txt.builder.TxtBuilder.append_charstr.Goals as goal
use Rattle.dns_rr_data.proofs.txt.builder.TxtBuilder.append_charstr.Goals.{After-self-1}

pub returns-in_err-compose-clause-long : goal.returns-in_err-compose-clause-long
returns-in_err-compose-clause-long g c =
    let here = stands_seen c.self.view_is c.self.invariant in
    let p = err_from_is_err_and c.from_residual.result c.from_residual.ensures.1 in
    no_long c.from_residual.result _ (short_not_long _ (p.1 ∙ ap (λ e. Err e) p.2))
    (omega (arith, string_size c.args.string.now here, ap (length {A = ℕ}) c.octets.ensures, c.len.ensures.octets, c.if-octets-len-gt65535.false))

put : (g : _) (c : After-self-1 g)
    → StandsFor (g.Builder.Octets.list c.compose.new.target) None (with_string c.args.self.now c.args.string.now)
put g c =
    let is = c.in_ok-compose.ensures.ok in
    let size = length-append (g.Builder.Octets.list c.self.inside.builder) (string_wire c.args.string.now) in
    stands_string c.args.string.now (stands_seen c.self.view_is c.self.invariant) (omega (arith, c.len.ensures.octets, c.len.ensures.short)) is
    (omega (arith, size, ap (length {A = ℕ}) is, ap (length {A = ℕ}) c.octets.ensures, c.len.ensures.octets, c.if-octets-len-gt65535.false))

pub invariant_of-self-2 : goal.invariant_of-self-2
invariant_of-self-2 g c = stands_here _ _ _ (put g c)

pub returns-clause-ok : goal.returns-clause-ok
returns-clause-ok g c = stands_is _ _ _ (put g c)

pub returns-clause-long : goal.returns-clause-long
returns-clause-long g c =
    let here = stands_seen c.self.view_is c.self.invariant in
    no_long (Ok tt) _ (ok_not_long (Ok tt) tt refl)
    (omega (arith, string_size c.args.string.now here, ap (length {A = ℕ}) c.octets.ensures, c.len.ensures.octets, c.if-octets-len-gt65535.false))
