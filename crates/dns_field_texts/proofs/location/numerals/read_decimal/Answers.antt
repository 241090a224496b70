use Rattle.std.proofs.Common.{◌≤◌, arith, rules}
use Rattle.std.proofs.lemmas.Grind.{common_steps}
use Rattle.std.proofs.lemmas.Option.{IfSome_then}
use Rattle.dns_field_texts.proofs.LocationNumerals.{decimal_read, if_none, no_first, no_second, no_third}
use Rattle.dns_field_texts.proofs.location.numerals.read_decimal.Goals as goal

pub returns-in_err-value-clause-none : goal.returns-in_err-value-clause-none
returns-in_err-value-clause-none c = rw c.from_residual.ensures (no_first c.requires.places c.in_err-value.ensures.none)

pub returns-in_err-value-2-clause-none : goal.returns-in_err-value-2-clause-none
returns-in_err-value-2-clause-none c =
    rw c.from_residual-in_err-value-2.ensures (no_second c.requires.places c.in_ok-value.ensures.some c.in_err-value-2.ensures.none)

pub returns-clause-some : goal.returns-clause-some
returns-clause-some c =
    IfSome_then c.push_digits-3.result c.push_digits-3.ensures.some
    (λ value goes. decimal_read (search rules) (omega arith) c.requires.places c.in_ok-value.ensures.some c.in_ok-value-2.ensures.some goes)

pub returns-clause-none : goal.returns-clause-none
returns-clause-none c =
    if_none c.push_digits-3.result c.push_digits-3.ensures.none
    (λ none. no_third c.requires.places c.in_ok-value.ensures.some c.in_ok-value-2.ensures.some none)
