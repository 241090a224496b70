use Rattle.std.proofs.Common.{◌≡◌, ◌∙◌, arith, rules}
use borrow.Author.Tests.{tests}
use Rattle.dns_flat.proofs.Decimals.{by_size, by_size_is}
use Rattle.dns_flat.proofs.builder.digits.decimal_label.Goals as goal

pub returns-clause-digits : goal.returns-clause-digits
returns-clause-digits c =
    let items : c.push-2.new.self.items ≡ by_size c.args.value = search (rules, tests) in
    items ∙ by_size_is c.args.value (omega (arith, c.ranges.value.fits))
