use Rattle.std.proofs.Common.{◌≡◌, ◌<◌, [], ◌∷◌, refl, arith, rules}
use Rattle.std.specs.Char.{digit_value}
use Rattle.dns_field_texts.proofs.hardware.split_pair.Goals as goal

pub returns-clause-some : goal.returns-clause-some
returns-clause-some c =
    let first = c.in_ok-high.field-0-0.now in
    let second = c.in_ok-low.field-0-0.now in
    let at : c.args.text.now ≡ first ∷ second ∷ c.in_ok-low.behind.now = search rules in
    let high : c.in_ok-hex_value.field-0 ≡ digit_value first = c.in_ok-hex_value.ensures.some.0 in
    let low : c.in_ok-hex_value-2.field-0 ≡ digit_value second = c.in_ok-hex_value-2.ensures.some.0 in
    let few : digit_value first < 16 = rw high at c.in_ok-hex_value.ensures.some.1 in
    let less : digit_value second < 16 = rw low at c.in_ok-hex_value-2.ensures.some.1 in
    record {
      pair = first ∷ second ∷ [];
      is = record { high = first; low = second; written = refl; high_digit = few; low_digit = less; is = omega (arith, high, low) };
      written = at;
    }
