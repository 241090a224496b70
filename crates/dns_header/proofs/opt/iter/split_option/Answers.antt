use Rattle.std.proofs.Common.{◌≡◌, ◌+◌, ◌≤◌, ◌∙◌, ℕ, List, length, take, drop, ap, rules, arith}
use Rattle.std.specs.Int.{to_be_bytes, w16}
use Rattle.dns_octets.specs.Parser.{octets_of, place_of}
use Rattle.dns_header.proofs.Heads.{on_err}
use Rattle.dns_header.proofs.Options.{starts_with, option_fits, option_length}
use Rattle.dns_header.proofs.opt.iter.split_option.Goals as goal

pub returns-clause-ok : goal.returns-clause-ok
returns-clause-ok c =
    let read : to_be_bytes w16 c.in_ok-code.code ≡ take 2 c.args.octets.now = search rules in
    let len_is : to_be_bytes w16 c.in_ok-len.len ≡ take 2 (drop 2 c.args.octets.now) = search rules in
    let value_is : c.in_ok-value.value.now ≡ take c.in_ok-len.len (drop 4 c.args.octets.now) = search rules in
    let rest_is : c.peek_all.result.now ≡ drop (4 + c.in_ok-len.len) c.args.octets.now = search rules in
    let long : length c.in_ok-value.value.now ≡ c.in_ok-len.len = search rules in
    starts_with c.args.octets.now c.in_ok-value.value.now c.peek_all.result.now c.from_int.result c.in_ok-len.len
    (ap (to_be_bytes w16) c.from_int.ensures ∙ read) len_is value_is rest_is long (omega (arith, c.from_int.ensures)) (omega arith)

pub returns-in_err-value-clause-err : goal.returns-in_err-value-clause-err
returns-in_err-value-clause-err c =
    let len_is : to_be_bytes w16 c.in_ok-len.len ≡ take 2 (drop 2 c.args.octets.now) = search rules in
    let same : octets_of c.parse_u16_be-2.new.self ≡ c.args.octets.now = search rules in
    let place : place_of c.parse_u16_be-2.new.self ≡ 4 =
    omega (arith, c.in_ok-len.ensures.place.place, c.in_ok-code.ensures.place.place, c.from_ref-parser.ensures.place) in
    on_err c.from_residual-in_err-value.result
    (λ option rest starts.
    let long = option_length c.args.octets.now option rest c.in_ok-len.len starts len_is (omega arith) in
    let fits = option_fits c.args.octets.now option rest starts in
    let bad = c.in_err-value.ensures.enough.1 (omega (arith, long, fits, place, c.from.ensures, ap (length {A = ℕ}) same)) in
    cc)
