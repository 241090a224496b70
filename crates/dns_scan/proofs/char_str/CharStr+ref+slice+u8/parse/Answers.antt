use Rattle.std.proofs.Common.{arith, rules}
use Rattle.dns_name.specs.Parser.{octets_of, place_of}
use Rattle.dns_name.proofs.Flat.{always_on_err}
use Rattle.dns_name.proofs.Front.{goes_rest}
use Rattle.dns_scan.proofs.Parsed.{string_fits, string_taken}
use Rattle.dns_scan.proofs.char_str.CharStr+ref+slice+u8.parse.Goals as goal

pub returns-in_err-octets-clause-err : goal.returns-in_err-octets-clause-err
returns-in_err-octets-clause-err c =
    always_on_err c.from_residual-in_err-octets.result
    (λ string rest starts.
    let fits = string_fits (octets_of c.args.parser.now) c.in_ok-front.front.now string rest (place_of c.args.parser.now) c.from.result
    c.in_ok-front.ensures.ok c.from.ensures starts c.args.parser.now.within in
    let bad = c.in_err-octets.ensures.enough.1 fits in cc)

pub returns-clause-ok : goal.returns-clause-ok
returns-clause-ok c =
    string_taken (octets_of c.args.parser.now) c.in_ok-front.front.now c.in_ok-octets.octets.now _ (place_of c.args.parser.now) c.from.result
    c.in_ok-front.ensures.ok c.from.ensures c.in_ok-octets.ensures.ok (search rules) (omega arith) (goes_rest c.in_ok-octets.ensures.place)
