use Rattle.std.proofs.Common.{◌<◌, ◌≤◌, ◌+◌, length, arith}
use Rattle.dns_octets.specs.Parser.{octets_of, place_of}
use Rattle.dns_flat.proofs.Front.{front_all}
use Rattle.dns_flat.proofs.name.next_255.Goals as goal

pub returns-in-Err : goal.returns-in-Err
returns-in-Err c =
    let few : length (octets_of c.args.parser.now) < place_of c.args.parser.now + 255 =
    let no : place_of c.args.parser.now + 255 ≤ length (octets_of c.args.parser.now) → ⊥ =
    (λ fits. let bad = c.in-Err.ensures.enough.1 fits in cc) in omega arith in
    rw (c.as_slice.ensures, c.pos.ensures) (front_all (octets_of c.args.parser.now) (place_of c.args.parser.now) few)
