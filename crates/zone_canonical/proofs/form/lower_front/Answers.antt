use Rattle.std.proofs.Common.{◌≤◌, ◌-◌, refl, arith}
use Rattle.std.proofs.lemmas.Grind.{common_steps}
use Rattle.zone_canonical.proofs.LowOctets.{lowered_twice}
use Rattle.zone_canonical.proofs.form.lower_front.Goals as goal

pub returns-else-count : goal.returns-else-count
returns-else-count c =
    let count = c.args.count in
    let many : 16 ≤ count = grind (arith, common_steps) in
    let few : count ≤ 32 = grind (arith, common_steps) in
    lowered_twice c.args.octets.now c.make_ascii_lowercase-else-count.new.self c.make_ascii_lowercase-else-count-2.new.self count (count - 16) (count - (count - 16))
    many few c.requires refl refl c.make_ascii_lowercase-else-count.ensures.after c.make_ascii_lowercase-else-count-2.ensures.after
