use Rattle.std.proofs.Common.{arith}
use Rattle.std.proofs.lemmas.List.{length-take-le}
use Rattle.dns_zonefile.proofs.LastOwners.{kept_all, kept_name, name_short, name_within}
use Rattle.dns_zonefile.proofs.last_owner.copy_name.Goals as goal

pub returns-then-octets-ge32-clause-name : goal.returns-then-octets-ge32-clause-name
returns-then-octets-ge32-clause-name c = λ name begins.
    kept_name c.copy_from_slice.new.self _ c.args.octets.now c.args.len 32 name begins c.copy_from_slice.ensures.after (omega arith) (omega arith)

pub returns-then-octets-ge32-clause-size : goal.returns-then-octets-ge32-clause-size
returns-then-octets-ge32-clause-size c =
    kept_all c.copy_from_slice.new.self _ c.args.to.now 32 c.copy_from_slice.ensures.after
    (length-take-le 32 c.args.octets.now (omega arith)) (omega arith) (omega arith)
