use Rattle.dns_header.proofs.header.with_bit.Goals as goal
use Rattle.dns_header.proofs.Fields.{bit_set, bit_cleared}

pub returns-then-set : goal.returns-then-set
returns-then-set c = rw c.if-set.true (bit_set c.args.octet c.args.bit c.requires c.ranges.octet.fits)

pub returns-else-set : goal.returns-else-set
returns-else-set c = rw c.if-set.false (bit_cleared c.args.octet c.args.bit c.requires c.ranges.octet.fits)
