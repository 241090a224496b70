use Rattle.dns_scan.proofs.HexLanes.{sixteen_ok}
use Rattle.dns_scan.proofs.encoding.hex_digits.digits_of.Goals as goal

pub returns : goal.returns
returns c = sixteen_ok c.args.numbers c.fits-numbers.0 c.requires
