use Rattle.dns_scan_data.proofs.HexLanes.{sixteen_marked}
use Rattle.dns_scan_data.proofs.hex_piece.are_digits.Goals as goal

pub returns : goal.returns
returns c = λ is. sixteen_marked c.args.octets c.fits-octets.0 c.fits-octets.1 is
