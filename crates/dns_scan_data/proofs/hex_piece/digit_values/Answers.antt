use Rattle.dns_scan_data.proofs.HexLanes.{sixteen_values}
use Rattle.dns_scan_data.proofs.hex_piece.digit_values.Goals as goal

pub returns : goal.returns
returns c = sixteen_values c.args.digits c.fits-digits.0 c.fits-digits.1 c.requires
