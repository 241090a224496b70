use Rattle.dns_fields_more.proofs.OneScan.{not_long, one_left, one_octets}
use Rattle.dns_fields_more.proofs.laws.tokens_scan_as_one_further_row.Goals as goal

pub returns : goal.returns
returns g c = record {
  left = λ rtype row other tokens left rest once scans also. one_left once scans also;
  same = λ rtype row other tokens left rest once scans also are also_are. one_octets once scans also are also_are;
  short = λ rtype row tokens left once scans long. not_long once scans long;
}
