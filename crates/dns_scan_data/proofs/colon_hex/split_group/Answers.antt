use Rattle.dns_scan_data.proofs.ColonHex.{group_four, group_one, group_three, group_two}
use Rattle.dns_scan_data.proofs.colon_hex.split_group.Goals as goal

pub returns-in_default : goal.returns-in_default
returns-in_default c = group_one c.in_ok-first.ensures

pub returns-in_default-split_digit : goal.returns-in_default-split_digit
returns-in_default-split_digit c = group_two c.in_ok-first.ensures c.in-Some.ensures

pub returns-in_default-split_digit-2 : goal.returns-in_default-split_digit-2
returns-in_default-split_digit-2 c = group_three c.in_ok-first.ensures c.in-Some.ensures c.in-Some-split_digit.ensures

pub returns : goal.returns
returns c = group_four c.in_ok-first.ensures c.in-Some.ensures c.in-Some-split_digit.ensures c.in-Some-split_digit-2.ensures
