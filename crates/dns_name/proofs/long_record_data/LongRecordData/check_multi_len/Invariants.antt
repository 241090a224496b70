use Rattle.std.proofs.Common.{◌≡◌, ◌≤◌, sum, take}
use Rattle.dns_name.proofs.long_record_data.LongRecordData.check_multi_len.Given as goal

abbrev pub invariant-loop-len : goal.invariant-loop-len
invariant-loop-len g l = (l.total ≡ sum (take l.len-index l.lens)) × (l.total ≤ 65535)
