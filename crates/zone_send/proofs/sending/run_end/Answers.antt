use Rattle.std.proofs.Common.{◌+◌, arith}
use Rattle.zone_send.proofs.Runs.{octets_ordered}
use Rattle.zone_send.proofs.sending.run_end.Goals as goal

pub overflow_sub-octets_before : goal.overflow_sub-octets_before
overflow_sub-octets_before c =
    omega (
      arith,
      octets_ordered c.args.records.now c.args.start (c.loop-end.end + 1) (omega (arith, c.loop-end.auto.end)),
      c.octets_before-before.ensures,
      c.octets_before.ensures,
    )
