use Rattle.dns_rr_data.proofs.Builds.{taken_more, parted}
use Rattle.dns_rr_data.proofs.txt.cut.append_strings.Goals as goal

pub loop-rest-preserved : goal.loop-rest-preserved
loop-rest-preserved g c =
    taken_more c.split_at.result.0.now c.loop-rest.invariant (parted _ _ _ 255 c.split_at.ensures.front c.split_at.ensures.back) c.split_at.ensures.front_len c.in_ok-append_string.ensures.ok
