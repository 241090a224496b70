use Rattle.std.proofs.Common.{◌/◌}
use Rattle.dns_field_texts.proofs.ShownTypes.{no_bit_shown, bit_shown}
use Rattle.dns_field_texts.proofs.bitmap.show.show_octet.Goals as goal

pub loop-place-init : goal.loop-place-init
loop-place-init g c = no_bit_shown g.F.Formatter.writes c.args.formatter.now c.args.first (c.args.octet / 256)

pub loop-place-preserved : goal.loop-place-preserved
loop-place-preserved g c =
    bit_shown g.F.Formatter.writes c.args.formatter.now c.loop-place.formatter c.show_bit.new.formatter c.args.first c.args.octet c.loop-place.place
    c.loop-place-test.true c.loop-place.invariant c.in_ok-show_bit.ensures
