use Rattle.std.proofs.Common.{arith, refl}
use Rattle.dns_field_texts.proofs.ShownTypes.{window_more}
use Rattle.dns_field_texts.proofs.bitmap.show.show_window.Goals as goal

pub loop-octet-preserved : goal.loop-octet-preserved
loop-octet-preserved g c =
    let first = c.loop-octet.invariant.first in
    record {
      first = omega arith;
      shown =
          window_more g.F.Formatter.writes c.args.formatter.now c.loop-octet.formatter c.show_octet.new.formatter c.args.number
          c.loop-octet.octet-index _ c.args.window.now c.loop-octet-test.true refl c.loop-octet.invariant.shown
          (rw first at c.in_ok-show_octet.ensures);
    }
