use Rattle.zone_forms.proofs.PiecesTaken.{rewritten_start}
use Rattle.std.proofs.Common.{None, refl}
use Rattle.zone_forms.specs.declared.rewriter.Rewriter.{Rewriter}
use Rattle.zone_forms.proofs.rewriter.Rewriter.new.Goals as goal

pub returns : goal.returns
returns c =
    let made : Rewriter = record {
      alloc = c.args.alloc;
      form = c.args.form;
      reader = c.in_ok-new.field-0;
      pending = c.new-2.result;
      feeds = 0;
      spans = c.new-3.result;
      failed = None;
    } in
    rewritten_start made refl c.new-2.ensures.items refl c.in_ok-new.ensures
