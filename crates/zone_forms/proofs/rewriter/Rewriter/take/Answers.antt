use Rattle.std.proofs.Common.{subst}
use Rattle.dns_text.specs.declared.layout.DisplayKind.{DisplayKind}
use Rattle.zone_forms.proofs.GoingOn.{if_err_weaker}
use Rattle.zone_forms.proofs.PiecesTaken.{rewritten_on, rewritten_refuses}
use Rattle.dns_entry_scanner.proofs.Refused.{on_ok_weaker}
use Rattle.zone_forms.specs.Pieces.{GoesOn, HasTaken, Refuses, goes_in}
use Rattle.zone_forms.specs.declared.rewriter.Form.TheVariants.{General, Presentation}
use Rattle.zone_forms.proofs.rewriter.Rewriter.take.Goals as goal

pub returns-in-General-clause-ok : goal.returns-in-General-clause-ok
returns-in-General-clause-ok c =
    on_ok_weaker c.take_in.result _ _ (λ on. rewritten_on General c.in-General.is c.take_in.ensures.form c.take_in.ensures.failed on) c.take_in.ensures.ok

pub returns-in-General-clause-err : goal.returns-in-General-clause-err
returns-in-General-clause-err c =
    if_err_weaker c.take_in.result _ _ (λ error fails line same. rewritten_refuses General c.in-General.is (fails line same)) c.take_in.ensures.err

pub returns-in-Presentation-clause-ok : goal.returns-in-Presentation-clause-ok
returns-in-Presentation-clause-ok c =
    on_ok_weaker c.take_in-in-Presentation.result _ _
    (λ on. rewritten_on (Presentation c.in-Presentation.kind) c.in-Presentation.is c.take_in-in-Presentation.ensures.form c.take_in-in-Presentation.ensures.failed
    (subst (λ (kind : DisplayKind). GoesOn (HasTaken (goes_in (Presentation kind))) c.args.self.now c.args.piece.now c.take_in-in-Presentation.new.self
    c.args.out.now.items c.take_in-in-Presentation.new.out.items) c.new.ensures on)) c.take_in-in-Presentation.ensures.ok

pub returns-in-Presentation-clause-err : goal.returns-in-Presentation-clause-err
returns-in-Presentation-clause-err c =
    if_err_weaker c.take_in-in-Presentation.result _ _
    (λ error fails line same. rewritten_refuses (Presentation c.in-Presentation.kind) c.in-Presentation.is
    (subst (λ (kind : DisplayKind). Refuses (HasTaken (goes_in (Presentation kind))) c.args.self.now c.args.piece.now line) c.new.ensures (fails line same)))
    c.take_in-in-Presentation.ensures.err
