use Rattle.std.proofs.Common.{◌∷◌, [], ℕ, List, sym, ◌∙◌, subst}
use Rattle.dns_scan.specs.StringText.{quoted_text}
use Rattle.dns_text.specs.Document.Piece.{Token}
use Rattle.dns_text.specs.Writing.{Adds}
use Rattle.dns_fields.proofs.TextStrings.{Printed, none_printed, more_printed, all_printed}
use Rattle.dns_fields.proofs.show.rests.StringsShowLast.show_last.Goals as goal

pub loop-string-init : goal.loop-string-init
loop-string-init g c =
    subst (λ (l : List (List ℕ)). Printed g.F.Formatter.writes c.args.formatter.now c.args.self.now l c.args.formatter.now)
    (sym (c.into_iter-string-iterator.ensures.into_iter_gives ∙ c.iter-string-items.ensures))
    (none_printed g.F.Formatter.writes c.args.formatter.now c.args.self.now)

pub loop-string-preserved : goal.loop-string-preserved
loop-string-preserved g c =
    more_printed g.F.Formatter.writes c.args.formatter.now c.loop-string.formatter c.write_token.new.self c.args.self.now
    c.loop-string.string-iterator c.next.new.self c.in-Some.string c.loop-string.invariant c.in-Some.ensures.steps
    (subst (λ (l : List ℕ). Adds g.F.Formatter.writes c.loop-string.formatter (Token (quoted_text l) ∷ []) c.write_token.new.self)
    c.display_quoted.ensures c.in_ok-write_token.ensures)

pub returns : goal.returns
returns g c =
    all_printed g.F.Formatter.writes c.args.formatter.now c.loop-string.formatter c.args.self.now c.loop-string.string-iterator
    c.loop-string.invariant c.in-None.ensures.steps.0
