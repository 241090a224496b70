use Rattle.std.proofs.Common.{ℕ, List, [], ◌∷◌, ◌++◌, refl, sym, subst}
use Rattle.std.proofs.lemmas.Result.{err_from_is_err_and}
use Rattle.std.specs.List.{flat_map}
use Rattle.std.specs.Iterator.{Yields}
use Rattle.dns_label.specs.OwnedLabel.{octets_owned}
use Rattle.dns_label.specs.Symbol.{spelled}
use Rattle.dns_label.proofs.SymbolFronts.{fact_on_err}
use Rattle.dns_label.proofs.Taken.{rules_behind, rules_weaker, rules_here, yields_append}
use Rattle.dns_label.proofs.LabelTexts.{SpellsLabel, taking_none, taking_more, text_one, no_symbol_none, over_label, over_of, why_over, why_empty, filled_ok, filled_err}
use Rattle.dns_label.proofs.label.owned.OwnedLabel.from_chars.Goals as goal

pub loop-chars-init : goal.loop-chars-init
loop-chars-init g c = record {
  can = c.requires.can;
  ends = c.requires.ends;
  read = ([], taking_none _ refl, refl);
}

pub from_chars-requires : goal.from_chars-requires
from_chars-requires g c = c.loop-chars.invariant.can

pub returns-in_err-symbol-clause-err : goal.returns-in_err-symbol-clause-err
returns-in_err-symbol-clause-err g c =
    let at = c.loop-chars.invariant.read in
    fact_on_err c.from_residual.result
    (rules_behind {P = SpellsLabel} c.args.chars c.loop-chars.chars (flat_map spelled at.0) at.2
    (rules_weaker c.loop-chars.chars (λ rest spells. no_symbol_none at.0 (octets_owned c.loop-chars.label) rest at.1 spells)
    c.in_err-symbol.ensures.symbol))

pub loop-chars-smaller : goal.loop-chars-smaller
loop-chars-smaller g c =
    let goes = rw c.in-Some.is at c.in_ok-symbol.ensures.progress in
    (goes.on c.loop-chars.invariant.ends).2

pub loop-chars-preserved : goal.loop-chars-preserved
loop-chars-preserved g c =
    let at = c.loop-chars.invariant.read in
    let goes = rw c.in-Some.is at c.in_ok-symbol.ensures.progress in
    let more = goes.on c.loop-chars.invariant.ends in
    let reads = rw c.in-Some.is at c.in_ok-symbol.ensures.symbol in
    let P : List ℕ → Type 0 = λ t. Yields g.C.Iterator.next_gives c.args.chars t c.from_chars.new.chars in
    record {
      can = more.0;
      ends = more.1;
      read = (
        at.0 ++ c.in-Some.symbol ∷ [],
        taking_more at.0 _ _ c.in-Some.symbol at.1 reads.0 c.in_ok-push.ensures.plain c.in_ok-push.ensures.ok,
        subst P (sym (text_one at.0 c.in-Some.symbol))
            (yields_append g.C.Iterator.next_gives (flat_map spelled at.0) (spelled c.in-Some.symbol) c.args.chars
            c.loop-chars.chars c.from_chars.new.chars at.2 reads.1),
      );
    }

pub returns-in_err-push-clause-err : goal.returns-in_err-push-clause-err
returns-in_err-push-clause-err g c =
    let at = c.loop-chars.invariant.read in
    let reads = rw c.in-Some.is at c.in_ok-symbol.ensures.symbol in
    fact_on_err c.from_residual-in_err-push.result
    (rules_behind {P = SpellsLabel} c.args.chars c.loop-chars.chars (flat_map spelled at.0) at.2
    (rules_behind c.loop-chars.chars c.from_chars.new.chars (spelled c.in-Some.symbol) reads.1
    (rules_here c.from_chars.new.chars
    (λ rest spells. over_label at.0 (octets_owned c.loop-chars.label) rest c.in-Some.symbol at.1 reads.0
    (over_of c.in-Some.symbol (octets_owned c.loop-chars.label) c.in_err-push.field-0.0 c.in_err-push.ensures.err) spells))))

pub returns-clause-ok : goal.returns-clause-ok
returns-clause-ok g c =
    let at = c.loop-chars.invariant.read in
    let end = rw c.in_default.is at c.in_ok-symbol.ensures.symbol in
    filled_ok g.C.Iterator.next_gives c.args.chars c.loop-chars.chars c.from_chars.new.chars at.0 c.loop-chars.label c.filled.result
    at.1 at.2 end c.filled.ensures.ok

pub returns-clause-err : goal.returns-clause-err
returns-clause-err g c =
    let at = c.loop-chars.invariant.read in
    let end = rw c.in_default.is at c.in_ok-symbol.ensures.symbol in
    filled_err g.C.Iterator.next_gives c.args.chars c.loop-chars.chars c.from_chars.new.chars at.0 c.loop-chars.label c.filled.result
    at.1 at.2 end c.filled.ensures.err

pub returns-in_err-push-clause-why : goal.returns-in_err-push-clause-why
returns-in_err-push-clause-why g c =
    let at = c.loop-chars.invariant.read in
    let reads = rw c.in-Some.is at c.in_ok-symbol.ensures.symbol in
    let p = err_from_is_err_and c.from_residual-in_err-push.result c.from_residual-in_err-push.ensures.1 in
    rw (p.1, p.2)
    (why_over g.C.Iterator.next_gives c.args.chars c.loop-chars.chars c.from_chars.new.chars at.0 (octets_owned c.loop-chars.label)
    at.1 at.2 c.in-Some.symbol c.in_err-push.field-0.0 reads.0 c.in_err-push.ensures.err reads.1)

pub returns-clause-why : goal.returns-clause-why
returns-clause-why g c =
    let at = c.loop-chars.invariant.read in
    let end = rw c.in_default.is at c.in_ok-symbol.ensures.symbol in
    why_empty g.C.Iterator.next_gives c.args.chars c.loop-chars.chars c.from_chars.new.chars at.0 (octets_owned c.loop-chars.label)
    c.filled.result at.1 at.2 end c.filled.ensures.err c.filled.ensures.why
