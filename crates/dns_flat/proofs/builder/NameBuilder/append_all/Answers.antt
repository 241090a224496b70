use Rattle.std.proofs.Common.{[], ◌∷◌, ◌++◌, refl, sym, subst}
use Rattle.std.proofs.lemmas.Result.{err_from_is_err_and}
use Rattle.dns_label.proofs.Taken.{yields_append}
use Rattle.dns_wire.specs.Built.{Built}
use Rattle.dns_flat.specs.BuiltText.{Puts, IsNotPut}
use Rattle.dns_flat.proofs.Putting.{puts_more}
use Rattle.dns_flat.proofs.builder.NameBuilder.append_all.Goals as goal

pub symbols-preserved : goal.symbols-preserved
symbols-preserved g c =
    let at = c.symbols.invariant.put in
    let goes = c.in-Some.ensures.goes.on c.symbols.invariant.ends in
    let put = c.in_ok-push_symbol.ensures.ok in
    record {
      can = goes.0;
      ends = goes.1;
      put = (
        at.0 ++ c.in-Some.symbol ∷ [],
        yields_append g.S.Iterator.next_gives at.0 (c.in-Some.symbol ∷ []) c.args.symbols.now c.symbols.symbols c.next.new.self at.1
            (c.next.new.self, c.in-Some.ensures.steps, refl),
        puts_more at.0 c.args.self.now c.symbols.self c.push_symbol.new.self c.in-Some.symbol at.2 put.0 put.1,
      );
    }

pub returns-in_err-push_symbol-clause-err : goal.returns-in_err-push_symbol-clause-err
returns-in_err-push_symbol-clause-err g c =
    let at = c.symbols.invariant.put in
    let kept = c.in_err-push_symbol.ensures.err in
    let p = err_from_is_err_and c.from_residual.result c.from_residual.ensures.1 in
    let P : Built → Type 0 = λ b. Puts c.args.self.now at.0 b in
    let Q : Built → Type 0 = λ b. IsNotPut b c.in-Some.symbol c.in_err-push_symbol.field-0.0 in
    rw (p.1, p.2) (
      at.0,
      c.in-Some.symbol,
      yields_append g.S.Iterator.next_gives at.0 (c.in-Some.symbol ∷ []) c.args.symbols.now c.symbols.symbols c.next.new.self at.1
          (c.next.new.self, c.in-Some.ensures.steps, refl),
      subst P (sym kept.0) at.2,
      subst Q (sym kept.0) kept.1,
    )
