use Rattle.std.proofs.Common.{ℕ, [], ◌∷◌, ◌++◌, refl, sym, subst}
use Rattle.dns_label.proofs.Taken.{rules_behind, rules_item, yields_append}
use Rattle.dns_wire.proofs.Flat.{always_on_err}
use Rattle.dns_wire.proofs.Parts.{Reading, reading_here, reading-octet, reading-dot}
use Rattle.dns_wire.proofs.Readings.{some_readable, bad_symbol, over_none, empty_none, new_none, some_read, read_end, root_answer, root_refused}
use Rattle.dns_wire.proofs.text.draft.NameDraft.read.Goals as goal

pub symbols-init : goal.symbols-init
symbols-init g c = record {
  can = c.requires.can;
  ends = c.requires.ends;
  read = ([], [], [], refl, reading_here, c.new-draft.ensures);
}

pub returns-in_err-octet-clause-err : goal.returns-in_err-octet-clause-err
returns-in_err-octet-clause-err g c =
    let at = c.symbols.invariant.read in
    always_on_err c.from_residual.result
    (rules_behind c.args.symbols.now c.symbols.symbols at.0 at.3
    (rules_item c.symbols.symbols c.next.new.self c.in-Some.symbol c.in-Some.ensures.steps
    (λ rest.
    some_readable at.0 c.in-Some.symbol rest
    (λ name. bad_symbol at.0 rest c.in-Some.symbol name (λ is. let no = c.in_err-octet.ensures.symbol.1 is in cc)))))

pub symbols-preserved-in-Continue-branch-2 : goal.symbols-preserved-in-Continue-branch-2
symbols-preserved-in-Continue-branch-2 g c =
    let at = c.symbols.invariant.read in
    let goes = c.in-Some.ensures.goes.on c.symbols.invariant.ends in
    let is_symbol = c.in_ok-octet.ensures.symbol.0 refl in
    let P : ℕ → Type 0 = λ o. Reading (at.0 ++ c.in-Some.symbol ∷ []) at.1 (at.2 ++ o ∷ []) in
    record {
      can = goes.0;
      ends = goes.1;
      read = (
        at.0 ++ c.in-Some.symbol ∷ [],
        at.1,
        at.2 ++ c.in_ok-octet.octet ∷ [],
        yields_append g.S.Iterator.next_gives at.0 (c.in-Some.symbol ∷ []) c.args.symbols.now c.symbols.symbols c.next.new.self at.3
            (c.next.new.self, c.in-Some.ensures.steps, refl),
        subst P (sym c.in_ok-octet.ensures.octet)
            (reading-octet at.0 at.1 at.2 c.in-Some.symbol at.4 is_symbol (sym c.if-not-is_dot.ensures)),
        c.in_ok-push.ensures.ok at.1 at.2 at.5,
      );
    }

pub returns-in_err-push-clause-err : goal.returns-in_err-push-clause-err
returns-in_err-push-clause-err g c =
    let at = c.symbols.invariant.read in
    let is_symbol = c.in_ok-octet.ensures.symbol.0 refl in
    always_on_err c.from_residual-in_err-push.result
    (rules_behind c.args.symbols.now c.symbols.symbols at.0 at.3
    (rules_item c.symbols.symbols c.next.new.self c.in-Some.symbol c.in-Some.ensures.steps
    (λ rest.
    some_readable at.0 c.in-Some.symbol rest
    (λ name. over_none c.symbols.draft at.0 rest at.1 at.2 c.in-Some.symbol name at.4 at.5 is_symbol (sym c.if-not-is_dot.ensures)
    c.in_err-push.ensures.err))))

pub returns-then-draft-eq1-clause-ok : goal.returns-then-draft-eq1-clause-ok
returns-then-draft-eq1-clause-ok g c =
    let at = c.symbols.invariant.read in
    let is_symbol = c.in_ok-octet.ensures.symbol.0 refl in
    let none = new_none c.symbols.draft at.0 at.1 at.2 at.4 at.5 c.if-draft-eq1.true in
    root_answer g.S.Iterator.next_gives c.args.symbols.now c.next.new.self c.root_alone.new.symbols at.0 c.in-Some.symbol
    c.root_alone.result none is_symbol (sym c.if-not-is_dot.ensures)
    (yields_append g.S.Iterator.next_gives at.0 (c.in-Some.symbol ∷ []) c.args.symbols.now c.symbols.symbols c.next.new.self at.3
    (c.next.new.self, c.in-Some.ensures.steps, refl))
    c.root_alone.ensures.root

pub returns-then-draft-eq1-clause-err : goal.returns-then-draft-eq1-clause-err
returns-then-draft-eq1-clause-err g c =
    let at = c.symbols.invariant.read in
    let none = new_none c.symbols.draft at.0 at.1 at.2 at.4 at.5 c.if-draft-eq1.true in
    root_refused g.S.Iterator.next_gives c.args.symbols.now c.symbols.symbols c.next.new.self c.root_alone.new.symbols at.0
    c.in-Some.symbol c.root_alone.result none (sym c.if-not-is_dot.ensures) at.3 c.in-Some.ensures.steps c.root_alone.ensures.err

pub symbols-preserved : goal.symbols-preserved
symbols-preserved g c =
    let at = c.symbols.invariant.read in
    let goes = c.in-Some.ensures.goes.on c.symbols.invariant.ends in
    let is_symbol = c.in_ok-octet.ensures.symbol.0 refl in
    record {
      can = goes.0;
      ends = goes.1;
      read = (
        at.0 ++ c.in-Some.symbol ∷ [],
        at.1 ++ at.2 ∷ [],
        [],
        yields_append g.S.Iterator.next_gives at.0 (c.in-Some.symbol ∷ []) c.args.symbols.now c.symbols.symbols c.next.new.self at.3
            (c.next.new.self, c.in-Some.ensures.steps, refl),
        reading-dot at.0 at.1 at.2 c.in-Some.symbol at.4 is_symbol (sym c.if-not-is_dot.ensures)
            (some_read c.symbols.draft at.0 at.1 at.2 at.4 at.5 c.if-draft-eq1.false),
        c.in_ok-end_label.ensures.ok at.1 at.2 at.5,
      );
    }

pub returns-in_err-end_label-clause-err : goal.returns-in_err-end_label-clause-err
returns-in_err-end_label-clause-err g c =
    let at = c.symbols.invariant.read in
    let is_symbol = c.in_ok-octet.ensures.symbol.0 refl in
    always_on_err c.from_residual-in_err-end_label.result
    (rules_behind c.args.symbols.now c.symbols.symbols at.0 at.3
    (rules_item c.symbols.symbols c.next.new.self c.in-Some.symbol c.in-Some.ensures.steps
    (λ rest.
    some_readable at.0 c.in-Some.symbol rest
    (λ name. empty_none c.symbols.draft at.0 rest at.1 at.2 c.in-Some.symbol name at.4 at.5 is_symbol (sym c.if-not-is_dot.ensures)
    c.if-draft-eq1.false c.in_err-end_label.ensures.err))))

pub returns-clause-ok : goal.returns-clause-ok
returns-clause-ok g c =
    let at = c.symbols.invariant.read in (
      at.0,
      (c.symbols.symbols, at.3, c.in_default.ensures.steps),
      at.4.each,
      read_end c.symbols.draft at.0 at.1 at.2 at.4 at.5,
    )
