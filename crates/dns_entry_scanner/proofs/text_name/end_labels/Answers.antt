use Rattle.std.proofs.Common.{◌≡◌, ℕ, List, ◌++◌, ◌∷◌, [], length, refl, ap, arith}
use Rattle.std.specs.Prelude.{option_copied}
use Rattle.dns_wire.proofs.Texts.{begun_none, begun_some}
use Rattle.dns_entry_scanner.proofs.ChainedNames.{origin_long}
use Rattle.dns_entry_scanner.proofs.SpelledUnder.{dotted_ended, dotted_none, open_ended, open_long, open_none}
use Rattle.dns_entry_scanner.proofs.text_name.end_labels.Goals as goal

pub returns-then-is_new-clause-err : goal.returns-then-is_new-clause-err
returns-then-is_new-clause-err c = λ text name differs read spells.
    let none = begun_none _ _ read.1 (λ more. let bad = c.if-not-has_open_label.ensures.1 more in cc) in
    dotted_none c.args.draft.now differs read.0 read.1 none (c.if-is_new.ensures.0 refl) spells

pub returns-then-not-has_open_label-clause-ok : goal.returns-then-not-has_open_label-clause-ok
returns-then-not-has_open_label-clause-ok c = λ text differs read.
    let none = begun_none _ _ read.1 (λ more. let bad = c.if-not-has_open_label.ensures.1 more in cc) in
    dotted_ended text c.args.draft.now read.0 read.1 none (λ one. let bad = c.if-is_new.ensures.1 one in cc)

pub returns-in_default-clause-err : goal.returns-in_default-clause-err
returns-in_default-clause-err c = λ text name differs read spells.
    let some = begun_some _ _ read.1 (c.if-not-has_open_label.ensures.0 refl) in
    open_none c.args.draft.now (ap option_copied c.in_default.is) read.0 read.1 some spells

pub returns-then-labels-len-gt255-clause-err : goal.returns-then-labels-len-gt255-clause-err
returns-then-labels-len-gt255-clause-err c = λ text name differs read spells.
    let some = begun_some _ _ read.1 (c.if-not-has_open_label.ensures.0 refl) in
    let labels : List (List ℕ) = read.1.done ++ read.1.begun ∷ [] in
    let holds = c.in-Ok.ensures.ok read.1.done read.1.begun read.1.holds in
    let many = c.if-labels-len-gt255.true in
    open_long c.args.draft.now c.in-Some.origin.now (ap option_copied c.in-Some.is) differs read.0 read.1 some
    (λ is_name. origin_long c.end_label.new.self labels c.in-Some.origin.now holds is_name
    (omega (arith, many, c.len.ensures.octets, ap (length {A = ℕ}) c.labels.ensures))) spells

pub returns-clause-ok : goal.returns-clause-ok
returns-clause-ok c = λ text differs read.
    let holds = c.in-Ok.ensures.ok read.1.done read.1.begun read.1.holds in
    let few = c.if-labels-len-gt255.false in
    open_ended text c.args.draft.now c.end_label.new.self c.in-Some.origin.now (ap option_copied c.in-Some.is) differs read.1 holds
    c.len.ensures.name (omega (arith, few, c.len.ensures.octets, ap (length {A = ℕ}) c.labels.ensures))
