use Rattle.std.proofs.Common.{◌≡◌, ◌∙◌, Some, None, Ok, Err, ap, subst, sym, refl, arith}
use Rattle.std.specs.Prelude.{option_map}
use Rattle.std.specs.Iterator.{size}
use Rattle.dns_sections.specs.Cursor.{IsSpent}
use Rattle.dns_sections.specs.Given.{GivesRecord, GivesAll}
use Rattle.dns_sections.specs.Sections.{all_left}
use Rattle.dns_sections.specs.Seen.{all_at, records_at}
use Rattle.dns_sections.proofs.All.{less-on, item-given, error-given}
use Rattle.dns_sections.proofs.message_iter.MessageIterIterator.next.Goals as goal

pub loop-self-smaller : goal.loop-self-smaller
loop-self-smaller c =
    let steps = c.in-None.ensures.steps in
    let stays : records_at c.next.new.self ≡ records_at c.in-Some.section = λ i. record { cursor = steps.1.1 i; section = steps.0 i } in
    let same : all_at c.loop-self.self ≡ Some (records_at c.next.new.self) = ap (λ s. option_map records_at s) c.in-Some.is ∙ ap Some (sym stays) in
    let less = less-on c.in-Ok.ensures in
    omega (arith, less, ap (λ s. size (all_left s)) same)

pub loop-self-preserved : goal.loop-self-preserved
loop-self-preserved c =
    let steps = c.in-None.ensures.steps in
    let stays : records_at c.next.new.self ≡ records_at c.in-Some.section = λ i. record { cursor = steps.1.1 i; section = steps.0 i } in
    let same : all_at c.loop-self.self ≡ Some (records_at c.next.new.self) = ap (λ s. option_map records_at s) c.in-Some.is ∙ ap Some (sym stays) in
    let less = less-on c.in-Ok.ensures in
    let spent = subst IsSpent (sym steps.1.1) steps.1.0 in record {
      gives = λ result new rest. c.loop-self.invariant.gives result new
          (subst (λ s. GivesAll s result new) (sym same) (GivesAll.on (spent, refl) c.in-Ok.ensures rest));
      less = omega (arith, less, ap (λ s. size (all_left s)) same, c.loop-self.invariant.less);
    }

pub returns-in-Some-Ok-clause-steps : goal.returns-in-Some-Ok-clause-steps
returns-in-Some-Ok-clause-steps c =
    let old = records_at c.in-Some.section in
    let new = records_at c.next.new.self in
    let place : all_at c.loop-self.self ≡ Some old = ap (λ s. option_map records_at s) c.in-Some.is in
    let gives = subst (λ r. GivesRecord old.cursor (Some r) new.cursor) c.in-Some-Ok.field-0-is c.in-Some-Ok.ensures.steps.1 in
    let result = Some (Ok (record { parsed = c.in-Some-Ok.record; section = c.section.result })) in
    c.loop-self.invariant.gives result (Some new) (subst (λ s. GivesAll s result (Some new)) (sym place)
    (item-given old new c.next.ensures.steps.0 c.in-Some-Ok.record c.section.result c.section.ensures gives))

pub returns-in-Some-Err-clause-steps : goal.returns-in-Some-Err-clause-steps
returns-in-Some-Err-clause-steps c =
    let old = records_at c.in-Some.section in
    let new = records_at c.next.new.self in
    let place : all_at c.loop-self.self ≡ Some old = ap (λ s. option_map records_at s) c.in-Some.is in
    let gives = subst (λ r. GivesRecord old.cursor (Some r) new.cursor) c.in-Some-Err.field-0-is c.in-Some-Err.ensures.steps.1 in
    c.loop-self.invariant.gives (Some (Err c.in-Some-Err.error)) (Some new) (subst (λ s. GivesAll s (Some (Err c.in-Some-Err.error)) (Some new)) (sym place)
    (error-given old new c.next.ensures.steps.0 c.in-Some-Err.error gives))

pub returns-in-Err-clause-steps : goal.returns-in-Err-clause-steps
returns-in-Err-clause-steps c =
    let steps = c.in-None.ensures.steps in
    let stays : records_at c.next.new.self ≡ records_at c.in-Some.section = λ i. record { cursor = steps.1.1 i; section = steps.0 i } in
    let same : all_at c.loop-self.self ≡ Some (records_at c.next.new.self) = ap (λ s. option_map records_at s) c.in-Some.is ∙ ap Some (sym stays) in
    let spent = subst IsSpent (sym steps.1.1) steps.1.0 in
    c.loop-self.invariant.gives (Some (Err c.in-Err.error)) None (subst (λ s. GivesAll s (Some (Err c.in-Err.error)) None) (sym same) (GivesAll.stuck (spent, refl) c.in-Err.ensures))

pub returns-clause-steps : goal.returns-clause-steps
returns-clause-steps c =
    let none : all_at c.loop-self.self ≡ None = ap (λ s. option_map records_at s) c.in_default.is in
    c.loop-self.invariant.gives _ _ (subst (λ s. GivesAll s None s) (sym none) GivesAll.over)
