use Rattle.std.proofs.Common.{map, refl, sym, ◌∙◌, ap}
use Rattle.std.specs.Char.{to_ascii_lowercase}
use Rattle.dns_label.specs.Name.{low}
use Rattle.dns_wire.proofs.Case.{low_more, low_less, low_left}
use Rattle.dns_wire.proofs.compare.same_labels.Goals as goal

pub loop-label-init : goal.loop-label-init
loop-label-init g c = record { on = λ same. same; back = λ same. same }

pub returns-then-not-eq_ignore_ascii_case : goal.returns-then-not-eq_ignore_ascii_case
returns-then-not-eq_ignore_ascii_case g c = (
  λ bad. cc,
  λ same.
      let both = low_less c.in-Some-Some.ensures.steps c.in-Some-Some.ensures'.steps (c.loop-label.invariant.back same) in
      c.if-not-eq_ignore_ascii_case.ensures.test.1
      (ap (map to_ascii_lowercase) c.as_slice.ensures ∙ both.0 ∙ sym (ap (map to_ascii_lowercase) c.as_slice-in-Some-Some.ensures)),
)

pub loop-label-preserved : goal.loop-label-preserved
loop-label-preserved g c =
    let here = sym (ap (map to_ascii_lowercase) c.as_slice.ensures) ∙ c.if-not-eq_ignore_ascii_case.ensures.test.0 refl
    ∙ ap (map to_ascii_lowercase) c.as_slice-in-Some-Some.ensures in
    record {
      on = λ same. c.loop-label.invariant.on (low_more c.in-Some-Some.ensures.steps c.in-Some-Some.ensures'.steps here same);
      back = λ same. (low_less c.in-Some-Some.ensures.steps c.in-Some-Some.ensures'.steps (c.loop-label.invariant.back same)).1;
    }

pub returns-in-None-None : goal.returns-in-None-None
returns-in-None-None g c = (
  λ yes. c.loop-label.invariant.on (ap low c.in-None-None.ensures.steps.0 ∙ sym (ap low c.in-None-None.ensures'.steps.0)),
  λ same. refl,
)

pub returns-in_default : goal.returns-in_default
returns-in_default g c = (
  λ bad. cc,
  λ same. absurd (low_left c.in_default.ensures.steps c.in_default.ensures'.steps.0 (c.loop-label.invariant.back same)),
)

pub returns-in_default-2 : goal.returns-in_default-2
returns-in_default-2 g c = (
  λ bad. cc,
  λ same. absurd (low_left c.in_default.ensures'.steps c.in_default.ensures.steps.0 (sym (c.loop-label.invariant.back same))),
)
