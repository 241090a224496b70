-- Rules in an order: the first broken rule gives the error.
use Rattle.std.proofs.Common.{◌≡◌, ◌⊎◌, sym, ◌∙◌, inl, inr}
use Rattle.std.specs.Prelude.{⊤}

-- rules, each with the error of breaking it
pub data Rules (E : Type 0) : Type 1 where
  no_more : Rules E
  rule : Type 0 → E → Rules E → Rules E

-- the first broken rule has this error
abbrev pub FirstBroken : {E : Type 0} → Rules E → E → Type 0
FirstBroken no_more e = ⊥
FirstBroken (rule P error rules) e = ((P → ⊥) × (e ≡ error)) ⊎ (P × FirstBroken rules e)

abbrev pub AllKept : {E : Type 0} → Rules E → Type 0
AllKept no_more = ⊤
AllKept (rule P error rules) = P × AllKept rules

pub first_one : {E : Type 0} (rules : Rules E) (e d : E) → FirstBroken rules e → FirstBroken rules d → e ≡ d
first_one no_more e d broken broken' = absurd broken
first_one (rule P error rules) e d (inl broken) (inl broken') = broken.1 ∙ sym broken'.1
first_one (rule P error rules) e d (inl broken) (inr kept) = absurd (broken.0 kept.0)
first_one (rule P error rules) e d (inr kept) (inl broken) = absurd (broken.0 kept.0)
first_one (rule P error rules) e d (inr kept) (inr kept') = first_one rules e d kept.1 kept'.1

pub broken_not_kept : {E : Type 0} (rules : Rules E) (e : E) → FirstBroken rules e → AllKept rules → ⊥
broken_not_kept no_more e broken kept = broken
broken_not_kept (rule P error rules) e (inl broken) kept = broken.0 kept.0
broken_not_kept (rule P error rules) e (inr goes_on) kept = broken_not_kept rules e goes_on.1 kept.1
