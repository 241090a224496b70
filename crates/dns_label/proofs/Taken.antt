-- What calls of `next` on an iterator rule out.
use Rattle.std.proofs.Common.{◌≡◌, true, false, List, [], ◌∷◌, ◌++◌, refl, sym, subst, append_assoc}
use Rattle.std.specs.Prelude.{Option, Some, None}
use Rattle.std.specs.Iterator.{Yields}
use Rattle.dns_label.specs.Taken.{RulesOut}

-- an item was given, and the rest rules it out
pub rules_step : {S A : Type 0} {steps : S → Option A → S → Type 0} {P : List A → Type 0} (start here : S) (item : A)
    → steps start (Some item) here → RulesOut steps here (λ rest. P (item ∷ rest)) → RulesOut steps start P
rules_step start here item step out = record {
  taken = item ∷ out.taken;
  ended = out.ended;
  gave = (out.gave.0, (here, step, out.gave.1), out.gave.2);
  none = out.none;
}

-- no item was given
pub rules_end : {S A : Type 0} {steps : S → Option A → S → Type 0} {P : List A → Type 0} (start end : S)
    → steps start None end → (P [] → ⊥) → RulesOut steps start P
rules_end {P = P} start end step none = record {
  taken = [];
  ended = true;
  gave = (start, refl, λ _. (end, step));
  none = λ rest ends is. none (subst P (ends refl) is);
}

-- nothing has to be known
pub rules_here : {S A : Type 0} {steps : S → Option A → S → Type 0} {P : List A → Type 0} (start : S)
    → ((rest : List A) → P rest → ⊥) → RulesOut steps start P
rules_here start none = record {
  taken = [];
  ended = false;
  gave = (start, refl, λ never. let no : false ≡ true = never in cc);
  none = λ rest ends. none rest;
}

pub rules_item : {S A : Type 0} {steps : S → Option A → S → Type 0} {P : List A → Type 0} (start here : S) (item : A)
    → steps start (Some item) here → ((rest : List A) → P (item ∷ rest) → ⊥) → RulesOut steps start P
rules_item {P = P} start here item step none = rules_step {P = P} start here item step (rules_here here none)

pub rules_weaker : {S A : Type 0} {steps : S → Option A → S → Type 0} {P Q : List A → Type 0} (start : S)
    → ((items : List A) → P items → Q items) → RulesOut steps start Q → RulesOut steps start P
rules_weaker start weaker out = record {
  taken = out.taken;
  ended = out.ended;
  gave = out.gave;
  none = λ rest ends is. out.none rest ends (weaker (out.taken ++ rest) is);
}

pub yields_append : {S A : Type 0} (steps : S → Option A → S → Type 0) (front back : List A) (start middle end : S)
    → Yields steps start front middle → Yields steps middle back end → Yields steps start (front ++ back) end
yields_append steps [] back start middle end first second =
    let P : _ → Type 0 = λ s. Yields steps s back end in subst P (sym first) second
yields_append steps (item ∷ front) back start middle end first second =
    (first.0, first.1, yields_append steps front back first.0 middle end first.2 second)

-- items were given, and the rest rules it out
pub rules_behind : {S A : Type 0} {steps : S → Option A → S → Type 0} {P : List A → Type 0} (start here : S) (items : List A)
    → Yields steps start items here → RulesOut steps here (λ rest. P (items ++ rest)) → RulesOut steps start P
rules_behind {steps = steps} {P = P} start here items gave out = record {
  taken = items ++ out.taken;
  ended = out.ended;
  gave = (out.gave.0, yields_append steps items out.taken start here out.gave.0 gave out.gave.1, out.gave.2);
  none = λ rest ends is. out.none rest ends (subst P (append_assoc items out.taken rest) is);
}
