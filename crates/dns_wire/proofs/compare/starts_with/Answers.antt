use Rattle.std.proofs.Common.{List, ℕ, refl, sym, subst}
use Rattle.dns_label.specs.Name.{low}
use Rattle.dns_wire.specs.Suffix.{StartsWith}
use Rattle.dns_wire.proofs.compare.starts_with.Goals as goal

pub returns-in_default : goal.returns-in_default
returns-in_default g c = (
  λ yes. c.loop-other.invariant.on
      (let P : List (List ℕ) → Type 0 = λ l. StartsWith (low c.loop-other.labels) (low l) in
      subst P (sym c.in_default.ensures.steps.0) (record { rest = low c.loop-other.labels; whole_is = refl })),
  λ starts. refl,
)
