-- What a function promises of a flag, once the flag is known.
use Rattle.std.proofs.Common.{◌≡◌, ℕ, Bool, true, false, sym, ◌∙◌}
use Rattle.std.specs.Prelude.{◌==◌}
use Rattle.std.specs.Bool.{OnTrue, OnFalse}
use Rattle.std.proofs.lemmas.Bool.Decides.{Decides-eqb}

pub none_of : (n : ℕ) (none : Bool) → none ≡ (n == 0) → none ≡ true → n ≡ 0
none_of n none is true_is = (Decides-eqb n 0).0 (sym is ∙ true_is)

pub at_true : {P : Type 0} (b : Bool) → b ≡ true → OnTrue b P → P
at_true true is p = p
at_true false is p = absurd cc

pub at_false : {P : Type 0} (b : Bool) → b ≡ false → OnFalse b P → P
at_false true is p = absurd cc
at_false false is p = p
