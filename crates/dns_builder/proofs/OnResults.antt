-- Facts about an Ok or Err result lead to other facts about it.
use Rattle.std.specs.Prelude.{Result, Ok, Err, OnOk, OnErr}

pub on_both : {T E : Type 0} {P Q R : Type 0} (result : Result T E) → (P → Q → R) → OnOk result P → OnOk result Q → OnOk result R
on_both (Ok value) leads one other = leads one other
on_both (Err error) leads one other = tt

pub on_err_any : {T E : Type 0} {P : Type 0} (result : Result T E) → P → OnErr result P
on_err_any (Ok value) holds = tt
on_err_any (Err error) holds = holds
