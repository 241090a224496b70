-- What holds of every error, and of every value.
use Rattle.std.specs.Prelude.{Result, Ok, Err, IfOk, IfErr, OnOk}

pub if_err_each : {T E : Type 0} (result : Result T E) (P : E → Type 0) → ((error : E) → P error) → IfErr result P
if_err_each (Ok value) P each = tt
if_err_each (Err error) P each = each error

pub if_ok_weaker : {T E : Type 0} (result : Result T E) (P Q : T → Type 0) → ((value : T) → P value → Q value) → IfOk result P → IfOk result Q
if_ok_weaker (Ok value) P Q more is = more value is
if_ok_weaker (Err error) P Q more is = tt

pub on_ok_weaker : {T E : Type 0} (result : Result T E) (P Q : Type 0) → (P → Q) → OnOk result P → OnOk result Q
on_ok_weaker (Ok value) P Q more is = more is
on_ok_weaker (Err error) P Q more is = tt
