-- What a push does to a message.
use Rattle.std.specs.Prelude.{◌≡◌, ◌<◌, ℕ, Result, OnOk, OnErr, IfErr}
use Rattle.dns_name.specs.Spelling.{Spelling}
use Rattle.dns_header.specs.Written.{Written, parts_of, data_length}
use Rattle.dns_builder.specs.Built.{Built, Draft, IsDraftOf}
use Rattle.dns_builder.specs.Steps.{with_item, IsTakenBy, IsRefusedBy, KeepsLimits}
use Rattle.dns_sections.specs.declared.error.PushError.{PushError}

-- A record is added to the section `number`, which is the last; or the push fails, and everything stays.
pub record PushesRecord (s : Spelling) (number : ℕ) (old : Draft) (item : Written) (result : Result (Unit {0}) PushError) (new : Draft) : Type 0 where
  pub ok : (built : Built) → IsDraftOf s built old → OnOk result (IsDraftOf s (with_item built (parts_of item)) new)
  pub taken : OnOk result (IsTakenBy s number old (parts_of item) (65535 < data_length s old.page item))
  pub err : OnErr result (new ≡ old)
  pub why : IfErr result (IsRefusedBy s number old (parts_of item) (65535 < data_length s old.page item))
  pub limits : KeepsLimits old new
