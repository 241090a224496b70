-- Why an item that was appended is not counted.
use Rattle.std.specs.Prelude.{◌≡◌, ◌≤◌, ◌<◌, ℕ, length}
use Rattle.dns_octets.specs.Builder.{IsWithin}
use Rattle.dns_builder.specs.Built.{Draft}
use Rattle.dns_builder.specs.Steps.{counted_at}
use Rattle.dns_sections.specs.declared.error.PushError.{PushError}
use Rattle.dns_sections.specs.declared.error.PushError.TheVariants.{ShortBuf, OutOfMemory, BadLength, LimitExceeded, CountOverflow}

-- An item that was appended is counted: the target may hold the message, which is shorter than its limit, and the section had fewer than
-- 65,535 items.
pub record IsCountedBy (number : ℕ) (draft : Draft) : Type 0 where
  pub fits : IsWithin draft.bound (length draft.page.octets)
  pub short : length draft.page.octets < draft.limit
  pub few : counted_at number draft < 65535

-- why an item that was appended, so that the target may hold the message, is not counted
abbrev pub IsUncounted : ℕ → Draft → PushError → Type 0
IsUncounted number draft LimitExceeded = IsWithin draft.bound (length draft.page.octets) × (draft.limit ≤ length draft.page.octets)
IsUncounted number draft CountOverflow =
    IsWithin draft.bound (length draft.page.octets) × (length draft.page.octets < draft.limit) × (counted_at number draft ≡ 65535)
IsUncounted number draft ShortBuf = ⊥
IsUncounted number draft BadLength = ⊥
IsUncounted number draft OutOfMemory = ⊥
