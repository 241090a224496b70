-- What the calls of a builder do to its message.
use Rattle.std.specs.Prelude.{⊤, true, ◌≡◌, ◌≤◌, ◌<◌, ◌+◌, ◌*◌, ℕ, zero, suc, List, [], ◌∷◌, ◌++◌, length}
use Rattle.dns_octets.specs.Builder.{IsWithin, IsPast}
use Rattle.dns_name.specs.Spelling.{Spelling}
use Rattle.dns_name.specs.Page.{Parts, write}
use Rattle.dns_octets.specs.Numbers.{number_at}
use Rattle.dns_header.specs.HeaderFields.{fields_of}
use Rattle.dns_builder.specs.Built.{Built, Draft}
use Rattle.dns_sections.specs.declared.error.PushError.{PushError}
use Rattle.dns_sections.specs.declared.error.PushError.TheVariants.{ShortBuf, BadLength, LimitExceeded, CountOverflow, OutOfMemory}

-- `count` sections are started: later ones are dropped, and missing ones are empty
abbrev pub sections_to : ℕ → List (List Parts) → List (List Parts)
sections_to zero sections = []
sections_to (suc count) [] = [] ∷ sections_to count []
sections_to (suc count) (items ∷ sections) = items ∷ sections_to count sections

abbrev pub going_to : ℕ → Built → Built
going_to count built = record { header = built.header; sections = sections_to count built.sections }

-- one item more in the last section that was started
abbrev pub onto_last : List Parts → List (List Parts) → Parts → List (List Parts)
onto_last items [] item = (items ++ item ∷ []) ∷ []
onto_last items (next ∷ sections) item = items ∷ onto_last next sections item

abbrev pub with_item : Built → Parts → Built
with_item built item = record { header = built.header; sections = grown built.sections }
  where
    grown : List (List Parts) → List (List Parts)
    grown [] = []
    grown (items ∷ sections) = onto_last items sections item

abbrev pub with_header : Built → List ℕ → Built
with_header built header = record { header = header; sections = built.sections }

-- the header of the other message has TC set (RFC 1035 4.1.1), and all else is the same
pub record IsTruncated (built truncated : Built) : Type 0 where
  pub header : fields_of truncated.header ≡ record (fields_of built.header) { tc = true }
  pub sections : truncated.sections ≡ built.sections

-- how long the message is with the item at its end
abbrev pub length_with : Spelling → Draft → Parts → ℕ
length_with s draft item = length (write s draft.page item).octets

-- how many items the header counts in a section
abbrev pub counted_at : ℕ → Draft → ℕ
counted_at number draft = number_at draft.page.octets (4 + 2 * number)

-- An item is taken: its data has at most 65,535 octets, the target may hold the message with it, the message is then
-- shorter than its limit, and the section had fewer than 65,535 items.
pub record IsTakenBy (s : Spelling) (number : ℕ) (draft : Draft) (item : Parts) (IsLong : Type 0) : Type 0 where
  pub counted : IsLong → ⊥
  pub fits : IsWithin draft.bound (length_with s draft item)
  pub short : length_with s draft item < draft.limit
  pub few : counted_at number draft < 65535

-- An item could be appended: its data is not too long, and the target may hold the message with it. The message would be as long as
-- its limit, or longer.
pub record ExceedsLimit (s : Spelling) (draft : Draft) (item : Parts) (IsLong : Type 0) : Type 0 where
  pub counted : IsLong → ⊥
  pub fits : IsWithin draft.bound (length_with s draft item)
  pub long : draft.limit ≤ length_with s draft item

-- An item could be appended, and would leave the message shorter than its limit, but the section has 65,535 items already.
pub record OverflowsCount (s : Spelling) (number : ℕ) (draft : Draft) (item : Parts) (IsLong : Type 0) : Type 0 where
  pub counted : IsLong → ⊥
  pub fits : IsWithin draft.bound (length_with s draft item)
  pub short : length_with s draft item < draft.limit
  pub full : counted_at number draft ≡ 65535

-- Why a push fails. The item is appended first; that fails if the target is full, its data is longer than 65,535
-- octets, or out of memory. Then the limit is checked, and then the count.
abbrev pub IsRefusedBy : Spelling → ℕ → Draft → Parts → Type 0 → PushError → Type 0
IsRefusedBy s number draft item IsLong ShortBuf = IsPast draft.bound (length_with s draft item)
IsRefusedBy s number draft item IsLong BadLength = IsLong
IsRefusedBy s number draft item IsLong OutOfMemory = ⊤
IsRefusedBy s number draft item IsLong LimitExceeded = ExceedsLimit s draft item IsLong
IsRefusedBy s number draft item IsLong CountOverflow = OverflowsCount s number draft item IsLong

-- the limits stay
pub record KeepsLimits (old new : Draft) : Type 0 where
  pub limit : new.limit ≡ old.limit
  pub bound : new.bound ≡ old.bound
