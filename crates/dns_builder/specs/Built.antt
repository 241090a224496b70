-- A message that is built, and its octets (RFC 1035 4.1).
use Rattle.std.specs.Prelude.{◌≡◌, ◌≤◌, ℕ, zero, suc, List, [], ◌∷◌, ◌++◌, length, replicate, Option}
use Rattle.std.specs.List.{AllByRecursion, flat_map}
use Rattle.std.specs.Int.{to_be_bytes, w16}
use Rattle.dns_name.specs.Spelling.{Spelling}
use Rattle.dns_name.specs.Page.{Page, Parts, write}
use Rattle.dns_name.specs.RecordData.{page_of}

-- the contents of the message
pub record Built : Type 0 where
  -- the header's first four octets
  pub header : List ℕ
  -- the items of each section that was started, in order: questions, answers, authority and additional records
  pub sections : List (List Parts)

-- how many items a section has; a section that was not started has none
abbrev pub count_at : ℕ → List (List Parts) → ℕ
count_at number [] = 0
count_at zero (items ∷ sections) = length items
count_at (suc number) (items ∷ sections) = count_at number sections

abbrev pub counts_octets : List (List Parts) → List ℕ
counts_octets sections =
    to_be_bytes w16 (count_at 0 sections) ++ to_be_bytes w16 (count_at 1 sections)
    ++ to_be_bytes w16 (count_at 2 sections) ++ to_be_bytes w16 (count_at 3 sections)

-- the header's twelve octets
abbrev pub header_octets : Built → List ℕ
header_octets built = built.header ++ counts_octets built.sections

-- items are written one after another
abbrev pub write_all : Spelling → Page → List Parts → Page
write_all s page [] = page
write_all s page (item ∷ items) = write_all s (write s page item) items

-- the header is written, and then the items of all sections
abbrev pub built_page : Spelling → Built → Page
built_page s built = write_all s (page_of (header_octets built) []) (flat_map (λ items. items) built.sections)

-- where each section begins, if they are written after a page
abbrev pub starts_behind : Spelling → Page → List (List Parts) → List ℕ
starts_behind s page [] = []
starts_behind s page (items ∷ sections) = length page.octets ∷ starts_behind s (write_all s page items) sections

-- What a builder holds: the octets of its target and what that remembers; how many octets it may hold; the start of
-- each section that was started; and the push limit.
pub record Draft : Type 0 where
  pub page : Page
  pub bound : Option ℕ
  pub starts : List ℕ
  pub limit : ℕ

-- a header with all bits clear, and nothing after it
abbrev pub nothing_built : Built
nothing_built = record { header = 0 ∷ 0 ∷ 0 ∷ 0 ∷ []; sections = [] }

-- what a builder of it holds
abbrev pub empty_draft : Option ℕ → Draft
empty_draft bound = record { page = page_of (replicate 12 0) []; bound = bound; starts = []; limit = 18446744073709551615 }

-- a builder that holds this is one of this message
pub record IsDraftOf (s : Spelling) (built : Built) (draft : Draft) : Type 0 where
  pub header : length built.header ≡ 4
  pub few : AllByRecursion (λ items. length items ≤ 65535) built.sections
  pub page : draft.page ≡ built_page s built
  pub starts : draft.starts ≡ starts_behind s (page_of (header_octets built) []) built.sections
