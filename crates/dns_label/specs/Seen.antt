-- The labels that are seen at a place of a message, whether it spells a name there or not (RFC 1035, section 4.1.4).
use Rattle.std.specs.Prelude.{◌≡◌, ◌+◌, ◌-◌, ◌*◌, ◌<◌, ◌≤◌, ◌⊎◌, ◌==◌, ℕ, zero, suc, List, [], ◌∷◌, ◌++◌, length, drop, take, nat_lt, Option, Some, None}
use Rattle.std.specs.Prelude.{if◌then◌else◌}
use Rattle.dns_label.specs.declared.label.SplitLabelError.{SplitLabelError}
use Rattle.dns_label.specs.declared.label.SplitLabelError.TheVariants.{Pointer, BadType, ShortInput}
use Rattle.dns_label.specs.Name.{IsLabel}
use Rattle.dns_label.specs.Split.{NoLabel}

-- what is no label ends them, except for a pointer to a place before its own while one may still be followed
abbrev pub EndsThem : ℕ → ℕ → SplitLabelError → Type 0
EndsThem pointers place (Pointer target) = (pointers ≡ 0) ⊎ (place ≤ target)
EndsThem pointers place (BadType kind) = Unit {0}
EndsThem pointers place ShortInput = Unit {0}

-- From the place on, with at most this number of pointers followed, these labels are seen: all labels of a name, the
-- root's empty one last, or those before what is neither a label nor a pointer that is followed.
pub data Seen (message : List ℕ) : ℕ → ℕ → List (List ℕ) → Type 0 where
  root : {pointers place : ℕ} (rest : List ℕ)
      → drop place message ≡ 0 ∷ rest
      → Seen message pointers place ([] ∷ [])
  label : {pointers place : ℕ} {label : List ℕ} {labels : List (List ℕ)} (rest : List ℕ)
      → drop place message ≡ length label ∷ label ++ rest
      → IsLabel label
      → Seen message pointers (place + 1 + length label) labels
      → Seen message pointers place (label ∷ labels)
  pointer : {pointers place : ℕ} {labels : List (List ℕ)} (first second : ℕ) (rest : List ℕ)
      → drop place message ≡ first ∷ second ∷ rest
      → 192 ≤ first
      → 256 * (first - 192) + second < place
      → Seen message pointers (256 * (first - 192) + second) labels
      → Seen message (suc pointers) place labels
  fault : {pointers place : ℕ} (error : SplitLabelError)
      → NoLabel (drop place message) error
      → EndsThem pointers place error
      → Seen message pointers place []

-- The same as a function, by looking at no more than this number of heads.
abbrev pub behind_pointer : (ℕ → ℕ → List (List ℕ)) → ℕ → ℕ → ℕ → List ℕ → List (List ℕ)
behind_pointer more zero place first rest = []
behind_pointer more (suc pointers) place first [] = []
behind_pointer more (suc pointers) place first (second ∷ rest) =
    if nat_lt (256 * (first - 192) + second) place then more pointers (256 * (first - 192) + second) else []

abbrev pub seen_in : (ℕ → ℕ → List (List ℕ)) → ℕ → ℕ → List ℕ → List (List ℕ)
seen_in more pointers place [] = []
seen_in more pointers place (first ∷ rest) =
    if first == 0 then [] ∷ []
    else (if nat_lt first 64 then (if nat_lt (length rest) first then [] else take first rest ∷ more pointers (place + 1 + first))
    else (if nat_lt first 192 then [] else behind_pointer more pointers place first rest))

unfoldable pub seen_by : List ℕ → ℕ → ℕ → ℕ → List (List ℕ)
seen_by message zero pointers place = []
seen_by message (suc heads) pointers place = seen_in (seen_by message heads) pointers place (drop place message)

-- the greatest number of heads: those of the message, once for each pointer and once more
abbrev pub most_heads : ℕ → ℕ → ℕ
most_heads len zero = len + 1
most_heads len (suc pointers) = most_heads len pointers + len + 1

unfoldable pub labels_seen : List ℕ → ℕ → ℕ → List (List ℕ)
labels_seen message pointers place = seen_by message (most_heads (length message) pointers) pointers place

-- no label is left after the last
abbrev pub labels_to_see : List ℕ → ℕ → Option ℕ → List (List ℕ)
labels_to_see message pointers None = []
labels_to_see message pointers (Some place) = labels_seen message pointers place
