-- How a target spells names (RFC 1035 4.1.4): a suffix that it remembers is written as a pointer to its place.
use Rattle.std.specs.Prelude.{◌+◌, ◌/◌, ◌%◌, ℕ, Bool, true, false, Option, Some, None, List, [], ◌∷◌, ◌++◌, length, map, find, option_map, unwrap_or, is_some, nat_lt, nat_eq, if◌then◌else◌}
use Rattle.std.specs.List.{list_all}
use Rattle.std.specs.Char.{to_ascii_lowercase}
use Rattle.std.specs.Cmp.Lexicographic.{pointwise}
use Rattle.dns_octets.specs.Builder.{Known}
use Rattle.dns_label.specs.Name.{wire, labels_wire}

-- which suffixes are remembered, and which of them are the same
pub record Spelling : Type 0 where
  -- suffixes are the same up to ASCII case, or else octet for octet
  pub folds : Bool
  -- the most suffixes that are remembered; `None` is any number
  pub most : Option ℕ
  -- labels are written one by one also where no pointer reaches, and nothing is remembered for such a name
  pub far : Bool

-- names are written in full
abbrev pub plain : Spelling
plain = record { folds = false; most = Some 0; far = false }

-- at most 24 suffixes, the same up to case
abbrev pub static_spelling : Spelling
static_spelling = record { folds = true; most = Some 24; far = false }

-- any number of suffixes, the same octet for octet
abbrev pub tree_spelling : Spelling
tree_spelling = record { folds = false; most = None; far = false }

-- any number of suffixes, the same up to case; all new suffixes of a name are remembered or none
abbrev pub hash_spelling : Spelling
hash_spelling = record { folds = true; most = None; far = true }

-- whether one more suffix may be remembered beside that number of others
abbrev pub has_room : Option ℕ → ℕ → Bool
has_room None count = true
has_room (Some most) count = nat_lt count most

-- whether names may be written with pointers
abbrev pub compresses : Spelling → Bool
compresses s = has_room s.most 0

-- a pointer has 14 bits for a place
abbrev pub is_near : ℕ → Bool
is_near place = nat_lt place 16384

-- octets as they are compared: in lower case if case makes no difference
abbrev pub folded : Spelling → List ℕ → List ℕ
folded s octets = if s.folds then map to_ascii_lowercase octets else octets

-- whether two suffixes, as octets on the wire, are the same
abbrev pub is_same : Spelling → List ℕ → List ℕ → Bool
is_same s one other = pointwise nat_eq (folded s one) (folded s other)

-- the octets that a suffix is remembered by: in lower case if case makes no difference
abbrev pub remembered_form : Spelling → List (List ℕ) → List ℕ
remembered_form s suffix = wire (map (folded s) suffix)

-- the place of the suffix, if it is remembered
abbrev pub place_in : Spelling → Known → List ℕ → Option ℕ
place_in s known suffix = option_map (λ standing. standing.place) (find (λ standing. is_same s standing.suffix suffix) known)

-- whether a suffix may be remembered at the place beside that number of others
abbrev pub may_stand : Spelling → ℕ → ℕ → Bool
may_stand s count place = if has_room s.most count then (if s.far then true else is_near place) else false

-- a name in two: the labels that are written one by one, and the suffix after them
pub record Split : Type 0 where
  pub labels : List (List ℕ)
  pub suffix : List (List ℕ)

abbrev pub with_label : List ℕ → Split → Split
with_label label split = record { labels = label ∷ split.labels; suffix = split.suffix }

-- The name, at a place where that number of suffixes is remembered, splits before the first of its suffixes that is the
-- root, is remembered, or cannot be remembered. The suffixes of the labels that are passed count as remembered.
unfoldable pub split_from : Spelling → Known → ℕ → ℕ → List (List ℕ) → Split
split_from s known count place [] = record { labels = []; suffix = [] }
split_from s known count place (label ∷ parent) =
    if is_some (place_in s known (wire (label ∷ parent))) then record { labels = []; suffix = label ∷ parent }
    else (if may_stand s count place then with_label label (split_from s known (count + 1) (place + 1 + length label) parent)
    else record { labels = []; suffix = label ∷ parent })

-- the two octets of a pointer
abbrev pub pointer_to : ℕ → List ℕ
pointer_to place = (192 + place / 256) ∷ place % 256 ∷ []

-- the suffix at which a name splits: the root's octet, a pointer, or the suffix in full
abbrev pub suffix_text : Spelling → Known → List (List ℕ) → List ℕ
suffix_text s known [] = 0 ∷ []
suffix_text s known (label ∷ parent) =
    unwrap_or (option_map pointer_to (place_in s known (wire (label ∷ parent)))) (wire (label ∷ parent))

-- the labels one by one, and then the suffix
abbrev pub split_text : Spelling → Known → Split → List ℕ
split_text s known split = labels_wire split.labels ++ suffix_text s known split.suffix

-- the suffixes that begin with one of the labels, which are written from the place on and stop at `stop`
abbrev pub standings : Spelling → ℕ → ℕ → List (List ℕ) → List (List ℕ) → Known
standings s place stop [] suffix = []
standings s place stop (label ∷ labels) suffix =
    record { suffix = remembered_form s (label ∷ labels ++ suffix); place = place; stop = stop }
    ∷ standings s (place + 1 + length label) stop labels suffix

-- all of them if pointers reach each, and else none
abbrev pub if_near : Known → Known
if_near added = if list_all (λ standing. is_near standing.place) added then added else []

-- the octets that are appended for a name, after that number of octets
unfoldable pub name_text : Spelling → Known → ℕ → List (List ℕ) → List ℕ
name_text s known place name = split_text s known (split_from s known (length known) place name)

-- what is remembered after the name: what was, and its suffixes that begin with a label that is written
unfoldable pub known_after : Spelling → Known → ℕ → List (List ℕ) → Known
known_after s known place name =
    let split = split_from s known (length known) place name in
    known ++ if_near (standings s place (place + length (split_text s known split)) split.labels split.suffix)
