-- What is remembered is there: each suffix is spelled at its place, up to case where the spelling folds.
use Rattle.std.specs.Prelude.{⊤, ◌≡◌, ◌≤◌, ◌<◌, ◌+◌, ℕ, Bool, true, Option, Some, None, if◌then◌else◌, List, [], ◌∷◌, ◌++◌, length, take, drop, nat_le}
use Rattle.std.specs.List.{list_all}
use Rattle.std.proofs.Common.{zero-le}
use Rattle.dns_octets.specs.Builder.{Standing, Known, IsWithin}
use Rattle.dns_label.specs.Name.{IsName, wire}
use Rattle.dns_name.specs.Spelling.{Spelling, is_same, remembered_form, place_in, pointer_to}

-- it is one of those that are remembered
pub data IsKnown (standing : Standing) : Known → Type 0 where
  first : {known : Known} → IsKnown standing (standing ∷ known)
  later : {other : Standing} {known : Known} → IsKnown standing known → IsKnown standing (other ∷ known)

-- A text at a place spells a name: labels that are the same as its own one by one, up to the root or up to a pointer to
-- a remembered suffix that is the same as what is left, and that stops before the pointer.
pub data SpellsName (s : Spelling) (known : Known) : ℕ → List ℕ → List (List ℕ) → Type 0 where
  root : {place : ℕ} → SpellsName s known place (0 ∷ []) []
  label : {place : ℕ} {behind : List ℕ} {parent : List (List ℕ)} (text label : List ℕ)
      → is_same s text label ≡ true
      → SpellsName s known (place + 1 + length text) behind parent
      → SpellsName s known place (length text ∷ text ++ behind) (label ∷ parent)
  pointer : {place : ℕ} {name : List (List ℕ)} (target : Standing)
      → IsKnown target known
      → target.stop ≤ place
      → is_same s target.suffix (wire name) ≡ true
      → SpellsName s known place (pointer_to target.place) name

-- A text spells a name other than the root, and begins with its first label, not with a pointer.
pub record SpellsLabelled (s : Spelling) (known : Known) (place : ℕ) (text : List ℕ) (name : List (List ℕ)) : Type 0 where
  pub written : List ℕ
  pub label : List ℕ
  pub behind : List ℕ
  pub parent : List (List ℕ)
  pub text_is : text ≡ length written ∷ written ++ behind
  pub name_is : name ≡ label ∷ parent
  pub same : is_same s written label ≡ true
  pub spelled : SpellsName s known (place + 1 + length written) behind parent

-- the octets have the text at the place
pub record HasText (octets : List ℕ) (place : ℕ) (text : List ℕ) : Type 0 where
  pub front : List ℕ
  pub back : List ℕ
  pub whole : octets ≡ front ++ (text ++ back)
  pub begins : length front ≡ place

-- a name other than the root is in the octets, where a pointer reaches it
pub record StandsIn (s : Spelling) (known : Known) (octets : List ℕ) (standing : Standing) : Type 0 where
  pub name : List (List ℕ)
  pub is_name : IsName name
  pub suffix_is : standing.suffix ≡ remembered_form s name
  pub text : List ℕ
  pub spelled : SpellsLabelled s known standing.place text name
  pub there : HasText octets standing.place text
  pub stops : standing.place + length text ≡ standing.stop
  pub near : standing.place < 16384

-- no two of the suffixes are the same
abbrev pub AreDistinct : Spelling → Known → Type 0
AreDistinct s [] = ⊤
AreDistinct s (standing ∷ known) = (place_in s known standing.suffix ≡ None) × AreDistinct s known

-- no more are remembered than may be, no suffix twice, and each is in the octets
pub record IsSound (s : Spelling) (known : Known) (octets : List ℕ) : Type 0 where
  pub few : IsWithin s.most (length known)
  pub distinct : AreDistinct s known
  pub each : (standing : Standing) → IsKnown standing known → StandsIn s known octets standing

-- a target that remembers nothing is sound
pub sound_none : (s : Spelling) (octets : List ℕ) → IsSound s [] octets
sound_none s octets = record { few = none s.most; distinct = tt; each = λ standing is. elim is [ ] }
  where
    none : (most : Option ℕ) → IsWithin most 0
    none None = tt
    none (Some most) = zero-le

-- no remembered suffix is spelled between the two places
abbrev pub is_free : ℕ → ℕ → Known → Bool
is_free begin end known =
    list_all (λ standing. if nat_le standing.stop begin then true else nat_le end standing.place) known

-- the octets with others written over them from a place on
abbrev pub patched : List ℕ → ℕ → List ℕ → List ℕ
patched octets place over = take place octets ++ (over ++ drop (place + length over) octets)
