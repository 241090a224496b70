-- A name while its text is read.
use Rattle.std.specs.Prelude.{◌≡◌, ◌⊎◌, ℕ, Option, Some, None, List, [], ◌∷◌, ◌++◌, length, take}
use Rattle.std.specs.List.{AllByRecursion}
use Rattle.dns_label.specs.declared.symbol.Symbol.{Symbol}
use Rattle.dns_label.specs.Name.{IsLabel, labels_wire}
use Rattle.dns_label.specs.NameText.{HasParts, IsNameText}
use Rattle.dns_wire.specs.Text.{SpellName}
use Rattle.dns_wire.specs.declared.text.draft.NameDraft.{NameDraft}

-- it has these finished labels, and these octets in the open one
pub record Holds (draft : NameDraft) (done : List (List ℕ)) (begun : List ℕ) : Type 0 where
  pub written : take draft.len draft.octets ≡ labels_wire done ++ 0 ∷ begun
  pub place : draft.start ≡ length (labels_wire done)
  pub labels : AllByRecursion IsLabel done

-- it has no octet yet
abbrev pub IsNew : NameDraft → Type 0
IsNew draft = draft.len ≡ 1

-- the text has the finished labels and the open one as its parts, and no others
pub record IsReadAs (text : List ℕ) (draft : NameDraft) : Type 0 where
  pub done : List (List ℕ)
  pub begun : List ℕ
  pub holds : Holds draft done begun
  pub has : HasParts text (done ++ begun ∷ [])
  pub only : (parts : List (List ℕ)) → HasParts text parts → parts ≡ done ++ begun ∷ []

-- the text has been read: it is the root's, or another one with these parts
abbrev pub IsReadBy : List ℕ → Option NameDraft → Type 0
IsReadBy text None = text ≡ 46 ∷ []
IsReadBy text (Some draft) = (text ≡ 46 ∷ [] → ⊥) × IsReadAs text draft

-- a name's text, or the empty text
abbrev pub IsReadable : List ℕ → Type 0
IsReadable text = (text ≡ []) ⊎ ((name : List (List ℕ)) × IsNameText text name)

-- the same of symbols
abbrev pub AreReadable : List Symbol → Type 0
AreReadable symbols = (symbols ≡ []) ⊎ ((name : List (List ℕ)) × SpellName symbols name)
