-- What a text spells, once the labels that were read from it are finished (RFC 1035 5.1).
use Rattle.std.specs.Prelude.{ℕ, List, [], ◌++◌, Option, Some, None}
use Rattle.dns_label.specs.Name.{IsName}
use Rattle.dns_wire.specs.Draft.{Holds, IsNew}
use Rattle.dns_wire.specs.declared.text.draft.NameDraft.{NameDraft}
use Rattle.dns_entry_scanner.specs.NameInText.{SpellsUnder}

-- Under the origin that is known, the text spells the finished labels, which the root or this origin follows. There is a label before
-- the root.
abbrev pub IsEndedBy : Option (List (List ℕ)) → List ℕ → NameDraft → Option (List (List ℕ)) → Type 0
IsEndedBy known text draft None = (IsNew draft → ⊥) × (name : List (List ℕ)) × Holds draft name [] × SpellsUnder known text name
IsEndedBy known text draft (Some origin) =
    (labels : List (List ℕ)) × Holds draft labels [] × IsName (labels ++ origin) × SpellsUnder known text (labels ++ origin)
