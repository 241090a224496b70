-- The name of a text under an origin, once its labels are read.
use Rattle.std.proofs.Common.{◌≡◌, ℕ, ◌+◌, ◌<◌, ◌≤◌, List, [], ◌∷◌, ◌++◌, length, take, inr, refl, sym, ◌∙◌, ap, subst, arith}
use Rattle.std.specs.Prelude.{Option, Some, None}
use Rattle.std.specs.List.{AllByRecursion}
use Rattle.dns_label.specs.Name.{IsLabel, IsName, wire}
use Rattle.dns_label.specs.NameText.{IsAbsoluteText, IsRelativeText}
use Rattle.dns_label.specs.NameText.IsAbsoluteText.{root}
use Rattle.dns_label.specs.NameText.IsNameText.{absolute as absolute_text, relative as relative_text}
use Rattle.dns_wire.specs.Draft.{Holds, IsReadable, IsReadAs}
use Rattle.dns_wire.specs.declared.text.draft.NameDraft.{NameDraft}
use Rattle.dns_wire.proofs.Drafts.{draft-none, draft-some}
use Rattle.dns_wire.proofs.Texts.{whole-absolute, open_label}
use Rattle.dns_wire.proofs.Wire.{length-wire_is, length-wire-append}
use Rattle.dns_flat.proofs.Chains.{never_rooted}
use Rattle.dns_entry_scanner.specs.EndedName.{IsEndedBy}
use Rattle.dns_entry_scanner.specs.NameInText.{SpellsUnder}
use Rattle.dns_entry_scanner.specs.NameInText.SpellsUnder.{at, absolute, relative}
use Rattle.dns_entry_scanner.proofs.ChainedNames.{held_name, held_one, origin_fits}

-- the labels before an origin
front_name : (labels origin : List (List ℕ)) → AllByRecursion IsLabel labels → IsName (labels ++ origin) → IsName labels
front_name labels origin each is_name = record {
  labels = each;
  short = omega (arith, is_name.short, length-wire-append labels origin, length-wire_is labels, length-wire_is origin);
}

-- such a text is read
pub readable : {origin : Option (List (List ℕ))} {text : List ℕ} {name : List (List ℕ)} → (text ≡ 64 ∷ [] → ⊥)
    → SpellsUnder origin text name → IsReadable text
readable differs at = absurd (differs refl)
readable {name = name} differs (absolute is) = inr (name, absolute_text is)
readable differs (relative {origin = origin} {labels = labels} other is is_name) =
    inr (labels, relative_text is (front_name labels origin is.each is_name))

-- `@` if no origin is known, and if one is
pub at_none : {origin : Option (List (List ℕ))} {text : List ℕ} {name : List (List ℕ)} → origin ≡ None → text ≡ 64 ∷ []
    → ((name : List (List ℕ)) → IsAbsoluteText text name → ⊥) → SpellsUnder origin text name → ⊥
at_none none is dotless at = cc
at_none {name = name} none is dotless (absolute spelled) = dotless name spelled
at_none none is dotless (relative differs spelled is_name) = differs is

pub at_some : {known : Option (List (List ℕ))} {text : List ℕ} (origin : List (List ℕ)) → known ≡ Some origin → text ≡ 64 ∷ []
    → SpellsUnder known text origin
at_some {known = known} origin is same =
    let P : Option (List (List ℕ)) → Type 0 = λ o. SpellsUnder o (64 ∷ []) origin in
    let Q : List ℕ → Type 0 = λ t. SpellsUnder known t origin in
    subst Q (sym same) (subst P (sym is) at)

-- the root
pub root_spelled : {origin : Option (List (List ℕ))} {text : List ℕ} → text ≡ 46 ∷ [] → SpellsUnder origin text []
root_spelled is = absolute (root is)

-- if the last label is not open, the text is that of no relative name
never_relative : {text : List ℕ} (draft : NameDraft) (read : IsReadAs text draft) (labels : List (List ℕ)) → read.begun ≡ []
    → IsRelativeText text labels → ⊥
never_relative draft read labels none is =
    let P : List (List ℕ) → Type 0 = λ l. AllByRecursion IsLabel l in
    never_rooted read.done (subst P (read.only labels is.parts ∙ ap (λ b. read.done ++ b ∷ []) none) is.each)

pub dotted_ended : {known : Option (List (List ℕ))} (text : List ℕ) (draft : NameDraft) → (text ≡ 46 ∷ [] → ⊥)
    → (read : IsReadAs text draft) → read.begun ≡ [] → (draft.len ≡ 1 → ⊥) → IsEndedBy known text draft None
dotted_ended text draft no_dot read none some =
    let whole = whole-absolute text draft no_dot read none in
    let all = draft.whole in
    let few = draft.few in
    let more = draft-some draft.octets draft.len whole.done (omega arith) some whole.holds.written in
    (some, whole.done, whole.holds, absolute (whole.spells more (held_name draft whole.done whole.holds)))

pub dotted_none : {origin : Option (List (List ℕ))} {text : List ℕ} {name : List (List ℕ)} (draft : NameDraft)
    → (text ≡ 64 ∷ [] → ⊥) → (text ≡ 46 ∷ [] → ⊥) → (read : IsReadAs text draft) → read.begun ≡ [] → draft.len ≡ 1
    → SpellsUnder origin text name → ⊥
dotted_none draft differs no_dot read none one at = differs refl
dotted_none {text = text} {name = name} draft differs no_dot read none one (absolute is) =
    let whole = whole-absolute text draft no_dot read none in
    let all = draft.whole in
    let few = draft.few in
    let only = whole.only name is in
    let empty = draft-none draft.octets draft.len whole.done (omega arith) one whole.holds.written in
    omega (arith, only.0, empty, ap (length {A = List ℕ}) only.1)
dotted_none draft differs no_dot read none one (relative {labels = labels} other is is_name) =
    never_relative draft read labels none is

-- if it is open, the name is relative
pub open_none : {origin : Option (List (List ℕ))} {text : List ℕ} {name : List (List ℕ)} (draft : NameDraft) → origin ≡ None
    → (text ≡ 46 ∷ [] → ⊥) → (read : IsReadAs text draft) → 0 < length read.begun → SpellsUnder origin text name → ⊥
open_none draft none no_dot read some at = cc
open_none {text = text} {name = name} draft none no_dot read some (absolute is) = open_label text draft no_dot read some name is
open_none draft none no_dot read some (relative other is is_name) = cc

pub open_ended : {known : Option (List (List ℕ))} (text : List ℕ) (draft ended : NameDraft) (origin : List (List ℕ))
    → known ≡ Some origin → (text ≡ 64 ∷ [] → ⊥) → (read : IsReadAs text draft)
    → Holds ended (read.done ++ read.begun ∷ []) [] → IsName origin
    → length (take ended.start ended.octets) + length (wire origin) ≤ 255 → IsEndedBy known text ended (Some origin)
open_ended text draft ended origin is differs read holds is_origin few =
    let labels : List (List ℕ) = read.done ++ read.begun ∷ [] in
    let is_name = origin_fits ended labels origin holds is_origin few in
    let P : Option (List (List ℕ)) → Type 0 = λ o. SpellsUnder o text (labels ++ origin) in (
      labels,
      holds,
      is_name,
      subst P (sym is) (relative differs (record { parts = read.has; each = holds.labels }) is_name),
    )

pub open_long : {known : Option (List (List ℕ))} {text : List ℕ} {name : List (List ℕ)} (draft : NameDraft) (origin : List (List ℕ))
    → known ≡ Some origin → (text ≡ 64 ∷ [] → ⊥) → (text ≡ 46 ∷ [] → ⊥) → (read : IsReadAs text draft) → 0 < length read.begun
    → (IsName ((read.done ++ read.begun ∷ []) ++ origin) → ⊥) → SpellsUnder known text name → ⊥
open_long draft origin is differs no_dot read some long at = differs refl
open_long {text = text} {name = name} draft origin is differs no_dot read some long (absolute spelled) =
    open_label text draft no_dot read some name spelled
open_long draft origin is differs no_dot read some long (relative {origin = other} {labels = labels} _ spelled is_name) =
    let same : other ≡ origin = cc in
    let whole : labels ++ other ≡ (read.done ++ read.begun ∷ []) ++ origin =
    ap (λ l. l ++ other) (read.only labels spelled.parts) ∙ ap (λ o. (read.done ++ read.begun ∷ []) ++ o) same in
    let P : List (List ℕ) → Type 0 = λ l. IsName l in long (subst P whole is_name)

-- a name with a dot at its end
pub absolute_name : {text : List ℕ} {name : List (List ℕ)} → IsAbsoluteText text name → IsName name
absolute_name (IsAbsoluteText.root is) = record { labels = tt; short = omega arith }
absolute_name (IsAbsoluteText.labels some parts is_name) = is_name

-- the names of labels that are the same octets
pub root_behind : {known : Option (List (List ℕ))} {text : List ℕ} (draft : NameDraft) (name : List (List ℕ)) → IsEndedBy known text draft None
    → Holds draft name [] → SpellsUnder known text name
root_behind {known = known} {text = text} draft name ended holds =
    subst (λ (n : List (List ℕ)). SpellsUnder known text n) (held_one draft ended.1 name ended.2 holds) ended.3

pub origin_behind : {known : Option (List (List ℕ))} {text : List ℕ} (draft : NameDraft) (labels origin : List (List ℕ))
    → IsEndedBy known text draft (Some origin) → Holds draft labels [] → SpellsUnder known text (labels ++ origin)
origin_behind {known = known} {text = text} draft labels origin ended holds =
    subst (λ (n : List (List ℕ)). SpellsUnder known text (n ++ origin)) (held_one draft ended.0 labels ended.1 holds) ended.3
