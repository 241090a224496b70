-- What a text that has been read spells.
use Rattle.std.proofs.Common.{◌≡◌, ℕ, ◌+◌, ◌<◌, List, [], ◌∷◌, ◌++◌, length, refl, sym, ◌∙◌, ap, subst, arith, length-append}
use Rattle.std.specs.Prelude.{Result, Ok, Err, IfOk, IfErr, OnOk, ◌↔◌}
use Rattle.std.specs.List.{AllByRecursion, flat_map}
use Rattle.dns_label.specs.declared.symbol.Symbol.{Symbol}
use Rattle.dns_label.specs.Symbol.{spelled}
use Rattle.dns_label.specs.Name.{IsLabel, IsName, wire}
use Rattle.dns_label.specs.NameText.{HasParts, IsNameText, IsAbsoluteText, parts_of}
use Rattle.dns_label.specs.NameText.IsAbsoluteText.{root, labels}
use Rattle.dns_label.specs.NameText.IsNameText.{absolute, relative}
use Rattle.dns_wire.specs.Draft.{Holds, IsReadAs}
use Rattle.dns_wire.specs.Text.{SpellName, IsRefused, IsFault}
use Rattle.dns_wire.specs.declared.text.draft.NameDraft.{NameDraft}
use Rattle.dns_wire.specs.declared.text.FromStrError.{FromStrError}
use Rattle.dns_wire.specs.declared.text.FromStrError.TheVariants.{Presentation, ShortBuf}
use Rattle.dns_wire.proofs.Wire.{last_same}
use Rattle.dns_wire.proofs.Parts.{Reading, parts_one, parts_end, has_parts, IsListed}
use Rattle.dns_wire.proofs.Drafts.{draft-name, draft-some, draft-none, draft-wire, holds_one, draft-len}
use Rattle.std.proofs.Common.{inl, inr}

root_name : IsName []
root_name = record { labels = tt; short = omega arith }

pub absolute_name : (text : List ℕ) (name : List (List ℕ)) → IsAbsoluteText text name → IsName name
absolute_name text name (root is) = root_name
absolute_name text name (labels some has is_name) = is_name

pub no_absolute : (text : List ℕ) → (text ≡ 46 ∷ [] → ⊥)
    → ((parts name : List (List ℕ)) → HasParts text parts → IsListed parts name → ⊥)
    → (name : List (List ℕ)) → IsAbsoluteText text name → ⊥
no_absolute text no_dot none name (root is) = no_dot is
no_absolute text no_dot none name (labels some has is_name) = none (name ++ [] ∷ []) name has (record { is_name = is_name; listed = inr refl })

pub no_text : (text : List ℕ) → (text ≡ 46 ∷ [] → ⊥)
    → ((parts name : List (List ℕ)) → HasParts text parts → IsListed parts name → ⊥)
    → (name : List (List ℕ)) → IsNameText text name → ⊥
no_text text no_dot none name (absolute is) = no_absolute text no_dot none name is
no_text text no_dot none name (relative is is_name) = none name name is.parts (record { is_name = is_name; listed = inl refl })

-- what a text spells, given what was read of it
pub record Whole (Spells : List ℕ → List (List ℕ) → Type 0) (text : List ℕ) (draft : NameDraft) : Type 0 where
  pub done : List (List ℕ)
  pub holds : Holds draft done []
  pub spells : 0 < length done → IsName done → Spells text done
  pub only : (name : List (List ℕ)) → Spells text name → (0 < length name) × (name ≡ done)

pub last_label : (done : List (List ℕ)) (label : List ℕ) → AllByRecursion IsLabel (done ++ label ∷ []) → IsLabel label
last_label [] label each = each.0
last_label (first ∷ done) label each = last_label done label each.1

-- the last dot is there
pub whole-absolute : (text : List ℕ) (draft : NameDraft) → (text ≡ 46 ∷ [] → ⊥) → (read : IsReadAs text draft)
    → read.begun ≡ [] → Whole IsAbsoluteText text draft
whole-absolute text draft no_dot read none =
    let P : List ℕ → Type 0 = λ b. Holds draft read.done b in
    let Q : List ℕ → Type 0 = λ b. HasParts text (read.done ++ b ∷ []) in
    record {
      done = read.done;
      holds = subst P none read.holds;
      spells = λ some is_name. labels some (subst Q none read.has) is_name;
      only = only_done;
    }
  where
    only_done : (name : List (List ℕ)) → IsAbsoluteText text name → (0 < length name) × (name ≡ read.done)
    only_done name (root is) = absurd (no_dot is)
    only_done name (labels some has is_name) = (some, (last_same name read.done [] read.begun (read.only _ has)).0)

pub whole-dotted : (text : List ℕ) (draft : NameDraft) → (text ≡ 46 ∷ [] → ⊥) → (read : IsReadAs text draft)
    → read.begun ≡ [] → Whole IsNameText text draft
whole-dotted text draft no_dot read none =
    let here = whole-absolute text draft no_dot read none in
    record {
      done = here.done;
      holds = here.holds;
      spells = λ some is_name. absolute (here.spells some is_name);
      only = only_done here;
    }
  where
    only_done : (here : Whole IsAbsoluteText text draft) (name : List (List ℕ)) → IsNameText text name → (0 < length name) × (name ≡ here.done)
    only_done here name (absolute is) = here.only name is
    only_done here name (relative is is_name) =
        let e : name ≡ read.done ++ [] ∷ [] = read.only name is.parts ∙ ap (λ t. read.done ++ t ∷ []) none in
        let R : List (List ℕ) → Type 0 = λ n. AllByRecursion IsLabel n in
        let label = last_label read.done [] (subst R e is.each) in absurd (omega (arith, label.some))

-- a label is open at the end
pub open_label : (text : List ℕ) (draft : NameDraft) → (text ≡ 46 ∷ [] → ⊥) → (read : IsReadAs text draft)
    → 0 < length read.begun → (name : List (List ℕ)) → IsAbsoluteText text name → ⊥
open_label text draft no_dot read some name (root is) = no_dot is
open_label text draft no_dot read some name (labels any has is_name) =
    let e = (last_same name read.done [] read.begun (read.only _ has)).1 in
    omega (arith, ap (length {A = ℕ}) e)

pub whole-open : (text : List ℕ) (draft ended : NameDraft) → (text ≡ 46 ∷ [] → ⊥) → (read : IsReadAs text draft)
    → 0 < length read.begun → Holds ended (read.done ++ read.begun ∷ []) [] → Whole IsNameText text ended
whole-open text draft ended no_dot read some holds = record {
  done = read.done ++ read.begun ∷ [];
  holds = holds;
  spells = λ any is_name. relative (record { parts = read.has; each = is_name.labels }) is_name;
  only = only_done;
}
  where
    only_done : (name : List (List ℕ)) → IsNameText text name → (0 < length name) × (name ≡ read.done ++ read.begun ∷ [])
    only_done name (absolute is) = absurd (open_label text draft no_dot read some name is)
    only_done name (relative is is_name) =
        let e = read.only name is.parts in
        (omega (arith, ap (length {A = List ℕ}) e, length-append read.done (read.begun ∷ [])), e)

-- what is returned then
pub whole-ok : (Spells : List ℕ → List (List ℕ) → Type 0) (text : List ℕ) (draft : NameDraft) (name : List (List ℕ))
    → Whole Spells text draft → IsName name → Holds draft name [] → 0 < length name → Spells text name
whole-ok Spells text draft name whole is_name holds some =
    let same = holds_one draft whole.done name whole.holds (sym (draft-wire draft.octets draft.len name holds.written)) in
    let P : List (List ℕ) → Type 0 = λ n. (0 < length n) → IsName n → Spells text n in
    subst P (sym same) whole.spells some is_name

pub whole-err : {T : Type 0} (Spells : List ℕ → List (List ℕ) → Type 0) (text : List ℕ) (draft : NameDraft) (result : Result T FromStrError)
    → Whole Spells text draft → IfErr result (λ error. IsFault error ↔ (draft.len ≡ 1)) → IfErr result (IsRefused Spells text)
whole-err Spells text draft (Ok name) whole told = tt
whole-err Spells text draft (Err (Presentation error)) whole told = λ name spells.
    let only = whole.only name spells in
    let all = draft.whole in
    let few = draft.few in
    let none = draft-none draft.octets draft.len whole.done (omega arith) (told.0 tt) whole.holds.written in
    omega (arith, only.0, ap (length {A = List ℕ}) only.1)
whole-err Spells text draft (Err ShortBuf) whole told =
    let all = draft.whole in
    let few = draft.few in
    let some = draft-some draft.octets draft.len whole.done (omega arith) (λ one. told.1 one) whole.holds.written in
    (whole.done, whole.spells some (draft-name draft.octets draft.len whole.done (omega arith) few whole.holds.written whole.holds.labels))

-- whether a label is open
pub begun_some : (text : List ℕ) (draft : NameDraft) (read : IsReadAs text draft) → draft.start + 1 < draft.len
    → 0 < length read.begun
begun_some text draft read more =
    let all = draft.whole in
    let few = draft.few in
    let size = draft-len draft.octets draft.len read.done read.begun (omega arith) read.holds.written in
    let at = read.holds.place in omega arith

no_octets : (octets : List ℕ) → length octets ≡ 0 → octets ≡ []
no_octets [] none = refl
no_octets (octet ∷ octets) none = absurd (omega arith)

pub begun_none : (text : List ℕ) (draft : NameDraft) (read : IsReadAs text draft) → (draft.start + 1 < draft.len → ⊥)
    → read.begun ≡ []
begun_none text draft read no_more =
    let all = draft.whole in
    let few = draft.few in
    let size = draft-len draft.octets draft.len read.done read.begun (omega arith) read.holds.written in
    let at = read.holds.place in no_octets read.begun (omega arith)

pub whole-result : (Spells : List ℕ → List (List ℕ) → Type 0) (text : List ℕ) (draft : NameDraft)
    (result : Result (List (List ℕ)) FromStrError) → Whole Spells text draft
    → IfOk result (λ name. IsName name × Holds draft name [] × (0 < length name)) → IfOk result (λ name. Spells text name)
whole-result Spells text draft (Ok name) whole made = whole-ok Spells text draft name whole made.0 made.1 made.2
whole-result Spells text draft (Err error) whole made = tt

-- the same if its octets were appended to others
pub whole-appended : {T : Type 0} (text : List ℕ) (draft : NameDraft) (result : Result T FromStrError) (new before old : List ℕ)
    → before ≡ old → Whole IsAbsoluteText text draft
    → OnOk result ((name : List (List ℕ)) × IsName name × Holds draft name [] × (0 < length name) × (new ≡ before ++ wire name))
    → OnOk result ((name : List (List ℕ)) × IsAbsoluteText text name × (new ≡ old ++ wire name))
whole-appended text draft (Ok made) new before old is whole appended =
    let name = appended.0 in
    (name, whole-ok IsAbsoluteText text draft name whole appended.1 appended.2 appended.3, appended.4 ∙ ap (λ l. l ++ wire name) is)
whole-appended text draft (Err error) new before old is whole appended = tt

-- symbols that were taken to the end are a text with these parts
pub read_as : (taken : List Symbol) (draft : NameDraft) (done : List (List ℕ)) (begun : List ℕ) → Reading taken done begun
    → Holds draft done begun → IsReadAs (flat_map spelled taken) draft
read_as taken draft done begun reading holds =
    let P : List (List ℕ) → Type 0 = λ p. HasParts (flat_map spelled taken) p in
    let end = parts_end taken done begun reading in
    record {
      done = done;
      begun = begun;
      holds = holds;
      has = subst P end (has_parts taken reading.each);
      only = λ parts has. parts_one taken reading.each parts has ∙ end;
    }

-- symbols with no name's parts spell none
pub spell_none : (symbols : List Symbol) (name : List (List ℕ)) → (flat_map spelled symbols ≡ 46 ∷ [] → ⊥)
    → ((name : List (List ℕ)) → IsListed (parts_of symbols) name → ⊥) → SpellName symbols name → ⊥
spell_none symbols name no_dot none spells =
    no_text (flat_map spelled symbols) no_dot
    (λ parts name has listed.
    let P : List (List ℕ) → Type 0 = λ p. IsListed p name in
    none name (subst P (parts_one symbols spells.each parts has) listed))
    name spells.text
