-- What a text that has been read spells as a relative name.
use Rattle.std.proofs.Common.{◌≡◌, ℕ, List, [], ◌∷◌, ◌++◌, take, refl, sym, ◌∙◌, ap, subst, arith}
use Rattle.std.proofs.lemmas.List.{take-take}
use Rattle.std.proofs.Math.Seq.{take-append_seam}
use Rattle.std.specs.List.{flat_map}
use Rattle.dns_label.specs.declared.symbol.Symbol.{Symbol}
use Rattle.dns_label.specs.Symbol.{octet, spelled}
use Rattle.dns_label.specs.Name.{IsName, wire, labels_wire}
use Rattle.dns_label.specs.NameText.{HasParts, is_dot, parts_of, IsRelativeNameText}
use Rattle.dns_wire.specs.Draft.{Holds, IsReadAs}
use Rattle.dns_wire.specs.Flat.{IsWritten}
use Rattle.dns_flat.specs.RelativeText.{SpellsAbsolute, SpellsRelative}
use Rattle.dns_label.specs.NameText.IsRelativeNameText.{empty, labels}
use Rattle.dns_wire.specs.declared.text.draft.NameDraft.{NameDraft}
use Rattle.dns_wire.proofs.Case.{wire_one}
use Rattle.dns_wire.proofs.Drafts.{draft-len, draft-name, draft-some, draft-wire, holds_one}
use Rattle.dns_wire.proofs.Flat.{flat-written}
use Rattle.dns_wire.proofs.Parts.{some_part, two_parts}
use Rattle.dns_wire.proofs.Texts.{whole-absolute}
use Rattle.dns_wire.proofs.Wire.{wire_is}

-- what was read spells it
pub record IsWholeRelative (text : List ℕ) (draft : NameDraft) : Type 0 where
  pub done : List (List ℕ)
  pub holds : Holds draft done []
  pub spells : IsRelativeNameText text done

pub held_name : (draft : NameDraft) (done : List (List ℕ)) → Holds draft done [] → IsName done
held_name draft done holds =
    let all = draft.whole in
    let few = draft.few in
    draft-name draft.octets draft.len done (omega arith) few holds.written holds.labels

-- a label was open at the end
pub relative-open : (text : List ℕ) (draft ended : NameDraft) (read : IsReadAs text draft)
    → Holds ended (read.done ++ read.begun ∷ []) [] → IsWholeRelative text ended
relative-open text draft ended read holds = record {
  done = read.done ++ read.begun ∷ [];
  holds = holds;
  spells = labels (record { parts = read.has; each = holds.labels }) (held_name ended (read.done ++ read.begun ∷ []) holds);
}

-- nothing was read
no_symbols : (symbols : List Symbol) → parts_of symbols ≡ [] ∷ [] → symbols ≡ []
no_symbols [] one = refl
no_symbols (symbol ∷ symbols) one =
    absurd (two_parts (is_dot symbol) (octet symbol) (parts_of symbols) symbol symbols refl refl refl (some_part symbols) one)

none_by : (text : List ℕ) (draft : NameDraft) (done : List (List ℕ)) (begun : List ℕ) → Holds draft done begun
    → HasParts text (done ++ begun ∷ []) → begun ≡ [] → draft.len ≡ 1 → IsWholeRelative text draft
none_by text draft [] begun holds has none one =
    let P : List ℕ → Type 0 = λ b. Holds draft [] b in
    let here : parts_of has.symbols ≡ [] ∷ [] = has.between ∙ ap (λ b. b ∷ []) none in
    record {
      done = [];
      holds = subst P none holds;
      spells = empty (has.written ∙ ap (flat_map spelled) (no_symbols has.symbols here));
    }
none_by text draft (label ∷ done) begun holds has none one =
    let all = draft.whole in
    let few = draft.few in
    let size = draft-len draft.octets draft.len (label ∷ done) begun (omega arith) holds.written in
    absurd (omega arith)

pub relative-none : (text : List ℕ) (draft : NameDraft) (read : IsReadAs text draft) → read.begun ≡ [] → draft.len ≡ 1
    → IsWholeRelative text draft
relative-none text draft read none one = none_by text draft read.done read.begun read.holds read.has none one

-- the last dot was there
pub last_dot : (text : List ℕ) (draft : NameDraft) → (text ≡ 46 ∷ [] → ⊥) → (read : IsReadAs text draft) → read.begun ≡ []
    → (draft.len ≡ 1 → ⊥) → SpellsAbsolute text
last_dot text draft no_dot read none some =
    let whole = whole-absolute text draft no_dot read none in
    let all = draft.whole in
    let few = draft.few in
    let more = draft-some draft.octets draft.len whole.done (omega arith) some whole.holds.written in
    (whole.done, whole.spells more (held_name draft whole.done whole.holds))

-- the result then
pub relative-name : (text : List ℕ) (draft : NameDraft) (name : List (List ℕ)) → IsWholeRelative text draft
    → IsName name × Holds draft name [] → IsRelativeNameText text name
relative-name text draft name whole made =
    let same = holds_one draft whole.done name whole.holds (sym (draft-wire draft.octets draft.len name made.1.written)) in
    let P : List (List ℕ) → Type 0 = λ n. IsRelativeNameText text n in
    subst P (sym same) whole.spells

pub relative-spells : (text : List ℕ) (draft : NameDraft) → IsWholeRelative text draft → SpellsRelative text
relative-spells text draft whole = (whole.done, whole.spells)

-- the octets before the open label's length
front_octets : (draft : NameDraft) (done : List (List ℕ)) → Holds draft done [] → take draft.start draft.octets ≡ labels_wire done
front_octets draft done holds =
    let room = draft.room in
    sym (take-take draft.start draft.len draft.octets (omega arith))
    ∙ ap (take draft.start) holds.written
    ∙ ap (λ (n : ℕ). take n (labels_wire done ++ 0 ∷ [])) holds.place
    ∙ take-append_seam (labels_wire done) (0 ∷ [])

pub front_written : (draft : NameDraft) (done : List (List ℕ)) → Holds draft done []
    → IsWritten (take draft.start draft.octets ++ 0 ∷ [])
front_written draft done holds =
    flat-written _ done (held_name draft done holds) (ap (λ l. l ++ 0 ∷ []) (front_octets draft done holds) ∙ sym (wire_is done))

pub front_made : (draft : NameDraft) (done name : List (List ℕ)) → Holds draft done []
    → take draft.start draft.octets ≡ labels_wire name → IsName name × Holds draft name []
front_made draft done name holds made =
    let same : wire done ≡ wire name =
    wire_is done ∙ ap (λ l. l ++ 0 ∷ []) (sym (front_octets draft done holds) ∙ made) ∙ sym (wire_is name) in
    let P : List (List ℕ) → Type 0 = λ n. IsName n × Holds draft n [] in
    subst P (wire_one done name same) (held_name draft done holds, holds)
