-- A reader finds each remembered suffix at its place, and a name where it is written.
use Rattle.std.proofs.Common.{◌≡◌, ℕ, zero, suc, ◌≤◌, ◌<◌, ◌+◌, ◌-◌, ◌*◌, ◌/◌, ◌%◌, List, [], ◌∷◌, ◌++◌, length, drop, map, refl, sym, ap, ◌∙◌, subst, arith, append_assoc, length-append}
use Rattle.std.specs.List.{AllByRecursion}
use Rattle.std.proofs.Math.Seq.{drop-append_seam}
use Rattle.std.proofs.lemmas.List.{drop-drop}
use Rattle.dns_octets.specs.Builder.{Standing, Known}
use Rattle.dns_label.specs.Name.{IsLabel, IsName, wire}
use Rattle.dns_label.specs.Spelled.{DecodesName}
use Rattle.dns_label.specs.Spelled.{EncodesName}
use Rattle.dns_label.specs.Spelled.EncodesName.{root as root_at, label as label_at, pointer as pointer_at}
use Rattle.dns_name.specs.Spelling.{Spelling, folded, remembered_form, pointer_to, name_text}
use Rattle.dns_name.specs.Remembered.{IsKnown, SpellsName, SpellsLabelled, StandsIn, IsSound}
use Rattle.dns_name.specs.Remembered.SpellsName.{root, label, pointer}
use Rattle.dns_name.proofs.Folding.{same_is}
use Rattle.dns_name.proofs.Soundness.{sound-within}
use Rattle.dns_name.proofs.Spelled.{split_of, spelled_split, split_whole}
use Rattle.dns_compression_laws.proofs.SameNames.{same_names, length-same, same_label, same_name}

-- with `pointers` pointers an equal name is read at the place, up to the place after it
pub record ReadsAlike (s : Spelling) (message : List ℕ) (pointers place : ℕ) (name : List (List ℕ)) (next : ℕ) : Type 0 where
  pub read : List (List ℕ)
  pub same : map (folded s) name ≡ map (folded s) read
  pub spelled : EncodesName message pointers place read next

-- a remembered suffix is read at its place, with as many pointers as its parent has labels
pub record IsStanding (s : Spelling) (message : List ℕ) (standing : Standing) : Type 0 where
  pub name : List (List ℕ)
  pub labels : AllByRecursion IsLabel name
  pub some : 0 < length name
  pub suffix_is : standing.suffix ≡ remembered_form s name
  pub near : standing.place < 16384
  pub before : standing.place < standing.stop
  pub reads : (k : ℕ) → length name ≤ suc k → ReadsAlike s message k standing.place name standing.stop

-- what follows a label
after_label : (message : List ℕ) (place : ℕ) (text rest : List ℕ) → drop place message ≡ length text ∷ text ++ rest
    → drop (place + 1 + length text) message ≡ rest
after_label message place text rest at =
    let far : place + 1 + length text ≡ place + (1 + length text) = omega arith in
    let long : 1 + length text ≡ length (length text ∷ text) = omega arith in
    ap (λ n. drop n message) far
    ∙ sym (drop-drop (1 + length text) place message)
    ∙ ap (drop (1 + length text)) at
    ∙ ap (λ n. drop n ((length text ∷ text) ++ rest)) long
    ∙ drop-append_seam (length text ∷ text) rest

pointed : (s : Spelling) (message : List ℕ) (place : ℕ) (rest : List ℕ) (target k after : ℕ) (read : List (List ℕ))
    → drop place message ≡ pointer_to target ++ rest → target < place → target < 16384
    → EncodesName message k target read after → EncodesName message (suc k) place read (place + 2)
pointed s message place rest target k after read at before near on =
    let back : target ≡ 256 * (192 + target / 256 - 192) + target % 256 = omega arith in
    let P : ℕ → Type 0 = λ t. EncodesName message k t read after in
    pointer_at (192 + target / 256) (target % 256) after rest at (omega arith) (omega arith) (subst P back on)

point_read : (s : Spelling) (message : List ℕ) (target : Standing) (place : ℕ) (name : List (List ℕ)) (rest : List ℕ) (k end : ℕ)
    → IsStanding s message target → drop place message ≡ pointer_to target.place ++ rest → target.stop ≤ place → place + 2 ≡ end
    → map (folded s) name ≡ map (folded s) (name) → (standing : IsStanding s message target)
    → map (folded s) name ≡ map (folded s) standing.name → length name ≤ k → ReadsAlike s message k place name end
point_read s message target place name rest zero end on at before ends _ standing same few =
    absurd (omega (arith, length-same s name standing.name same, standing.some))
point_read s message target place name rest (suc k) end on at before ends _ standing same few =
    let found = standing.reads k (omega (arith, length-same s name standing.name same)) in
    record {
      read = found.read;
      same = same ∙ found.same;
      spelled = subst (λ n. EncodesName message (suc k) place found.read n) ends
          (pointed s message place rest target.place k target.stop found.read at (omega (arith, standing.before)) standing.near found.spelled);
    }

-- a text that spells a name is read as that name, if the targets of its pointers are
pub spelled_read : (s : Spelling) (known : Known) (message : List ℕ) (end : ℕ)
    → ((target : Standing) → IsKnown target known → target.stop + 2 ≤ end → IsStanding s message target)
    → {place : ℕ} {text : List ℕ} {name : List (List ℕ)} → SpellsName s known place text name
    → (rest : List ℕ) → drop place message ≡ text ++ rest → place + length text ≡ end → AllByRecursion IsLabel name
    → (k : ℕ) → length name ≤ k → ReadsAlike s message k place name end
spelled_read s known message end targets {place} root rest at ends labels k few = record {
  read = [];
  same = refl;
  spelled = subst (λ n. EncodesName message k place [] n) ends (root_at rest at);
}
spelled_read s known message end targets {place} (label {behind = behind} {parent = parent} text own same is) rest at ends labels k few =
    let here : drop place message ≡ length text ∷ text ++ (behind ++ rest) = at ∙ ap (λ (l : List ℕ). length text ∷ l) (append_assoc text behind rest) in
    let on = spelled_read s known message end targets is rest (after_label message place text (behind ++ rest) here)
    (omega (arith, ends, length-append text behind)) labels.1 k (omega arith) in
    record {
      read = text ∷ on.read;
      same = ap (λ (l : List ℕ). l ∷ map (folded s) parent) (sym (same_is s text own same)) ∙ ap (λ (l : List (List ℕ)). folded s text ∷ l) on.same;
      spelled = label_at (behind ++ rest) here (same_label s text own same labels.0) on.spelled;
    }
spelled_read s known message end targets {place} {name = name} (pointer target is before same) rest at ends labels k few =
    let standing = targets target is (omega (arith, ends)) in
    point_read s message target place name rest k end standing at before ends refl standing
    (same_names s target.suffix standing.name name standing.suffix_is standing.labels labels same) few

-- each remembered suffix is read at its place, whatever follows the octets
standing_read : (s : Spelling) (known : Known) (octets more : List ℕ) (standing : Standing) → StandsIn s known octets standing
    → ((target : Standing) → IsKnown target known → target.stop < standing.stop → IsStanding s (octets ++ more) target)
    → IsStanding s (octets ++ more) standing
standing_read s known octets more standing stands targets = record {
  name = stands.name;
  labels = stands.is_name.labels;
  some = omega (arith, ap (length {A = List ℕ}) led.name_is);
  suffix_is = stands.suffix_is;
  near = stands.near;
  before = omega (arith, stands.stops, ap (length {A = ℕ}) led.text_is);
  reads = λ k few. reads k few;
}
  where
    led : SpellsLabelled s known standing.place stands.text stands.name
    led = stands.spelled

    message : List ℕ
    message = octets ++ more

    at : drop standing.place message ≡ length led.written ∷ led.written ++ (led.behind ++ (stands.there.back ++ more))
    at =
        ap (λ l. drop standing.place (l ++ more)) stands.there.whole
        ∙ ap (drop standing.place) (append_assoc stands.there.front (stands.text ++ stands.there.back) more)
        ∙ ap (λ n. drop n (stands.there.front ++ ((stands.text ++ stands.there.back) ++ more))) (sym stands.there.begins)
        ∙ drop-append_seam stands.there.front ((stands.text ++ stands.there.back) ++ more)
        ∙ append_assoc stands.text stands.there.back more
        ∙ ap (λ (l : List ℕ). l ++ (stands.there.back ++ more)) led.text_is
        ∙ ap (λ (l : List ℕ). length led.written ∷ l) (append_assoc led.written led.behind (stands.there.back ++ more))

    reads : (k : ℕ) → length stands.name ≤ suc k → ReadsAlike s message k standing.place stands.name standing.stop
    reads k few =
        let all : AllByRecursion IsLabel (led.label ∷ led.parent) = subst (λ n. AllByRecursion IsLabel n) led.name_is stands.is_name.labels in
        let on = spelled_read s known message standing.stop
        (λ target is before. targets target is (omega arith)) led.spelled (stands.there.back ++ more)
        (after_label message standing.place led.written (led.behind ++ (stands.there.back ++ more)) at)
        (omega (arith, stands.stops, ap (length {A = ℕ}) led.text_is, length-append led.written led.behind)) all.1 k
        (omega (arith, few, ap (length {A = List ℕ}) led.name_is)) in
        record {
          read = led.written ∷ on.read;
          same = ap (map (folded s)) led.name_is
              ∙ ap (λ (l : List ℕ). l ∷ map (folded s) led.parent) (sym (same_is s led.written led.label led.same))
              ∙ ap (λ (l : List (List ℕ)). folded s led.written ∷ l) on.same;
          spelled = label_at (led.behind ++ (stands.there.back ++ more)) at (same_label s led.written led.label led.same all.0) on.spelled;
        }

pub standings_read : (s : Spelling) (known : Known) (octets more : List ℕ) → IsSound s known octets → (n : ℕ) (standing : Standing)
    → IsKnown standing known → standing.stop < n → IsStanding s (octets ++ more) standing
standings_read s known octets more sound zero standing is before = absurd (omega arith)
standings_read s known octets more sound (suc n) standing is before =
    standing_read s known octets more standing (sound.each standing is)
    (λ target there less. standings_read s known octets more sound n target there (omega arith))

-- a written name is read
pub name_read : (s : Spelling) (known : Known) (octets more : List ℕ) (name : List (List ℕ)) → IsSound s known octets → IsName name
    → let text = name_text s known (length octets) name in
    (read : List (List ℕ)) × (map (folded s) name ≡ map (folded s) read)
    × DecodesName (octets ++ (text ++ more)) (length octets) read (length octets + length text)
unfolding name_text
name_read s known octets more name sound is_name =
    let split = split_of s known (length octets) name in
    let text : List ℕ = name_text s known (length octets) name in
    let spelled : SpellsName s known (length octets) text name =
    subst (λ n. SpellsName s known (length octets) text n) (split_whole s known (length known) (length octets) name)
    (spelled_split s known (length octets) split.labels split.suffix (sound-within sound)) in
    let found = spelled_read s known (octets ++ (text ++ more)) (length octets + length text)
    (λ target is before. standings_read s known octets (text ++ more) sound (suc target.stop) target is (omega arith))
    spelled more (drop-append_seam octets (text ++ more)) refl is_name.labels 255 (omega (arith, few_labels name, is_name.short)) in
    (found.read, found.same, record { spelled = found.spelled; is_name = same_name s name found.read found.same is_name })
  where
    few_labels : (name : List (List ℕ)) → length name < length (wire name)
    few_labels [] = omega arith
    few_labels (text ∷ name) = omega (arith, few_labels name, length-append text (wire name))
