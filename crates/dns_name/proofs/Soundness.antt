-- What is remembered stays true of the octets: after an append, a name, a cut and a patch.
use Rattle.std.proofs.Common.{◌≡◌, ◌≤◌, ◌<◌, ◌+◌, ◌-◌, ℕ, ◌⊎◌, true, Option, Some, None, List, [], ◌++◌, length, take, drop, sym, ◌∙◌, ap, arith, inl, inr, length-append, append_assoc, length-take, length-drop}
use Rattle.std.specs.Coded.{le_prop}
use Rattle.std.proofs.lemmas.List.{append-nil, drop-append-le}
use Rattle.std.proofs.Math.Seq.{take-append-add}
use mathlib.Core.Logic.{∥∥₁_elim}
use Rattle.dns_octets.specs.Builder.{Standing, Known, IsWithin, before}
use Rattle.dns_label.specs.Name.{IsName}
use Rattle.dns_name.specs.Spelling.{Spelling, Split, name_text, if_near, known_after}
use Rattle.dns_name.specs.Remembered.{IsKnown, SpellsName, SpellsLabelled, HasText, StandsIn, IsSound, is_free, patched}
use Rattle.dns_name.specs.Remembered.SpellsName.{root, label, pointer}
use Rattle.dns_name.proofs.Known.{known-append_left, known-append_cases, known_before, before_known, length-before, free_cases}
use Rattle.dns_name.proofs.Spelled.{StopsBefore, IsAdded, split_of, added_of, added_each, split_few, split_absent, length-standings, if_near-known, length-if_near}
use Rattle.dns_name.proofs.Distinct.{AreDistinct-before, AreDistinct-name}

-- what is remembered stops within the octets
stands-within : (s : Spelling) (known : Known) (octets : List ℕ) (standing : Standing) → StandsIn s known octets standing
    → standing.stop ≤ length octets
stands-within s known octets standing is =
    let there = is.there in
    omega (arith, is.stops, there.begins, ap (length {A = ℕ}) there.whole, length-append there.front (is.text ++ there.back), length-append is.text there.back)

pub sound-within : {s : Spelling} {known : Known} {octets : List ℕ} → IsSound s known octets → StopsBefore (length octets) known
sound-within {s} {known} {octets} sound standing is = stands-within s known octets standing (sound.each standing is)

pub merely-within : {s : Spelling} {known : Known} {octets : List ℕ} → ∥ IsSound s known octets ∥₁ → StopsBefore (length octets) known
merely-within sound standing is = ∥∥₁_elim sound le_prop (λ sound. sound-within sound standing is)

-- a text stays spelled while its pointers' targets stay remembered
spells-kept : {s : Spelling} {known more : Known} {place : ℕ} {text : List ℕ} {name : List (List ℕ)}
    → ((target : Standing) → IsKnown target known → target.stop ≤ place + length text → IsKnown target more)
    → SpellsName s known place text name → SpellsName s more place text name
spells-kept kept root = root
spells-kept {place = place} kept (label {behind = behind} text other same is) =
    label text other same (spells-kept (λ target known within. kept target known (omega (arith, length-append text behind, within))) is)
spells-kept kept (pointer target is before same) = pointer target (kept target is (omega arith)) before same

-- so does one that begins with a label
labelled-kept : {s : Spelling} {known more : Known} {place : ℕ} {text : List ℕ} {name : List (List ℕ)}
    → ((target : Standing) → IsKnown target known → target.stop ≤ place + length text → IsKnown target more)
    → SpellsLabelled s known place text name → SpellsLabelled s more place text name
labelled-kept {place = place} kept is = record {
  written = is.written;
  label = is.label;
  behind = is.behind;
  parent = is.parent;
  text_is = is.text_is;
  name_is = is.name_is;
  same = is.same;
  spelled = spells-kept (λ target known within. kept target known
      (omega (arith, ap (length {A = ℕ}) is.text_is, length-append is.written is.behind))) is.spelled;
}

-- more octets follow
pub text-append : {octets : List ℕ} {place : ℕ} {text : List ℕ} (tail : List ℕ) → HasText octets place text → HasText (octets ++ tail) place text
text-append tail there = record {
  front = there.front;
  back = there.back ++ tail;
  whole = ap (λ l. l ++ tail) there.whole ∙ append_assoc there.front _ tail ∙ ap (λ l. there.front ++ l) (append_assoc _ there.back tail);
  begins = there.begins;
}

pub IsSound-append : {s : Spelling} {known : Known} {octets : List ℕ} (tail : List ℕ) → IsSound s known octets
    → IsSound s known (octets ++ tail)
IsSound-append tail sound = record {
  few = sound.few;
  distinct = sound.distinct;
  each = λ standing is.
      let stands = sound.each standing is in
      record {
        name = stands.name;
        is_name = stands.is_name;
        suffix_is = stands.suffix_is;
        text = stands.text;
        spelled = stands.spelled;
        there = text-append tail stands.there;
        stops = stands.stops;
        near = stands.near;
      };
}

-- the octets are cut after the text
pub text-take : {octets : List ℕ} {place : ℕ} {text : List ℕ} (len : ℕ) → place + length text ≤ len → HasText octets place text
    → HasText (take len octets) place text
text-take {text = text} len within there =
    let front : List ℕ = there.front in
    let back : List ℕ = there.back in
    let left : ℕ = len - (length front + length text) in
    let long : len ≡ length front + (length text + left) = omega (arith, there.begins) in
    record {
      front = front;
      back = take left back;
      whole = ap (take len) there.whole ∙ ap (λ n. take n (front ++ (text ++ back))) long
          ∙ take-append-add front (text ++ back) (length text + left) ∙ ap (λ l. front ++ l) (take-append-add text back left);
      begins = there.begins;
    }

within-less : (most : Option ℕ) (less more : ℕ) → less ≤ more → IsWithin most more → IsWithin most less
within-less None less more below within = tt
within-less (Some most) less more below within = omega arith

-- the octets are cut, and what is after the cut is forgotten
pub IsSound-before : {s : Spelling} {known : Known} {octets : List ℕ} (len : ℕ) → IsSound s known octets
    → IsSound s (before len known) (take len octets)
IsSound-before {s} {known} len sound = record {
  few = within-less s.most (length (before len known)) (length known) (length-before len known) sound.few;
  distinct = AreDistinct-before s len known sound.distinct;
  each = λ standing is.
      let was = known_before len known standing is in
      let stands = sound.each standing was.0 in
      let stops = stands.stops in
      let ends = was.1 in
      record {
        name = stands.name;
        is_name = stands.is_name;
        suffix_is = stands.suffix_is;
        text = stands.text;
        spelled = labelled-kept (λ target there within. before_known len known target there (omega arith)) stands.spelled;
        there = text-take len (omega arith) stands.there;
        stops = stands.stops;
        near = stands.near;
      };
}

-- a name is written, and its new suffixes are remembered
added_stands : (s : Spelling) (known : Known) (octets : List ℕ) (name : List (List ℕ)) (standing : Standing)
    → IsAdded s known (length octets) (name_text s known (length octets) name) (length octets + length (name_text s known (length octets) name)) standing
    → standing.place < 16384
    → StandsIn s (known_after s known (length octets) name) (octets ++ name_text s known (length octets) name) standing
unfolding known_after
added_stands s known octets name standing is near = record {
  name = is.name;
  is_name = is.is_name;
  suffix_is = is.suffix_is;
  text = is.behind;
  spelled = labelled-kept (λ target there within. known-append_left _ there) is.spelled;
  there = record {
    front = octets ++ is.front;
    back = [];
    whole = ap (λ l. octets ++ l) is.whole ∙ sym (append_assoc octets is.front is.behind)
        ∙ ap (λ l. (octets ++ is.front) ++ l) (sym (append-nil is.behind));
    begins = omega (arith, length-append octets is.front, is.begins);
  };
  stops = omega (arith, ap (length {A = ℕ}) is.whole, length-append is.front is.behind, is.begins, is.stops);
  near = near;
}

pub IsSound-name : {s : Spelling} {known : Known} {octets : List ℕ} (name : List (List ℕ)) → IsName name → IsSound s known octets
    → IsSound s (known_after s known (length octets) name) (octets ++ name_text s known (length octets) name)
unfolding known_after name_text
IsSound-name {s} {known} {octets} name is_name sound = record {
  few = within-less s.most (length (known ++ if_near added)) (length known + length split.labels)
      (omega (arith, length-append known (if_near added), length-if_near added, length-standings s (length octets) stop split.labels split.suffix))
      (split_few s known (length known) (length octets) name sound.few);
  distinct = AreDistinct-name s known (length octets) stop split.labels split.suffix (split_absent s known (length known) (length octets) name) sound.distinct;
  each = λ standing is. cases standing (known-append_cases known (if_near added) is);
}
  where
    split : Split
    split = split_of s known (length octets) name

    stop : ℕ
    stop = length octets + length (name_text s known (length octets) name)

    added : Known
    added = added_of s known (length octets) name

    cases : (standing : Standing) → IsKnown standing known ⊎ IsKnown standing (if_near added)
        → StandsIn s (known_after s known (length octets) name) (octets ++ name_text s known (length octets) name) standing
    cases standing (inl is) =
        let stands = sound.each standing is in
        record {
          name = stands.name;
          is_name = stands.is_name;
          suffix_is = stands.suffix_is;
          text = stands.text;
          spelled = labelled-kept (λ target there within. known-append_left _ there) stands.spelled;
          there = text-append _ stands.there;
          stops = stands.stops;
          near = stands.near;
        }
    cases standing (inr is) =
        let both = if_near-known added standing is in
        added_stands s known octets name standing
        (added_each s known (length octets) name is_name (sound-within sound) standing both.0) both.1

-- octets are written over others, where no suffix is spelled
pub text-patch : {octets : List ℕ} {place : ℕ} {text : List ℕ} (begin : ℕ) (over : List ℕ) → begin + length over ≤ length octets
    → (place + length text ≤ begin) ⊎ (begin + length over ≤ place) → HasText octets place text → HasText (patched octets begin over) place text
text-patch begin over within (inl front) there = text-append _ (text-take begin front there)
text-patch {octets} {text = text} begin over within (inr behind) there =
    let front : List ℕ = there.front in
    let back : List ℕ = there.back in
    let end : ℕ = begin + length over in
    let rest : drop end octets ≡ drop end front ++ (text ++ back) =
    ap (drop end) there.whole ∙ drop-append-le end front (text ++ back) (omega (arith, there.begins)) in
    record {
      front = take begin octets ++ (over ++ drop end front);
      back = back;
      whole = ap (λ l. take begin octets ++ (over ++ l)) rest
          ∙ ap (λ l. take begin octets ++ l) (sym (append_assoc over (drop end front) (text ++ back)))
          ∙ sym (append_assoc (take begin octets) (over ++ drop end front) (text ++ back));
      begins = omega (
        arith,
        there.begins,
        length-append (take begin octets) (over ++ drop end front),
        length-append over (drop end front),
        length-take begin octets,
        length-drop end front,
      );
    }

pub IsSound-patch : {s : Spelling} {known : Known} {octets : List ℕ} (begin : ℕ) (over : List ℕ) → begin + length over ≤ length octets
    → is_free begin (begin + length over) known ≡ true → IsSound s known octets → IsSound s known (patched octets begin over)
IsSound-patch {s} {known} {octets} begin over within free sound = record {
  few = sound.few;
  distinct = sound.distinct;
  each = λ standing is.
      let stands = sound.each standing is in
      record {
        name = stands.name;
        is_name = stands.is_name;
        suffix_is = stands.suffix_is;
        text = stands.text;
        spelled = stands.spelled;
        there = text-patch begin over within (ends standing (length stands.text) stands.stops (free_cases begin (begin + length over) known free standing is)) stands.there;
        stops = stands.stops;
        near = stands.near;
      };
}
  where
    ends : (standing : Standing) (long : ℕ) → standing.place + long ≡ standing.stop
        → (standing.stop ≤ begin) ⊎ (begin + length over ≤ standing.place)
        → (standing.place + long ≤ begin) ⊎ (begin + length over ≤ standing.place)
    ends standing long stops (inl front) = inl (omega arith)
    ends standing long stops (inr behind) = inr behind
