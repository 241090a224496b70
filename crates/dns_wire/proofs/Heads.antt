-- What the head at a place says of the name that is spelled there.
use Rattle.std.proofs.Common.{◌≡◌, ℕ, ◌+◌, ◌-◌, ◌*◌, ◌<◌, ◌≤◌, suc, List, [], ◌∷◌, ◌++◌, length, drop, refl, ◌∙◌, ap, subst, arith, inl, inr, length-drop, length-append}
use Rattle.std.specs.List.{AllByRecursion}
use Rattle.dns_label.specs.Name.{IsLabel}
use Rattle.dns_label.specs.Spelled.{EncodesName}
use Rattle.dns_label.specs.Spelled.EncodesName.{root, label, pointer}
use Rattle.dns_label.specs.Split.{StartsWithLabel, StartsWithPointer, NoLabel}
use Rattle.dns_label.specs.declared.label.SplitLabelError.{SplitLabelError}
use Rattle.dns_label.specs.declared.label.SplitLabelError.TheVariants.{Pointer, BadType, ShortInput}
use Rattle.dns_label.specs.declared.label.LabelTypeError.{LabelTypeError}
use Rattle.dns_label.specs.declared.label.LabelTypeError.TheVariants.{Undefined, Extended}
use Rattle.dns_wire.proofs.Flat.{same_front, no_label_no_front}

-- all labels that are spelled have 1 to 63 octets
pub spelled-labels : {message : List ℕ} {pointers place next : ℕ} {name : List (List ℕ)} → EncodesName message pointers place name next
    → AllByRecursion IsLabel name
spelled-labels (root rest at) = tt
spelled-labels (label rest at is_label parent) = (is_label, spelled-labels parent)
spelled-labels (pointer first second after rest at both back name) = spelled-labels name

-- more pointers may be followed
pub spelled-more : {message : List ℕ} {pointers place next : ℕ} {name : List (List ℕ)} → EncodesName message pointers place name next
    → EncodesName message (suc pointers) place name next
spelled-more (root rest at) = root rest at
spelled-more (label rest at is_label parent) = label rest at is_label (spelled-more parent)
spelled-more (pointer first second after rest at both back name) = pointer first second after rest at both back (spelled-more name)

pub spelled-root : {message : List ℕ} {pointers place end : ℕ} {whole : List (List ℕ)} (rest : List ℕ)
    → EncodesName message pointers place whole end → StartsWithLabel (drop place message) [] rest
    → (whole ≡ []) × (end ≡ place + 1)
spelled-root rest (root rest' at) front = (refl, refl)
spelled-root rest (label {label = text} rest' at is_label parent) front =
    let is = front.spelled in let none : length text ≡ 0 = cc in absurd (omega (arith, is_label.some))
spelled-root rest (pointer first second after rest' at both back name) front =
    let is = front.spelled in let none : first ≡ 0 = cc in absurd (omega arith)

-- what is spelled after the first label
pub record Behind (message : List ℕ) (pointers place end : ℕ) (text : List ℕ) (whole : List (List ℕ)) : Type 0 where
  pub parent : List (List ℕ)
  pub whole_is : whole ≡ text ∷ parent
  pub is_label : IsLabel text
  pub spelled : EncodesName message pointers (place + 1 + length text) parent end

pub spelled-label : {message : List ℕ} {pointers place end : ℕ} {whole : List (List ℕ)} (text rest : List ℕ)
    → EncodesName message pointers place whole end → StartsWithLabel (drop place message) text rest → 0 < length text
    → Behind message pointers place end text whole
spelled-label text rest (root rest' at) front some =
    let is = front.spelled in let none : length text ≡ 0 = cc in absurd (omega arith)
spelled-label {message} {pointers} {place} {end} text rest (label {label = other} {parent = parent} rest' at is_label goes) front some =
    let is = front.spelled in
    let long : length other ≡ length text = cc in
    let same : other ++ rest' ≡ text ++ rest = cc in
    let e : other ≡ text = (same_front other text rest' rest same long).0 in
    let P : ℕ → Type 0 = λ n. EncodesName message pointers (place + 1 + n) parent end in
    record {
      parent = parent;
      whole_is = ap (λ t. t ∷ parent) e;
      is_label = record { some = some; short = front.short };
      spelled = subst P long goes;
    }
spelled-label text rest (pointer first second after rest' at both back name) front some =
    let is = front.spelled in let none : first ≡ length text = cc in absurd (omega (arith, front.short))

-- what is spelled where the pointer leads
pub record Led (message : List ℕ) (pointers place target end : ℕ) (whole : List (List ℕ)) : Type 0 where
  pub left : ℕ
  pub after : ℕ
  pub pointers_is : pointers ≡ suc left
  pub back : target < place
  pub end_is : end ≡ place + 2
  pub spelled : EncodesName message left target whole after

pub spelled-pointer : {message : List ℕ} {pointers place end : ℕ} {whole : List (List ℕ)} (target : ℕ)
    → EncodesName message pointers place whole end → StartsWithPointer (drop place message) target
    → Led message pointers place target end whole
spelled-pointer target (root rest at) front =
    let is = front.spelled in let none : front.first ≡ 0 = cc in absurd (omega (arith, front.both_bits))
spelled-pointer target (label {label = text} rest at is_label parent) front =
    let is = front.spelled in let none : front.first ≡ length text = cc in absurd (omega (arith, front.both_bits, is_label.short))
spelled-pointer {message} {whole = whole} target (pointer {pointers = left} first second after rest at both back name) front =
    let is = front.spelled in
    let one : first ≡ front.first = cc in
    let two : second ≡ front.second = cc in
    let e : 256 * (first - 192) + second ≡ target = omega (arith, front.is) in
    let P : ℕ → Type 0 = λ t. EncodesName message left t whole after in
    record {
      left = left;
      after = after;
      pointers_is = refl;
      back = omega arith;
      end_is = refl;
      spelled = subst P e name;
    }

-- if neither a label nor a pointer is at the place, nothing is spelled
pub spelled-not : {message : List ℕ} {pointers place end : ℕ} {whole : List (List ℕ)} → EncodesName message pointers place whole end
    → ((text rest : List ℕ) → StartsWithLabel (drop place message) text rest → ⊥)
    → ((target : ℕ) → StartsWithPointer (drop place message) target → ⊥) → ⊥
spelled-not (root rest at) no_label no_pointer = no_label [] rest (record { spelled = at; short = omega arith })
spelled-not (label {label = text} rest at is_label parent) no_label no_pointer =
    no_label text rest (record { spelled = at; short = is_label.short })
spelled-not (pointer first second after rest at both back name) no_label no_pointer =
    no_pointer (256 * (first - 192) + second) (record {
      first = first;
      second = second;
      rest = rest;
      spelled = at;
      both_bits = both;
      is = refl;
    })

pub bad_type-no_pointer : (octets : List ℕ) (kind : LabelTypeError) (target : ℕ) → NoLabel octets (BadType kind)
    → StartsWithPointer octets target → ⊥
bad_type-no_pointer octets Undefined target none front =
    let a = none.spelled in let b = front.spelled in let e : none.first ≡ front.first = cc in
    omega (arith, none.to, front.both_bits)
bad_type-no_pointer octets Extended target none front =
    let a = none.spelled in let b = front.spelled in let e : none.first ≡ front.first = cc in
    omega (arith, none.to, front.both_bits)

pub short-no_pointer : (octets : List ℕ) (target : ℕ) → NoLabel octets ShortInput → StartsWithPointer octets target → ⊥
short-no_pointer [] target none front = let b = front.spelled in cc
short-no_pointer (first ∷ rest) target (inl none) front =
    let b = front.spelled in let e : first ≡ front.first = cc in omega (arith, none.0, front.both_bits)
short-no_pointer (first ∷ rest) target (inr none) front =
    let b = front.spelled in let e : rest ≡ front.second ∷ front.rest = cc in let f = none.1 in cc

-- an error other than a pointer
pub spelled-bad_type : {message : List ℕ} {pointers place end : ℕ} {whole : List (List ℕ)} (kind : LabelTypeError)
    → NoLabel (drop place message) (BadType kind) → EncodesName message pointers place whole end → ⊥
spelled-bad_type {message} {place = place} kind none spelled =
    spelled-not spelled (λ text rest front. no_label_no_front (drop place message) text rest (BadType kind) none front)
    (λ target front. bad_type-no_pointer (drop place message) kind target none front)

pub spelled-short : {message : List ℕ} {pointers place end : ℕ} {whole : List (List ℕ)}
    → NoLabel (drop place message) ShortInput → EncodesName message pointers place whole end → ⊥
spelled-short {message} {place = place} none spelled =
    spelled-not spelled (λ text rest front. no_label_no_front (drop place message) text rest ShortInput none front)
    (λ target front. short-no_pointer (drop place message) target none front)

-- the label at the place is within the message
pub label-within : (message text rest : List ℕ) (place : ℕ) → StartsWithLabel (drop place message) text rest
    → place ≤ length message → place + 1 + length text ≤ length message
label-within message text rest place front within =
    let e : length (drop place message) ≡ 1 + (length text + length rest) =
    ap (length {A = ℕ}) front.spelled ∙ omega (arith, length-append text rest) in
    omega (arith, length-drop place message)

-- an error of a known kind
pub to_pointer : (octets : List ℕ) {error : SplitLabelError} {target : ℕ} → NoLabel octets error → error ≡ Pointer target
    → StartsWithPointer octets target
to_pointer octets none is = let P : SplitLabelError → Type 0 = λ e. NoLabel octets e in subst P is none

pub bad_type-spells_none : {message : List ℕ} {place : ℕ} {error : SplitLabelError} {kind : LabelTypeError}
    → NoLabel (drop place message) error → error ≡ BadType kind
    → {pointers end : ℕ} {whole : List (List ℕ)} → EncodesName message pointers place whole end → ⊥
bad_type-spells_none {message} {place} {kind = kind} none is spelled =
    let P : SplitLabelError → Type 0 = λ e. NoLabel (drop place message) e in spelled-bad_type kind (subst P is none) spelled

pub short-spells_none : {message : List ℕ} {place : ℕ} {error : SplitLabelError}
    → NoLabel (drop place message) error → error ≡ ShortInput
    → {pointers end : ℕ} {whole : List (List ℕ)} → EncodesName message pointers place whole end → ⊥
short-spells_none {message} {place} none is spelled =
    let P : SplitLabelError → Type 0 = λ e. NoLabel (drop place message) e in spelled-short (subst P is none) spelled

-- what is spelled ends within the message
pub spelled-within : {message : List ℕ} {pointers place end : ℕ} {whole : List (List ℕ)} → EncodesName message pointers place whole end
    → end ≤ length message
spelled-within {message} {place = place} (root rest at) =
    omega (arith, ap (length {A = ℕ}) at, length-drop place message)
spelled-within (label rest at is_label parent) = spelled-within parent
spelled-within {message} {place = place} (pointer first second after rest at both back name) =
    omega (arith, ap (length {A = ℕ}) at, length-drop place message)
