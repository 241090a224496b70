-- Skipping a name without following its pointers.
use Rattle.std.proofs.Common.{◌≡◌, ℕ, ◌+◌, ◌-◌, ◌*◌, ◌<◌, ◌≤◌, List, [], ◌∷◌, ◌++◌, length, drop, refl, sym, ◌∙◌, ap, subst, arith, length-append, length-drop}
use Rattle.dns_label.specs.Name.{wire}
use Rattle.dns_label.specs.Spelled.{EncodesName, DecodesName}
use Rattle.dns_label.specs.Spelled.EncodesName.{root as spells_root, label as spells_label, pointer as spells_pointer}
use Rattle.dns_label.specs.Split.{StartsWithLabel, StartsWithPointer, NoLabel}
use Rattle.dns_label.specs.declared.label.SplitLabelError.{SplitLabelError}
use Rattle.dns_label.specs.declared.label.SplitLabelError.TheVariants.{BadType, ShortInput}
use Rattle.dns_label.specs.declared.label.LabelTypeError.{LabelTypeError}
use Rattle.dns_wire.specs.Skip.{Skips}
use Rattle.dns_wire.specs.Skip.Skips.{root, label, pointer}
use Rattle.dns_wire.proofs.Flat.{no_label_no_front}
use Rattle.dns_wire.proofs.Heads.{bad_type-no_pointer, short-no_pointer}
use Rattle.dns_wire.proofs.Wire.{length-wire_is}

-- the root's label comes first
pub skips-root : (message text rest : List ℕ) (room place : ℕ) → StartsWithLabel (drop place message) text rest → text ≡ []
    → Skips message room place (place + 1)
skips-root message text rest room place at none =
    let R : List ℕ → Type 0 = λ t. StartsWithLabel (drop place message) t rest in
    let here = subst R none at in root rest here.spelled

pub skips-pointer : (message : List ℕ) (room place target : ℕ) → StartsWithPointer (drop place message) target
    → Skips message room place (place + 2)
skips-pointer message room place target at = pointer at.first at.second at.rest at.spelled at.both_bits

-- a label comes first
pub skips-label : (message text rest : List ℕ) (room place count next : ℕ) → StartsWithLabel (drop place message) text rest
    → 0 < length text → count ≡ length text + 1 → count ≤ room → Skips message (room - count) (place + count) next
    → Skips message room place next
skips-label message text rest room place count next at some is within behind =
    let e : place + count ≡ place + 1 + length text = omega arith in
    let P : ℕ → Type 0 = λ p. Skips message (room - count) p next in
    label (room - count) rest at.spelled (record { some = some; short = at.short }) (omega arith) (subst P e behind)

-- more room
pub skips-room : {message : List ℕ} {room place next : ℕ} (more : ℕ) → Skips message room place next → room ≤ more
    → Skips message more place next
skips-room more (root rest at) wide = root rest at
skips-room more (pointer first second rest at both) wide = pointer first second rest at both
skips-room more (label left rest at is_label room behind) wide = label left rest at is_label (omega arith) behind

pub skips-behind : {message : List ℕ} {room place next : ℕ} (text rest : List ℕ) (count : ℕ) → Skips message room place next
    → StartsWithLabel (drop place message) text rest → 0 < length text → count ≡ length text + 1
    → (count ≤ room) × Skips message (room - count) (place + count) next
skips-behind text rest count (root rest' at) front some is =
    let a = front.spelled in let none : length text ≡ 0 = cc in absurd (omega arith)
skips-behind text rest count (pointer first second rest' at both) front some is =
    let a = front.spelled in let none : first ≡ length text = cc in absurd (omega (arith, front.short))
skips-behind {message} {room} {place} {next} text rest count (label {label = other} left rest' at is_label within behind) front some is =
    let a = front.spelled in
    let long : length other ≡ length text = cc in
    let e : place + 1 + length other ≡ place + count = omega arith in
    let P : ℕ → Type 0 = λ p. Skips message left p next in
    (omega arith, skips-room (room - count) (subst P e behind) (omega arith))

-- if neither a label nor a pointer is at the place, nothing is skipped
pub skips-not : {message : List ℕ} {room place next : ℕ} → Skips message room place next
    → ((text rest : List ℕ) → StartsWithLabel (drop place message) text rest → ⊥)
    → ((target : ℕ) → StartsWithPointer (drop place message) target → ⊥) → ⊥
skips-not (root rest at) no_label no_pointer = no_label [] rest (record { spelled = at; short = omega arith })
skips-not (label {label = text} left rest at is_label within behind) no_label no_pointer =
    no_label text rest (record { spelled = at; short = is_label.short })
skips-not (pointer first second rest at both) no_label no_pointer =
    no_pointer (256 * (first - 192) + second) (record {
      first = first;
      second = second;
      rest = rest;
      spelled = at;
      both_bits = both;
      is = refl;
    })

-- a pointer is within the message
pub pointer-within : (message : List ℕ) (place target : ℕ) → StartsWithPointer (drop place message) target
    → place + 2 ≤ length message
pointer-within message place target at = omega (arith, ap (length {A = ℕ}) at.spelled, length-drop place message)

-- what is spelled is skipped
pub skips-spelled : {message : List ℕ} {pointers place next : ℕ} {name : List (List ℕ)} (room : ℕ)
    → EncodesName message pointers place name next → length (wire name) ≤ room + 1 → Skips message room place next
skips-spelled room (spells_root rest at) few = root rest at
skips-spelled room (spells_pointer first second after rest at both back name) few = pointer first second rest at both
skips-spelled room (spells_label {label = text} {parent = parent} rest at is_label behind) few =
    let size = length-append text (wire parent) in
    let one = length-wire_is parent in
    label (room - (1 + length text)) rest at is_label (omega arith)
    (skips-spelled (room - (1 + length text)) behind (omega arith))

-- a name that is read is skipped
pub skips-reads : {message : List ℕ} {place next : ℕ} {name : List (List ℕ)} → DecodesName message place name next
    → Skips message 254 place next
skips-reads reads = skips-spelled 254 reads.spelled (omega (arith, reads.is_name.short))

-- what is skipped at a place ends at one place
pub skips-one : {message : List ℕ} {room wide place here next end : ℕ} → Skips message room place next
    → Skips message wide here end → place ≡ here → next ≡ end
skips-one (root rest at) (root rest' at') same = omega arith
skips-one (pointer first second rest at both) (pointer first' second' rest' at' both') same = omega arith
skips-one {message} (root {place = place} rest at) (pointer {place = here} first second rest' at' both) same =
    let e : 0 ∷ rest ≡ first ∷ second ∷ rest' = sym at ∙ ap (λ (n : ℕ). drop n message) same ∙ at' in
    let none : 0 ≡ first = cc in absurd (omega arith)
skips-one {message} (pointer {place = place} first second rest at both) (root {place = here} rest' at') same =
    let e : first ∷ second ∷ rest ≡ 0 ∷ rest' = sym at ∙ ap (λ (n : ℕ). drop n message) same ∙ at' in
    let none : first ≡ 0 = cc in absurd (omega arith)
skips-one {message} (root {place = place} rest at) (label {label = text} left rest' at' is_label within behind) same =
    let e : 0 ∷ rest ≡ length text ∷ text ++ rest' = sym at ∙ ap (λ (n : ℕ). drop n message) same ∙ at' in
    let none : 0 ≡ length text = cc in absurd (omega (arith, is_label.some))
skips-one {message} (label {label = text} left rest at is_label within behind) (root {place = here} rest' at') same =
    let e : length text ∷ text ++ rest ≡ 0 ∷ rest' = sym at ∙ ap (λ (n : ℕ). drop n message) same ∙ at' in
    let none : length text ≡ 0 = cc in absurd (omega (arith, is_label.some))
skips-one {message} (pointer {place = place} first second rest at both) (label {label = text} left rest' at' is_label within behind) same =
    let e : first ∷ second ∷ rest ≡ length text ∷ text ++ rest' = sym at ∙ ap (λ (n : ℕ). drop n message) same ∙ at' in
    let long : first ≡ length text = cc in absurd (omega (arith, is_label.short))
skips-one {message} (label {label = text} left rest at is_label within behind) (pointer {place = here} first second rest' at' both) same =
    let e : length text ∷ text ++ rest ≡ first ∷ second ∷ rest' = sym at ∙ ap (λ (n : ℕ). drop n message) same ∙ at' in
    let long : length text ≡ first = cc in absurd (omega (arith, is_label.short))
skips-one {message} (label {label = text} left rest at is_label within behind) (label {label = other} left' rest' at' is_label' within' behind') same =
    let e : length text ∷ text ++ rest ≡ length other ∷ other ++ rest' = sym at ∙ ap (λ (n : ℕ). drop n message) same ∙ at' in
    let long : length text ≡ length other = cc in
    skips-one behind behind' (omega arith)

-- an error other than a pointer
pub skips-bad_type : {message : List ℕ} {place : ℕ} {error : SplitLabelError} {kind : LabelTypeError}
    → NoLabel (drop place message) error → error ≡ BadType kind → {room next : ℕ} → Skips message room place next → ⊥
skips-bad_type {message} {place} {kind = kind} none is skips =
    let P : SplitLabelError → Type 0 = λ e. NoLabel (drop place message) e in
    let here = subst P is none in
    skips-not skips (λ text rest front. no_label_no_front (drop place message) text rest (BadType kind) here front)
    (λ target front. bad_type-no_pointer (drop place message) kind target here front)

pub skips-short : {message : List ℕ} {place : ℕ} {error : SplitLabelError}
    → NoLabel (drop place message) error → error ≡ ShortInput → {room next : ℕ} → Skips message room place next → ⊥
skips-short {message} {place} none is skips =
    let P : SplitLabelError → Type 0 = λ e. NoLabel (drop place message) e in
    let here = subst P is none in
    skips-not skips (λ text rest front. no_label_no_front (drop place message) text rest ShortInput here front)
    (λ target front. short-no_pointer (drop place message) target here front)
