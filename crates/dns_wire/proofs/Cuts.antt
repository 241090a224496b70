-- Walks over a name that the end of the message cuts off.
use Rattle.std.proofs.Common.{◌≡◌, ℕ, ◌+◌, ◌-◌, ◌*◌, ◌<◌, ◌≤◌, suc, List, [], ◌∷◌, ◌++◌, length, drop, inl, inr, refl, sym, ap, subst, arith, length-append}
use Rattle.dns_label.specs.Split.{StartsWithLabel, StartsWithPointer, EndsEarly, NoLabel}
use Rattle.dns_label.specs.declared.label.SplitLabelError.{SplitLabelError}
use Rattle.dns_label.specs.declared.label.SplitLabelError.TheVariants.{BadType, ShortInput}
use Rattle.dns_label.specs.declared.label.LabelTypeError.{LabelTypeError}
use Rattle.dns_label.specs.declared.label.LabelTypeError.TheVariants.{Undefined, Extended}
use Rattle.dns_wire.specs.Cut.{IsCut}
use Rattle.dns_wire.specs.Cut.IsCut.{here, label, pointer}
use Rattle.dns_wire.specs.Skip.{Skips}
use Rattle.dns_wire.specs.Skip.Skips.{root as skips_root, pointer as skips_pointer, label as skips_label}

-- octets that do not end early
early_first : (octets rest : List ℕ) (first : ℕ) → EndsEarly octets → octets ≡ first ∷ rest
    → (first ≤ 63 → first ≤ length rest) → (192 ≤ first → 0 < length rest) → ⊥
early_first [] rest first early is short more = cc
early_first (octet ∷ behind) rest first (inl ends) is short more =
    let same : octet ≡ first = cc in
    let tail : behind ≡ rest = cc in
    let bound = short (omega (arith, ends.0)) in
    omega (arith, ends.1, ap (length {A = ℕ}) tail)
early_first (octet ∷ behind) rest first (inr ends) is short more =
    let same : octet ≡ first = cc in
    let tail : behind ≡ rest = cc in
    let some = more (omega (arith, ends.0)) in
    omega (arith, ap (length {A = ℕ}) tail, ap (length {A = ℕ}) ends.1)

early-label : (octets text rest : List ℕ) → StartsWithLabel octets text rest → EndsEarly octets → ⊥
early-label octets text rest at early =
    early_first octets (text ++ rest) (length text) early at.spelled
    (λ small. omega (arith, length-append text rest)) (λ large. omega (arith, at.short))

early-pointer : (octets : List ℕ) (target : ℕ) → StartsWithPointer octets target → EndsEarly octets → ⊥
early-pointer octets target at early =
    early_first octets (at.second ∷ at.rest) at.first early at.spelled
    (λ small. omega (arith, at.both_bits)) (λ large. omega arith)

-- more room
pub cut-room : {message : List ℕ} {pointers room place : ℕ} (more : ℕ) → IsCut message pointers room place → room ≤ more
    → IsCut message pointers more place
cut-room more (here early) wide = here early
cut-room more (label left rest at is_label within behind) wide = label left rest at is_label (omega arith) behind
cut-room more (pointer first second rest at both back behind) wide =
    pointer first second rest at both back (cut-room more behind wide)

-- a label comes first
pub cut-label : {message : List ℕ} {pointers : ℕ} (text rest : List ℕ) (room place count : ℕ) → StartsWithLabel (drop place message) text rest
    → 0 < length text → count ≡ length text + 1 → count ≤ room → IsCut message pointers (room - count) (place + count)
    → IsCut message pointers room place
cut-label {message} {pointers} text rest room place count at some is within behind =
    let e : place + count ≡ place + 1 + length text = omega arith in
    let P : ℕ → Type 0 = λ p. IsCut message pointers (room - count) p in
    label (room - count) rest at.spelled (record { some = some; short = at.short }) (omega arith) (subst P e behind)

pub cut-behind : {message : List ℕ} {pointers room place : ℕ} (text rest : List ℕ) (count : ℕ) → IsCut message pointers room place
    → StartsWithLabel (drop place message) text rest → 0 < length text → count ≡ length text + 1
    → (count ≤ room) × IsCut message pointers (room - count) (place + count)
cut-behind text rest count (here early) front some is = absurd (early-label _ text rest front early)
cut-behind text rest count (pointer first second rest' at both back behind) front some is =
    let a = front.spelled in let none : first ≡ length text = cc in absurd (omega (arith, front.short))
cut-behind {message} {pointers} {room} {place} text rest count (label {label = other} left rest' at is_label within behind) front some is =
    let a = front.spelled in
    let long : length other ≡ length text = cc in
    let e : place + 1 + length other ≡ place + count = omega arith in
    let P : ℕ → Type 0 = λ p. IsCut message pointers left p in
    (omega arith, cut-room (room - count) (subst P e behind) (omega arith))

-- a pointer comes first
pub cut-pointer : {message : List ℕ} (room place target left pointers : ℕ) → StartsWithPointer (drop place message) target
    → target < place → pointers ≡ suc left → IsCut message left room target → IsCut message pointers room place
cut-pointer {message} room place target left pointers at back more behind =
    let P : ℕ → Type 0 = λ p. IsCut message left room p in
    let Q : ℕ → Type 0 = λ n. IsCut message n room place in
    subst Q (sym more) (pointer at.first at.second at.rest at.spelled at.both_bits (omega (arith, at.is)) (subst P at.is behind))

pub record LedOn (message : List ℕ) (pointers room place target : ℕ) : Type 0 where
  pub left : ℕ
  pub more : pointers ≡ suc left
  pub back : target < place
  pub behind : IsCut message left room target

pub cut-led : {message : List ℕ} {pointers room place : ℕ} (target : ℕ) → IsCut message pointers room place
    → StartsWithPointer (drop place message) target → LedOn message pointers room place target
cut-led target (here early) front = absurd (early-pointer _ target front early)
cut-led target (label left rest at is_label within behind) front =
    let a = front.spelled in absurd (omega (arith, is_label.short, front.both_bits, ap-first at a))
  where
    ap-first : {o : List ℕ} {m n : ℕ} {k l : List ℕ} → o ≡ m ∷ k → o ≡ n ∷ l → m ≡ n
    ap-first p q = cc
cut-led {message} {pointers} {room} {place} target (pointer {pointers = left} first second rest at both back behind) front =
    let a = front.spelled in
    let one : first ≡ front.first = cc in
    let two : second ≡ front.second = cc in
    let e : 256 * (first - 192) + second ≡ target = omega (arith, front.is, one, two) in
    let P : ℕ → Type 0 = λ p. IsCut message left room p in
    record { left = left; more = refl; back = omega (arith, e, back); behind = subst P e behind }

pub cut-led_on : {message : List ℕ} {pointers room place : ℕ} (target left : ℕ) → IsCut message pointers room place
    → StartsWithPointer (drop place message) target → pointers ≡ suc left → IsCut message left room target
cut-led_on {message} {room = room} target left cut front more =
    let led = cut-led target cut front in
    let e : led.left ≡ left = omega (arith, led.more) in
    let P : ℕ → Type 0 = λ n. IsCut message n room target in subst P e led.behind

-- a label comes first, given its number of octets
pub cut-step : {message : List ℕ} {pointers room place : ℕ} (text rest : List ℕ) (count room' place' : ℕ) → StartsWithLabel (drop place message) text rest
    → 0 < length text → count ≡ length text + 1 → count ≤ room → room' ≡ room - count → place' ≡ place + count
    → IsCut message pointers room' place' → IsCut message pointers room place
cut-step {message} {pointers} {room} {place} text rest count room' place' at some is within less more cut =
    let P : ℕ → Type 0 = λ p. IsCut message pointers room' p in
    let Q : ℕ → Type 0 = λ r. IsCut message pointers r (place + count) in
    cut-label text rest room place count at some is within (subst Q less (subst P more cut))

pub cut-stepped : {message : List ℕ} {pointers room place : ℕ} (text rest : List ℕ) (count room' place' : ℕ)
    → IsCut message pointers room place → StartsWithLabel (drop place message) text rest → 0 < length text → count ≡ length text + 1
    → room' ≡ room - count → place' ≡ place + count → IsCut message pointers room' place'
cut-stepped {message} {pointers} {room} {place} text rest count room' place' cut at some is less more =
    let P : ℕ → Type 0 = λ p. IsCut message pointers room' p in
    let Q : ℕ → Type 0 = λ r. IsCut message pointers r (place + count) in
    subst P (sym more) (subst Q (sym less) (cut-behind text rest count cut at some is).1)

-- the root's label comes first, or a label that is too long
pub cut-root : {message : List ℕ} {pointers room place : ℕ} (rest : List ℕ) → IsCut message pointers room place
    → drop place message ≡ 0 ∷ rest → ⊥
cut-root rest (here early) is = early_first _ rest 0 early is (λ small. omega arith) (λ large. omega arith)
cut-root rest (label {label = text} left rest' at is_label within behind) is =
    let same : length text ≡ 0 = cc in omega (arith, is_label.some)
cut-root rest (pointer first second rest' at both back behind) is =
    let same : first ≡ 0 = cc in omega arith

pub cut-long : {message : List ℕ} {pointers room place : ℕ} (text rest : List ℕ) → IsCut message pointers room place
    → StartsWithLabel (drop place message) text rest → room < length text + 1 → ⊥
cut-long [] rest cut at long = cut-root rest cut at.spelled
cut-long (octet ∷ text) rest cut at long =
    let behind = cut-behind (octet ∷ text) rest (length (octet ∷ text) + 1) cut at (omega arith) refl in omega (arith, behind.0)

-- neither a label nor a pointer comes first
pub cut-bad_type : {message : List ℕ} {pointers room place : ℕ} {error : SplitLabelError} {kind : LabelTypeError}
    → NoLabel (drop place message) error → error ≡ BadType kind → IsCut message pointers room place → ⊥
cut-bad_type {message} {place = place} {kind = kind} none is cut =
    let P : SplitLabelError → Type 0 = λ e. NoLabel (drop place message) e in cut-kind kind (subst P is none) cut
  where
    within : {pointers room place : ℕ} (least below : ℕ) (first : ℕ) (rest : List ℕ) → drop place message ≡ first ∷ rest
        → 64 ≤ first → first < 192 → IsCut message pointers room place → ⊥
    within least below first rest is from to (here early) =
        early_first _ rest first early is (λ small. omega arith) (λ large. omega arith)
    within least below first rest is from to (label {label = text} left rest' at is_label room behind) =
        let same : length text ≡ first = cc in omega (arith, is_label.short)
    within least below first rest is from to (pointer head second rest' at both back behind) =
        let same : head ≡ first = cc in omega arith

    cut-kind : {pointers room place : ℕ} (kind : LabelTypeError) → NoLabel (drop place message) (BadType kind)
        → IsCut message pointers room place → ⊥
    cut-kind Extended no_label cut = within 64 128 no_label.first no_label.rest no_label.spelled (omega (arith, no_label.from)) (omega (arith, no_label.to)) cut
    cut-kind Undefined no_label cut = within 128 192 no_label.first no_label.rest no_label.spelled (omega (arith, no_label.from)) (omega (arith, no_label.to)) cut

-- the message ends here
pub cut-here : {message : List ℕ} {pointers room place : ℕ} {error : SplitLabelError}
    → NoLabel (drop place message) error → error ≡ ShortInput → IsCut message pointers room place
cut-here {message} {place = place} none is =
    let P : SplitLabelError → Type 0 = λ e. NoLabel (drop place message) e in here (subst P is none)

-- what is skipped is not cut off
pub skips-uncut : {message : List ℕ} {room place next : ℕ} (wide : ℕ) → Skips message room place next → IsCut message 0 wide place → ⊥
skips-uncut wide (skips_root rest at) cut = cut-root rest cut at
skips-uncut wide (skips_pointer first second rest at both) cut =
    let led = cut-led (256 * (first - 192) + second) cut
    (record { first = first; second = second; rest = rest; spelled = at; both_bits = both; is = refl }) in
    omega (arith, led.more)
skips-uncut {message} {place = place} wide (skips_label {label = text} left rest at is_label within behind) cut =
    let step = cut-behind text rest (length text + 1) cut (record { spelled = at; short = is_label.short }) is_label.some refl in
    let e : place + (length text + 1) ≡ place + 1 + length text = omega arith in
    let P : ℕ → Type 0 = λ p. IsCut message 0 (wide - (length text + 1)) p in
    skips-uncut (wide - (length text + 1)) behind (subst P e step.1)
