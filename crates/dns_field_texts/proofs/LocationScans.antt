-- Locations in tokens: their parts one after another, and what they are together.
use Rattle.std.proofs.Common.{◌≡◌, ◌≢◌, ◌+◌, ◌*◌, ◌<◌, ◌≤◌, ◌^◌, ◌⊎◌, inl, inr, ℕ, zero, suc, List, [], ◌∷◌, ◌++◌, length, map, drop, refl, sym, ◌∙◌, ap, subst, arith, append_assoc}
use Rattle.std.specs.Prelude.{codes, Option, None, IfNone, IfErr, Result, Ok, Err}
use Rattle.std.specs.List.{AllByRecursion, AllZip}
use Rattle.dns_scan.specs.Token.{HasText, Takes, Token}
use Rattle.dns_field_texts.specs.declared.location.scan.Axis.{Axis}
use Rattle.dns_field_texts.specs.Location.{IsLocation, IsPrecision, IsWithin, Location, Precision, degrees}
use Rattle.dns_field_texts.specs.LocationText.{IsAngle, IsNumeral, ScansLocation, SpellsAngle, SpellsArc, SpellsSize, SpellsSizes, usual_sizes}
use Rattle.dns_field_texts.specs.LocationParts.{EndsArc, HasArc, HasMinutes, HasSeconds, HasSize, IsAltitude, IsAxis, IsDirection, IsLength, IsPart, NoEnd, NoPart, TakesText}
use Rattle.dns_field_texts.proofs.LocationNumerals.{IsNear, numeral_near, part_one}

-- results whose case is known
pub given_none : {X P : Type 0} {o : Option X} → o ≡ None → IfNone o P → P
given_none {P = P} is holds = subst (λ p. IfNone p P) is holds

pub if_err : {T E : Type 0} {P Q : E → Type 0} (r : Result T E) → IfErr r P → ((error : E) → P error → Q error) → IfErr r Q
if_err (Ok value) holds next = tt
if_err (Err error) holds next = next error holds

pub none_there : (tokens : List Token) → (tokens ≢ [] → ⊥) → tokens ≡ []
none_there [] some = refl
none_there (token ∷ tokens) some = absurd (some (λ same. cc))

-- tokens that are taken
pub took : (Fits : List ℕ → Type 0) {text : List ℕ} {tokens left new : List Token} → Takes (HasText text) tokens left → new ≡ drop 1 tokens → Fits text
    → TakesText Fits tokens new
took Fits {text} {tokens} {left} {new} takes behind fits =
    let first : drop 1 tokens ≡ left = ap (drop 1) takes.is in
    record {
      token = takes.token;
      is = takes.is ∙ ap (λ (l : List Token). takes.token ∷ l) (sym (behind ∙ first));
      fits = subst Fits (sym takes.fits) fits;
    }

pub same_token : {Fits Also : Token → Type 0} {tokens left other : List Token} (one : Takes Fits tokens left) (two : Takes Also tokens other)
    → (one.token ≡ two.token) × (left ≡ other)
same_token one two = let same = sym one.is ∙ two.is in (cc, cc)

pub lost : (Fits : List ℕ → Type 0) {text : List ℕ} {tokens left other : List Token} → Takes (HasText text) tokens left → (Fits text → ⊥)
    → TakesText Fits tokens other → ⊥
lost Fits {text} takes none also =
    let same = same_token takes also in
    none (subst Fits (ap (λ (t : Token). t.text) (sym same.0) ∙ takes.fits) also.fits)

pub ended : {Fits : Token → Type 0} {tokens left : List Token} → tokens ≡ [] → Takes Fits tokens left → ⊥
ended none takes = let same = sym none ∙ takes.is in absurd (cc)

-- a direction is no numeral
pub direction_part : {axis : Axis} (angle value : ℕ) {text : List ℕ} → IsAxis axis → IsDirection axis angle value text
    → (places most number : ℕ) → IsPart places most number text → ⊥
direction_part {axis} angle value {text} is direction places most number part = by direction
  where
    letter : (octet : ℕ) → 57 < octet → text ≡ octet ∷ [] → ⊥
    letter octet high same =
        let near = subst (AllByRecursion IsNear) same (numeral_near part.spelled) in let low = near.0.1 in omega arith

    by : IsDirection axis angle value text → ⊥
    by (inl up) = letter axis.up is.up up.0
    by (inr down) = letter axis.down is.down down.0

pub no_part_here : {axis : Axis} (angle value : ℕ) {tokens left : List Token} → IsAxis axis → TakesText (IsDirection axis angle value) tokens left
    → NoPart tokens
no_part_here {axis} angle value {tokens} is direction places most number left part =
    let same = same_token direction part in
    direction_part angle value is direction.fits places most number
    (subst (λ (t : Token). IsPart places most number t.text) (sym same.0) part.fits)

pub ends_no_part : {axis : Axis} {angle value : ℕ} {tokens left : List Token} → IsAxis axis → EndsArc axis angle tokens left value → NoPart tokens
ends_no_part {angle = angle} {value = value} is ends = no_part_here angle value is ends.takes

-- the same numeral
pub same_part : {places most value other : ℕ} {tokens left also : List Token} → TakesText (IsPart places most value) tokens left
    → TakesText (IsPart places most other) tokens also → (value ≡ other) × (left ≡ also)
same_part {places} {most} {value} {other} one two =
    let same = same_token one two in
    (part_one (subst (λ (t : Token). IsPart places most value t.text) same.0 one.fits) two.fits, same.1)

-- what is behind seconds, minutes and degrees
pub seconds_behind : {axis : Axis} {angle second : ℕ} {tokens behind left : List Token} {value : ℕ} → TakesText (IsPart 3 59999 second) tokens behind
    → HasSeconds axis angle tokens left value → EndsArc axis (angle + second) behind left value
seconds_behind {axis} {angle} {second} {tokens} {behind} {left} {value} takes has =
    let same = same_part takes has.takes in
    subst (λ (n : ℕ). EndsArc axis (angle + n) behind left value) (sym same.0)
    (subst (λ (l : List Token). EndsArc axis (angle + has.second) l left value) (sym same.1) has.ends)

pub minutes_behind : {axis : Axis} {angle minute : ℕ} {tokens behind left : List Token} {value : ℕ} → TakesText (IsPart 0 59 minute) tokens behind
    → HasMinutes axis angle tokens left value
    → EndsArc axis (angle + minute * 60000) behind left value ⊎ HasSeconds axis (angle + minute * 60000) behind left value
minutes_behind {axis} {angle} {minute} {tokens} {behind} {left} {value} takes has =
    let same = same_part takes has.takes in
    subst (λ (n : ℕ). EndsArc axis (angle + n * 60000) behind left value ⊎ HasSeconds axis (angle + n * 60000) behind left value) (sym same.0)
    (subst (λ (l : List Token). EndsArc axis (angle + has.minute * 60000) l left value ⊎ HasSeconds axis (angle + has.minute * 60000) l left value)
    (sym same.1) has.ends)

pub degrees_behind : {axis : Axis} {degree : ℕ} {tokens behind left : List Token} {value : ℕ} → TakesText (IsPart 0 axis.most degree) tokens behind
    → HasArc axis tokens left value
    → EndsArc axis (degrees degree) behind left value ⊎ HasMinutes axis (degrees degree) behind left value
degrees_behind {axis} {degree} {tokens} {behind} {left} {value} takes has =
    let same = same_part takes has.takes in
    subst (λ (n : ℕ). EndsArc axis (degrees n) behind left value ⊎ HasMinutes axis (degrees n) behind left value) (sym same.0)
    (subst (λ (l : List Token). EndsArc axis (degrees has.degree) l left value ⊎ HasMinutes axis (degrees has.degree) l left value)
    (sym same.1) has.ends)

either : {A B : Type 0} → (A → ⊥) → (B → ⊥) → A ⊎ B → ⊥
either first second (inl a) = first a
either first second (inr b) = second b

no_seconds_here : {axis : Axis} {angle : ℕ} {tokens left : List Token} {value : ℕ} → NoPart tokens → HasSeconds axis angle tokens left value → ⊥
no_seconds_here none has = none _ _ has.second has.behind has.takes

no_minutes_here : {axis : Axis} {angle : ℕ} {tokens left : List Token} {value : ℕ} → NoPart tokens → HasMinutes axis angle tokens left value → ⊥
no_minutes_here none has = none _ _ has.minute has.behind has.takes

-- no seconds, minutes or degrees and what has to be behind them
pub no_seconds : {axis : Axis} {angle second : ℕ} {tokens behind : List Token} → TakesText (IsPart 3 59999 second) tokens behind
    → NoEnd axis (angle + second) behind → (left : List Token) (value : ℕ) → HasSeconds axis angle tokens left value → ⊥
no_seconds takes none left value has = none left value (seconds_behind takes has)

pub no_minutes : {axis : Axis} {angle minute : ℕ} {tokens behind : List Token} → TakesText (IsPart 0 59 minute) tokens behind
    → NoEnd axis (angle + minute * 60000) behind → NoPart behind → (left : List Token) (value : ℕ) → HasMinutes axis angle tokens left value → ⊥
no_minutes takes none clear left value has = either (none left value) (no_seconds_here clear) (minutes_behind takes has)

pub no_minutes_more : {axis : Axis} {angle minute : ℕ} {tokens behind : List Token} → TakesText (IsPart 0 59 minute) tokens behind
    → NoEnd axis (angle + minute * 60000) behind → ((left : List Token) (value : ℕ) → HasSeconds axis (angle + minute * 60000) behind left value → ⊥)
    → (left : List Token) (value : ℕ) → HasMinutes axis angle tokens left value → ⊥
no_minutes_more takes none more left value has = either (none left value) (more left value) (minutes_behind takes has)

pub no_arc : {axis : Axis} {degree : ℕ} {tokens behind : List Token} → TakesText (IsPart 0 axis.most degree) tokens behind
    → NoEnd axis (degrees degree) behind → NoPart behind → (left : List Token) (value : ℕ) → HasArc axis tokens left value → ⊥
no_arc takes none clear left value has = either (none left value) (no_minutes_here clear) (degrees_behind takes has)

pub no_arc_more : {axis : Axis} {degree : ℕ} {tokens behind : List Token} → TakesText (IsPart 0 axis.most degree) tokens behind
    → NoEnd axis (degrees degree) behind → ((left : List Token) (value : ℕ) → HasMinutes axis (degrees degree) behind left value → ⊥)
    → (left : List Token) (value : ℕ) → HasArc axis tokens left value → ⊥
no_arc_more takes none more left value has = either (none left value) (more left value) (degrees_behind takes has)

-- where an angle ends
ends_one : {axis : Axis} {angle other value number : ℕ} {tokens left also : List Token} → EndsArc axis angle tokens left value
    → EndsArc axis other tokens also number → left ≡ also
ends_one one two = (same_token one.takes two.takes).1

seconds_one : {axis : Axis} {angle other value number : ℕ} {tokens left also : List Token} → HasSeconds axis angle tokens left value
    → HasSeconds axis other tokens also number → left ≡ also
seconds_one {axis} {other = other} {number = number} {also = also} one two =
    let same = (same_token one.takes two.takes).1 in
    ends_one one.ends (subst (λ (l : List Token). EndsArc axis (other + two.second) l also number) (sym same) two.ends)

minutes_one : {axis : Axis} {angle other value number : ℕ} {tokens left also : List Token} → IsAxis axis → HasMinutes axis angle tokens left value
    → HasMinutes axis other tokens also number → left ≡ also
minutes_one {axis} {angle} {other} {value} {number} {tokens} {left} {also} is one two =
    by one.ends (subst (λ (l : List Token). EndsArc axis (other + two.minute * 60000) l also number ⊎ HasSeconds axis (other + two.minute * 60000) l also number)
    (sym (same_token one.takes two.takes).1) two.ends)
  where
    by : EndsArc axis (angle + one.minute * 60000) one.behind left value ⊎ HasSeconds axis (angle + one.minute * 60000) one.behind left value
        → EndsArc axis (other + two.minute * 60000) one.behind also number ⊎ HasSeconds axis (other + two.minute * 60000) one.behind also number → left ≡ also
    by (inl ends) (inl also_ends) = ends_one ends also_ends
    by (inl ends) (inr more) = absurd (no_seconds_here (ends_no_part is ends) more)
    by (inr more) (inl ends) = absurd (no_seconds_here (ends_no_part is ends) more)
    by (inr more) (inr also_more) = seconds_one more also_more

pub arc_one : {axis : Axis} {value number : ℕ} {tokens left also : List Token} → IsAxis axis → HasArc axis tokens left value
    → HasArc axis tokens also number → left ≡ also
arc_one {axis} {value} {number} {tokens} {left} {also} is one two =
    by one.ends (subst (λ (l : List Token). EndsArc axis (degrees two.degree) l also number ⊎ HasMinutes axis (degrees two.degree) l also number)
    (sym (same_token one.takes two.takes).1) two.ends)
  where
    by : EndsArc axis (degrees one.degree) one.behind left value ⊎ HasMinutes axis (degrees one.degree) one.behind left value
        → EndsArc axis (degrees two.degree) one.behind also number ⊎ HasMinutes axis (degrees two.degree) one.behind also number → left ≡ also
    by (inl ends) (inl also_ends) = ends_one ends also_ends
    by (inl ends) (inr more) = absurd (no_minutes_here (ends_no_part is ends) more)
    by (inr more) (inl ends) = absurd (no_minutes_here (ends_no_part is ends) more)
    by (inr more) (inr also_more) = minutes_one is more also_more

-- no size
pub no_size : (word : List ℕ) {text : List ℕ} {tokens now behind left : List Token} (size : Precision) → now ≡ tokens → Takes (HasText text) now behind
    → ((centimetres : ℕ) → IsLength 9000000000 centimetres text → ⊥) → HasSize word tokens left size → ⊥
no_size word {text} size stays takes none (inl has) =
    lost (λ written. SpellsSize written size) takes
    (λ spells. none spells.centimetres (record { spelled = spells.metres; few = spells.most }))
    (record { token = has.token; is = stays ∙ has.is; fits = has.fits })
no_size word size stays takes none (inr has) = ended (stays ∙ has.0) takes
