-- The words before a record's data, read one by one.
use Rattle.std.proofs.Common.{Bool, ◌≡◌, ◌^◌, ◌<◌, ◌≤◌, ℕ, zero, suc, true, false, List, [], ◌∷◌, ◌++◌, Option, Some, None, length, take, refl, sym, ◌∙◌, ap, subst, arith, length-take}
use Rattle.std.specs.List.{list_all}
use Rattle.std.specs.Char.{is_ascii_digit}
use Rattle.dns_values.specs.Mnemonic.{number_spelled}
use Rattle.dns_values.proofs.Words.{number_spelled-other}
use Rattle.dns_scan.specs.Token.{Token, Takes, IsWord}
use Rattle.dns_entry_scanner.specs.RecordHead.{HasHead, IsClass, IsTtl, IsType, States}
use Rattle.dns_entry_scanner.specs.RecordHead.States.{nothing, ttl, class, ttl_class, class_ttl}
use Rattle.dns_entry_scanner.specs.HeadWord.{Heads, IsHeadWord}
use Rattle.dns_entry_scanner.specs.declared.record_head.HeadWord.{HeadWord}
use Rattle.dns_entry_scanner.specs.declared.record_head.HeadWord.TheVariants.{Ttl, Class, Rtype}
use Rattle.dns_entry_scanner.proofs.OneHead.{ttl_ttl, ttl_type, class_ttl', class_class, class_type, type_type}

-- a token says at most one thing
word_one : (word other : HeadWord) (token : Token) → IsHeadWord word token → IsHeadWord other token → word ≡ other
word_one (Ttl n) (Ttl m) token is also =
    let both : Some n ≡ Some m = sym (ttl_ttl is) ∙ ttl_ttl also in let same : n ≡ m = cc in ap Ttl same
word_one (Ttl n) (Class m) token is also = let bad : Some n ≡ None = sym (ttl_ttl is) ∙ class_ttl' also in absurd cc
word_one (Ttl n) (Rtype m) token is also = let bad : None ≡ Some m = sym (ttl_type is) ∙ type_type also in absurd cc
word_one (Class n) (Ttl m) token is also = let bad : None ≡ Some m = sym (class_ttl' is) ∙ ttl_ttl also in absurd cc
word_one (Class n) (Class m) token is also =
    let both : Some n ≡ Some m = sym (class_class is) ∙ class_class also in let same : n ≡ m = cc in ap Class same
word_one (Class n) (Rtype m) token is also = let bad : None ≡ Some m = sym (class_type is) ∙ type_type also in absurd cc
word_one (Rtype n) (Ttl m) token is also = let bad : Some n ≡ None = sym (type_type is) ∙ ttl_type also in absurd cc
word_one (Rtype n) (Class m) token is also = let bad : Some n ≡ None = sym (type_type is) ∙ class_type also in absurd cc
word_one (Rtype n) (Rtype m) token is also =
    let both : Some n ≡ Some m = sym (type_type is) ∙ type_type also in let same : n ≡ m = cc in ap Rtype same

taken_one : {word other : HeadWord} {tokens mid left : List Token} → Takes (IsHeadWord word) tokens mid → Takes (IsHeadWord other) tokens left
    → (word ≡ other) × (mid ≡ left)
taken_one {word} {other} {tokens} {mid} {left} takes also =
    let both : takes.token ∷ mid ≡ also.token ∷ left = sym takes.is ∙ also.is in
    let first : also.token ≡ takes.token = cc in
    (word_one word other takes.token takes.fits (subst (IsHeadWord other) first also.fits), cc)

-- The first word, and what follows it.
data Pops (tokens : List Token) : Option ℕ → Option ℕ → ℕ → List Token → Type 0 where
  at_type : {rtype : ℕ} {left : List Token} → Takes (IsHeadWord (Rtype rtype)) tokens left → Pops tokens None None rtype left
  at_ttl : {seconds rtype : ℕ} {class : Option ℕ} {mid left : List Token} → Takes (IsHeadWord (Ttl seconds)) tokens mid
      → HasHead mid None class rtype left → Pops tokens (Some seconds) class rtype left
  at_class : {number rtype : ℕ} {ttl : Option ℕ} {mid left : List Token} → Takes (IsHeadWord (Class number)) tokens mid
      → HasHead mid ttl None rtype left → Pops tokens ttl (Some number) rtype left

head_of : {tokens left before : List Token} {ttl' class' : Option ℕ} {rtype : ℕ} {token : Token} → tokens ≡ before ++ token ∷ left
    → States before ttl' class' → IsType rtype token → HasHead tokens ttl' class' rtype left
head_of {before = before} {token = token} is states type =
    record { before = before; type_token = token; is = is; states = states; type_is = type }

popped : {tokens left before : List Token} {ttl' class' : Option ℕ} {rtype : ℕ} {token : Token} → tokens ≡ before ++ token ∷ left
    → States before ttl' class' → IsType rtype token → Pops tokens ttl' class' rtype left
popped {token = token} is nothing type = at_type (record { token = token; is = is; fits = type })
popped is (ttl {token = first} says) type =
    at_ttl (record { token = first; is = is; fits = says }) (head_of refl nothing type)
popped is (class {token = first} says) type =
    at_class (record { token = first; is = is; fits = says }) (head_of refl nothing type)
popped is (ttl_class {first = first} says also) type =
    at_ttl (record { token = first; is = is; fits = says }) (head_of refl (class also) type)
popped is (class_ttl {first = first} says also) type =
    at_class (record { token = first; is = is; fits = says }) (head_of refl (ttl also) type)

pops : {tokens left : List Token} {ttl' class' : Option ℕ} {rtype : ℕ} → HasHead tokens ttl' class' rtype left → Pops tokens ttl' class' rtype left
pops head = popped head.is head.states head.type_is

-- what is read
pub with_type : {tokens left : List Token} {rtype : ℕ} → Takes (IsHeadWord (Rtype rtype)) tokens left → HasHead tokens None None rtype left
with_type takes = head_of takes.is nothing takes.fits

add_ttl : {before : List Token} {ttl' class' : Option ℕ} {token : Token} {seconds : ℕ} → IsTtl seconds token → States before ttl' class'
    → ttl' ≡ None → States (token ∷ before) (Some seconds) class'
add_ttl says nothing none = ttl says
add_ttl says (ttl also) none = absurd cc
add_ttl says (class also) none = ttl_class says also
add_ttl says (ttl_class also more) none = absurd cc
add_ttl says (class_ttl also more) none = absurd cc

add_class : {before : List Token} {ttl' class' : Option ℕ} {token : Token} {number : ℕ} → IsClass number token → States before ttl' class'
    → class' ≡ None → States (token ∷ before) ttl' (Some number)
add_class says nothing none = class says
add_class says (ttl also) none = class_ttl says also
add_class says (class also) none = absurd cc
add_class says (ttl_class also more) none = absurd cc
add_class says (class_ttl also more) none = absurd cc

pub with_ttl : {tokens mid left : List Token} {seconds rtype : ℕ} {class' : Option ℕ} → Takes (IsHeadWord (Ttl seconds)) tokens mid
    → HasHead mid None class' rtype left → HasHead tokens (Some seconds) class' rtype left
with_ttl takes head =
    head_of {before = takes.token ∷ head.before} (takes.is ∙ ap (λ l. takes.token ∷ l) head.is) (add_ttl takes.fits head.states refl) head.type_is

pub with_class : {tokens mid left : List Token} {number rtype : ℕ} {ttl' : Option ℕ} → Takes (IsHeadWord (Class number)) tokens mid
    → HasHead mid ttl' None rtype left → HasHead tokens ttl' (Some number) rtype left
with_class takes head =
    head_of {before = takes.token ∷ head.before} (takes.is ∙ ap (λ l. takes.token ∷ l) head.is) (add_class takes.fits head.states refl) head.type_is

-- what fails
no_word' : {tokens left : List Token} {ttl' class' : Option ℕ} {rtype : ℕ}
    → ((word : HeadWord) (mid : List Token) → Takes (IsHeadWord word) tokens mid → ⊥) → Pops tokens ttl' class' rtype left → ⊥
no_word' none (at_type {rtype = n} {left = left} takes) = none (Rtype n) left takes
no_word' none (at_ttl {seconds = n} {mid = mid} takes more) = none (Ttl n) mid takes
no_word' none (at_class {number = n} {mid = mid} takes more) = none (Class n) mid takes

pub no_word : {tokens left : List Token} {ttl' class' : Option ℕ} {rtype : ℕ}
    → ((word : HeadWord) (mid : List Token) → Takes (IsHeadWord word) tokens mid → ⊥) → HasHead tokens ttl' class' rtype left → ⊥
no_word none head = no_word' none (pops head)

behind_ttl' : {tokens mid left : List Token} {seconds rtype : ℕ} {ttl' class' : Option ℕ} → Takes (IsHeadWord (Ttl seconds)) tokens mid
    → Pops tokens ttl' class' rtype left → HasHead mid None class' rtype left
behind_ttl' {seconds = n} takes (at_type {rtype = m} also) = let bad : Ttl n ≡ Rtype m = (taken_one takes also).0 in absurd cc
behind_ttl' {left = left} {seconds = n} {rtype = rtype} {class' = class'} takes (at_ttl {seconds = k} also more) =
    subst (λ (m : List Token). HasHead m None class' rtype left) (sym (taken_one {word = Ttl n} {other = Ttl k} takes also).1) more
behind_ttl' {seconds = n} takes (at_class {number = m} also more) = let bad : Ttl n ≡ Class m = (taken_one takes also).0 in absurd cc

pub behind_ttl : {tokens mid left : List Token} {seconds rtype : ℕ} {ttl' class' : Option ℕ} → Takes (IsHeadWord (Ttl seconds)) tokens mid
    → HasHead tokens ttl' class' rtype left → HasHead mid None class' rtype left
behind_ttl takes head = behind_ttl' takes (pops head)

behind_class' : {tokens mid left : List Token} {number rtype : ℕ} {ttl' class' : Option ℕ} → Takes (IsHeadWord (Class number)) tokens mid
    → Pops tokens ttl' class' rtype left → HasHead mid ttl' None rtype left
behind_class' {number = n} takes (at_type {rtype = m} also) = let bad : Class n ≡ Rtype m = (taken_one takes also).0 in absurd cc
behind_class' {number = n} takes (at_ttl {seconds = m} also more) = let bad : Class n ≡ Ttl m = (taken_one takes also).0 in absurd cc
behind_class' {left = left} {number = n} {rtype = rtype} {ttl' = ttl'} takes (at_class {number = k} also more) =
    subst (λ (m : List Token). HasHead m ttl' None rtype left) (sym (taken_one {word = Class n} {other = Class k} takes also).1) more

pub behind_class : {tokens mid left : List Token} {number rtype : ℕ} {ttl' class' : Option ℕ} → Takes (IsHeadWord (Class number)) tokens mid
    → HasHead tokens ttl' class' rtype left → HasHead mid ttl' None rtype left
behind_class takes head = behind_class' takes (pops head)

not_ttl : {tokens mid left : List Token} {seconds rtype : ℕ} {ttl' class' : Option ℕ} → Takes (IsHeadWord (Ttl seconds)) tokens mid
    → Pops tokens ttl' class' rtype left → ttl' ≡ None → ⊥
not_ttl {seconds = n} takes (at_type {rtype = m} also) none = let bad : Ttl n ≡ Rtype m = (taken_one takes also).0 in absurd cc
not_ttl takes (at_ttl also more) none = absurd cc
not_ttl {seconds = n} takes (at_class {number = m} also more) none = let bad : Ttl n ≡ Class m = (taken_one takes also).0 in absurd cc

pub no_ttl : {tokens mid left : List Token} {seconds rtype : ℕ} {class' : Option ℕ} → Takes (IsHeadWord (Ttl seconds)) tokens mid
    → HasHead tokens None class' rtype left → ⊥
no_ttl takes head = not_ttl takes (pops head) refl

not_class : {tokens mid left : List Token} {number rtype : ℕ} {ttl' class' : Option ℕ} → Takes (IsHeadWord (Class number)) tokens mid
    → Pops tokens ttl' class' rtype left → class' ≡ None → ⊥
not_class {number = n} takes (at_type {rtype = m} also) none = let bad : Class n ≡ Rtype m = (taken_one takes also).0 in absurd cc
not_class {number = n} takes (at_ttl {seconds = m} also more) none = let bad : Class n ≡ Ttl m = (taken_one takes also).0 in absurd cc
not_class takes (at_class also more) none = absurd cc

pub no_class : {tokens mid left : List Token} {number rtype : ℕ} {ttl' : Option ℕ} → Takes (IsHeadWord (Class number)) tokens mid
    → HasHead tokens ttl' None rtype left → ⊥
no_class takes head = not_class takes (pops head) refl

-- digits that spell no TTL say nothing
pub number_alone : (text : List ℕ) → list_all is_ascii_digit text ≡ true → number_spelled (2 ^ 32) text ≡ None → (word : HeadWord)
    → Heads text word → ⊥
number_alone text digits none (Ttl n) heads = let bad : None ≡ Some n = sym none ∙ heads.1 in absurd cc
number_alone text digits none (Class n) heads = let bad : true ≡ false = sym digits ∙ heads.0 in cc
number_alone text digits none (Rtype n) heads = let bad : true ≡ false = sym digits ∙ heads.0 in cc

-- a token that says something is a word whose text says it
pub as_text : (word : HeadWord) {tokens left : List Token} → Takes (IsHeadWord word) tokens left
    → (text : List ℕ) × Takes (IsWord text) tokens left × Heads text word
as_text (Ttl n) takes = (takes.fits.0, record { token = takes.token; is = takes.is; fits = takes.fits.1 }, (takes.fits.2, takes.fits.3))
as_text (Class n) takes =
    (takes.fits.0, record { token = takes.token; is = takes.is; fits = takes.fits.1 }, (takes.fits.2, takes.fits.3, takes.fits.4))
as_text (Rtype n) takes = (takes.fits.0, record { token = takes.token; is = takes.is; fits = takes.fits.1 }, (takes.fits.2, takes.fits.3))

-- the same after a word that is known to be one of these
pub ttl_behind : {word : HeadWord} {tokens mid left : List Token} {seconds rtype : ℕ} {ttl' class' : Option ℕ} → word ≡ Ttl seconds
    → Takes (IsHeadWord word) tokens mid → HasHead tokens ttl' class' rtype left → HasHead mid None class' rtype left
ttl_behind {tokens = tokens} {mid = mid} {seconds = seconds} is takes head =
    behind_ttl {seconds = seconds} (subst (λ (w : HeadWord). Takes (IsHeadWord w) tokens mid) is takes) head

pub class_behind : {word : HeadWord} {tokens mid left : List Token} {number rtype : ℕ} {ttl' class' : Option ℕ} → word ≡ Class number
    → Takes (IsHeadWord word) tokens mid → HasHead tokens ttl' class' rtype left → HasHead mid ttl' None rtype left
class_behind {tokens = tokens} {mid = mid} {number = number} is takes head =
    behind_class {number = number} (subst (λ (w : HeadWord). Takes (IsHeadWord w) tokens mid) is takes) head

-- a number that digits spell is a TTL
spelled_digits : (text : List ℕ) (seconds : ℕ) (all : Bool) → list_all is_ascii_digit text ≡ all → number_spelled (2 ^ 32) text ≡ Some seconds
    → list_all is_ascii_digit text ≡ true
spelled_digits text seconds true all is = all
spelled_digits text seconds false all is = let bad : None ≡ Some seconds = sym (number_spelled-other (2 ^ 32) text all) ∙ is in absurd cc

pub number_heads : (text : List ℕ) (seconds : ℕ) → Some seconds ≡ number_spelled (2 ^ 32) text → Heads text (Ttl seconds)
number_heads text seconds is = (spelled_digits text seconds (list_all is_ascii_digit text) refl (sym is), sym is)

-- exactly so many words before a type
pub no_ttl_word : {tokens left : List Token} {seconds : ℕ} → ((word : HeadWord) (mid : List Token) → Takes (IsHeadWord word) tokens mid → ⊥)
    → Takes (IsTtl seconds) tokens left → ⊥
no_ttl_word {left = left} {seconds} none takes = none (Ttl seconds) left takes

pub no_class_word : {tokens left : List Token} {number : ℕ} → ((word : HeadWord) (mid : List Token) → Takes (IsHeadWord word) tokens mid → ⊥)
    → Takes (IsClass number) tokens left → ⊥
no_class_word {left = left} {number} none takes = none (Class number) left takes

pub none_stated : (tokens : List Token) (count : ℕ) → count ≡ 0 → States (take count tokens) None None
none_stated tokens count is = subst (λ (n : ℕ). States (take n tokens) None None) (sym is) nothing

pub ttl_stated : {tokens left : List Token} {seconds : ℕ} (count : ℕ) → count ≡ 1 → Takes (IsHeadWord (Ttl seconds)) tokens left
    → States (take count tokens) (Some seconds) None
ttl_stated {tokens} {seconds = seconds} count is takes =
    subst (λ (n : ℕ). States (take n tokens) (Some seconds) None) (sym is)
    (subst (λ (l : List Token). States (take 1 l) (Some seconds) None) (sym takes.is) (ttl takes.fits))

pub class_stated : {tokens left : List Token} {number : ℕ} (count : ℕ) → count ≡ 1 → Takes (IsHeadWord (Class number)) tokens left
    → States (take count tokens) None (Some number)
class_stated {tokens} {number = number} count is takes =
    subst (λ (n : ℕ). States (take n tokens) None (Some number)) (sym is)
    (subst (λ (l : List Token). States (take 1 l) None (Some number)) (sym takes.is) (class takes.fits))

two_taken : {tokens mid left : List Token} {first second : Token} (count : ℕ) → count ≡ 2 → tokens ≡ first ∷ mid → mid ≡ second ∷ left
    → take count tokens ≡ first ∷ second ∷ []
two_taken {tokens} {first = first} count is begins on =
    ap (λ (n : ℕ). take n tokens) is ∙ ap (take {A = Token} 2) (begins ∙ ap (λ (l : List Token). first ∷ l) on)

pub ttl_class_stated : {tokens mid left : List Token} {seconds number : ℕ} (count : ℕ) → count ≡ 2 → Takes (IsHeadWord (Ttl seconds)) tokens mid
    → Takes (IsClass number) mid left → States (take count tokens) (Some seconds) (Some number)
ttl_class_stated {seconds = seconds} {number} count is takes also =
    subst (λ (l : List Token). States l (Some seconds) (Some number)) (sym (two_taken count is takes.is also.is)) (ttl_class takes.fits also.fits)

pub class_ttl_stated : {tokens mid left : List Token} {seconds number : ℕ} (count : ℕ) → count ≡ 2 → Takes (IsHeadWord (Class number)) tokens mid
    → Takes (IsTtl seconds) mid left → States (take count tokens) (Some seconds) (Some number)
class_ttl_stated {seconds = seconds} {number} count is takes also =
    subst (λ (l : List Token). States l (Some seconds) (Some number)) (sym (two_taken count is takes.is also.is)) (class_ttl takes.fits also.fits)

-- the first of some words says what is stated
pub no_first : {tokens : List Token} {ttl' class' : Option ℕ} (count : ℕ) → 0 < count → count ≤ length tokens
    → ((word : HeadWord) (mid : List Token) → Takes (IsHeadWord word) tokens mid → ⊥) → States (take count tokens) ttl' class' → ⊥
no_first {tokens = []} count some within none states = absurd (omega (arith, some, within))
no_first {tokens = token ∷ tokens} zero some within none states = absurd (omega (arith, some))
no_first {tokens = token ∷ tokens} (suc count) some within none states = by states refl
  where
    by : {stated : List Token} {ttl' class' : Option ℕ} → States stated ttl' class' → stated ≡ token ∷ take count tokens → ⊥
    by nothing same = let no : ⊥ = cc in no
    by (ttl {token = first} {seconds = n} says) same =
        let here : first ≡ token = cc in none (Ttl n) tokens (record { token = token; is = refl; fits = subst (IsTtl n) here says })
    by (class {token = first} {number = n} says) same =
        let here : first ≡ token = cc in none (Class n) tokens (record { token = token; is = refl; fits = subst (IsClass n) here says })
    by (ttl_class {first = first} {seconds = n} says also) same =
        let here : first ≡ token = cc in none (Ttl n) tokens (record { token = token; is = refl; fits = subst (IsTtl n) here says })
    by (class_ttl {first = first} {number = n} says also) same =
        let here : first ≡ token = cc in none (Class n) tokens (record { token = token; is = refl; fits = subst (IsClass n) here says })

-- and so does the second of two
second_is : {tokens mid : List Token} (count : ℕ) → count ≡ 2 → count ≤ length tokens → {first : Token} → tokens ≡ first ∷ mid
    → (second : Token) × (rest : List Token) × (mid ≡ second ∷ rest)
second_is {mid = []} count is within begins = absurd (omega (arith, is, within, ap (length {A = Token}) begins))
second_is {mid = second ∷ rest} count is within begins = (second, rest, refl)

no_class_second' : {tokens mid : List Token} {seconds : ℕ} {ttl' class' : Option ℕ} (count : ℕ) → count ≡ 2 → count ≤ length tokens
    → Takes (IsHeadWord (Ttl seconds)) tokens mid → ((number : ℕ) (left : List Token) → Takes (IsClass number) mid left → ⊥)
    → States (take count tokens) ttl' class' → ⊥
no_class_second' {mid = mid} {seconds} count is within takes none states =
    let two = second_is count is within takes.is in by two states (two_taken count is takes.is two.2)
  where
    by : (two : (second : Token) × (rest : List Token) × (mid ≡ second ∷ rest)) {stated : List Token} {ttl' class' : Option ℕ}
        → States stated ttl' class' → stated ≡ takes.token ∷ two.0 ∷ [] → ⊥
    by two nothing same = let no : ⊥ = cc in no
    by two (ttl says) same = let no : ⊥ = cc in no
    by two (class says) same = let no : ⊥ = cc in no
    by two (ttl_class {second = second} {number = n} says also) same =
        let here : second ≡ two.0 = cc in none n two.1 (record { token = two.0; is = two.2; fits = subst (IsClass n) here also })
    by two (class_ttl {first = first} {number = n} says also) same =
        let here : first ≡ takes.token = cc in
        let bad : Class n ≡ Ttl seconds = word_one (Class n) (Ttl seconds) takes.token (subst (IsClass n) here says) takes.fits in absurd cc

no_ttl_second' : {tokens mid : List Token} {number : ℕ} {ttl' class' : Option ℕ} (count : ℕ) → count ≡ 2 → count ≤ length tokens
    → Takes (IsHeadWord (Class number)) tokens mid → ((seconds : ℕ) (left : List Token) → Takes (IsTtl seconds) mid left → ⊥)
    → States (take count tokens) ttl' class' → ⊥
no_ttl_second' {mid = mid} {number} count is within takes none states =
    let two = second_is count is within takes.is in by two states (two_taken count is takes.is two.2)
  where
    by : (two : (second : Token) × (rest : List Token) × (mid ≡ second ∷ rest)) {stated : List Token} {ttl' class' : Option ℕ}
        → States stated ttl' class' → stated ≡ takes.token ∷ two.0 ∷ [] → ⊥
    by two nothing same = let no : ⊥ = cc in no
    by two (ttl says) same = let no : ⊥ = cc in no
    by two (class says) same = let no : ⊥ = cc in no
    by two (class_ttl {second = second} {seconds = n} says also) same =
        let here : second ≡ two.0 = cc in none n two.1 (record { token = two.0; is = two.2; fits = subst (IsTtl n) here also })
    by two (ttl_class {first = first} {seconds = n} says also) same =
        let here : first ≡ takes.token = cc in
        let bad : Ttl n ≡ Class number = word_one (Ttl n) (Class number) takes.token (subst (IsTtl n) here says) takes.fits in absurd cc

pub no_class_second : {word : HeadWord} {tokens mid : List Token} {seconds : ℕ} {ttl' class' : Option ℕ} (count : ℕ) → count ≡ 2
    → count ≤ length tokens → word ≡ Ttl seconds → Takes (IsHeadWord word) tokens mid
    → ((number : ℕ) (left : List Token) → Takes (IsClass number) mid left → ⊥) → States (take count tokens) ttl' class' → ⊥
no_class_second {tokens = tokens} {mid} {seconds} count is within word_is takes none states =
    no_class_second' {seconds = seconds} count is within (subst (λ (w : HeadWord). Takes (IsHeadWord w) tokens mid) word_is takes) none states

pub no_ttl_second : {word : HeadWord} {tokens mid : List Token} {number : ℕ} {ttl' class' : Option ℕ} (count : ℕ) → count ≡ 2
    → count ≤ length tokens → word ≡ Class number → Takes (IsHeadWord word) tokens mid
    → ((seconds : ℕ) (left : List Token) → Takes (IsTtl seconds) mid left → ⊥) → States (take count tokens) ttl' class' → ⊥
no_ttl_second {tokens = tokens} {mid} {number} count is within word_is takes none states =
    no_ttl_second' {number = number} count is within (subst (λ (w : HeadWord). Takes (IsHeadWord w) tokens mid) word_is takes) none states

-- at most two words are stated
few_stated : {stated : List Token} {ttl' class' : Option ℕ} → States stated ttl' class' → length stated ≤ 2
few_stated nothing = omega arith
few_stated (ttl says) = omega arith
few_stated (class says) = omega arith
few_stated (ttl_class says also) = omega arith
few_stated (class_ttl says also) = omega arith

pub too_many : (tokens : List Token) {ttl' class' : Option ℕ} (count : ℕ) → 2 < count → count ≤ length tokens → States (take count tokens) ttl' class' → ⊥
too_many tokens count many within states = omega (arith, many, within, few_stated states, length-take count tokens)
