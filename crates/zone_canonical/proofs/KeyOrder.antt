-- An owner with a lesser key comes first.
use Rattle.std.proofs.Common.{◌≡◌, ℕ, zero, suc, ◌+◌, ◌-◌, ◌*◌, ◌^◌, ◌<◌, ◌≤◌, List, [], ◌∷◌, ◌++◌, true, false, ltb, refl, sym, ap, ◌∙◌, arith, ⊎_elim}
use Rattle.std.specs.Ordering.{nat_cmp, ordering_then, ordering_reverse, is_eq}
use Rattle.std.specs.Cmp.{nat_cmp_is}
use Rattle.std.specs.Cmp.Lexicographic.{slice_cmp, nat_list_cmp_total, texts_ties}
use Rattle.std.specs.declared.cmp.Ordering.{Ordering}
use Rattle.std.specs.declared.cmp.Ordering.TheVariants.{Less, Equal, Greater}
use Rattle.std.proofs.Math.Nat.{pow-succ', mul-le-mul_right}
use Rattle.std.proofs.lemmas.Cmp.{alike_right, tied_itself}
use Rattle.std.proofs.lemmas.Bool.{cases_lt}
use lib.Pointwise.{bytes_decides}
use borrow.Author.Tests.{ltb-true, ltb-false}
use Rattle.zone_canonical.specs.OwnerKey.{code, front_key, key_from, key_beside}

then_assoc : (a b c : Ordering) → ordering_then (ordering_then a b) c ≡ ordering_then a (ordering_then b c)
then_assoc Less b c = refl
then_assoc Equal b c = refl
then_assoc Greater b c = refl

-- the value of an octet and the digits after it
data Coded (octet digits more all : ℕ) : Type 0 where
  inside : octet < 256 → all ≡ suc octet * 512 ^ digits + more → Coded octet digits more all
  past : 256 ≤ octet → all ≡ 512 ^ suc digits - 1 → Coded octet digits more all

coded : (octet digits : ℕ) (label : List ℕ) (labels : List (List ℕ))
    → Coded octet digits (code digits label labels) (code (suc digits) (octet ∷ label) labels)
unfolding code
coded octet digits label labels =
    elim (ltb octet 256) as (λ v. ltb octet 256 ≡ v → Coded octet digits (code digits label labels) (code (suc digits) (octet ∷ label) labels)) [
      | true ↦ λ e. inside (ltb-true octet 256 e) (simp e)
      | false ↦ λ e. past (ltb-false octet 256 e) (simp e)
    ] refl

pow_more : (digits : ℕ) → 512 ^ suc digits ≡ 512 * 512 ^ digits
pow_more digits = pow-succ' 512 digits

pow_some : (digits : ℕ) → 0 < 512 ^ digits
pow_some zero = omega arith
pow_some (suc digits) = omega (arith, pow_more digits, pow_some digits)

-- a lesser digit decides
less_digit : (digit other unit more : ℕ) → digit < other → more < unit → digit * unit + more < other * unit
less_digit digit other unit more less few = omega (arith, mul-le-mul_right unit (let h : digit + 1 ≤ other = omega arith in h))

pub code_bound : (digits : ℕ) (label : List ℕ) (labels : List (List ℕ)) → code digits label labels < 512 ^ digits
unfolding code
code_bound zero label labels = omega arith
code_bound (suc digits) [] [] = pow_some (suc digits)
code_bound (suc digits) [] (label ∷ labels) = omega (arith, code_bound digits label labels, pow_more digits)
code_bound (suc digits) (octet ∷ label) labels =
    elim (coded octet digits label labels) as (λ _. code (suc digits) (octet ∷ label) labels < 512 ^ suc digits) [
      | inside few is ↦
          omega (
            arith,
            is,
            pow_more digits,
            less_digit (suc octet) 512 (512 ^ digits) (code digits label labels) (omega arith) (code_bound digits label labels),
          )
      | past many is ↦ omega (arith, is, pow_some (suc digits))
    ]

pub code_digit : (octet digits : ℕ) (label : List ℕ) (labels : List (List ℕ)) → octet < 256
    → code (suc digits) (octet ∷ label) labels ≡ suc octet * 512 ^ digits + code digits label labels
code_digit octet digits label labels few =
    elim (coded octet digits label labels) as (λ _. code (suc digits) (octet ∷ label) labels ≡ suc octet * 512 ^ digits + code digits label labels) [
      | inside few' is ↦ is
      | past many is ↦ absurd (omega arith)
    ]

-- an octet is worth more than anything that may be in its place
some_octet : (octet digits : ℕ) (label : List ℕ) (labels : List (List ℕ)) → 512 ^ digits ≤ code (suc digits) (octet ∷ label) labels
some_octet octet digits label labels =
    elim (coded octet digits label labels) as (λ _. 512 ^ digits ≤ code (suc digits) (octet ∷ label) labels) [
      | inside few is ↦ omega (arith, is, mul-le-mul_right (512 ^ digits) (let h : 1 ≤ suc octet = omega arith in h))
      | past many is ↦ omega (arith, is, pow_more digits, pow_some digits)
    ]

-- a lesser octet decides
less_octet : (octet other digits : ℕ) (label others : List ℕ) (labels more : List (List ℕ)) → other < octet
    → code (suc digits) (octet ∷ label) labels < code (suc digits) (other ∷ others) more → ⊥
less_octet octet other digits label others labels more less below =
    elim (coded octet digits label labels) as (λ _. ⊥) [
      | inside few is ↦ elim (coded other digits others more) as (λ _. ⊥) [
        | inside few' is' ↦
            omega (arith, is, is', less_digit (suc other) (suc octet) (512 ^ digits) (code digits others more) (omega arith) (code_bound digits others more))
        | past many' is' ↦ omega arith
      ]
      | past many is ↦ omega (arith, is, code_bound (suc digits) (other ∷ others) more)
    ]

-- equal octets leave the decision to those after them
same_octet : (octet other digits : ℕ) (label others : List ℕ) (labels more : List (List ℕ)) → octet ≡ other
    → code (suc digits) (octet ∷ label) labels < code (suc digits) (other ∷ others) more → code digits label labels < code digits others more
same_octet octet other digits label others labels more same below =
    elim (coded octet digits label labels) as (λ _. code digits label labels < code digits others more) [
      | inside few is ↦ elim (coded other digits others more) as (λ _. code digits label labels < code digits others more) [
        | inside few' is' ↦ omega (arith, is, is', ap (λ n. suc n * 512 ^ digits) same)
        | past many' is' ↦ omega arith
      ]
      | past many is ↦ absurd (omega (arith, is, code_bound (suc digits) (other ∷ others) more))
    ]

order_octets : (octet other : ℕ) (tied : Ordering) → octet ≤ other → (octet ≡ other → tied ≡ Less) → ordering_then (nat_cmp octet other) tied ≡ Less
order_octets octet other tied within same =
    ⊎_elim
    (λ (less : octet < other). ap (λ o. ordering_then o tied) (sym (nat_cmp_is octet other Less less)))
    (λ (not : other ≤ octet). let tie : octet ≡ other = omega arith in
    ap (λ o. ordering_then o tied) (sym (nat_cmp_is octet other Equal tie)) ∙ same tie)
    (cases_lt octet other)

-- labels with a lesser code come first
code_order : (digits : ℕ) (label other : List ℕ) (labels others : List (List ℕ)) → code digits label labels < code digits other others
    → slice_cmp (slice_cmp nat_cmp) (label ∷ labels) (other ∷ others) ≡ Less
unfolding code
code_order zero label other labels others less = absurd (omega arith)
code_order (suc digits) [] [] [] [] less = absurd (omega arith)
code_order (suc digits) [] [] [] (next ∷ others) less = refl
code_order (suc digits) [] [] (next ∷ labels) [] less = absurd (omega arith)
code_order (suc digits) [] [] (next ∷ labels) (next' ∷ others) less = code_order digits next next' labels others less
code_order (suc digits) [] (octet ∷ other) labels others less = refl
code_order (suc digits) (octet ∷ label) [] labels [] less = absurd (omega arith)
code_order (suc digits) (octet ∷ label) [] labels (next ∷ others) less =
    absurd (omega (arith, some_octet octet digits label labels, code_bound digits next others))
code_order (suc digits) (octet ∷ label) (octet' ∷ other) labels others less =
    then_assoc (nat_cmp octet octet') (slice_cmp nat_cmp label other) (slice_cmp (slice_cmp nat_cmp) labels others)
    ∙ order_octets octet octet' (slice_cmp (slice_cmp nat_cmp) (label ∷ labels) (other ∷ others))
    (⊎_elim
    (λ (more : octet' < octet). absurd (less_octet octet octet' digits label other labels others more less))
    (λ (within : octet ≤ octet'). within)
    (cases_lt octet' octet))
    (λ same. code_order digits label other labels others (same_octet octet octet' digits label other labels others same less))

-- a lesser key under the apex
front_order : (name other : List (List ℕ)) → front_key name < front_key other → slice_cmp (slice_cmp nat_cmp) name other ≡ Less
unfolding front_key
front_order [] [] less = absurd (omega arith)
front_order [] (label ∷ other) less = refl
front_order (label ∷ name) [] less = absurd (omega arith)
front_order (label ∷ name) (label' ∷ other) less = code_order 14 label label' name other less

-- how a label compares with that of the apex, and what the key then is
data Beside (label of_apex : List ℕ) (rest key : ℕ) : Type 0 where
  before : slice_cmp nat_cmp label of_apex ≡ Less → key ≡ 0 → Beside label of_apex rest key
  at : slice_cmp nat_cmp label of_apex ≡ Equal → key ≡ rest → Beside label of_apex rest key
  after : slice_cmp nat_cmp label of_apex ≡ Greater → key ≡ 2 ^ 128 - 1 → Beside label of_apex rest key

beside : (of_apex label : List ℕ) (apex name : List (List ℕ)) → Beside label of_apex (key_from apex name) (key_from (of_apex ∷ apex) (label ∷ name))
unfolding key_from
beside of_apex label apex name =
    elim (slice_cmp nat_cmp label of_apex) as (λ o. slice_cmp nat_cmp label of_apex ≡ o → Beside label of_apex (key_from apex name) (key_beside o (key_from apex name))) [
      | Less ↦ λ e. before e refl
      | Equal ↦ λ e. at e refl
      | Greater ↦ λ e. after e refl
    ] refl

key_most : (apex name : List (List ℕ)) → key_from apex name ≤ 2 ^ 128 - 1
unfolding key_from front_key
key_most [] [] = omega arith
key_most [] (label ∷ name) = omega (arith, code_bound 14 label name)
key_most (of_apex ∷ apex) [] = omega arith
key_most (of_apex ∷ apex) (label ∷ name) =
    elim (beside of_apex label apex name) as (λ _. key_from (of_apex ∷ apex) (label ∷ name) ≤ 2 ^ 128 - 1) [
      | before less is ↦ omega (arith, is)
      | at same is ↦ omega (arith, is, key_most apex name)
      | after more is ↦ omega (arith, is)
    ]

abbrev text_cmp : List ℕ → List ℕ → Ordering
text_cmp = slice_cmp nat_cmp

above : (label of_apex : List ℕ) → text_cmp label of_apex ≡ Greater → text_cmp of_apex label ≡ Less
above label of_apex more = nat_list_cmp_total.antisymm of_apex label ∙ ap ordering_reverse more

same_label : (label other : List ℕ) → text_cmp label other ≡ Equal → label ≡ other
same_label label other tie = (bytes_decides label other).0 (texts_ties label other ∙ ap is_eq tie)

-- a name with a lesser key comes first
pub key_order : (apex name other : List (List ℕ)) → key_from apex name < key_from apex other → slice_cmp (slice_cmp nat_cmp) name other ≡ Less
unfolding key_from
key_order [] name other less = front_order name other less
key_order (of_apex ∷ apex) [] [] less = absurd (omega arith)
key_order (of_apex ∷ apex) [] (label ∷ other) less = refl
key_order (of_apex ∷ apex) (label ∷ name) [] less = absurd (omega arith)
key_order (of_apex ∷ apex) (label ∷ name) (label' ∷ other) less =
    let names = slice_cmp text_cmp name other in
    let first : text_cmp label label' ≡ Less → ordering_then (text_cmp label label') names ≡ Less = λ e. ap (λ o. ordering_then o names) e in
    elim (beside of_apex label apex name) as (λ _. ordering_then (text_cmp label label') names ≡ Less) [
      | before one is ↦ elim (beside of_apex label' apex other) as (λ _. ordering_then (text_cmp label label') names ≡ Less) [
        | before two are ↦ absurd (omega (arith, is, are))
        | at two are ↦ first (alike_right nat_list_cmp_total label' of_apex label two ∙ one)
        | after two are ↦ first (nat_list_cmp_total.trans label of_apex label' one (above label' of_apex two))
      ]
      | at one is ↦ elim (beside of_apex label' apex other) as (λ _. ordering_then (text_cmp label label') names ≡ Less) [
        | before two are ↦ absurd (omega (arith, is, are))
        | at two are ↦
            ap (λ o. ordering_then o names) (alike_right nat_list_cmp_total label' of_apex label two ∙ one)
            ∙ key_order apex name other (omega (arith, is, are))
        | after two are ↦ first (nat_list_cmp_total.congr label of_apex label' one ∙ above label' of_apex two)
      ]
      | after one is ↦ absurd (omega (arith, is, key_most (of_apex ∷ apex) (label' ∷ other)))
    ]

-- under the apex, its labels are left out
pub key_under : (apex front : List (List ℕ)) → key_from apex (apex ++ front) ≡ front_key front
unfolding key_from
key_under [] front = refl
key_under (label ∷ apex) front =
    ap (λ o. key_beside o (key_from apex (apex ++ front))) (tied_itself nat_list_cmp_total label) ∙ key_under apex front

-- before the apex
pub key_before : (apex name : List (List ℕ)) → slice_cmp (slice_cmp nat_cmp) name apex ≡ Less → key_from apex name ≡ 0
unfolding key_from
key_before [] [] less = absurd (let e : Equal ≡ Less = less in cc)
key_before [] (label ∷ name) less = absurd (let e : Greater ≡ Less = less in cc)
key_before (of_apex ∷ apex) [] less = refl
key_before (of_apex ∷ apex) (label ∷ name) less =
    elim (text_cmp label of_apex) as (λ o. ordering_then o (slice_cmp text_cmp name apex) ≡ Less → key_beside o (key_from apex name) ≡ 0) [
      | Less ↦ λ e. refl
      | Equal ↦ λ e. key_before apex name e
      | Greater ↦ λ e. absurd (let f : Greater ≡ Less = e in cc)
    ] less

-- after the apex, and not under it
pub key_after : (apex name : List (List ℕ)) → (slice_cmp (slice_cmp nat_cmp) name apex ≡ Less → ⊥)
    → ((front : List (List ℕ)) → name ≡ apex ++ front → ⊥) → key_from apex name ≡ 2 ^ 128 - 1
unfolding key_from
key_after [] name not apart = absurd (apart name refl)
key_after (of_apex ∷ apex) [] not apart = absurd (not refl)
key_after (of_apex ∷ apex) (label ∷ name) not apart =
    elim (text_cmp label of_apex) as (λ o. text_cmp label of_apex ≡ o → (ordering_then o (slice_cmp text_cmp name apex) ≡ Less → ⊥) → key_beside o (key_from apex name) ≡ 2 ^ 128 - 1) [
      | Less ↦ λ e not. absurd (not refl)
      | Equal ↦ λ e not. key_after apex name not (λ front is. apart front (λ i. same_label label of_apex e i ∷ is i))
      | Greater ↦ λ e not. refl
    ] refl not
