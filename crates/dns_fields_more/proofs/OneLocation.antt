-- Tokens are one location at most.
use Rattle.std.proofs.Common.{◌≡◌, ◌+◌, ◌-◌, ◌*◌, ◌<◌, ◌≤◌, ◌^◌, ◌⊎◌, inl, inr, ℕ, zero, suc, List, [], ◌∷◌, ◌++◌, length, drop, refl, sym, ◌∙◌, ap, subst, arith, append_assoc}
use Rattle.std.proofs.Math.Nat.{mul-le-mul_right, pow-succ'}
use Rattle.std.proofs.lemmas.Bool.{cases_lt}
use Rattle.std.specs.Prelude.{codes}
use Rattle.std.specs.List.{AllByRecursion, AllZip}
use Rattle.dns_scan.specs.Token.{Token}
use Rattle.dns_field_texts.specs.Location.{IsPrecision, Location, Precision, degrees}
use Rattle.dns_field_texts.specs.LocationText.{IsAngle, IsMetres, IsNumeral, ScansLocation, SpellsAltitude, SpellsAngle, SpellsArc, SpellsSize, usual_sizes}
use Rattle.dns_field_texts.proofs.LocationNumerals.{IsNear, length_unit, numeral_near, numeral_some, part_one}

-- a word that may be a numeral
abbrev Near : List ℕ → Type 0
Near word = AllByRecursion IsNear word

-- words up to the first that is no numeral
cut_one : (xs ys ms ns : List (List ℕ)) (d e : List ℕ) → AllByRecursion Near xs → AllByRecursion Near ys → (Near d → ⊥) → (Near e → ⊥)
    → xs ++ d ∷ ms ≡ ys ++ e ∷ ns → (xs ≡ ys) × (d ≡ e) × (ms ≡ ns)
cut_one [] [] ms ns d e near nears clear free same = (refl, cc, cc)
cut_one [] (y ∷ ys) ms ns d e near nears clear free same = let first : y ≡ d = cc in absurd (clear (subst Near first nears.0))
cut_one (x ∷ xs) [] ms ns d e near nears clear free same = let first : x ≡ e = cc in absurd (free (subst Near first near.0))
cut_one (x ∷ xs) (y ∷ ys) ms ns d e near nears clear free same =
    let first : x ≡ y = cc in
    let behind = cut_one xs ys ms ns d e near.1 nears.1 clear free (cc) in
    (λ i. first i ∷ behind.0 i, behind.1, behind.2)

-- angles
numeral_one : {places value other : ℕ} {text : List ℕ} → IsNumeral places text value → IsNumeral places text other → value ≡ other
numeral_one {value = value} {other} is also =
    part_one {most = value} {more = other} (record { spelled = is; few = omega arith }) (record { spelled = also; few = omega arith })

angle_near : (words : List (List ℕ)) (angle : ℕ) → SpellsAngle words angle → AllByRecursion Near words
angle_near [] angle is = tt
angle_near (degree ∷ []) angle is = (numeral_near is.spelled.0, tt)
angle_near (degree ∷ minute ∷ []) angle is = (numeral_near is.spelled.0, (numeral_near is.spelled.1, tt))
angle_near (degree ∷ minute ∷ second ∷ []) angle is = (numeral_near is.spelled.0, (numeral_near is.spelled.1, (numeral_near is.spelled.2, tt)))
angle_near (degree ∷ minute ∷ second ∷ more ∷ words) angle is = absurd is

parts_one : {degree minute second : List ℕ} {angle other : ℕ} → IsAngle degree minute second angle → IsAngle degree minute second other → angle ≡ other
parts_one is also =
    let d = numeral_one is.spelled.0 also.spelled.0 in
    let m = numeral_one is.spelled.1 also.spelled.1 in
    let s = numeral_one is.spelled.2 also.spelled.2 in
    is.is ∙ (λ i. degrees (d i) + m i * 60000 + s i) ∙ sym also.is

angle_one : (words : List (List ℕ)) (angle other : ℕ) → SpellsAngle words angle → SpellsAngle words other → angle ≡ other
angle_one [] angle other is also = absurd is
angle_one (degree ∷ []) angle other is also = parts_one is also
angle_one (degree ∷ minute ∷ []) angle other is also = parts_one is also
angle_one (degree ∷ minute ∷ second ∷ []) angle other is also = parts_one is also
angle_one (degree ∷ minute ∷ second ∷ more ∷ words) angle other is also = absurd is

-- angles with their direction, which is a letter
abbrev IsWay : ℕ → ℕ → List ℕ → ℕ → ℕ → Type 0
IsWay up down direction angle value =
    ((direction ≡ up ∷ []) × (value ≡ 2 ^ 31 + angle)) ⊎ ((direction ≡ down ∷ []) × (value + angle ≡ 2 ^ 31))

module _ (up down : ℕ) (high : 57 < up) (also_high : 57 < down) (two : up ≡ down → ⊥) where
  way_far : (direction : List ℕ) (angle value : ℕ) → IsWay up down direction angle value → Near direction → ⊥
  way_far direction angle value (inl is) near = let low = (subst Near is.0 near).0.1 in omega (arith, high, low)
  way_far direction angle value (inr is) near = let low = (subst Near is.0 near).0.1 in omega (arith, also_high, low)

  way_one : (direction : List ℕ) (angle value number : ℕ) → IsWay up down direction angle value → IsWay up down direction angle number → value ≡ number
  way_one direction angle value number (inl is) (inl also) = is.1 ∙ sym also.1
  way_one direction angle value number (inl is) (inr also) = absurd (two (let same = sym is.0 ∙ also.0 in cc))
  way_one direction angle value number (inr is) (inl also) = absurd (two (let same = sym also.0 ∙ is.0 in cc))
  way_one direction angle value number (inr is) (inr also) = let first = is.1 in let second = also.1 in omega (arith, first, second)

  arc_one : {most : ℕ} {words others ms ns : List (List ℕ)} {value number : ℕ} → SpellsArc most (up ∷ []) (down ∷ []) words value
      → SpellsArc most (up ∷ []) (down ∷ []) others number → words ++ ms ≡ others ++ ns → (value ≡ number) × (ms ≡ ns)
  arc_one {words = words} {others} {ms} {ns} {value} {number} arc also same =
      let here : arc.front ++ arc.direction ∷ ms ≡ also.front ++ also.direction ∷ ns =
      sym (append_assoc arc.front (arc.direction ∷ []) ms) ∙ ap (λ (l : List (List ℕ)). l ++ ms) (sym arc.written) ∙ same
      ∙ ap (λ (l : List (List ℕ)). l ++ ns) also.written ∙ append_assoc also.front (also.direction ∷ []) ns in
      let cut = cut_one arc.front also.front ms ns arc.direction also.direction (angle_near arc.front arc.angle arc.spelled)
      (angle_near also.front also.angle also.spelled) (way_far arc.direction arc.angle value arc.is)
      (way_far also.direction also.angle number also.is) here in
      let angles = angle_one arc.front arc.angle also.angle arc.spelled (subst (λ (l : List (List ℕ)). SpellsAngle l also.angle) (sym cut.0) also.spelled) in
      let way = subst (λ (l : List ℕ). IsWay up down l also.angle number) (sym cut.1) also.is in
      let way_here = subst (λ n. IsWay up down arc.direction n number) (sym angles) way in
      (way_one arc.direction arc.angle value number arc.is way_here, cut.2)

-- metres
metres_one : {text : List ℕ} {value other : ℕ} → IsMetres text value → IsMetres text other → value ≡ other
metres_one {text} {value} {other} is also = by is.unit also.unit
  where
    with_unit : {a b : ℕ} {numeral : List ℕ} → IsMetres text a → IsNumeral 2 numeral b → text ≡ numeral ++ codes "m" → a ≡ b
    with_unit {a} {b} metres numeral written =
        part_one {most = a} {more = b} (length_unit written (record { spelled = metres; few = omega arith })) (record { spelled = numeral; few = omega arith })

    by : (text ≡ is.numeral) ⊎ (text ≡ is.numeral ++ codes "m") → (text ≡ also.numeral) ⊎ (text ≡ also.numeral ++ codes "m") → value ≡ other
    by (inl bare) (inl others) =
        let same : also.numeral ≡ is.numeral = sym others ∙ bare in
        let numeral = subst (λ (l : List ℕ). IsNumeral 2 l other) same also.is in
        part_one {most = value} {more = other} (record { spelled = is.is; few = omega arith }) (record { spelled = numeral; few = omega arith })
    by (inl bare) (inr written) = with_unit is also.is written
    by (inr written) others = sym (with_unit also is.is written)

-- no metres begin with a minus sign
minus_metres : {value : ℕ} {text : List ℕ} → IsMetres (45 ∷ text) value → ⊥
minus_metres {value} {text} is = by is.numeral (numeral_near is.is) (numeral_some is.is) is.unit
  where
    by : (numeral : List ℕ) → AllByRecursion IsNear numeral → 0 < length numeral → (45 ∷ text ≡ numeral) ⊎ (45 ∷ text ≡ numeral ++ codes "m") → ⊥
    by [] near some same = absurd (omega (arith, some))
    by (d ∷ ds) near some (inl same) = let first : 45 ≡ d = cc in let least = near.0.0 in omega (arith, first, least)
    by (d ∷ ds) near some (inr same) = let first : 45 ≡ d = cc in let least = near.0.0 in omega (arith, first, least)

abbrev HasAltitude : List ℕ → ℕ → ℕ → Type 0
HasAltitude text centimetres altitude =
    (IsMetres text centimetres × (altitude ≡ 10000000 + centimetres))
    ⊎ ((metres : List ℕ) × (text ≡ codes "-" ++ metres) × IsMetres metres centimetres × (altitude + centimetres ≡ 10000000))

altitude_one : {text : List ℕ} {value other : ℕ} → SpellsAltitude text value → SpellsAltitude text other → value ≡ other
altitude_one {text} {value} {other} is also = by is.1 also.1
  where
    by : HasAltitude text is.0 value → HasAltitude text also.0 other → value ≡ other
    by (inl up) (inl others) = let same = metres_one up.0 others.0 in let a = up.1 in let b = others.1 in omega (arith, same, a, b)
    by (inl up) (inr down) = absurd (minus_metres (subst (λ (l : List ℕ). IsMetres l is.0) down.1 up.0))
    by (inr down) (inl up) = absurd (minus_metres (subst (λ (l : List ℕ). IsMetres l also.0) down.1 up.0))
    by (inr down) (inr others) =
        let texts : others.0 ≡ down.0 = (let same = sym others.1 ∙ down.1 in cc) in
        let same = metres_one down.2 (subst (λ (l : List ℕ). IsMetres l also.0) texts others.2) in
        let a = down.3 in
        let b = others.3 in omega (arith, same, a, b)

-- sizes
power_more : (more low high : ℕ) → high ≡ suc (more + low) → 10 * 10 ^ low ≤ 10 ^ high
power_more zero low high is =
    let there : suc low ≡ high = omega (arith, is) in
    let step = pow-succ' 10 low in
    let next : 10 * 10 ^ low ≤ 10 ^ suc low = omega (arith, step) in
    subst (λ n. 10 * 10 ^ low ≤ 10 ^ n) there next
power_more (suc more) low high is =
    let before = suc (more + low) in
    let there : suc before ≡ high = omega (arith, is) in
    let so_far = power_more more low before refl in
    let step = pow-succ' 10 before in
    let next : 10 * 10 ^ low ≤ 10 ^ suc before = omega (arith, so_far, step) in
    subst (λ n. 10 * 10 ^ low ≤ 10 ^ n) there next

less_power : (low high : ℕ) → low < high → 10 * 10 ^ low ≤ 10 ^ high
less_power low high less = power_more (high - suc low) low high (omega (arith, less))

-- the precision is the largest that is not above
not_higher : (size other : Precision) (centimetres : ℕ) → IsPrecision size → IsPrecision other → size.power < other.power
    → centimetres < (size.mantissa + 1) * 10 ^ size.power → other.mantissa * 10 ^ other.power ≤ centimetres → ⊥
not_higher size other centimetres is also less above below =
    let digit = is.mantissa in
    let few : (size.mantissa + 1) * 10 ^ size.power ≤ 10 * 10 ^ size.power = mul-le-mul_right (10 ^ size.power) (omega (arith, digit)) in
    let unit = less_power size.power other.power less in
    let some : 1 * 10 ^ other.power ≤ other.mantissa * 10 ^ other.power = mul-le-mul_right (10 ^ other.power) (not_zero other.mantissa refl) in
    omega (arith, few, unit, some, above, below)
  where
    not_zero : (mantissa : ℕ) → other.mantissa ≡ mantissa → 1 ≤ mantissa
    not_zero zero none = let power = also.zero none in absurd (omega (arith, power, less))
    not_zero (suc mantissa) some = omega arith

not_greater : (mantissa other unit centimetres : ℕ) → mantissa < other → centimetres < (mantissa + 1) * unit → other * unit ≤ centimetres → ⊥
not_greater mantissa other unit centimetres less above below =
    let more : (mantissa + 1) * unit ≤ other * unit = mul-le-mul_right unit (omega (arith, less)) in omega (arith, more, above, below)

neither : (n m : ℕ) → (n < m → ⊥) → (m < n → ⊥) → n ≡ m
neither n m low high = elim (cases_lt n m) [
  | inl less ↦ absurd (low less)
  | inr less ↦ elim (cases_lt m n) [ inl more ↦ absurd (high more) | inr more ↦ omega arith ]
]

precision_same : (size other : Precision) → size.mantissa ≡ other.mantissa → size.power ≡ other.power → size ≡ other
precision_same size other mantissa power = λ i. record { mantissa = mantissa i; power = power i }

size_one : {text : List ℕ} {size other : Precision} → SpellsSize text size → SpellsSize text other → size ≡ other
size_one {text} {size} {other} is also =
    let same = metres_one is.metres also.metres in
    let below : other.mantissa * 10 ^ other.power ≤ is.centimetres = (let b = also.below in omega (arith, b, same)) in
    let above : is.centimetres < (other.mantissa + 1) * 10 ^ other.power = (let a = also.above in omega (arith, a, same)) in
    let power : size.power ≡ other.power = neither size.power other.power
    (λ less. not_higher size other is.centimetres is.is also.is less is.above below)
    (λ less. not_higher other size is.centimetres also.is is.is less above is.below) in
    let below_here : other.mantissa * 10 ^ size.power ≤ is.centimetres =
    subst (λ n. other.mantissa * 10 ^ n ≤ is.centimetres) (sym power) below in
    let above_here : is.centimetres < (other.mantissa + 1) * 10 ^ size.power =
    subst (λ n. is.centimetres < (other.mantissa + 1) * 10 ^ n) (sym power) above in
    let mantissa = neither size.mantissa other.mantissa
    (λ less. not_greater size.mantissa other.mantissa (10 ^ size.power) is.centimetres less is.above below_here)
    (λ less. not_greater other.mantissa size.mantissa (10 ^ size.power) is.centimetres less above_here is.below) in
    precision_same size other mantissa power

sizes_one : (words : List (List ℕ)) (sizes others : List Precision) → AllZip SpellsSize words sizes → AllZip SpellsSize words others → sizes ≡ others
sizes_one [] [] [] each also = refl
sizes_one [] [] (other ∷ others) each also = absurd also
sizes_one [] (size ∷ sizes) others each also = absurd each
sizes_one (word ∷ words) [] others each also = absurd each
sizes_one (word ∷ words) (size ∷ sizes) [] each also = absurd also
sizes_one (word ∷ words) (size ∷ sizes) (other ∷ others) each also =
    let first = size_one each.0 also.0 in
    let behind = sizes_one words sizes others each.1 also.1 in
    λ i. first i ∷ behind i

abbrev sizes_of : Location → List Precision
sizes_of location = location.size ∷ location.horizontal ∷ location.vertical ∷ []

location_same : (location other : Location) → sizes_of location ≡ sizes_of other → location.latitude ≡ other.latitude
    → location.longitude ≡ other.longitude → location.altitude ≡ other.altitude → location ≡ other
location_same location other sizes latitude longitude altitude =
    let size : location.size ≡ other.size = cc in
    let horizontal : location.horizontal ≡ other.horizontal = cc in
    let vertical : location.vertical ≡ other.vertical = cc in
    λ i. record {
      size = size i;
      horizontal = horizontal i;
      vertical = vertical i;
      latitude = latitude i;
      longitude = longitude i;
      altitude = altitude i;
    }

pub location_one : {location other : Location} {tokens : List Token} → ScansLocation location tokens → ScansLocation other tokens → location ≡ other
location_one {location} {other} scans also =
    let north = arc_one 78 83 (omega arith) (omega arith) (λ same. omega (arith, same)) {ms = scans.longitude ++ scans.altitude ∷ scans.sizes}
    {ns = also.longitude ++ also.altitude ∷ also.sizes} scans.north also.north
    (sym (append_assoc scans.latitude scans.longitude (scans.altitude ∷ scans.sizes)) ∙ sym scans.written ∙ also.written
    ∙ append_assoc also.latitude also.longitude (also.altitude ∷ also.sizes)) in
    let east = arc_one 69 87 (omega arith) (omega arith) (λ same. omega (arith, same)) {ms = scans.altitude ∷ scans.sizes}
    {ns = also.altitude ∷ also.sizes} scans.east also.east north.1 in
    let behind = east.1 in
    let altitudes : scans.altitude ≡ also.altitude = cc in
    let words : scans.sizes ≡ also.sizes = cc in
    let sizes = sizes_one (scans.sizes ++ drop (length scans.sizes) usual_sizes) (sizes_of location) (sizes_of other) scans.sized.each
    (subst (λ (l : List (List ℕ)). AllZip SpellsSize (l ++ drop (length l) usual_sizes) (sizes_of other)) (sym words) also.sized.each) in
    location_same location other sizes north.0 east.0
    (altitude_one scans.above (subst (λ (l : List ℕ). SpellsAltitude l other.altitude) (sym altitudes) also.above))
