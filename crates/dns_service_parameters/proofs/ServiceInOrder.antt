-- Tokens that are parameters, one after another, and how they are put in order.
use Rattle.std.proofs.Common.{◌≡◌, ◌≢◌, ◌<◌, ◌≤◌, ◌^◌, ℕ, zero, suc, List, [], ◌∷◌, ◌++◌, length, map, get_or, refl, sym, ◌∙◌, ap, subst, append_assoc, append-nil, arith, inl, inr}
use Rattle.std.proofs.lemmas.List.Sorted.{IsPermutation-map, IsPermutation-sym, IsPermutation-trans}
use Rattle.std.specs.Int.{to_be_bytes, w16}
use Rattle.std.specs.List.{All, AllByRecursion, AllZip, Any, flat_map}
use Rattle.std.specs.List.Sorted.{IsNonDecreasingBy, IsPermutation}
use Rattle.dns_scan.specs.Token.{Token}
use Rattle.dns_service_parameters.specs.declared.scan.Written.{Written}
use Rattle.dns_service_parameters.specs.Service.{AreParameters, HoldsParameters, IsParameter, Parameter, keys_of, octets_of, parameter_octets, value_octets}
use Rattle.dns_service_parameters.specs.ServiceParts.{StartsWithPart}
use Rattle.dns_service_parameters.specs.ServiceRead.{AreWritten, IsWritten, NoParameter, NoParameters, TakesParameter, written_octets}
use Rattle.dns_service_parameters.specs.ServiceText.{AppendsParameters, ScanInOrder, ScansParameter, ScansParameters, TakesQuoted, TakesWord}
use Rattle.dns_service_parameters.proofs.ServiceMade.{parameter_back, parameter_of, parameter_same}
use Rattle.dns_service_parameters.proofs.ServiceOne.{IsShaped, scans_one}
use Rattle.dns_service_parameters.proofs.ServiceOrder.{Rises, each_permutation, parameters_one, rises_sorted}
use Rattle.dns_service_parameters.proofs.ServiceParts.{part_of, part_one}
use Rattle.dns_service_parameters.proofs.ServiceScans.{none_taken, shaped}

-- a parameter takes a token at least
word_some : {tokens left : List Token} (word text : List ℕ) → TakesWord word text tokens left → tokens ≢ []
word_some word text (inl is) none = none_taken none is.0
word_some word text (inr (inl is)) none = none_taken none is.2
word_some word text (inr (inr is)) none = none_taken none is.1

scans_some : {tokens left : List Token} (parameter : Parameter) → ScansParameter parameter tokens left → tokens ≢ []
scans_some parameter scans = word_some scans.word scans.text scans.takes

word_less : {tokens left : List Token} (word text : List ℕ) → TakesWord word text tokens left → length left < length tokens
word_less word text (inl is) = let size = ap (length {A = Token}) is.0.is in omega (arith, size)
word_less word text (inr (inl is)) = let size = ap (length {A = Token}) is.2.is in omega (arith, size)
word_less {left = left} word text (inr (inr is)) =
    let size = ap (length {A = Token}) is.1.is in let more = not_more is.2 in omega (arith, size, more)
  where
    not_more : {tokens : List Token} → TakesQuoted text tokens left → length left ≤ length tokens
    not_more (inl takes) = let size = ap (length {A = Token}) takes.is in omega (arith, size)
    not_more (inr none) = let size = ap (length {A = Token}) none.2 in omega (arith, size)

pub scans_less : {tokens left : List Token} {written : Written} → TakesParameter tokens left written → length left < length tokens
scans_less takes = word_less takes.scans.word takes.scans.text takes.scans.takes

-- as far as they are scanned
pub record Scanned (before left : List Token) (written : List Written) : Type 0 where
  pub listed : List Parameter
  pub each : AllZip IsWritten listed written
  pub ahead : (more : List Parameter) → ScanInOrder more left → ScanInOrder (listed ++ more) before
  pub back : (all : List Parameter) → AllByRecursion IsShaped all → ScanInOrder all before
      → (more : List Parameter) × ScanInOrder more left × (all ≡ listed ++ more)

pub scanned_begun : (tokens : List Token) → Scanned tokens tokens []
scanned_begun tokens = record { listed = []; each = tt; ahead = λ more scanned. scanned; back = λ all each scanned. (all, scanned, refl) }

zip_push : {A B : Type 0} (R : A → B → Type 0) (xs : List A) (ys : List B) (x : A) (y : B) → AllZip R xs ys → R x y → AllZip R (xs ++ x ∷ []) (ys ++ y ∷ [])
zip_push R [] [] x y each is = (is, tt)
zip_push R [] (b ∷ ys) x y each is = absurd each
zip_push R (a ∷ xs) [] x y each is = absurd each
zip_push R (a ∷ xs) (b ∷ ys) x y each is = (each.0, zip_push R xs ys x y each.1 is)

last_shaped : (P : Parameter → Type 0) (listed more : List Parameter) (one : Parameter) → AllByRecursion P (listed ++ one ∷ more) → P one
last_shaped P [] more one each = each.0
last_shaped P (first ∷ listed) more one each = last_shaped P listed more one each.1

written_shaped : (parameter : Parameter) (written : Written) → IsWritten parameter written → IsShaped parameter
written_shaped parameter written is = record { small = is.small; formed = is.formed; fits = is.fits }

pub scanned_more : {before left next : List Token} {written : List Written} {one : Written} → Scanned before left written → TakesParameter left next one
    → Scanned before next (written ++ one ∷ [])
scanned_more {before} {left} {next} {written} {one} so_far takes = record {
  listed = so_far.listed ++ takes.parameter ∷ [];
  each = zip_push IsWritten so_far.listed written takes.parameter one so_far.each takes.is;
  ahead = λ more scanned.
      subst (λ (l : List Parameter). ScanInOrder l before) (sym (append_assoc so_far.listed (takes.parameter ∷ []) more))
      (so_far.ahead (takes.parameter ∷ more) (next, takes.scans, scanned));
  back = λ all each scanned.
      let before = so_far.back all each scanned in by all each before.0 before.1 before.2;
}
  where
    by : (all : List Parameter) → AllByRecursion IsShaped all → (more : List Parameter) → ScanInOrder more left → all ≡ so_far.listed ++ more
        → (others : List Parameter) × ScanInOrder others next × (all ≡ (so_far.listed ++ takes.parameter ∷ []) ++ others)
    by all each [] none whole = absurd (scans_some takes.parameter takes.scans none)
    by all each (parameter ∷ more) scanned whole =
        let is = last_shaped IsShaped so_far.listed more parameter (subst (AllByRecursion IsShaped) whole each) in
        let one = scans_one parameter takes.parameter left scanned.0 next is (written_shaped takes.parameter one takes.is) scanned.1 takes.scans in (
          more,
          subst (ScanInOrder more) one.1 scanned.2,
          whole ∙ ap (λ (p : Parameter). so_far.listed ++ p ∷ more) one.0
              ∙ sym (append_assoc so_far.listed (takes.parameter ∷ []) more),
        )

all_shaped : (parameters : List Parameter) → AllByRecursion IsParameter parameters → AllByRecursion IsShaped parameters
all_shaped [] each = tt
all_shaped (parameter ∷ parameters) each = (shaped parameter each.0, all_shaped parameters each.1)

pub scanned_none : {before left : List Token} {written : List Written} → Scanned before left written → left ≢ [] → NoParameter left → NoParameters before
scanned_none {before} {left} {written} so_far some none parameters scans =
    let each = each_permutation IsParameter parameters scans.listed (IsPermutation-sym scans.listed parameters scans.ordered) scans.are.each in
    let rest = so_far.back scans.listed (all_shaped scans.listed each) scans.scanned in by each rest.0 rest.1 rest.2
  where
    by : AllByRecursion IsParameter scans.listed → (more : List Parameter) → ScanInOrder more left → scans.listed ≡ so_far.listed ++ more → ⊥
    by each [] scanned whole = some scanned
    by each (parameter ∷ more) scanned whole =
        none parameter scanned.0 (last_shaped IsParameter so_far.listed more parameter (subst (AllByRecursion IsParameter) whole each)) scanned.1

pub scanned_all : {before left : List Token} {written : List Written} → Scanned before left written → left ≡ [] → AreWritten before written
scanned_all {before} so_far none = record {
  listed = so_far.listed;
  scanned = subst (λ (l : List Parameter). ScanInOrder l before) (append-nil so_far.listed) (so_far.ahead [] none);
  each = so_far.each;
}

-- the tokens are one list of parameters
order_one : (xs ys : List Parameter) (tokens : List Token) → AllByRecursion IsShaped xs → AllByRecursion IsShaped ys → ScanInOrder xs tokens → ScanInOrder ys tokens
    → xs ≡ ys
order_one [] [] tokens is also scanned others = refl
order_one [] (y ∷ ys) tokens is also scanned others = absurd (scans_some y others.1 scanned)
order_one (x ∷ xs) [] tokens is also scanned others = absurd (scans_some x scanned.1 others)
order_one (x ∷ xs) (y ∷ ys) tokens is also scanned others =
    let one = scans_one x y tokens scanned.0 others.0 is.0 also.0 scanned.1 others.1 in
    let behind = order_one xs ys others.0 is.1 also.1 (subst (ScanInOrder xs) one.1 scanned.2) others.2 in
    λ i. one.0 i ∷ behind i

-- what was read is of one parameter
record IsOf (written : Written) : Type 0 where
  shape : IsShaped (parameter_of written)
  octets : value_octets (parameter_of written).value ≡ written.value.items

is_of : (parameter : Parameter) (written : Written) → IsWritten parameter written → (parameter ≡ parameter_of written) × IsOf written
is_of parameter written is =
    let same = parameter_back parameter written is.formed is.fits is.key is.value in (
      same,
      record {
        shape = subst IsShaped same (written_shaped parameter written is);
        octets = ap (λ (p : Parameter). value_octets p.value) (sym same) ∙ is.value;
      },
    )

listed_is : (listed : List Parameter) (written : List Written) → AllZip IsWritten listed written → (listed ≡ map parameter_of written) × AllByRecursion IsOf written
listed_is [] [] each = (refl, tt)
listed_is [] (w ∷ written) each = absurd each
listed_is (p ∷ listed) [] each = absurd each
listed_is (p ∷ listed) (w ∷ written) each =
    let first = is_of p w each.0 in let behind = listed_is listed written each.1 in
    ((λ i. first.0 i ∷ behind.0 i), (first.1, behind.1))

shapes : (written : List Written) → AllByRecursion IsOf written → AllByRecursion IsShaped (map parameter_of written)
shapes [] each = tt
shapes (w ∷ written) each = (each.0.shape, shapes written each.1)

octets_written : (written : List Written) → AllByRecursion IsOf written → flat_map written_octets written ≡ octets_of (map parameter_of written)
octets_written [] each = refl
octets_written (w ∷ written) each =
    let first : written_octets w ≡ parameter_octets (parameter_of w) =
    sym (ap (λ (l : List ℕ). to_be_bytes w16 w.key ++ to_be_bytes w16 (length l) ++ l) each.0.octets) in
    let behind = octets_written written each.1 in
    λ i. first i ++ behind i

keys_are : (written : List Written) → map (λ (w : Written). w.key) written ≡ keys_of (map parameter_of written)
keys_are [] = refl
keys_are (w ∷ written) = ap (λ (l : List ℕ). w.key ∷ l) (keys_are written)

-- parameters by their octets
octets_one : (xs ys : List Parameter) → AllByRecursion IsParameter xs → AllByRecursion IsParameter ys → octets_of xs ≡ octets_of ys → xs ≡ ys
octets_one [] [] is also same = refl
octets_one [] (y ∷ ys) is also same = absurd (cc)
octets_one (x ∷ xs) [] is also same = absurd (cc)
octets_one (x ∷ xs) (y ∷ ys) is also same =
    let other = subst (λ (l : List ℕ). StartsWithPart l y.key (value_octets y.value) (octets_of ys)) (sym same) (part_of y (octets_of ys) also.0) in
    let one = part_one (part_of x (octets_of xs) is.0) other in
    let first = parameter_same x y is.0.formed also.0.formed is.0.fits also.0.fits one.0 one.1 in
    let behind = octets_one xs ys is.1 also.1 one.2 in
    λ i. first i ∷ behind i

are_short : (written : List Written) → AllByRecursion IsOf written → All (λ w. length w.value.items < 2 ^ 16) written
    → AllByRecursion IsParameter (map parameter_of written)
are_short [] each all = tt
are_short (w ∷ written) each all =
    let few = all 0 w (omega arith) in
    let sizes = ap (length {A = ℕ}) each.0.octets in (
      record { small = each.0.shape.small; formed = each.0.shape.formed; fits = each.0.shape.fits; short = omega (arith, few, sizes) },
      are_short written each.1 (λ k d within. all (suc k) d (omega arith)),
    )

none_long : (written : List Written) → AllByRecursion IsOf written → AllByRecursion IsParameter (map parameter_of written) → (k : ℕ) (w : Written)
    → k < length written → get_or written k w ≡ w → 2 ^ 16 ≤ length w.value.items → ⊥
none_long [] each is k w within at long = omega arith
none_long (first ∷ written) each is zero w within at long =
    let few = is.0.short in
    let sizes = ap (length {A = ℕ}) (each.0.octets ∙ ap (λ (x : Written). x.value.items) at) in
    omega (arith, few, sizes, long)
none_long (first ∷ written) each is (suc k) w within at long = none_long written each.1 is.1 k w (omega arith) at long

-- what was read, by its keys
module _ {tokens : List Token} {written : List Written} (sorted : List Written) (is : AreWritten tokens written) (moved : IsPermutation written sorted) where
  listed : (is.listed ≡ map parameter_of written) × AllByRecursion IsOf written
  listed = listed_is is.listed written is.each

  each_of : AllByRecursion IsOf sorted
  each_of = each_permutation IsOf written sorted moved listed.1

  octets_are : flat_map written_octets sorted ≡ octets_of (map parameter_of sorted)
  octets_are = octets_written sorted each_of

  scanned_so : ScanInOrder (map parameter_of written) tokens
  scanned_so = subst (λ (l : List Parameter). ScanInOrder l tokens) listed.0 is.scanned

  pub parameters_appended : {left : List Token} {old new : List ℕ} → All (λ w. length w.value.items < 2 ^ 16) sorted
      → HoldsParameters (flat_map written_octets sorted) → left ≡ [] → new ≡ old ++ flat_map written_octets sorted → AppendsParameters tokens left old new
  parameters_appended {old = old} short holds none behind =
      let each = are_short sorted each_of short in
      let same : holds.parameters ≡ map parameter_of sorted = octets_one holds.parameters (map parameter_of sorted) holds.are.each each (sym holds.written ∙ octets_are) in
      record {
        parameters = map parameter_of sorted;
        scans = record {
          are = subst AreParameters same holds.are;
          listed = map parameter_of written;
          scanned = scanned_so;
          ordered = IsPermutation-map parameter_of written sorted moved;
        };
        none = none;
        behind = behind ∙ ap (λ (l : List ℕ). old ++ l) octets_are;
      }

  same_parameters : IsNonDecreasingBy (λ (w : Written). w.key) sorted → (parameters : List Parameter) → ScansParameters parameters tokens
      → parameters ≡ map parameter_of sorted
  same_parameters up parameters scans =
      let each = each_permutation IsParameter parameters scans.listed (IsPermutation-sym scans.listed parameters scans.ordered) scans.are.each in
      let same = order_one scans.listed (map parameter_of written) tokens (all_shaped scans.listed each) (shapes written listed.1) scans.scanned scanned_so in
      let back = IsPermutation-sym scans.listed parameters scans.ordered in
      let here = subst (IsPermutation parameters) same back in
      parameters_one parameters (map parameter_of sorted)
      (IsPermutation-trans parameters (map parameter_of written) (map parameter_of sorted) here (IsPermutation-map parameter_of written sorted moved))
      scans.are.ascend (subst Rises (keys_are sorted) (rises_sorted (λ (w : Written). w.key) sorted up))

  pub long_value : IsNonDecreasingBy (λ (w : Written). w.key) sorted → Any (λ w. 2 ^ 16 ≤ length w.value.items) sorted → NoParameters tokens
  long_value up long parameters scans =
      let same = same_parameters up parameters scans in
      none_long sorted each_of (subst (AllByRecursion IsParameter) same scans.are.each) long.0 long.1 long.2 long.3 long.4

  pub no_parameters : IsNonDecreasingBy (λ (w : Written). w.key) sorted → (HoldsParameters (flat_map written_octets sorted) → ⊥) → NoParameters tokens
  no_parameters up none parameters scans =
      let same = same_parameters up parameters scans in
      none (record { parameters = parameters; are = scans.are; written = octets_are ∙ sym (ap octets_of same) })
