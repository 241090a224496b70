-- Tokens are one list of service parameters at most.
use Rattle.std.proofs.Common.{◌≡◌, ◌≢◌, ℕ, List, [], ◌∷◌, refl, sym, ◌∙◌, subst, inl, inr}
use Rattle.std.proofs.lemmas.List.Sorted.{IsPermutation-sym, IsPermutation-trans}
use Rattle.std.specs.List.{AllByRecursion}
use Rattle.std.specs.List.Sorted.{IsPermutation}
use Rattle.dns_scan.specs.Token.{Takes, Token}
use Rattle.dns_service_parameters.specs.Service.{IsParameter, Parameter, keys_of}
use Rattle.dns_service_parameters.specs.ServiceText.{ScanInOrder, ScansParameter, ScansParameters, TakesWord}
use Rattle.dns_service_parameters.proofs.ServiceOne.{IsShaped, scans_one}
use Rattle.dns_service_parameters.proofs.ServiceOrder.{each_permutation, parameters_one, rises_ascend}

none_taken : {Fits : Token → Type 0} {tokens left : List Token} → tokens ≡ [] → Takes Fits tokens left → ⊥
none_taken none takes = let same = sym none ∙ takes.is in absurd (cc)

word_some : {tokens left : List Token} (word text : List ℕ) → TakesWord word text tokens left → tokens ≢ []
word_some word text (inl is) none = none_taken none is.0
word_some word text (inr (inl is)) none = none_taken none is.2
word_some word text (inr (inr is)) none = none_taken none is.1

scans_some : {tokens left : List Token} (parameter : Parameter) → ScansParameter parameter tokens left → tokens ≢ []
scans_some parameter scans = word_some scans.word scans.text scans.takes

-- as they are listed
order_one : (xs ys : List Parameter) (tokens : List Token) → AllByRecursion IsParameter xs → AllByRecursion IsParameter ys → ScanInOrder xs tokens
    → ScanInOrder ys tokens → xs ≡ ys
order_one [] [] tokens is also scanned others = refl
order_one [] (y ∷ ys) tokens is also scanned others = absurd (scans_some y others.1 scanned)
order_one (x ∷ xs) [] tokens is also scanned others = absurd (scans_some x scanned.1 others)
order_one (x ∷ xs) (y ∷ ys) tokens is also scanned others =
    let one = scans_one x y tokens scanned.0 others.0 (shaped x is.0) (shaped y also.0) scanned.1 others.1 in
    let behind = order_one xs ys others.0 is.1 also.1 (subst (ScanInOrder xs) one.1 scanned.2) others.2 in
    λ i. one.0 i ∷ behind i
  where
    shaped : (parameter : Parameter) → IsParameter parameter → IsShaped parameter
    shaped parameter is = record { small = is.small; formed = is.formed; fits = is.fits }

pub scanned_parameters_one : {parameters others : List Parameter} {tokens : List Token} → ScansParameters parameters tokens
    → ScansParameters others tokens → parameters ≡ others
scanned_parameters_one {parameters} {others} {tokens} scans also =
    let back = IsPermutation-sym scans.listed parameters scans.ordered in
    let each = each_permutation IsParameter parameters scans.listed back scans.are.each in
    let each_also = each_permutation IsParameter others also.listed (IsPermutation-sym also.listed others also.ordered) also.are.each in
    let same = order_one scans.listed also.listed tokens each each_also scans.scanned also.scanned in
    parameters_one parameters others
    (IsPermutation-trans parameters also.listed others (subst (IsPermutation parameters) same back) also.ordered)
    scans.are.ascend (rises_ascend (keys_of others) also.are.ascend)
