-- Octets that are pieces of one size: addresses.
use Rattle.std.proofs.Common.{◌≡◌, ◌≢◌, ◌+◌, ◌-◌, ◌%◌, ◌<◌, ◌≤◌, ℕ, zero, suc, List, [], ◌∷◌, ◌++◌, length, take, drop, refl, sym, ◌∙◌, ap, subst, arith, length-append, length-take, length-drop}
use Rattle.std.proofs.lemmas.List.{take-append-drop}
use Rattle.std.proofs.Math.Seq.{take-append_seam, drop-append_seam}
use Rattle.std.specs.List.{AllByRecursion, concat}
use Rattle.dns_service_parameters.specs.declared.form.Form.TheVariants.{Ipv4s, Ipv6s}
use Rattle.dns_service_parameters.specs.Service.{IsValue, Value, keys, strings, nothing, number, ipv4s, ipv6s, encoded, plain, form_of, value_octets}
use Rattle.dns_service_parameters.specs.ServiceParts.{HoldsValue, first_pieces, pieces}

-- how multiples of a size are counted
pub record IsSize (size : ℕ) : Type 0 where
  pub above : 0 < size
  pub less : (n : ℕ) → 0 < n → n % size ≡ 0 → (size ≤ n) × ((n - size) % size ≡ 0)
  pub more : (n : ℕ) → n % size ≡ 0 → (size + n) % size ≡ 0
  pub none : 0 % size ≡ 0

pub size_4 : IsSize 4
size_4 = record { above = omega arith; less = λ n some whole. (omega arith, omega arith); more = λ n whole. omega arith; none = refl }

pub size_16 : IsSize 16
size_16 = record { above = omega arith; less = λ n some whole. (omega arith, omega arith); more = λ n whole. omega arith; none = refl }

module _ {size : ℕ} (is : IsSize size) where
  cut : (count : ℕ) (octets : List ℕ) → length octets ≤ count → length octets % size ≡ 0
      → AllByRecursion (λ piece. length piece ≡ size) (first_pieces size count octets) × (concat (first_pieces size count octets) ≡ octets)
  cut zero [] few whole = (tt, refl)
  cut zero (octet ∷ octets) few whole = absurd (omega arith)
  cut (suc count) [] few whole = (tt, refl)
  cut (suc count) (octet ∷ octets) few whole =
      let all : List ℕ = octet ∷ octets in
      let above = is.above in
      let less = is.less (length all) (omega arith) whole in
      let enough = less.0 in
      let rest : length (drop size all) ≡ length all - size = length-drop size all in
      let others = cut count (drop size all) (omega (arith, rest)) (subst (λ (n : ℕ). n % size ≡ 0) (sym rest) less.1) in (
        (omega (arith, length-take size all), others.0),
        ap (λ (l : List ℕ). take size all ++ l) others.1 ∙ take-append-drop size all,
      )

  pub cut_pieces : (octets : List ℕ) → length octets % size ≡ 0
      → AllByRecursion (λ piece. length piece ≡ size) (pieces size octets) × (concat (pieces size octets) ≡ octets)
  cut_pieces octets whole = cut (length octets) octets (omega arith) whole

  pub whole_size : (each : List (List ℕ)) → AllByRecursion (λ piece. length piece ≡ size) each → length (concat each) % size ≡ 0
  whole_size [] all = is.none
  whole_size (piece ∷ each) all =
      let sum : length (piece ++ concat each) ≡ size + length (concat each) = length-append piece (concat each) ∙ ap (λ (n : ℕ). n + length (concat each)) all.0 in
      subst (λ (n : ℕ). n % size ≡ 0) (sym sum) (is.more (length (concat each)) (whole_size each all.1))

  pub some_size : (each : List (List ℕ)) → AllByRecursion (λ piece. length piece ≡ size) each → each ≢ [] → 0 < length (concat each)
  some_size [] all some = absurd (some refl)
  some_size (piece ∷ each) all some =
      let above = is.above in let first = all.0 in omega (arith, length-append piece (concat each))

  back : (count : ℕ) (each : List (List ℕ)) → AllByRecursion (λ piece. length piece ≡ size) each → length (concat each) ≤ count
      → first_pieces size count (concat each) ≡ each
  back zero [] all few = refl
  back (suc count) [] all few = refl
  back zero (piece ∷ each) all few =
      let above = is.above in let first = all.0 in absurd (omega (arith, length-append piece (concat each)))
  back (suc count) (piece ∷ each) all few = by (back count each all.1) (piece ++ concat each) refl
    where
      by : (length (concat each) ≤ count → first_pieces size count (concat each) ≡ each) → (whole : List ℕ) → whole ≡ piece ++ concat each → first_pieces size (suc count) whole ≡ piece ∷ each
      by on [] none =
          let above = is.above in
          let first = all.0 in
          let sizes = ap (length {A = ℕ}) none in absurd (omega (arith, sizes, length-append piece (concat each)))
      by on (octet ∷ octets) whole =
          let above = is.above in
          let first = all.0 in
          let one : take size (octet ∷ octets) ≡ piece =
          ap (take size) whole ∙ ap (λ (n : ℕ). take n (piece ++ concat each)) (sym first) ∙ take-append_seam piece (concat each) in
          let two : drop size (octet ∷ octets) ≡ concat each =
          ap (drop size) whole ∙ ap (λ (n : ℕ). drop n (piece ++ concat each)) (sym first) ∙ drop-append_seam piece (concat each) in
          let others : first_pieces size count (drop size (octet ∷ octets)) ≡ each =
          ap (first_pieces size count) two ∙ on (omega (arith, length-append piece (concat each))) in
          λ i. one i ∷ others i

  pub pieces_back : (each : List (List ℕ)) → AllByRecursion (λ piece. length piece ≡ size) each → pieces size (concat each) ≡ each
  pieces_back each all = back (length (concat each)) each all (omega arith)

some_pieces : (size : ℕ) (octets : List ℕ) → 0 < length octets → concat (pieces size octets) ≡ octets → pieces size octets ≢ []
some_pieces size octets some whole none =
    let sizes = ap (length {A = ℕ}) (sym whole ∙ ap concat none) in omega (arith, sizes)

pub ipv4s_value : {octets : List ℕ} → 0 < length octets → length octets % 4 ≡ 0 → HoldsValue Ipv4s octets
ipv4s_value {octets} some whole =
    let cut = cut_pieces size_4 octets whole in record {
      value = ipv4s (pieces 4 octets);
      formed = refl;
      fits = (some_pieces 4 octets some cut.1, cut.0);
      written = cut.1;
    }

pub ipv6s_value : {octets : List ℕ} → 0 < length octets → length octets % 16 ≡ 0 → HoldsValue Ipv6s octets
ipv6s_value {octets} some whole =
    let cut = cut_pieces size_16 octets whole in record {
      value = ipv6s (pieces 16 octets);
      formed = refl;
      fits = (some_pieces 16 octets some cut.1, cut.0);
      written = cut.1;
    }

pub value_ipv4s : {octets : List ℕ} → HoldsValue Ipv4s octets → (0 < length octets) × (length octets % 4 ≡ 0)
value_ipv4s {octets} holds = by holds.value holds.formed holds.fits holds.written
  where
    by : (value : Value) → form_of value ≡ Ipv4s → IsValue value → value_octets value ≡ octets → (0 < length octets) × (length octets % 4 ≡ 0)
    by (ipv4s each) formed fits written =
        subst (λ (l : List ℕ). (0 < length l) × (length l % 4 ≡ 0)) written (some_size size_4 each fits.1 fits.0, whole_size size_4 each fits.1)
    by (keys each) formed fits written = absurd (cc)
    by (strings each) formed fits written = absurd (cc)
    by nothing formed fits written = absurd (cc)
    by (number n) formed fits written = absurd (cc)
    by (ipv6s each) formed fits written = absurd (cc)
    by (encoded others) formed fits written = absurd (cc)
    by (plain others) formed fits written = absurd (cc)

pub value_ipv6s : {octets : List ℕ} → HoldsValue Ipv6s octets → (0 < length octets) × (length octets % 16 ≡ 0)
value_ipv6s {octets} holds = by holds.value holds.formed holds.fits holds.written
  where
    by : (value : Value) → form_of value ≡ Ipv6s → IsValue value → value_octets value ≡ octets → (0 < length octets) × (length octets % 16 ≡ 0)
    by (ipv6s each) formed fits written =
        subst (λ (l : List ℕ). (0 < length l) × (length l % 16 ≡ 0)) written (some_size size_16 each fits.1 fits.0, whole_size size_16 each fits.1)
    by (keys each) formed fits written = absurd (cc)
    by (strings each) formed fits written = absurd (cc)
    by nothing formed fits written = absurd (cc)
    by (number n) formed fits written = absurd (cc)
    by (ipv4s each) formed fits written = absurd (cc)
    by (encoded others) formed fits written = absurd (cc)
    by (plain others) formed fits written = absurd (cc)
