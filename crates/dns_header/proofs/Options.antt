-- Octets that are options, and these options.
use Rattle.std.proofs.Common.{◌≡◌, ◌≤◌, ◌<◌, ◌+◌, ◌^◌, ℕ, zero, suc, List, [], ◌∷◌, ◌++◌, length, take, drop, refl, sym, ◌∙◌, ap, subst, arith, length-append}
use Rattle.std.specs.Int.{to_be_bytes, from_be_bytes, w16}
use Rattle.std.specs.List.{AllByRecursion}
use Rattle.std.proofs.Math.Seq.{take-append_seam, drop-append_seam}
use Rattle.std.proofs.lemmas.List.{take-append-drop, drop-drop}
use Rattle.std.proofs.lemmas.Nat.{from_be_bytes-to_be_bytes_2}
use Rattle.dns_octets.specs.Numbers.{number_at}
use Rattle.dns_header.specs.Opt.{EdnsOption, option_octets, options_octets, IsOption, AreOptions, StartsWithOption, first_option, behind_option, first_options, options_of, AreCutOptions}

-- the length of an option at the start
length_is : (option : EdnsOption) (rest : List ℕ) → IsOption option → number_at (option_octets option ++ rest) 2 ≡ length option.octets
length_is option rest is = from_be_bytes-to_be_bytes_2 (length option.octets) is.1

first_is : (option : EdnsOption) (rest : List ℕ) → IsOption option → first_option (option_octets option ++ rest) ≡ option
first_is option rest is =
    let code : number_at (option_octets option ++ rest) 0 ≡ option.code = from_be_bytes-to_be_bytes_2 option.code is.0 in
    let octets : take (number_at (option_octets option ++ rest) 2) (option.octets ++ rest) ≡ option.octets =
    ap (λ n. take n (option.octets ++ rest)) (length_is option rest is) ∙ take-append_seam option.octets rest in
    λ i. record { code = code i; octets = octets i }

behind_is : (option : EdnsOption) (rest : List ℕ) → IsOption option → behind_option (option_octets option ++ rest) ≡ rest
behind_is option rest is = ap (λ n. drop n (option.octets ++ rest)) (length_is option rest is) ∙ drop-append_seam option.octets rest

first_all : (count : ℕ) (options : List EdnsOption) → AllByRecursion IsOption options → length (options_octets options) ≤ count
    → first_options count (options_octets options) ≡ options
first_all zero [] each few = refl
first_all (suc count) [] each few = refl
first_all zero (option ∷ options) each few = absurd (omega arith)
first_all (suc count) (option ∷ options) each few =
    let behind : List ℕ = options_octets options in
    let on : first_options count behind ≡ options = first_all count options each.1 (omega (arith, length-append option.octets behind)) in
    let one = first_is option behind each.0 in
    let others : first_options count (behind_option (option_octets option ++ behind)) ≡ options =
    ap (first_options count) (behind_is option behind each.0) ∙ on in
    λ i. one i ∷ others i

-- the octets of options are split into these
pub options_of-written : (options : List EdnsOption) → AllByRecursion IsOption options → options_of (options_octets options) ≡ options
options_of-written options each = first_all (length (options_octets options)) options each (omega arith)

pub options_cut : (octets : List ℕ) → AreOptions octets → AreCutOptions octets
options_cut octets are =
    let is : options_of octets ≡ are.options = ap options_of are.written ∙ options_of-written are.options are.each in
    record {
      each = subst (λ (options : List EdnsOption). AllByRecursion IsOption options) (sym is) are.each;
      written = ap options_octets is ∙ sym are.written;
    }

pub cut_options : (octets : List ℕ) → AreCutOptions octets → AreOptions octets
cut_options octets cut = record { options = options_of octets; each = cut.each; written = sym cut.written }

pub nothing_is : AreOptions []
nothing_is = record { options = []; each = tt; written = refl }

-- an option and others after it
pub options_more : (octets : List ℕ) (option : EdnsOption) (behind : List ℕ) → StartsWithOption octets option behind → AreOptions behind
    → AreOptions octets
options_more octets option behind starts are = record {
  options = option ∷ are.options;
  each = (starts.is, are.each);
  written = starts.spelled ∙ ap (λ l. option_octets option ++ l) are.written;
}

record Less (octets : List ℕ) (option : EdnsOption) (behind : List ℕ) (options : List EdnsOption) : Type 0 where
  others : List EdnsOption
  is : options ≡ option ∷ others
  written : behind ≡ options_octets others
  each : AllByRecursion IsOption others

less : (octets : List ℕ) (option : EdnsOption) (behind : List ℕ) → StartsWithOption octets option behind → (options : List EdnsOption)
    → AllByRecursion IsOption options → octets ≡ options_octets options → Less octets option behind options
less octets option behind starts [] each written = let bad : [] ≡ option_octets option ++ behind = sym written ∙ starts.spelled in absurd (cc)
less octets option behind starts (first ∷ others) each written =
    let same : option_octets first ++ options_octets others ≡ option_octets option ++ behind = sym written ∙ starts.spelled in
    let one : first ≡ option = sym (first_is first (options_octets others) each.0) ∙ ap first_option same ∙ first_is option behind starts.is in
    let rest : options_octets others ≡ behind =
    sym (behind_is first (options_octets others) each.0) ∙ ap behind_option same ∙ behind_is option behind starts.is in
    record { others = others; is = ap (λ l. l ∷ others) one; written = sym rest; each = each.1 }

pub options_less : (octets : List ℕ) (option : EdnsOption) (behind : List ℕ) → StartsWithOption octets option behind → AreOptions octets
    → AreOptions behind
options_less octets option behind starts are =
    let on = less octets option behind starts are.options are.each are.written in
    record { options = on.others; each = on.each; written = on.written }

-- the options that octets are split into, without the first
pub cut_first : (octets : List ℕ) (option : EdnsOption) (behind : List ℕ) → StartsWithOption octets option behind → AreCutOptions octets
    → options_of octets ≡ option ∷ options_of behind
cut_first octets option behind starts cut =
    let on = less octets option behind starts (options_of octets) cut.each (sym cut.written) in
    on.is ∙ ap (λ l. option ∷ l) (sym (options_of-written on.others on.each) ∙ ap options_of (sym on.written))

pub cut_behind : (octets : List ℕ) (option : EdnsOption) (behind : List ℕ) → StartsWithOption octets option behind → AreCutOptions octets
    → AreCutOptions behind
cut_behind octets option behind starts cut = options_cut behind (options_less octets option behind starts (cut_options octets cut))

no_first : (octets : List ℕ) → ((option : EdnsOption) (rest : List ℕ) → StartsWithOption octets option rest → ⊥) → (options : List EdnsOption)
    → AllByRecursion IsOption options → octets ≡ options_octets options → options ≡ []
no_first octets none [] each written = refl
no_first octets none (first ∷ others) each written =
    absurd (none first (options_octets others) (record { spelled = written; is = each.0 }))

-- if no option is at the start there is none
pub cut_none : (octets : List ℕ) → ((option : EdnsOption) (rest : List ℕ) → StartsWithOption octets option rest → ⊥) → AreCutOptions octets
    → options_of octets ≡ []
cut_none octets none cut = no_first octets none (options_of octets) cut.each (sym cut.written)

pub none_are : (octets : List ℕ) → ((option : EdnsOption) (rest : List ℕ) → StartsWithOption octets option rest → ⊥) → 0 < length octets
    → AreOptions octets → ⊥
none_are octets none some are =
    let no = no_first octets none are.options are.each are.written in
    let bare : octets ≡ [] = are.written ∙ ap options_octets no in
    omega (arith, some, ap (length {A = ℕ}) bare)

-- what is read at the start is an option
pub starts_with : (octets value rest : List ℕ) (code len : ℕ) → to_be_bytes w16 code ≡ take 2 octets → to_be_bytes w16 len ≡ take 2 (drop 2 octets)
    → value ≡ take len (drop 4 octets) → rest ≡ drop (4 + len) octets → length value ≡ len → code < 2 ^ 16 → len < 2 ^ 16
    → StartsWithOption octets (record { code = code; octets = value }) rest
starts_with octets value rest code len code_is len_is value_is rest_is long code_fits len_fits =
    let behind : rest ≡ drop len (drop 4 octets) = rest_is ∙ sym (drop-drop len 4 octets) in
    let last : value ++ rest ≡ drop 2 (drop 2 octets) =
    (λ i. value_is i ++ behind i) ∙ take-append-drop len (drop 4 octets) ∙ sym (drop-drop 2 2 octets) in
    let second : to_be_bytes w16 len ++ (value ++ rest) ≡ drop 2 octets = (λ i. len_is i ++ last i) ∙ take-append-drop 2 (drop 2 octets) in
    let whole : to_be_bytes w16 code ++ (to_be_bytes w16 len ++ (value ++ rest)) ≡ octets =
    (λ i. code_is i ++ second i) ∙ take-append-drop 2 octets in
    record {
      spelled = sym whole ∙ ap (λ n. to_be_bytes w16 code ++ (to_be_bytes w16 n ++ (value ++ rest))) (sym long);
      is = (code_fits, omega (arith, long, len_fits));
    }

-- the number of octets that an option at the start takes
pub option_fits : (octets : List ℕ) (option : EdnsOption) (rest : List ℕ) → StartsWithOption octets option rest → 4 + length option.octets ≤ length octets
option_fits octets option rest starts = omega (arith, ap (length {A = ℕ}) starts.spelled, length-append option.octets rest)

-- and its length is in the third and fourth of them
pub option_length : (octets : List ℕ) (option : EdnsOption) (rest : List ℕ) (len : ℕ) → StartsWithOption octets option rest
    → to_be_bytes w16 len ≡ take 2 (drop 2 octets) → len < 2 ^ 16 → len ≡ length option.octets
option_length octets option rest len starts is fits =
    let same : to_be_bytes w16 len ≡ to_be_bytes w16 (length option.octets) = is ∙ ap (λ l. take 2 (drop 2 l)) starts.spelled in
    sym (from_be_bytes-to_be_bytes_2 len fits) ∙ ap (from_be_bytes w16) same ∙ from_be_bytes-to_be_bytes_2 (length option.octets) starts.is.1
