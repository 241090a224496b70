-- Strings in a message.
use Rattle.std.proofs.Common.{◌≡◌, ℕ, ◌+◌, ◌-◌, ◌<◌, ◌≤◌, List, [], ◌∷◌, length, take, drop, get_or, sym, ◌∙◌, ap, subst, arith, length-append, suc}
use Rattle.std.proofs.lemmas.List.{length-drop, length-take-le, take-append-drop, drop-drop, take_all}
use Rattle.dns_scan.specs.CharStr.{StartsWithString}

-- if there is a string, it ends within the octets
pub string_fits : (octets front string rest : List ℕ) (place number : ℕ) → front ≡ take 1 (drop place octets) → number ≡ get_or front 0 0
    → StartsWithString (drop place octets) string rest → place ≤ length octets → place + (1 + number) ≤ length octets
string_fits octets front string rest place number is first starts within =
    let one : front ≡ length string ∷ [] = is ∙ ap (take 1) starts.spelled in
    let size = sym (length-drop place octets) ∙ ap (length {A = ℕ}) starts.spelled in
    let at : get_or front 0 0 ≡ length string = ap (λ (l : List ℕ). get_or l 0 0) one in
    omega (arith, size, length-append string rest, at)

taken_from : (all front taken : List ℕ) (number : ℕ) → front ≡ take 1 all → number ≡ get_or front 0 0
    → taken ≡ take (suc number) all → suc number ≤ length all → number < 256
    → StartsWithString all (take (length taken - 1) (drop 1 taken)) (drop (suc number) all)
taken_from [] front taken number is first all_taken within small = absurd (omega arith)
taken_from (head ∷ all) front taken number is first all_taken within small =
    let at : number ≡ head = first ∙ ap (λ (l : List ℕ). get_or l 0 0) is in
    let inner : take (length taken - 1) (drop 1 taken) ≡ take number all =
    ap (λ (l : List ℕ). take (length l - 1) (drop 1 l)) all_taken ∙ take_all _ (take number all) (omega arith) in
    let size : length (take number all) ≡ number = length-take-le number all (omega arith) in
    let P : List ℕ → Type 0 = λ l. StartsWithString (head ∷ all) l (drop number all) in
    subst P (sym inner) (record {
      spelled =
          ap (λ (n : ℕ). n ∷ all) (sym at ∙ sym size) ∙ ap (λ l. length (take number all) ∷ l) (sym (take-append-drop number all));
      short = omega (arith, size);
    })

-- what is taken by its number is a string
pub string_taken : (octets front taken rest : List ℕ) (place number : ℕ) → front ≡ take 1 (drop place octets) → number ≡ get_or front 0 0
    → taken ≡ take (1 + number) (drop place octets) → place + (1 + number) ≤ length octets → number < 256
    → drop (place + (1 + number)) octets ≡ rest
    → StartsWithString (drop place octets) (take (length taken - 1) (drop 1 taken)) rest
string_taken octets front taken rest place number is first all_taken within small behind =
    let P : List ℕ → Type 0 = λ l. StartsWithString (drop place octets) (take (length taken - 1) (drop 1 taken)) l in
    let one : 1 + number ≡ suc number = omega arith in
    let here : drop (suc number) (drop place octets) ≡ rest =
    ap (λ n. drop n (drop place octets)) (sym one) ∙ drop-drop (1 + number) place octets ∙ behind in
    subst P here (taken_from (drop place octets) front taken number is first
    (all_taken ∙ ap (λ n. take n (drop place octets)) one) (omega (arith, length-drop place octets)) small)
