use Rattle.std.proofs.Common.{◌≡◌, ◌∷◌, ◌++◌, ◌∙◌, List, ℕ, length, take, drop, sym, ap, arith, rules, Fits, w8}
use Rattle.std.proofs.lemmas.List.{take-append-drop}
use Rattle.dns_field_texts.proofs.bitmap.windows.split_window.Goals as goal

pub returns-clause-some : goal.returns-clause-some
returns-clause-some c =
    let number = c.in_ok-number.field-0-0.now in
    let count = c.in_ok-count.field-0-0.now in
    let rest = c.in_ok-count.behind.now in
    let window = c.in_ok-window.window.now in
    let behind = c.in_ok-window.behind.now in
    let at : c.args.octets.now ≡ number ∷ count ∷ rest = search rules in
    let cut = c.in_ok-window.ensures.cases in
    let parts : take c.from.result rest ++ drop c.from.result rest ≡ rest = take-append-drop c.from.result rest in
    let front : window ≡ take c.from.result rest = cut.1 in
    let back : behind ≡ drop c.from.result rest = cut.2 in
    let whole : rest ≡ window ++ behind = cc in
    let size : count ≡ c.from.result = search rules in
    let long : count ≡ length window = size ∙ sym cut.3 in
    record {
      written = at ∙ ap (λ (l : List ℕ). number ∷ count ∷ l) whole ∙ ap (λ n. number ∷ n ∷ (window ++ behind)) long;
      small = (let h = c.type_inv.octets 0 in let g : Fits w8 number = rw at at h in omega (arith, g));
    }
