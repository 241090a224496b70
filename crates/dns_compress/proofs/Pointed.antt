-- A pointer is written over the last two octets of what was appended.
use Rattle.std.proofs.Common.{◌≡◌, ◌+◌, ℕ, List, [], ◌++◌, length, take, drop, ◌∙◌, ap, arith, append_assoc, append-nil, length-append, length-take}
use Rattle.std.proofs.lemmas.List.{take-take, drop_all}
use Rattle.std.proofs.Math.Seq.{take-append-add}
use Rattle.dns_name.specs.Remembered.{patched}

pub pointed_over : (old all now new over : List ℕ) (place front : ℕ) → now ≡ old ++ take (front + 2) all → place ≡ length old + front
    → length over ≡ 2 → new ≡ patched now place over → new ≡ old ++ (take front all ++ over)
pointed_over old all now new over place front appended at two is =
    let cut : List ℕ = take (front + 2) all in
    let first : take (length old + front) (old ++ cut) ≡ old ++ take front all =
    take-append-add old cut front ∙ ap (λ l. old ++ l) (take-take front (front + 2) all (omega arith)) in
    let rest : drop (length old + front + length over) (old ++ cut) ≡ [] =
    drop_all (length old + front + length over) (old ++ cut) (omega (arith, two, length-append old cut, length-take (front + 2) all)) in
    is
    ∙ ap (λ l. patched l place over) appended
    ∙ ap (λ n. patched (old ++ cut) n over) at
    ∙ ap (λ l. l ++ (over ++ drop (length old + front + length over) (old ++ cut))) first
    ∙ ap (λ l. (old ++ take front all) ++ (over ++ l)) rest
    ∙ ap (λ l. (old ++ take front all) ++ l) (append-nil over)
    ∙ append_assoc old (take front all) over
