-- Octets that overwrite others: after a front, or all of it.
use Rattle.std.proofs.Common.{◌≡◌, ◌+◌, ℕ, List, ◌++◌, length, take, drop, ◌∙◌, ap, arith, append_assoc}
use Rattle.std.proofs.Math.Seq.{take-append-add, drop-append-add}
use Rattle.dns_name.specs.Remembered.{patched}

-- after the front
pub patched_behind : (front tail : List ℕ) (place : ℕ) (over : List ℕ)
    → patched (front ++ tail) (length front + place) over ≡ front ++ patched tail place over
patched_behind front tail place over =
    let rest : drop (length front + place + length over) (front ++ tail) ≡ drop (place + length over) tail =
    ap (λ n. drop n (front ++ tail)) (omega arith) ∙ drop-append-add front tail (place + length over) in
    ap (λ l. l ++ (over ++ drop (length front + place + length over) (front ++ tail))) (take-append-add front tail place)
    ∙ ap (λ l. (front ++ take place tail) ++ (over ++ l)) rest ∙ append_assoc front (take place tail) _

-- over the front
pub patched_front : (front over tail : List ℕ) → length front ≡ length over → patched (front ++ tail) 0 over ≡ over ++ tail
patched_front front over tail long =
    ap (λ l. over ++ l) (ap (λ n. drop n (front ++ tail)) (omega arith) ∙ drop-append-add front tail 0)
