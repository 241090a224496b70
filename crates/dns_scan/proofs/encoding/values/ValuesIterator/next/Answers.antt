use Rattle.std.proofs.Common.{◌≡◌, ℕ, ◌+◌, ◌-◌, List, [], ◌∷◌, ◌++◌, length, sym, ◌∙◌, ap, arith, rules, append_assoc, length-append}
use Rattle.dns_scan.specs.Bits.{bits, all_bits, numbers_of}
use Rattle.dns_scan.proofs.BitLists.{length-bits}
use Rattle.dns_scan.proofs.Groups.{first_number, last_number}
use Rattle.dns_scan.proofs.encoding.values.ValuesIterator.next.Goals as goal
use Rattle.dns_scan.proofs.encoding.values.ValuesIterator.next.Goals.{After-take, After-take-in-Some, After-take-in-None-2}

waited : (c : After-take) → c.args.self.now ≡ c.take.result ∷ numbers_of c.self.inside.width (c.take.new.self ++ all_bits 8 c.self.inside.octets.now)
waited c =
    let wide = c.self.invariant.0 in
    sym c.self.view_is ∙ first_number c.self.inside.width c.take.result c.self.inside.waiting c.take.new.self
    (all_bits 8 c.self.inside.octets.now) (omega arith) c.take.ensures.small c.take.ensures.taken

pub returns-then-count-self-clause-steps : goal.returns-then-count-self-clause-steps
returns-then-count-self-clause-steps c = waited c

pub returns-then-count-self-clause-goes : goal.returns-then-count-self-clause-goes
returns-then-count-self-clause-goes c = let steps = waited c in search rules

pub take-requires-in-Some : goal.take-requires-in-Some
take-requires-in-Some c =
    let size = ap (length {A = ℕ}) c.push.ensures in
    let wide = c.self.invariant.1 in
    omega (arith, size, length-append c.self.inside.waiting (bits 8 c.in-Some.octet), length-bits 8 c.in-Some.octet)

room : (waiting pushed left : List ℕ) (more count number other : ℕ) → pushed ≡ waiting ++ bits more other → pushed ≡ bits count number ++ left
    → length left + count ≡ length waiting + more
room waiting pushed left more count number other is taken =
    omega (
      arith,
      ap (length {A = ℕ}) is,
      ap (length {A = ℕ}) taken,
      length-append waiting (bits more other),
      length-append (bits count number) left,
      length-bits more other,
      length-bits count number,
    )

pub invariant_of-self-in-Some : goal.invariant_of-self-in-Some
invariant_of-self-in-Some c =
    let size = room c.self.inside.waiting c.push.new.self c.take-in-Some.new.self 8 c.self.inside.width c.take-in-Some.result c.in-Some.octet
    c.push.ensures c.take-in-Some.ensures.taken in
    (c.self.invariant.0, c.self.invariant.1, omega arith)

pub take-requires-in-None-2 : goal.take-requires-in-None-2
take-requires-in-None-2 c =
    let size = ap (length {A = ℕ}) c.push-in-None-2.ensures in
    let count = c.self.inside.width - c.len-count.result in
    let counted = c.len-count.ensures in
    omega (arith, size, length-append c.self.inside.waiting (bits count 0), length-bits count 0)

pub invariant_of-self-in-None-2 : goal.invariant_of-self-in-None-2
invariant_of-self-in-None-2 c =
    let counted = c.len-count.ensures in
    let size = room c.self.inside.waiting c.push-in-None-2.new.self c.take-in-None-2.new.self (c.self.inside.width - c.len-count.result)
    c.self.inside.width c.take-in-None-2.result 0 c.push-in-None-2.ensures c.take-in-None-2.ensures.taken in
    (c.self.invariant.0, c.self.invariant.1, omega arith)

read : (c : After-take-in-Some)
    → c.args.self.now ≡ c.take-in-Some.result ∷ numbers_of c.self.inside.width (c.take-in-Some.new.self ++ all_bits 8 c.in-Some.behind.now)
read c =
    let wide = c.self.invariant.0 in
    let w = c.self.inside.width in
    let rest = all_bits 8 c.in-Some.behind.now in
    sym c.self.view_is
    ∙ ap (λ (l : List ℕ). numbers_of w (c.self.inside.waiting ++ all_bits 8 l)) c.in-Some.ensures.found.1
    ∙ ap (numbers_of w) (sym (append_assoc c.self.inside.waiting (bits 8 c.in-Some.octet) rest))
    ∙ ap (λ (l : List ℕ). numbers_of w (l ++ rest)) (sym c.push.ensures)
    ∙ first_number w c.take-in-Some.result c.push.new.self c.take-in-Some.new.self rest (omega arith) c.take-in-Some.ensures.small
    c.take-in-Some.ensures.taken

pub returns-in-Some-clause-steps : goal.returns-in-Some-clause-steps
returns-in-Some-clause-steps c = read c

pub returns-in-Some-clause-goes : goal.returns-in-Some-clause-goes
returns-in-Some-clause-goes c = let steps = read c in search rules

ended : (c : After-take-in-None-2)
    → c.args.self.now ≡ c.take-in-None-2.result ∷ numbers_of c.self.inside.width (c.take-in-None-2.new.self ++ all_bits 8 c.self.inside.octets.now)
ended c =
    let w = c.self.inside.width in
    let none : c.self.inside.octets.now ≡ [] = c.in-None-2.ensures.none in
    let counted = c.len-count.ensures in
    let filled = c.push-in-None-2.ensures ∙ ap (λ n. c.self.inside.waiting ++ bits (w - n) 0) counted in
    sym c.self.view_is
    ∙ ap (λ (l : List ℕ). numbers_of w (c.self.inside.waiting ++ all_bits 8 l)) none
    ∙ last_number w c.take-in-None-2.result c.self.inside.waiting c.push-in-None-2.new.self c.take-in-None-2.new.self (omega arith) (omega arith)
    c.take-in-None-2.ensures.small filled c.take-in-None-2.ensures.taken
    ∙ ap (λ (l : List ℕ). c.take-in-None-2.result ∷ numbers_of w (c.take-in-None-2.new.self ++ all_bits 8 l)) (sym none)

pub returns-in-None-2-clause-steps : goal.returns-in-None-2-clause-steps
returns-in-None-2-clause-steps c = ended c

pub returns-in-None-2-clause-goes : goal.returns-in-None-2-clause-goes
returns-in-None-2-clause-goes c = let steps = ended c in search rules
