use Rattle.std.proofs.Common.{◌≡◌, ◌+◌, ◌≤◌, ◌<◌, ℕ, List, [], ◌∷◌, ◌++◌, length, refl, sym, ◌∙◌, ap, subst, arith, append-nil, length-append}
use Rattle.dns_scan.specs.Bits.{bits}
use Rattle.dns_scan.specs.Base.{width, size}
use Rattle.dns_scan.specs.Decoding.{progress_of}
use Rattle.dns_scan.specs.declared.encoding.base.Base.{Base}
use Rattle.dns_scan.specs.declared.encoding.base.Base.TheVariants.{Sixteen, ThirtyTwoHex, SixtyFour}
use Rattle.dns_scan.proofs.BitLists.{length-bits}
use Rattle.dns_scan.proofs.Decoded.{read_more, nothing_behind_pads, no_character}
use Rattle.dns_scan.proofs.encoding.group.Group.push_character.Goals as goal

few : (base : Base) → width base ≤ 6
few Sixteen = omega arith
few ThirtyTwoHex = omega arith
few SixtyFour = omega arith

room : (waiting pushed left : List ℕ) (count number octet : ℕ) → pushed ≡ waiting ++ bits count number → pushed ≡ bits 8 octet ++ left
    → length left + 8 ≡ length waiting + count
room waiting pushed left count number octet is taken =
    omega (
      arith,
      ap (length {A = ℕ}) is,
      ap (length {A = ℕ}) taken,
      length-append waiting (bits count number),
      length-append (bits 8 octet) left,
      length-bits 8 octet,
      length-bits count number,
    )

pub returns-then-self-gt0-clause-why : goal.returns-then-self-gt0-clause-why
returns-then-self-gt0-clause-why c = λ octets.
    let pads = ap (λ p. p.pads) c.self.view_is in
    (omega arith, nothing_behind_pads c.args.base (progress_of octets c.args.self.now) c.args.character (omega arith) c.requires)

pub returns-in_default-clause-why : goal.returns-in_default-clause-why
returns-in_default-clause-why c = λ octets. (
  refl,
  (let pads = ap (λ p. p.pads) c.self.view_is in omega arith),
  c.in_default.ensures.none,
  no_character c.args.base (progress_of octets c.args.self.now) c.args.character c.in_default.ensures.none c.requires,
)

pub returns-then-len-lt8-clause-ok : goal.returns-then-len-lt8-clause-ok
returns-then-len-lt8-clause-ok c = λ octets text read.
    let view = c.self.view_is in
    let pads = ap (λ p. p.pads) view in
    let at = c.in-Some.ensures.found in
    let counted = c.len.ensures in
    read_more c.args.base (progress_of octets c.args.self.now) _ text c.args.character c.in-Some.number [] read (omega arith) (omega arith)
    refl at.0 at.1 refl
    (ap (λ p. p.waiting ++ bits (width c.args.base) c.in-Some.number) (sym view)
    ∙ ap (λ n. c.self.inside.waiting ++ bits n c.in-Some.number) (sym c.width.ensures) ∙ sym c.push.ensures)
    (omega arith) tt

pub returns-clause-whole : goal.returns-clause-whole
returns-clause-whole c =
    let view = c.self.view_is in
    let pads = ap (λ p. p.pads) view in
    let waits = ap (λ p. length p.waiting) view in
    let at = c.in-Some.ensures.found in
    let wide = c.width.ensures in
    let counted = c.len.ensures in
    let pushed = ap (length {A = ℕ}) c.push.ensures in (
      omega arith,
      subst (λ n. n < size c.args.base) at.0 at.1,
      omega (
        arith,
        pushed,
        length-append c.self.inside.waiting (bits c.width.result c.in-Some.number),
        length-bits c.width.result c.in-Some.number,
      ),
    )

pub invariant_of-self-2 : goal.invariant_of-self-2
invariant_of-self-2 c =
    let size = room c.self.inside.waiting c.push.new.self c.take.new.self c.width.result c.in-Some.number c.take.result
    c.push.ensures c.take.ensures.taken in
    let wide = c.width.ensures in
    let small = few c.args.base in
    (omega arith, c.self.invariant.1)

pub returns-clause-ok : goal.returns-clause-ok
returns-clause-ok c = λ octets text read.
    let view = c.self.view_is in
    let pads = ap (λ p. p.pads) view in
    let at = c.in-Some.ensures.found in
    let size = room c.self.inside.waiting c.push.new.self c.take.new.self c.width.result c.in-Some.number c.take.result
    c.push.ensures c.take.ensures.taken in
    let wide = c.width.ensures in
    let small = few c.args.base in
    read_more c.args.base (progress_of octets c.args.self.now) _ text c.args.character c.in-Some.number (c.take.result ∷ []) read (omega arith)
    (omega arith) refl at.0 at.1 refl
    (ap (λ p. p.waiting ++ bits (width c.args.base) c.in-Some.number) (sym view)
    ∙ ap (λ n. c.self.inside.waiting ++ bits n c.in-Some.number) (sym c.width.ensures) ∙ sym c.push.ensures
    ∙ c.take.ensures.taken ∙ ap (λ l. l ++ c.take.new.self) (sym (append-nil (bits 8 c.take.result))))
    (omega arith) (c.take.ensures.small, tt)
