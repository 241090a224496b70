use Rattle.std.proofs.Common.{ℕ, ◌+◌, ◌<◌, ◌^◌, ◌++◌, length, List, sym, ◌∙◌, ap, subst, arith}
use Rattle.dns_scan.specs.Bits.{bits}
use Rattle.dns_scan.proofs.BitLists.{length-bits}
use Rattle.dns_scan.proofs.BitSteps.{shifted_or, joined_small, pushed}
use Rattle.dns_scan.proofs.encoding.bits.Bits.push.Goals as goal

pub invariant_of-self : goal.invariant_of-self
invariant_of-self c =
    let at = c.self.inside in
    let size = sym (length-bits at.count at.number) ∙ ap (length {A = ℕ}) c.self.view_is in
    let few = c.requires.few in
    let P : ℕ → Type 0 = λ n. n < 2 ^ (at.count + c.args.count) in (
      omega arith,
      subst P (sym (shifted_or at.number at.count c.args.count c.args.number c.self.invariant.1 c.requires.small (omega arith)))
          (joined_small at.number at.count c.args.count c.args.number c.self.invariant.1 c.requires.small),
    )

pub returns : goal.returns
returns c =
    let at = c.self.inside in
    let size = sym (length-bits at.count at.number) ∙ ap (length {A = ℕ}) c.self.view_is in
    let few = c.requires.few in
    pushed at.number at.count c.args.count c.args.number c.self.invariant.1 c.requires.small (omega arith)
    ∙ ap (λ (l : List ℕ). l ++ bits c.args.count c.args.number) c.self.view_is
