use Rattle.std.proofs.Common.{◌+◌, ◌≤◌, ℕ, length, ap, arith, rules}
use Rattle.dns_compress.specs.declared.written.Written.{Written}
use Rattle.dns_compress.proofs.Joined.{total_within, standing_here}
use Rattle.dns_compress.proofs.suffix_list.SuffixList.octets_at.Goals as goal

pub overflow_add-result : goal.overflow_add-result
overflow_add-result c =
    let here : Written = c.get-one.result.now in
    omega (
      arith,
      c.args.self.now.starts c.args.index here c.get-one.ensures,
      total_within c.args.self.now.written.items c.args.index here c.get-one.ensures,
      c.args.self.now.whole,
      ap (length {A = ℕ}) c.deref.ensures.value,
    )

pub slice_bounds-result-end : goal.slice_bounds-result-end
slice_bounds-result-end c =
    let here : Written = c.get-one.result.now in
    let within : here.start + here.len ≤ length c.deref.result.now =
    omega (
      arith,
      c.args.self.now.starts c.args.index here c.get-one.ensures,
      total_within c.args.self.now.written.items c.args.index here c.get-one.ensures,
      c.args.self.now.whole,
      ap (length {A = ℕ}) c.deref.ensures.value,
    ) in
    search (rules, arith)

pub returns : goal.returns
returns c = λ one is.
    standing_here c.args.self.now.octets.items c.deref.result.now c.args.self.now.written.items c.args.index c.get-one.result.now one c.get-one.ensures is
    (c.args.self.now.starts c.args.index c.get-one.result.now c.get-one.ensures) c.deref.ensures.value
