use Rattle.std.proofs.Common.{◌≤◌, length, ℕ, ap, arith, rules}
use Rattle.dns_wire.proofs.Readable.{read-name, read-within}
use Rattle.dns_name.proofs.parsed.ParsedNameToName.as_flat_slice.Goals as goal

pub returns-then-is_compressed-clause-name : goal.returns-then-is_compressed-clause-name
returns-then-is_compressed-clause-name g c = read-name _ _ c.args.self.now.reads

pub returns-clause-name : goal.returns-clause-name
returns-clause-name g c = read-name _ _ c.args.self.now.reads

pub slice_bounds-rest-count : goal.slice_bounds-rest-count
slice_bounds-rest-count g c =
    let within = read-within _ _ c.args.self.now.reads in
    omega (arith, ap (length {A = ℕ}) c.octets.ensures)

pub slice_bounds-rest-start : goal.slice_bounds-rest-start
slice_bounds-rest-start g c =
    let within = read-within _ _ c.args.self.now.reads in
    let here : c.args.self.now.start ≤ length c.octets.result.now = omega (arith, ap (length {A = ℕ}) c.octets.ensures) in search rules
