use Rattle.std.proofs.Common.{◌≡◌, ◌∙◌, ◌-◌, ℕ, List, length, take, drop, ap, arith, rules, length-drop}
use Rattle.std.specs.Prelude.{min}
use Rattle.std.proofs.lemmas.List.{take_all, take_min}
use Rattle.dns_builder.proofs.opt.move_down.chunk_at.Goals as goal

pub returns : goal.returns
returns c =
    let octets : List ℕ = c.args.octets.now in
    let place : ℕ = c.args.place in
    let left : List ℕ = take (length octets - place) (drop place octets) in
    let is : c.try_extend_from_slice.new.self.items ≡ take (min 64 (length left)) left = search rules in
    is ∙ take_min 64 left ∙ ap (take 64) (take_all (length octets - place) (drop place octets) (omega (arith, length-drop place octets)))
