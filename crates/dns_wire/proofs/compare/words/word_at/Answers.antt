use Rattle.std.proofs.Common.{◌≡◌, ◌-◌, ◌≤◌, ◌∙◌, length, take, drop, ap, arith}
use Rattle.std.specs.Int.{from_le_bytes, w64}
use Rattle.std.proofs.lemmas.List.{length-drop, length-take, take-take}
use Rattle.std.proofs.lemmas.Nat.{le_bytes_8}
use Rattle.dns_wire.proofs.SameOctets.{word_fits}
use Rattle.dns_wire.proofs.compare.words.word_at.Goals as goal

pub returns : goal.returns
returns c =
    let octets = c.args.octets.now in
    let place = c.args.place in
    let within : 8 ≤ length octets - place = omega arith in
    let is : c.in-Some.word.now ≡ take 8 (drop place octets) =
    c.in-Some.ensures.cases.same ∙ take-take 8 (length octets - place) (drop place octets) within in
    le_bytes_8 (take 8 (drop place octets)) c.from_le_bytes.result
    (omega (arith, length-take 8 (drop place octets), length-drop place octets))
    (word_fits place octets (λ i. (c.type_inv.octets i).fits))
    (c.from_le_bytes.ensures ∙ ap (from_le_bytes w64) is)
