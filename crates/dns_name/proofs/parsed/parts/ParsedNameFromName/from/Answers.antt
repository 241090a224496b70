use Rattle.std.proofs.Common.{List, ℕ, length, ap, ◌∙◌, sym}
use Rattle.std.proofs.lemmas.Grind.{merely}
use Rattle.dns_label.specs.Name.{wire}
use Rattle.dns_wire.proofs.Flat.{flat-reads, flat-labels}
use Rattle.dns_wire.proofs.Readable.{read_at}
use Rattle.dns_name.proofs.parsed.parts.ParsedNameFromName.from.Goals as goal

pub invariant_of-result : goal.invariant_of-result
invariant_of-result g c =
    let is = c.into_octets.ensures in
    let is_name = c.len-len.ensures.name in
    record {
      reads = merely (read_at _ _ _ _ (flat-reads _ _ is_name is));
      counted = c.len-len.ensures.octets ∙ ap (λ (n : List (List ℕ)). length (wire n)) (sym (flat-labels _ _ is_name is));
    }
