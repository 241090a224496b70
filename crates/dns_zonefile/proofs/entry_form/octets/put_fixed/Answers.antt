use Rattle.std.proofs.Common.{◌-◌, ◌++◌, List, ℕ, ap, ◌∙◌, arith, length, length-append}
use Rattle.dns_entry_scanner.proofs.RoomBehind.{has_none, has_over}
use Rattle.dns_zonefile.proofs.entry_form.octets.put_fixed.Goals as goal

pub returns : goal.returns
returns c = λ owned has.
    let long = has.long in
    let size = ap (λ (l : List ℕ). length l) has.is in
    has_none _ _ (has_over owned c.fixed_octets-fixed.result _ _ 10 0 _ has (omega (arith, c.fixed_octets-fixed.ensures.long))
    (omega (arith, size, long, length-append owned has.others)) c.patch.ensures.octets)
    ∙ ap (λ (l : List ℕ). owned ++ l) c.fixed_octets-fixed.ensures.octets
