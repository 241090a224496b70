use Rattle.std.proofs.Common.{◌++◌, List, ℕ, refl, ap, arith, length, length-append, subst}
use Rattle.dns_label.specs.Name.{wire}
use Rattle.dns_entry_scanner.specs.AppendedName.{HasBehind}
use Rattle.dns_entry_scanner.proofs.OneLabel.{label_under}
use Rattle.dns_entry_scanner.proofs.RoomBehind.{has_over}
use Rattle.dns_entry_scanner.proofs.appended_name.append_before.Goals as goal

pub returns-clause-ok : goal.returns-clause-ok
returns-clause-ok c =
    let label = c.args.token.text.now in
    let front : List ℕ = c.push.new.self.items ++ label in
    let has = c.in_ok-append_longer.ensures.ok in
    let long = has.long in
    let size = ap (length {A = ℕ}) has.is in (
      front ++ wire c.args.origin.now,
      label_under label c.args.origin.now c.args.octets.now.items _ front _ c.requires.all c.requires.some c.requires.short c.requires.other
          c.as_slice-origin.ensures.name c.requires.fits c.in_ok-push.ensures.items refl refl,
      subst (λ (l : List ℕ). HasBehind c.args.room (front ++ l) c.write_over.new.octets.items) c.as_slice-origin.ensures.octets
          (has_over front c.as_slice-origin.result.now _ _ _ c.args.room _ has (omega arith)
          (omega (arith, size, long, length-append front has.others)) c.write_over.ensures),
    )
