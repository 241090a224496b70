use Rattle.dns_wire.proofs.Flat.{flat-written}
use Rattle.dns_zonefile.proofs.LastOwners.{name_kept, name_short}
use Rattle.dns_zonefile.proofs.last_owner.LastOwner.set_first.Goals as goal

pub invariant_of-self : goal.invariant_of-self
invariant_of-self c =
    let name = c.requires.0 in
    let begins = c.requires.1 in (
      c.copy_name.ensures.size,
      name_short c.args.octets.now c.args.len name begins,
      (λ some. flat-written _ name begins.is_name (c.copy_name.ensures.name name begins)),
    )

pub returns : goal.returns
returns c = λ name begins. name_kept _ name begins.is_name (c.copy_name.ensures.name name begins)
