use Rattle.std.proofs.Common.{◌≤◌, List, ℕ, ap, arith, length}
use Rattle.dns_wire.proofs.Flat.{flat-written}
use Rattle.dns_zonefile.proofs.LastOwners.{kept_first, kept_size, name_kept}
use Rattle.dns_zonefile.proofs.last_owner.LastOwner.set.Goals as goal

pub invariant_of-self : goal.invariant_of-self
invariant_of-self g c =
    let short = c.as_slice-octets.ensures.name.short in
    let len = ap (λ (l : List ℕ). length l) c.as_slice-octets.ensures.octets in
    let fits : length c.as_slice-octets.result.now ≤ 255 = omega (arith, short, len) in
    let is = kept_first c.copy_from_slice.new.self _ c.as_slice-octets.result.now c.copy_from_slice.ensures.after c.as_slice-octets.ensures.octets in
    let size = kept_size c.copy_from_slice.new.self c.as_slice-octets.result.now c.self.inside.octets c.copy_from_slice.ensures.after fits c.self.invariant.0 in
    (size, fits, λ some. flat-written _ c.args.name.now c.as_slice-octets.ensures.name is)

pub returns : goal.returns
returns g c =
    let is = kept_first c.copy_from_slice.new.self _ c.as_slice-octets.result.now c.copy_from_slice.ensures.after c.as_slice-octets.ensures.octets in
    name_kept _ c.args.name.now c.as_slice-octets.ensures.name is
