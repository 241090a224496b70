use Rattle.std.proofs.Common.{List, ℕ, ap, ◌∙◌, subst}
use Rattle.dns_label.specs.Name.{IsName, labels_wire}
use Rattle.dns_wire.proofs.FlatForms.{relative-octets}
use Rattle.dns_flat.proofs.PartForms.{front_written, front_is, is_front}
use Rattle.dns_flat.proofs.relative.RelativeName.truncate.Goals as goal

pub invariant_of-self : goal.invariant_of-self
invariant_of-self g c =
    let P : List (List ℕ) → Type 0 = λ n. IsName n in
    front_written (relative-octets _ c.self.invariant ∙ ap labels_wire c.self.view_is) (subst P c.self.view_is c.self.invariant.is_name)
    c.requires c.truncate.ensures.octets

pub returns : goal.returns
returns g c =
    is_front c.requires
    (front_is (relative-octets _ c.self.invariant ∙ ap labels_wire c.self.view_is) c.requires c.truncate.ensures.octets
    (relative-octets _ (invariant_of-self g c)))
