use Rattle.std.proofs.Common.{◌++◌, ◌∷◌, [], List, ℕ, subst}
use Rattle.dns_wire.specs.Flat.{IsWritten}
use Rattle.dns_wire.proofs.FlatForms.{relative-octets}
use Rattle.dns_flat.proofs.relative.RelativeName.from_octets.Goals as goal

pub returns-clause-ok : goal.returns-clause-ok
returns-clause-ok g c =
    let P : List ℕ → Type 0 = λ l. IsWritten (l ++ 0 ∷ []) in
    let written = subst P c.octets.ensures c.in_ok-check.ensures.ok in
    (written.is_name, relative-octets _ written)
