use Rattle.std.proofs.Common.{◌≡◌, ◌++◌, ◌∷◌, [], List, ℕ, refl, sym, subst}
use Rattle.dns_label.specs.Name.{IsName, labels_wire}
use Rattle.dns_wire.specs.Built.{Built}
use Rattle.dns_wire.specs.Flat.{IsWritten}
use Rattle.dns_wire.proofs.Builds.{stands_here, stands_is}
use Rattle.dns_flat.proofs.BuiltNames.{stands_whole}
use Rattle.dns_wire.proofs.FlatForms.{relative-octets}
use Rattle.dns_flat.proofs.builder.NameBuilder.from_builder.Goals as goal

pub invariant_of-result : goal.invariant_of-result
invariant_of-result g c =
    let P : List ℕ → Type 0 = λ l. IsWritten (l ++ 0 ∷ []) in
    let written = subst P c.octets.ensures c.in_ok-check.ensures.ok in
    stands_here _ _ _ (stands_whole _ written.is_name (relative-octets _ written))

pub returns-clause-ok : goal.returns-clause-ok
returns-clause-ok g c =
    let P : List ℕ → Type 0 = λ l. IsWritten (l ++ 0 ∷ []) in
    let written = subst P c.octets.ensures c.in_ok-check.ensures.ok in
    let is = relative-octets _ written in
    let Q : Built → Type 0 = λ b. IsName b.finished × (g.B.Octets.list c.args.builder ≡ labels_wire b.finished) in
    let found = subst Q (sym (stands_is _ _ _ (stands_whole _ written.is_name is))) (written.is_name, is) in
    (found.0, refl, found.1)
