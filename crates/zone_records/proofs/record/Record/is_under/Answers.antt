use Rattle.std.proofs.Common.{◌↔◌, ◌∙◌, subst, List, ℕ, IsTrue}
use Rattle.dns_label.specs.Name.{low}
use Rattle.dns_label.specs.Labels.{labels_at}
use Rattle.dns_wire.specs.Suffix.{EndsWith}
use Rattle.dns_wire.proofs.Flat.{flat-labels, flat-written}
use Rattle.zone_records.proofs.record.Record.is_under.Goals as goal

pub flat_ends_with-requires-clause-name : goal.flat_ends_with-requires-clause-name
flat_ends_with-requires-clause-name g c = flat-written _ _ c.as_slice.ensures.name c.as_slice.ensures.octets

pub flat_ends_with-requires-clause-end : goal.flat_ends_with-requires-clause-end
flat_ends_with-requires-clause-end g c = flat-written _ _ c.as_flat_slice.ensures.name c.in-Some.ensures.octets

pub returns-in-Some : goal.returns-in-Some
returns-in-Some g c =
    let own = flat-labels _ _ c.as_slice.ensures.name c.as_slice.ensures.octets ∙ c.owner.ensures.owner in
    let base = flat-labels _ _ c.as_flat_slice.ensures.name c.in-Some.ensures.octets in
    let P : List (List ℕ) → Type 0 = λ n. IsTrue c.flat_ends_with.result ↔ EndsWith (low n) (low (labels_at c.in-Some.end.now 0)) in
    let Q : List (List ℕ) → Type 0 = λ n. IsTrue c.flat_ends_with.result ↔ EndsWith (low c.args.self.now.owner) (low n) in
    subst Q base (subst P own c.flat_ends_with.ensures)
