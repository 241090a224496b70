use Rattle.std.proofs.Common.{List, ℕ, inr, ap, sym, subst, refl}
use Rattle.std.proofs.lemmas.Grind.{merely}
use Rattle.dns_label.specs.Name.{IsName, wire, with_root}
use Rattle.dns_wire.proofs.Flat.{flat-reads, flat-labels}
use Rattle.dns_wire.proofs.Readable.{read_at}
use Rattle.dns_flat.proofs.Standing.{short_wire}
use Rattle.dns_wire.proofs.Wire.{few_labels}
use Rattle.dns_flat.proofs.name.NameToLabelIter.first_place.Goals as goal

pub returns-clause-stands : goal.returns-clause-stands
returns-clause-stands g c =
    let P : List (List ℕ) → Type 0 = λ n. IsName n in
    let is_name = subst P c.self.view_is c.self.invariant.is_name in
    record {
      left = merely (read_at _ _ _ _ (flat-reads (wire c.args.self.now) c.args.self.now is_name refl));
      is = ap with_root (sym (flat-labels (wire c.args.self.now) c.args.self.now is_name refl));
    }

pub returns-clause-few : goal.returns-clause-few
returns-clause-few g c =
    let P : List (List ℕ) → Type 0 = λ n. IsName n in few_labels _ (subst P c.self.view_is c.self.invariant.is_name)

pub returns-clause-short : goal.returns-clause-short
returns-clause-short g c =
    let P : List (List ℕ) → Type 0 = λ n. IsName n in short_wire _ (subst P c.self.view_is c.self.invariant.is_name)

pub returns-clause-are : goal.returns-clause-are
returns-clause-are g c =
    let P : List (List ℕ) → Type 0 = λ n. IsName n in
    merely (record { name = _; is_name = subst P c.self.view_is c.self.invariant.is_name; listed = inr refl })
