use Rattle.std.proofs.Common.{◌∙◌, ◌++◌, ap, refl, arith, length, ℕ}
use Rattle.std.specs.Prelude.{None, Ok, Err}
use Rattle.std.proofs.lemmas.Result.{err_from_is_err_and}
use Rattle.dns_wire.specs.Built.{StandsFor, with_labels}
use Rattle.dns_wire.proofs.Builds.{stands_here, stands_is}
use Rattle.dns_flat.proofs.BuiltNames.{stands_seen, with_labels_len, stands_joined}
use Rattle.dns_flat.proofs.PushNames.{name_ok_no_error, short_is_not_long, no_long}
use Rattle.dns_flat.proofs.builder.NameBuilder.append_name.Goals as goal
use Rattle.dns_flat.proofs.builder.NameBuilder.append_name.Goals.{After-self-1}

pub returns-then-as_slice-len-clause-long : goal.returns-then-as_slice-len-clause-long
returns-then-as_slice-len-clause-long g c =
    let size = with_labels_len c.args.self.now (g.N.ToLabelIter.labels c.args.name.now) in
    let len = ap (length {A = ℕ}) (c.as_slice.ensures ∙ c.labels_of-labels.ensures.octets) in
    (λ is. omega (arith, size, len, c.len.ensures.octets), λ over. refl)

pub returns-in_err-append_slice-clause-long : goal.returns-in_err-append_slice-clause-long
returns-in_err-append_slice-clause-long g c =
    let size = with_labels_len c.args.self.now (g.N.ToLabelIter.labels c.args.name.now) in
    let len = ap (length {A = ℕ}) (c.as_slice.ensures ∙ c.labels_of-labels.ensures.octets) in
    let p = err_from_is_err_and c.from_residual.result c.from_residual.ensures.1 in
    no_long c.from_residual.result 254 _ (short_is_not_long _ (p.1 ∙ ap (λ e. Err e) p.2)) (omega (arith, size, len, c.len.ensures.octets, c.len.ensures.few))

joined : (g : _) (c : After-self-1 g)
    → StandsFor (g.B.Octets.list c.append_slice.new.self) None (with_labels c.args.self.now (g.N.ToLabelIter.labels c.args.name.now))
joined g c =
    let labels = g.N.ToLabelIter.labels c.args.name.now in
    let octets = c.labels_of-labels.ensures.octets in
    let len = ap (length {A = ℕ}) (c.as_slice.ensures ∙ octets) in
    stands_joined labels (stands_seen c.self.view_is c.self.invariant) c.labels_of-labels.ensures.name
    (c.in_ok-append_slice.ensures.ok ∙ ap (λ l. g.B.Octets.list c.self.inside.builder ++ l) (c.as_slice-2.ensures ∙ octets))
    (omega (arith, len, c.len.ensures.octets, c.len.ensures.few))

pub invariant_of-self-2 : goal.invariant_of-self-2
invariant_of-self-2 g c = stands_here _ _ _ (joined g c)

pub returns-clause-ok : goal.returns-clause-ok
returns-clause-ok g c = stands_is _ _ _ (joined g c)

pub returns-clause-long : goal.returns-clause-long
returns-clause-long g c =
    let size = with_labels_len c.args.self.now (g.N.ToLabelIter.labels c.args.name.now) in
    let len = ap (length {A = ℕ}) (c.as_slice.ensures ∙ c.labels_of-labels.ensures.octets) in
    no_long (Ok tt) 254 _ (name_ok_no_error _ tt refl) (omega (arith, size, len, c.len.ensures.octets, c.len.ensures.few))
