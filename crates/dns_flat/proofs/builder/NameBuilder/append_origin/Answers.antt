use Rattle.std.proofs.Common.{◌∙◌, ◌++◌, sym, ap, refl, arith, length, ℕ}
use Rattle.std.specs.Prelude.{Ok, Err}
use Rattle.std.proofs.lemmas.Result.{err_from_is_err_and}
use Rattle.dns_wire.specs.Built.{labels_built}
use Rattle.dns_flat.proofs.BuiltNames.{stands_seen, origin_len, origin_wire, origin_name}
use Rattle.dns_wire.proofs.Case.{wire_one}
use Rattle.dns_wire.proofs.Flat.{flat-written}
use Rattle.dns_flat.proofs.PushNames.{name_ok_no_error, short_is_not_long, no_long}
use Rattle.dns_flat.proofs.builder.NameBuilder.append_origin.Goals as goal

pub returns-then-as_slice-len-clause-long : goal.returns-then-as_slice-len-clause-long
returns-then-as_slice-len-clause-long g c =
    let size = origin_len c.args.self (g.N.ToName.name c.args.origin.now) in
    let len = ap (length {A = ℕ}) (c.as_slice.ensures ∙ c.wire_of-labels.ensures.octets) in
    (λ is. omega (arith, size, len, c.len.ensures.octets), λ over. refl)

pub returns-in_err-append_slice-clause-long : goal.returns-in_err-append_slice-clause-long
returns-in_err-append_slice-clause-long g c =
    let size = origin_len c.args.self (g.N.ToName.name c.args.origin.now) in
    let len = ap (length {A = ℕ}) (c.as_slice.ensures ∙ c.wire_of-labels.ensures.octets) in
    let p = err_from_is_err_and c.from_residual.result c.from_residual.ensures.1 in
    no_long c.from_residual.result 255 _ (short_is_not_long _ (p.1 ∙ ap (λ e. Err e) p.2)) (omega (arith, size, len, c.len.ensures.octets, c.len.ensures.few))

pub from_octets_unchecked-requires : goal.from_octets_unchecked-requires
from_octets_unchecked-requires g c =
    let here = stands_seen c.self.view_is c.self.invariant in
    let origin = g.N.ToName.name c.args.origin.now in
    let len = ap (length {A = ℕ}) (c.as_slice.ensures ∙ c.wire_of-labels.ensures.octets) in
    flat-written _ (labels_built c.args.self ++ origin)
    (origin_name origin here c.wire_of-labels.ensures.name (omega (arith, len, c.len.ensures.octets, c.len.ensures.few)))
    (origin_wire origin here
    (c.freeze.ensures ∙ c.in_ok-append_slice.ensures.ok ∙ ap (λ l. g.B.Octets'.list c.self.inside.builder ++ l) (c.as_slice-2.ensures ∙ c.wire_of-labels.ensures.octets)))

pub returns-clause-ok : goal.returns-clause-ok
returns-clause-ok g c =
    let here = stands_seen c.self.view_is c.self.invariant in
    let origin = g.N.ToName.name c.args.origin.now in
    wire_one c.from_octets_unchecked.result (labels_built c.args.self ++ origin)
    (sym c.from_octets_unchecked.ensures ∙ origin_wire origin here
    (c.freeze.ensures ∙ c.in_ok-append_slice.ensures.ok ∙ ap (λ l. g.B.Octets'.list c.self.inside.builder ++ l) (c.as_slice-2.ensures ∙ c.wire_of-labels.ensures.octets)))

pub returns-clause-long : goal.returns-clause-long
returns-clause-long g c =
    let size = origin_len c.args.self (g.N.ToName.name c.args.origin.now) in
    let len = ap (length {A = ℕ}) (c.as_slice.ensures ∙ c.wire_of-labels.ensures.octets) in
    no_long (Ok c.from_octets_unchecked.result) 255 _ (name_ok_no_error _ c.from_octets_unchecked.result refl) (omega (arith, size, len, c.len.ensures.octets, c.len.ensures.few))
