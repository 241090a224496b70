use Rattle.std.proofs.Common.{◌≡◌, ◌∙◌, ap, map, length, take, ◌++◌, ℕ, List, append-nil, arith}
use Rattle.std.specs.List.{refill}
use Rattle.std.proofs.lemmas.List.{drop_all, take_all, length-map}
use Rattle.std.specs.Char.{to_ascii_lowercase}
use Rattle.dns_label.specs.Name.{labels_wire, wire, low}
use Rattle.dns_wire.proofs.Case.{low_wire}
use Rattle.dns_wire.proofs.LowNames.{low_name, length-wire-low}
use Rattle.dns_wire.proofs.Wire.{labels_wire-with_root}
use Rattle.dns_flat.proofs.wire_form.lowered_wire_of.Goals as goal

refilled : (items new : List ℕ) → length new ≡ length items → refill (length items) items new ≡ new
refilled items new long =
    ap (λ l. take (length items) (new ++ l)) (drop_all (length new) items (omega arith)) ∙ ap (take (length items)) (append-nil new)
    ∙ take_all (length items) new (omega arith)

pub returns-clause-octets : goal.returns-clause-octets
returns-clause-octets g c =
    let name = g.N.ToName.name c.args.name.now in
    let is : c.flat_octets-octets.result.items ≡ wire name =
    c.flat_octets-octets.ensures ∙ ap labels_wire (g.met.N.ToName.is_absolute c.args.name.now) ∙ labels_wire-with_root name in
    let lowered : c.make_ascii_lowercase.new.self ≡ wire (low name) =
    c.make_ascii_lowercase.ensures.after ∙ ap (map to_ascii_lowercase) (c.as_mut_slice.ensures.value ∙ is) ∙ low_wire name c.as_flat_slice-flat.ensures.name.labels in
    let items = c.flat_octets-octets.result.items in
    let new = c.make_ascii_lowercase.new.self in
    let long : length new ≡ length items =
    ap (length {A = ℕ}) (c.make_ascii_lowercase.ensures.after ∙ ap (map to_ascii_lowercase) c.as_mut_slice.ensures.value) ∙ length-map items to_ascii_lowercase in
    refilled items new long ∙ lowered

pub returns-clause-name : goal.returns-clause-name
returns-clause-name g c = low_name (g.N.ToName.name c.args.name.now) c.as_flat_slice-flat.ensures.name

pub returns-clause-long : goal.returns-clause-long
returns-clause-long g c =
    ap (length {A = ℕ}) (returns-clause-octets g c) ∙ length-wire-low (g.N.ToName.name c.args.name.now) c.as_flat_slice-flat.ensures.name
