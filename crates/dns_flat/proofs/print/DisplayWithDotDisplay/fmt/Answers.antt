use Rattle.std.proofs.Common.{List, ℕ, ◌∙◌, ap, subst}
use Rattle.std.specs.Fmt.{WritesOnOk}
use Rattle.dns_label.specs.Printed.{printed_name}
use Rattle.dns_wire.proofs.Flat.{flat-labels, flat-written}
use Rattle.dns_flat.proofs.PrintedNames.{seen_as_name}
use Rattle.dns_flat.proofs.print.DisplayWithDotDisplay.fmt.Goals as goal

pub plain_text-requires : goal.plain_text-requires
plain_text-requires g c = flat-written _ _ c.as_flat_slice.ensures.name c.in-Some.ensures.octets

pub returns-in-Some-plain_text-clause-writes : goal.returns-in-Some-plain_text-clause-writes
returns-in-Some-plain_text-clause-writes g c =
    let P : List ℕ → Type 0 = λ text. WritesOnOk g.W.Write.write_str_gives c.args.f.now c.write_str.result text c.write_str.new.self in
    let own = flat-labels _ _ c.as_flat_slice.ensures.name c.in-Some.ensures.octets in
    subst P (c.in-Some-plain_text.ensures ∙ ap printed_name own ∙ ap printed_name c.self.view_is) c.write_str.ensures.writes

pub returns-clause-writes : goal.returns-clause-writes
returns-clause-writes g c =
    let P : List ℕ → Type 0 = λ text. WritesOnOk g.W.Write.write_str_gives c.args.f.now c.write_name.result text c.write_name.new.f in
    let name = g.N.ToName.name c.self.inside.name.now in
    let seen = seen_as_name name (g.met.N.ToName.is_absolute c.self.inside.name.now) c.write_name.ensures.are in
    subst P (seen ∙ ap printed_name c.self.view_is) c.write_name.ensures.text
