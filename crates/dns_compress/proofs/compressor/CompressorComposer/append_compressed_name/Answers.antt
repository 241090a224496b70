use Rattle.std.proofs.Common.{◌∙◌, ℕ, List, sym, subst, rules}
use Rattle.dns_octets.specs.Builder.{Known}
use Rattle.dns_label.specs.Name.{IsName}
use Rattle.dns_wire.proofs.Case.{wire_one}
use Rattle.dns_wire.proofs.Flat.{flat-written}
use Rattle.dns_compress.proofs.Naming.{text_of, known_of_name, past_of}
use Rattle.dns_compress.proofs.Sound.{grows_either}
use Rattle.dns_compress.proofs.compressor.CompressorComposer.append_compressed_name.Goals as goal

pub from_octets_unchecked-requires : goal.from_octets_unchecked-requires
from_octets_unchecked-requires g c = flat-written _ _ c.as_flat_slice.ensures.name c.in-Some.ensures.octets

pub returns-in-Some-clause-ok : goal.returns-in-Some-clause-ok
returns-in-Some-clause-ok g c =
    let old : List ℕ = g.Target.Octets.list c.args.self.now.target in
    let known : Known = g.T.Table.known c.args.self.now.table old in
    let same = wire_one c.from_octets_unchecked.result (g.N.ToName.name c.args.name.now) (sym c.from_octets_unchecked.ensures ∙ c.in-Some.ensures.octets) in
    text_of g.T.Table.spelling known old same c.append_name.result (g.Target.Octets.list c.append_name.new.self.target) c.append_name.ensures.ok

pub returns-in-Some-clause-known : goal.returns-in-Some-clause-known
returns-in-Some-clause-known g c =
    let old : List ℕ = g.Target.Octets.list c.args.self.now.target in
    let known : Known = g.T.Table.known c.args.self.now.table old in
    let same = wire_one c.from_octets_unchecked.result (g.N.ToName.name c.args.name.now) (sym c.from_octets_unchecked.ensures ∙ c.in-Some.ensures.octets) in
    known_of_name g.T.Table.spelling known old same c.append_name.result (g.T.Table.known c.append_name.new.self.table (g.Target.Octets.list c.append_name.new.self.target))
    c.append_name.ensures.known

pub returns-in-Some-clause-grows : goal.returns-in-Some-clause-grows
returns-in-Some-clause-grows g c =
    let same = wire_one c.from_octets_unchecked.result (g.N.ToName.name c.args.name.now) (sym c.from_octets_unchecked.ensures ∙ c.in-Some.ensures.octets) in
    grows_either c.append_name.result _ _ _ (subst IsName (sym same) c.as_flat_slice.ensures.name) c.args.self.now.sound
    c.append_name.ensures.ok c.append_name.ensures.known c.append_name.ensures.err

pub returns-in-Some-clause-short : goal.returns-in-Some-clause-short
returns-in-Some-clause-short g c = λ is.
    let old : List ℕ = g.Target.Octets.list c.args.self.now.target in
    let known : Known = g.T.Table.known c.args.self.now.table old in
    let same = wire_one c.from_octets_unchecked.result (g.N.ToName.name c.args.name.now) (sym c.from_octets_unchecked.ensures ∙ c.in-Some.ensures.octets) in
    past_of g.T.Table.spelling known old same (g.Target.OctetsBuilder.bound c.args.self.now.target) (c.append_name.ensures.short is)

pub from_octets_unchecked-requires-2 : goal.from_octets_unchecked-requires-2
from_octets_unchecked-requires-2 g c = flat-written _ _ c.as_flat_slice.ensures.name (search rules)

pub returns-clause-ok : goal.returns-clause-ok
returns-clause-ok g c =
    let old : List ℕ = g.Target.Octets.list c.args.self.now.target in
    let known : Known = g.T.Table.known c.args.self.now.table old in
    let same = wire_one c.from_octets_unchecked-2.result (g.N.ToName.name c.args.name.now) (sym c.from_octets_unchecked-2.ensures ∙ search rules) in
    text_of g.T.Table.spelling known old same c.append_name-2.result (g.Target.Octets.list c.append_name-2.new.self.target) c.append_name-2.ensures.ok

pub returns-clause-known : goal.returns-clause-known
returns-clause-known g c =
    let old : List ℕ = g.Target.Octets.list c.args.self.now.target in
    let known : Known = g.T.Table.known c.args.self.now.table old in
    let same = wire_one c.from_octets_unchecked-2.result (g.N.ToName.name c.args.name.now) (sym c.from_octets_unchecked-2.ensures ∙ search rules) in
    known_of_name g.T.Table.spelling known old same c.append_name-2.result (g.T.Table.known c.append_name-2.new.self.table (g.Target.Octets.list c.append_name-2.new.self.target))
    c.append_name-2.ensures.known

pub returns-clause-grows : goal.returns-clause-grows
returns-clause-grows g c =
    let same = wire_one c.from_octets_unchecked-2.result (g.N.ToName.name c.args.name.now) (sym c.from_octets_unchecked-2.ensures ∙ search rules) in
    grows_either c.append_name-2.result _ _ _ (subst IsName (sym same) c.as_flat_slice.ensures.name) c.args.self.now.sound
    c.append_name-2.ensures.ok c.append_name-2.ensures.known c.append_name-2.ensures.err

pub returns-clause-short : goal.returns-clause-short
returns-clause-short g c = λ is.
    let old : List ℕ = g.Target.Octets.list c.args.self.now.target in
    let known : Known = g.T.Table.known c.args.self.now.table old in
    let same = wire_one c.from_octets_unchecked-2.result (g.N.ToName.name c.args.name.now) (sym c.from_octets_unchecked-2.ensures ∙ search rules) in
    past_of g.T.Table.spelling known old same (g.Target.OctetsBuilder.bound c.args.self.now.target) (c.append_name-2.ensures.short is)
