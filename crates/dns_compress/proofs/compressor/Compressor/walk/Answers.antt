use Rattle.std.proofs.Common.{◌+◌, length, List, ℕ, arith, subst}
use Rattle.dns_compress.specs.Walk.{IsWalked}
use Rattle.dns_compress.proofs.Naming.{leads_near, leads_long}
use Rattle.dns_compress.proofs.compressor.Compressor.walk.Goals as goal

pub walk_labels-requires-clause-room : goal.walk_labels-requires-clause-room
walk_labels-requires-clause-room g c = omega (arith, c.octets-octets.type_inv.1, c.len-key_len.ensures.name.short)

pub walk_labels-requires-clause-few : goal.walk_labels-requires-clause-few
walk_labels-requires-clause-few g c = omega (arith, c.len-key_len.ensures.name.short)

pub returns-clause-walked : goal.returns-clause-walked
returns-clause-walked g c =
    subst (λ (l : List ℕ). IsWalked g.T.Table.spelling (g.T.Table.known c.args.self.now.table l)
    (length (g.T.Table.known c.args.self.now.table l) + 0) (length l) c.args.name.now c.walk_labels.result.labels c.walk_labels.result.front
    c.walk_labels.result.near c.walk_labels.result.target)
    c.octets-octets.ensures (c.walk_labels.ensures.walked c.args.name.now c.len-len.ensures.name c.requires)

pub returns-clause-near : goal.returns-clause-near
returns-clause-near g c =
    leads_near g.T.Table.spelling (g.T.Table.known c.args.self.now.table (g.Target.Octets.list c.args.self.now.target))
    (g.Target.Octets.list c.args.self.now.target) c.args.name.now c.walk_labels.result.labels c.walk_labels.result.front c.walk_labels.result.near
    c.walk_labels.result.target
    (subst (λ (l : List ℕ). IsWalked g.T.Table.spelling (g.T.Table.known c.args.self.now.table l)
    (length (g.T.Table.known c.args.self.now.table l) + 0) (length l) c.args.name.now c.walk_labels.result.labels c.walk_labels.result.front
    c.walk_labels.result.near c.walk_labels.result.target)
    c.octets-octets.ensures (c.walk_labels.ensures.walked c.args.name.now c.len-len.ensures.name c.requires))
    c.args.self.now.sound

pub returns-clause-room : goal.returns-clause-room
returns-clause-room g c =
    leads_long g.T.Table.spelling (g.T.Table.known c.args.self.now.table (g.Target.Octets.list c.args.self.now.target))
    (g.Target.Octets.list c.args.self.now.target) c.args.name.now c.walk_labels.result.labels c.walk_labels.result.front c.walk_labels.result.near
    c.walk_labels.result.target
    (subst (λ (l : List ℕ). IsWalked g.T.Table.spelling (g.T.Table.known c.args.self.now.table l)
    (length (g.T.Table.known c.args.self.now.table l) + 0) (length l) c.args.name.now c.walk_labels.result.labels c.walk_labels.result.front
    c.walk_labels.result.near c.walk_labels.result.target)
    c.octets-octets.ensures (c.walk_labels.ensures.walked c.args.name.now c.len-len.ensures.name c.requires))
