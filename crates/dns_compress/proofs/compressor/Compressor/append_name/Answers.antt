use Rattle.std.proofs.Common.{◌∙◌}
use Rattle.dns_compress.proofs.Keys.{key_lowered, key_same}
use Rattle.dns_compress.proofs.compressor.Compressor.append_name.Goals as goal

pub append_by-requires : goal.append_by-requires
append_by-requires g c =
    key_lowered g.T.Table.lowers c.lowers.result _ c.args.name.now c.lowers.ensures c.if-lowers.true
    (c.for_ref.ensures ∙ c.lowered-key.ensures.low)

pub append_by-requires-2 : goal.append_by-requires-2
append_by-requires-2 g c =
    c.for_ref-2.ensures ∙ key_same g.T.Table.lowers c.lowers.result c.args.name.now c.lowers.ensures c.if-lowers.false
