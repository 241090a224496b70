use Rattle.std.proofs.Common.{arith}
use Rattle.dns_rdata_more.proofs.Built.{data_built, long_built, onto_none, same_built}
use Rattle.dns_rdata_more.proofs.build.build.Goals as goal

pub returns-then-len-gt65535 : goal.returns-then-len-gt65535
returns-then-len-gt65535 g c =
    let whole = onto_none c.new-octets.ensures.items c.in-Ok.ensures.ok in
    omega (arith, long_built g.T.DataType.number c.args.values.now c.append_values.new.octets.items c.requires.count whole, c.len.ensures)

pub of_row-requires : goal.of_row-requires
of_row-requires g c =
    let whole = onto_none c.new-octets.ensures.items c.in-Ok.ensures.ok in
    data_built g.T.DataType.number c.args.values.now c.append_values.new.octets.items c.requires.of_type c.requires.count c.requires.each whole
    (omega (arith, c.len.ensures))

pub returns : goal.returns
returns g c =
    let whole = onto_none c.new-octets.ensures.items c.in-Ok.ensures.ok in
    same_built g.T.DataType.number c.args.values.now c.of_row.result c.append_values.new.octets.items c.requires.count whole c.of_row.ensures
    (omega (arith, c.len.ensures))
