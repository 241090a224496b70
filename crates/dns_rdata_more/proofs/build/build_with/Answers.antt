use Rattle.std.proofs.Common.{◌≡◌, ◌++◌, ◌∷◌, [], List, length, arith, length-append}
use Rattle.dns_fields_more.specs.declared.value.Value.{Value}
use Rattle.dns_fields_more.specs.declared.value.Value.TheVariants as of_value
use Rattle.dns_rdata_more.specs.FurtherData.{forms_or_none}
use Rattle.dns_rdata_more.proofs.Built.{data_built, last_appended, long_built, same_built}
use Rattle.dns_rdata_more.proofs.build.build_with.Goals as goal

pub returns-then-len-gt65535 : goal.returns-then-len-gt65535
returns-then-len-gt65535 g c =
    let values : List Value = c.args.values.now ++ of_value.Rest c.args.last ∷ [] in
    let whole = last_appended c.args.values.now c.args.last c.new-octets.ensures.items c.in-Ok.ensures.ok c.in-Ok-append_slice.ensures.ok in
    let count : length values ≡ length (forms_or_none g.T.DataType.number) =
    omega (arith, c.requires.count, length-append c.args.values.now (of_value.Rest c.args.last ∷ [])) in
    omega (arith, long_built g.T.DataType.number values c.append_slice.new.self.items count whole, c.len.ensures)

pub of_row-requires : goal.of_row-requires
of_row-requires g c =
    let values : List Value = c.args.values.now ++ of_value.Rest c.args.last ∷ [] in
    let whole = last_appended c.args.values.now c.args.last c.new-octets.ensures.items c.in-Ok.ensures.ok c.in-Ok-append_slice.ensures.ok in
    let count : length values ≡ length (forms_or_none g.T.DataType.number) =
    omega (arith, c.requires.count, length-append c.args.values.now (of_value.Rest c.args.last ∷ [])) in
    data_built g.T.DataType.number values c.append_slice.new.self.items c.requires.of_type count c.requires.each whole (omega (arith, c.len.ensures))

pub returns : goal.returns
returns g c =
    let values : List Value = c.args.values.now ++ of_value.Rest c.args.last ∷ [] in
    let whole = last_appended c.args.values.now c.args.last c.new-octets.ensures.items c.in-Ok.ensures.ok c.in-Ok-append_slice.ensures.ok in
    let count : length values ≡ length (forms_or_none g.T.DataType.number) =
    omega (arith, c.requires.count, length-append c.args.values.now (of_value.Rest c.args.last ∷ [])) in
    same_built g.T.DataType.number values c.of_row.result c.append_slice.new.self.items count whole c.of_row.ensures (omega (arith, c.len.ensures))
