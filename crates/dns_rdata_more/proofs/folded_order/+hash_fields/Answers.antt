use Rattle.std.proofs.Common.{◌≡◌, ◌∷◌, rules}
use Rattle.dns_rdata_more.proofs.Folded.{hashed_on}
use Rattle.dns_rdata_more.proofs.Places.{left_stand, left_well}
use Rattle.dns_rdata_more.proofs.folded_order.+hash_fields.Goals as goal

pub hash_fields-requires : goal.hash_fields-requires
hash_fields-requires g t c = λ κs at.
    let is : c.args.forms.now ≡ c.in-Some.form.now ∷ c.in-Some.others.now = (let cases = c.in-Some.ensures.cases in cc) in
    (search rules, (at, (left_well is c.requires.well, left_stand is c.requires.well c.in-Ok.ensures.ok c.requires.row)))

pub returns : goal.returns
returns g t c =
    let is : c.args.forms.now ≡ c.in-Some.form.now ∷ c.in-Some.others.now = (let cases = c.in-Some.ensures.cases in cc) in
    hashed_on g.H.Hasher.write is c.requires.well c.in-Ok.ensures.ok c.requires.row (c.hash_field.ensures) c.hash_fields.ensures
