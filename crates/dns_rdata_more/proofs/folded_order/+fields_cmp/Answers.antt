use Rattle.std.proofs.Common.{◌≡◌, ◌∷◌, ◌∙◌, sym, rules}
use Rattle.dns_rdata_more.proofs.Folded.{alike_compared}
use Rattle.dns_rdata_more.proofs.Ordered.{cut_off, decided}
use Rattle.dns_rdata_more.proofs.Places.{left_well}
use Rattle.dns_rdata_more.proofs.folded_order.+fields_cmp.Goals as goal

pub fields_cmp-requires : goal.fields_cmp-requires
fields_cmp-requires t c =
    let is : c.args.forms.now ≡ c.in-Some.form.now ∷ c.in-Some.left.now = (let cases = c.in-Some.ensures.cases in cc) in
    let one = cut_off {first = c.split_at.result.0.now} {after = c.split_at.result.1.now} is c.requires.well c.requires.these c.field_len.ensures.len (search rules) (search rules) in
    let two = cut_off {first = c.split_at-2.result.0.now} {after = c.split_at-2.result.1.now} is c.requires.well c.requires.those c.field_len-2.ensures.len (search rules) (search rules) in
    (search rules, (left_well is c.requires.well, (one.others, two.others)))

pub returns-in-Less : goal.returns-in-Less
returns-in-Less t c =
    let is : c.args.forms.now ≡ c.in-Some.form.now ∷ c.in-Some.left.now = (let cases = c.in-Some.ensures.cases in cc) in
    let one = cut_off {first = c.split_at.result.0.now} {after = c.split_at.result.1.now} is c.requires.well c.requires.these c.field_len.ensures.len (search rules) (search rules) in
    let two = cut_off {first = c.split_at-2.result.0.now} {after = c.split_at-2.result.1.now} is c.requires.well c.requires.those c.field_len-2.ensures.len (search rules) (search rules) in
    sym (decided _ (alike_compared is one two c.field_cmp.ensures) c.in-Less.is)

pub returns-in-Greater : goal.returns-in-Greater
returns-in-Greater t c =
    let is : c.args.forms.now ≡ c.in-Some.form.now ∷ c.in-Some.left.now = (let cases = c.in-Some.ensures.cases in cc) in
    let one = cut_off {first = c.split_at.result.0.now} {after = c.split_at.result.1.now} is c.requires.well c.requires.these c.field_len.ensures.len (search rules) (search rules) in
    let two = cut_off {first = c.split_at-2.result.0.now} {after = c.split_at-2.result.1.now} is c.requires.well c.requires.those c.field_len-2.ensures.len (search rules) (search rules) in
    sym (decided _ (alike_compared is one two c.field_cmp.ensures) c.in-Greater.is)

pub returns-in-Equal : goal.returns-in-Equal
returns-in-Equal t c =
    let is : c.args.forms.now ≡ c.in-Some.form.now ∷ c.in-Some.left.now = (let cases = c.in-Some.ensures.cases in cc) in
    let one = cut_off {first = c.split_at.result.0.now} {after = c.split_at.result.1.now} is c.requires.well c.requires.these c.field_len.ensures.len (search rules) (search rules) in
    let two = cut_off {first = c.split_at-2.result.0.now} {after = c.split_at-2.result.1.now} is c.requires.well c.requires.those c.field_len-2.ensures.len (search rules) (search rules) in
    c.fields_cmp.ensures ∙ sym (decided _ (alike_compared is one two c.field_cmp.ensures) c.in-Equal.is)
