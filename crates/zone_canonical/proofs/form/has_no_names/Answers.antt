use Rattle.std.proofs.Common.{◌≡◌, refl, rules}
use Rattle.zone_canonical.proofs.DataForms.{plain_data}
use Rattle.zone_canonical.proofs.form.has_no_names.Goals as goal

pub returns-in-A : goal.returns-in-A
returns-in-A c = λ plain. plain_data c.args.rtype 1 (search rules) refl

pub returns-in-A-2 : goal.returns-in-A-2
returns-in-A-2 c = λ plain. plain_data c.args.rtype 28 (search rules) refl

pub returns-in-A-3 : goal.returns-in-A-3
returns-in-A-3 c = λ plain. plain_data c.args.rtype 16 (search rules) refl

pub returns-in-A-4 : goal.returns-in-A-4
returns-in-A-4 c = λ plain. plain_data c.args.rtype 43 (search rules) refl

pub returns-in-A-5 : goal.returns-in-A-5
returns-in-A-5 c = λ plain. plain_data c.args.rtype 13 (search rules) refl

pub returns-in-A-6 : goal.returns-in-A-6
returns-in-A-6 c = λ plain. plain_data c.args.rtype 257 (search rules) refl
