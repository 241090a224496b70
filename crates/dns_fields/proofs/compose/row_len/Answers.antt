use Rattle.std.proofs.Common.{◌≡◌, ◌≤◌, true, false, map, refl, sym, ◌∙◌, ap, rules}
use Rattle.std.specs.Prelude.{IfSome}
use Rattle.std.specs.List.{list_any}
use Rattle.dns_fields.specs.Fields.{kind_of}
use Rattle.dns_fields.specs.Written.{may_point}
use Rattle.dns_fields.proofs.Lengths.{if_some, row_composed, untold_named, untold_long}
use Rattle.dns_fields.proofs.compose.row_len.Goals.{After-fields_len, else-compress-via-then-compress+else-may_point, else-compress-via-else-compress}
use Rattle.dns_fields.proofs.compose.row_len.Given.{Over}
use Rattle.dns_fields.proofs.compose.row_len.Goals as goal

-- where the length is asked for, no name may be a pointer
none_points : (g : Over) (c : After-fields_len g) → c.args.compress ≡ true → list_any may_point (map kind_of (g.R.HasFields.fields c.args.row.now)) ≡ false
none_points g c asks =
    ap (list_any may_point) (g.met.R.HasFields.of_kinds c.args.row.now)
    ∙ elim c.else-compress.branch [
      | else-compress-via-then-compress+else-may_point w ↦ sym w.may_point.ensures ∙ w.if-may_point.false
      | else-compress-via-else-compress w ↦ absurd (cc)
    ]

pub returns-then-may_point-clause-none : goal.returns-then-may_point-clause-none
returns-then-may_point-clause-none g c =
    let row = g.R.HasFields.fields c.args.row.now in
    rw (c.if-compress.true) (untold_named true row refl (ap (list_any may_point) (g.met.R.HasFields.of_kinds c.args.row.now) ∙ sym c.may_point.ensures ∙ c.if-may_point.true))

pub returns-clause-some : goal.returns-clause-some
returns-clause-some g c =
    let row = g.R.HasFields.fields c.args.row.now in
    if_some c.fields_len.result (λ len is. row_composed c.args.compress row len (none_points g c) is) c.fields_len.ensures.some

pub returns-clause-none : goal.returns-clause-none
returns-clause-none g c =
    let row = g.R.HasFields.fields c.args.row.now in
    let few : IfSome c.fields_len.result (λ len. len ≤ 65535) = search rules in
    untold_long c.args.compress row c.fields_len.result (none_points g c) c.fields_len.ensures.some few c.fields_len.ensures.none
