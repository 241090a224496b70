use Rattle.std.proofs.Common.{◌≡◌, ◌<◌, Bool, true, false, Some, List, length, refl, sym, ap, ◌∙◌, arith, rules}
use Rattle.std.proofs.lemmas.Option.{slice_get_read}
use Rattle.std.specs.Prelude.{slice_get}
use Rattle.zone_canonical.proofs.ChangeLists.{length-changes_in, slice_get-changes_in}
use Rattle.zone_canonical.proofs.change_list.ChangeList.change_at.Goals as goal

pub record_at-record-requires : goal.record_at-record-requires
record_at-record-requires c =
    omega (arith, ap length c.self.view_is, length-changes_in c.self.inside.are_added.items c.self.inside.records c.self.invariant)

pub index-requires : goal.index-requires
index-requires c =
    let even : length c.self.inside.are_added.items ≡ length c.self.inside.records = c.self.invariant in
    let within : c.args.index < length c.self.inside.are_added.items =
    omega (arith, even, ap length c.self.view_is, length-changes_in c.self.inside.are_added.items c.self.inside.records c.self.invariant) in
    search rules

pub returns-then-index : goal.returns-then-index
returns-then-index c =
    let are_added : List Bool = c.self.inside.are_added.items in
    let within : c.args.index < length are_added =
    omega (arith, c.self.invariant, ap length c.self.view_is, length-changes_in are_added c.self.inside.records c.self.invariant) in
    let is : c.index.result.now ≡ true = cc in
    ap (λ l. slice_get l c.args.index) (sym c.self.view_is)
    ∙ slice_get-changes_in are_added c.self.inside.records c.args.index true c.record_at-record.result
    (slice_get_read are_added (length are_added) c.args.index c.index.result.now refl within c.index.ensures ∙ ap Some is) c.record_at-record.ensures

pub returns-else-index : goal.returns-else-index
returns-else-index c =
    let are_added : List Bool = c.self.inside.are_added.items in
    let within : c.args.index < length are_added =
    omega (arith, c.self.invariant, ap length c.self.view_is, length-changes_in are_added c.self.inside.records c.self.invariant) in
    let is : c.index.result.now ≡ false = cc in
    ap (λ l. slice_get l c.args.index) (sym c.self.view_is)
    ∙ slice_get-changes_in are_added c.self.inside.records c.args.index false c.record_at-record.result
    (slice_get_read are_added (length are_added) c.args.index c.index.result.now refl within c.index.ensures ∙ ap Some is) c.record_at-record.ensures
