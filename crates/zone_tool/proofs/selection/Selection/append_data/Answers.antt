use Rattle.std.proofs.Common.{◌≡◌, ◌≤◌, ◌++◌, ℕ, List, length, ap, ◌∙◌, sym, arith, rules, true, false}
use Rattle.zone_tool.specs.Selected.{without_serial}
use Rattle.zone_tool.proofs.ComparedRecords.{data_is, is_zeroed, zeroed_soa, zeroed_written}
use Rattle.zone_tool.proofs.selection.Selection.append_data.Goals as goal
use Rattle.zone_tool.proofs.selection.Selection.append_data.Goals.{Else-not-ignores_serial_of}

is_zeroed_here : (c : Else-not-ignores_serial_of) → is_zeroed c.args.self.now c.args.record.now ≡ true
is_zeroed_here c = sym c.ignores_serial_of.ensures ∙ c.if-not-ignores_serial_of.false

long_enough : (c : Else-not-ignores_serial_of) → 20 ≤ length c.data-data.result.now
long_enough c =
    omega (
      arith,
      (zeroed_soa c.args.self.now c.args.record.now c.requires (is_zeroed_here c)).1.long,
      ap (length {A = ℕ}) c.data-data.ensures,
    )

pub slice_bounds-extend_from_slice-count : goal.slice_bounds-extend_from_slice-count
slice_bounds-extend_from_slice-count c = omega (arith, long_enough (goal.at.slice_bounds-extend_from_slice-count c).Else-not-ignores_serial_of)

pub overflow_sub-data : goal.overflow_sub-data
overflow_sub-data c = omega (arith, long_enough (goal.at.overflow_sub-data c).Else-not-ignores_serial_of)

pub returns-then-not-ignores_serial_of : goal.returns-then-not-ignores_serial_of
returns-then-not-ignores_serial_of c =
    let whole : is_zeroed c.args.self.now c.args.record.now ≡ false = sym c.ignores_serial_of.ensures ∙ c.if-not-ignores_serial_of.true in
    c.in_ok-extend_from_slice.ensures.items
    ∙ ap (λ (l : List ℕ). c.args.octets.now.items ++ l) (c.data-data.ensures ∙ data_is c.args.self.now c.args.record.now false whole)

pub returns : goal.returns
returns c =
    let is = is_zeroed_here (goal.at.returns c).Else-not-ignores_serial_of in
    zeroed_written c.data-data.result.now c.args.octets.now.items c.extend_from_slice-2.new.self.items c.extend_from_slice-3.new.self.items
    c.extend_from_slice-4.new.self.items (search rules) (search rules) (search rules)
    ∙ ap (λ (l : List ℕ). c.args.octets.now.items ++ l) (ap without_serial c.data-data.ensures ∙ data_is c.args.self.now c.args.record.now true is)
