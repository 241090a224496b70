use Rattle.std.proofs.Common.{◌∙◌, ℕ, ◌++◌, length, Ok, Err, ap, refl, arith, length-append}
use Rattle.std.specs.Fn.{FnOnceReturnsAtMut}
use Rattle.dns_builder.specs.OptOption.RefusesOption.{too_long, by_closure, other_length}
use Rattle.dns_builder.proofs.Begun.{handed-on}
use Rattle.dns_builder.proofs.OptOptions.{grows-twice, writes, adds, no-head}
use Rattle.dns_builder.proofs.opt.option.append_option.Goals as goal

pub returns-then-behind-gt65535-clause-why : goal.returns-then-behind-gt65535-clause-why
returns-then-behind-gt65535-clause-why g c = too_long (omega arith)

pub returns-in_err-append_slice-clause-why : goal.returns-in_err-append_slice-clause-why
returns-in_err-append_slice-clause-why g c =
    handed-on c.from_residual.result c.in_err-append_slice.field-0.0 _ c.from_residual.ensures.1
    (no-head g.F.FnOnce g.Target.Octets.list c.args.op (g.Target.Octets.list c.args.target.now) c.args.code c.args.option_len
    (g.Target.OctetsBuilder.bound c.args.target.now) c.args.rdlen c.head_octets.result c.in_err-append_slice.field-0.0
    (ap (length {A = ℕ}) c.head_octets.ensures) c.in_err-append_slice.ensures.short c.in_err-append_slice.ensures.not_bad)

pub returns-in_err-op-clause-why : goal.returns-in_err-op-clause-why
returns-in_err-op-clause-why g c =
    let called : FnOnceReturnsAtMut g.F.FnOnce c.args.op c.append_slice.new.self (Err c.in_err-op.field-0.0) c.op.new.arg2 =
    record { shown = _; shows = refl; left = _; met = c.in_err-op.ensures; leaves = refl } in
    let grows = c.requires.appends _ _ _ called in
    handed-on c.from_residual-in_err-op.result c.in_err-op.field-0.0 _ c.from_residual-in_err-op.ensures.1
    (by_closure (writes g.F.FnOnce g.Target.Octets.list c.args.op (g.Target.Octets.list c.args.target.now) c.args.code c.args.option_len
    c.append_slice.new.self c.op.new.arg2 _ grows.tail
    (c.in_ok-append_slice.ensures.ok ∙ ap (λ l. g.Target.Octets.list c.args.target.now ++ l) c.head_octets.ensures) grows.octets called))

pub returns-in_err-op-clause-grows : goal.returns-in_err-op-clause-grows
returns-in_err-op-clause-grows g c =
    grows-twice g.met.Target.OctetsBuilder.stays_on c.args.target.now c.append_slice.new.self c.op.new.arg2 c.head_octets.result
    c.in_ok-append_slice.ensures.ok c.append_slice.ensures.known c.append_slice.ensures.same_bound c.append_slice.ensures.stays
    (c.requires.appends _ _ _ (record { shown = _; shows = refl; left = _; met = c.in_err-op.ensures; leaves = refl }))

pub overflow_sub-octets : goal.overflow_sub-octets
overflow_sub-octets g c =
    let grows = c.requires.appends _ _ _ (record { shown = _; shows = refl; left = _; met = c.in_ok-op.ensures; leaves = refl }) in
    omega (
      arith,
      ap (length {A = ℕ}) c.octets-start.ensures,
      ap (length {A = ℕ}) c.octets.ensures,
      ap (length {A = ℕ}) grows.octets,
      length-append (g.Target.Octets.list c.append_slice.new.self) grows.tail,
    )

pub returns-then-octets-start-clause-why : goal.returns-then-octets-start-clause-why
returns-then-octets-start-clause-why g c =
    let called : FnOnceReturnsAtMut g.F.FnOnce c.args.op c.append_slice.new.self (Ok tt) c.op.new.arg2 =
    record { shown = _; shows = refl; left = _; met = c.in_ok-op.ensures; leaves = refl } in
    let grows = c.requires.appends _ _ _ called in
    other_length (writes g.F.FnOnce g.Target.Octets.list c.args.op (g.Target.Octets.list c.args.target.now) c.args.code c.args.option_len
    c.append_slice.new.self c.op.new.arg2 _ grows.tail
    (c.in_ok-append_slice.ensures.ok ∙ ap (λ l. g.Target.Octets.list c.args.target.now ++ l) c.head_octets.ensures) grows.octets called)
    (omega (
      arith,
      ap (length {A = ℕ}) c.octets-start.ensures,
      ap (length {A = ℕ}) c.octets.ensures,
      ap (length {A = ℕ}) grows.octets,
      length-append (g.Target.Octets.list c.append_slice.new.self) grows.tail,
    ))

pub returns-then-octets-start-clause-grows : goal.returns-then-octets-start-clause-grows
returns-then-octets-start-clause-grows g c =
    grows-twice g.met.Target.OctetsBuilder.stays_on c.args.target.now c.append_slice.new.self c.op.new.arg2 c.head_octets.result
    c.in_ok-append_slice.ensures.ok c.append_slice.ensures.known c.append_slice.ensures.same_bound c.append_slice.ensures.stays
    (c.requires.appends _ _ _ (record { shown = _; shows = refl; left = _; met = c.in_ok-op.ensures; leaves = refl }))

pub returns-clause-ok : goal.returns-clause-ok
returns-clause-ok g c =
    let called : FnOnceReturnsAtMut g.F.FnOnce c.args.op c.append_slice.new.self (Ok tt) c.op.new.arg2 =
    record { shown = _; shows = refl; left = _; met = c.in_ok-op.ensures; leaves = refl } in
    let grows = c.requires.appends _ _ _ called in
    adds g.F.FnOnce g.Target.Octets.list c.args.op (g.Target.Octets.list c.args.target.now) c.args.code c.args.option_len
    c.append_slice.new.self c.op.new.arg2 grows.tail
    (c.in_ok-append_slice.ensures.ok ∙ ap (λ l. g.Target.Octets.list c.args.target.now ++ l) c.head_octets.ensures) grows.octets
    (omega (
      arith,
      ap (length {A = ℕ}) c.octets-start.ensures,
      ap (length {A = ℕ}) c.octets.ensures,
      ap (length {A = ℕ}) grows.octets,
      length-append (g.Target.Octets.list c.append_slice.new.self) grows.tail,
    )) called

pub returns-clause-grows : goal.returns-clause-grows
returns-clause-grows g c =
    grows-twice g.met.Target.OctetsBuilder.stays_on c.args.target.now c.append_slice.new.self c.op.new.arg2 c.head_octets.result
    c.in_ok-append_slice.ensures.ok c.append_slice.ensures.known c.append_slice.ensures.same_bound c.append_slice.ensures.stays
    (c.requires.appends _ _ _ (record { shown = _; shows = refl; left = _; met = c.in_ok-op.ensures; leaves = refl }))
