use Rattle.std.proofs.Common.{◌+◌, ◌<◌, ◌≤◌, ℕ, length, refl, sym, subst, arith}
use Rattle.std.proofs.lemmas.Result.{err_from_is_err_and}
use Rattle.std.specs.Prelude.{None, Ok}
use Rattle.dns_wire.specs.Built.{Built, StandsFor, with_label}
use Rattle.dns_wire.proofs.Builds.{stands_here, stands_is, stands_len, label_len}
use Rattle.dns_wire.proofs.Pushes.{none_of, some_of, no_octets, stands_labelled, stands_unlabelled, labelled_short, name_fault, label_fault, no_name_fault, no_label_fault, ok_no_error}
use Rattle.dns_wire.specs.declared.push_error.PushError.TheVariants.{LongName, LongLabel}
use Rattle.dns_flat.proofs.builder.NameBuilder.append_label.Goals as goal
use Rattle.dns_flat.proofs.builder.NameBuilder.append_label.Goals.{then-not-is_empty+in_ok-append_label_to, else-not-is_empty, After-self-1}

pub returns-in_err-append_label_to-clause-long_name : goal.returns-in_err-append_label_to-clause-long_name
returns-in_err-append_label_to-clause-long_name g c =
    let p = err_from_is_err_and c.from_residual.result c.from_residual.ensures.1 in
    let P : Built → Type 0 = λ b. StandsFor (g.B.Octets.list c.self.inside.builder) c.self.inside.head b in
    let here = subst P c.self.view_is c.self.invariant in
    let some = some_of (length c.args.label.now) (sym c.if-not-is_empty.ensures) in
    let size = label_len c.args.self.now c.args.label.now some in
    let long = stands_len _ _ _ here in
    rw (p.1, p.2) (name_fault _ _ (omega (arith, size, long)) c.in_err-append_label_to.ensures.long_name)

pub returns-in_err-append_label_to-clause-long_label : goal.returns-in_err-append_label_to-clause-long_label
returns-in_err-append_label_to-clause-long_label g c =
    let p = err_from_is_err_and c.from_residual.result c.from_residual.ensures.1 in
    let P : Built → Type 0 = λ b. StandsFor (g.B.Octets.list c.self.inside.builder) c.self.inside.head b in
    let here = subst P c.self.view_is c.self.invariant in
    let some = some_of (length c.args.label.now) (sym c.if-not-is_empty.ensures) in
    let size = label_len c.args.self.now c.args.label.now some in
    let long = stands_len _ _ _ here in
    rw (p.1, p.2) (label_fault _ _ _ _ (omega (arith, size, long)) refl c.in_err-append_label_to.ensures.long_label)

below : (n : ℕ) → (254 < n → ⊥) → n ≤ 254
below n none = omega arith

under : (n : ℕ) → (63 < n → ⊥) → n ≤ 63
under n none = omega arith

joined : (g : _) (c : After-self-1 g)
    → StandsFor (g.B.Octets.list c.if-not-is_empty.self-inside.builder) None (with_label c.args.self.now c.args.label.now)
joined g c =
    let P : Built → Type 0 = λ b. StandsFor (g.B.Octets.list c.self.inside.builder) c.self.inside.head b in
    let here = subst P c.self.view_is c.self.invariant in
    elim c.if-not-is_empty.branch [
      | then-not-is_empty+in_ok-append_label_to w ↦
          let some = some_of (length c.args.label.now) (sym w.if-not-is_empty.ensures) in
          let fault = w.in_ok-append_label_to.ensures in
          let few : length (g.B.Octets.list c.self.inside.builder) + 1 + length c.args.label.now ≤ 254 =
          below _ (λ over. let no = fault.long_name.1 over in cc) in
          let short : length c.args.label.now ≤ 63 = under _ (λ over. let no = fault.long_label.1 (few, over) in cc) in
          rw w.self-inside-is (stands_labelled _ _ _ c.args.self.now c.args.label.now here fault.ok some short few)
      | else-not-is_empty w ↦
          let none = no_octets c.args.label.now (none_of (length c.args.label.now) (sym w.if-not-is_empty.ensures)) in
          rw w.self-inside-is (stands_unlabelled _ _ c.args.self.now c.args.label.now here none)
    ]

pub invariant_of-self-2 : goal.invariant_of-self-2
invariant_of-self-2 g c = stands_here _ _ _ (joined g c)

pub returns-clause-ok : goal.returns-clause-ok
returns-clause-ok g c = stands_is _ _ (with_label c.args.self.now c.args.label.now) (joined g c)

pub returns-clause-long_name : goal.returns-clause-long_name
returns-clause-long_name g c =
    let stands = joined g c in
    let long = stands_len _ _ _ stands in
    let few = stands.few in
    no_name_fault (Ok tt) _ (ok_no_error (Ok tt) tt LongName refl) (omega (arith, long, few))

pub returns-clause-long_label : goal.returns-clause-long_label
returns-clause-long_label g c =
    no_label_fault (Ok tt) _ _ (ok_no_error (Ok tt) tt LongLabel refl) (λ few. labelled_short _ c.args.self.now c.args.label.now (joined g c))
