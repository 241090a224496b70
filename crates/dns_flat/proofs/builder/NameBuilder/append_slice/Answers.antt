use Rattle.std.proofs.Common.{◌+◌, ◌<◌, ◌≤◌, ℕ, length, length-append, refl, sym, ◌∙◌, ap, subst, arith}
use Rattle.std.proofs.lemmas.Result.{err_from_is_err_and}
use Rattle.std.specs.Prelude.{Ok, Err}
use Rattle.dns_wire.specs.Built.{Built, StandsFor, with_octets}
use Rattle.dns_wire.specs.declared.push_error.PushError.TheVariants.{LongName, LongLabel, ShortBuf}
use Rattle.dns_wire.proofs.Builds.{stands_here, stands_is, stands_len}
use Rattle.dns_wire.proofs.Pushes.{some_of, open_more, open_new, open_short, stands_put, name_fault, label_fault, no_name_fault, no_label_fault, ok_no_error, other_error, name_no_label, short_no_label, short_no_name}
use Rattle.dns_flat.proofs.builder.NameBuilder.append_slice.Goals as goal

below : (n : ℕ) → (254 < n → ⊥) → n ≤ 254
below n none = omega arith

under : (n : ℕ) → (63 < n → ⊥) → n ≤ 63
under n none = omega arith

pub returns-in_err-append_label_to-clause-long_name : goal.returns-in_err-append_label_to-clause-long_name
returns-in_err-append_label_to-clause-long_name g c =
    let P : Built → Type 0 = λ b. StandsFor (g.B.Octets.list c.self.inside.builder) c.self.inside.head b in
    let here = subst P c.self.view_is c.self.invariant in
    let some = some_of (length c.args.octets.now) (sym c.if-is_empty.ensures) in
    let long = stands_len _ _ _ here in
    let begins = open_new _ _ _ c.args.octets.now here c.in_default.is some in
    let p = err_from_is_err_and c.from_residual.result c.from_residual.ensures.1 in
    rw (p.1, p.2) (name_fault _ _ begins.size c.in_err-append_label_to.ensures.long_name)

pub returns-in_err-append_label_to-clause-long_label : goal.returns-in_err-append_label_to-clause-long_label
returns-in_err-append_label_to-clause-long_label g c =
    let P : Built → Type 0 = λ b. StandsFor (g.B.Octets.list c.self.inside.builder) c.self.inside.head b in
    let here = subst P c.self.view_is c.self.invariant in
    let some = some_of (length c.args.octets.now) (sym c.if-is_empty.ensures) in
    let long = stands_len _ _ _ here in
    let begins = open_new _ _ _ c.args.octets.now here c.in_default.is some in
    let p = err_from_is_err_and c.from_residual.result c.from_residual.ensures.1 in
    let none = begins.none in
    rw (p.1, p.2) (label_fault _ _ _ _ begins.size (omega arith) c.in_err-append_label_to.ensures.long_label)

pub invariant_of-self-in_default : goal.invariant_of-self-in_default
invariant_of-self-in_default g c =
    let P : Built → Type 0 = λ b. StandsFor (g.B.Octets.list c.self.inside.builder) c.self.inside.head b in
    let here = subst P c.self.view_is c.self.invariant in
    let some = some_of (length c.args.octets.now) (sym c.if-is_empty.ensures) in
    let long = stands_len _ _ _ here in
    let begins = open_new _ _ _ c.args.octets.now here c.in_default.is some in
    let fault = c.in_ok-append_label_to.ensures in
    let few : length (g.B.Octets.list c.self.inside.builder) + 1 + length c.args.octets.now ≤ 254 =
    below _ (λ over. ok_no_error (Ok tt) tt LongName refl (fault.long_name.1 over)) in
    let fits : length c.args.octets.now ≤ 63 = under _ (λ over. ok_no_error (Ok tt) tt LongLabel refl (fault.long_label.1 (few, over))) in
    let stands = begins.stands (g.B.Octets.list c.append_label_to.new.builder) c.len-len.result fault.ok (c.len-len.ensures.octets ∙ sym long) fits few in
    stands_here _ _ _ stands

pub returns-in_default-clause-ok : goal.returns-in_default-clause-ok
returns-in_default-clause-ok g c =
    let P : Built → Type 0 = λ b. StandsFor (g.B.Octets.list c.self.inside.builder) c.self.inside.head b in
    let here = subst P c.self.view_is c.self.invariant in
    let some = some_of (length c.args.octets.now) (sym c.if-is_empty.ensures) in
    let long = stands_len _ _ _ here in
    let begins = open_new _ _ _ c.args.octets.now here c.in_default.is some in
    let fault = c.in_ok-append_label_to.ensures in
    let few : length (g.B.Octets.list c.self.inside.builder) + 1 + length c.args.octets.now ≤ 254 =
    below _ (λ over. ok_no_error (Ok tt) tt LongName refl (fault.long_name.1 over)) in
    let fits : length c.args.octets.now ≤ 63 = under _ (λ over. ok_no_error (Ok tt) tt LongLabel refl (fault.long_label.1 (few, over))) in
    let stands = begins.stands (g.B.Octets.list c.append_label_to.new.builder) c.len-len.result fault.ok (c.len-len.ensures.octets ∙ sym long) fits few in
    stands_is _ _ (with_octets c.args.self.now c.args.octets.now) stands

pub returns-in_default-clause-long_name : goal.returns-in_default-clause-long_name
returns-in_default-clause-long_name g c =
    let P : Built → Type 0 = λ b. StandsFor (g.B.Octets.list c.self.inside.builder) c.self.inside.head b in
    let here = subst P c.self.view_is c.self.invariant in
    let some = some_of (length c.args.octets.now) (sym c.if-is_empty.ensures) in
    let long = stands_len _ _ _ here in
    let begins = open_new _ _ _ c.args.octets.now here c.in_default.is some in
    let fault = c.in_ok-append_label_to.ensures in
    let few : length (g.B.Octets.list c.self.inside.builder) + 1 + length c.args.octets.now ≤ 254 =
    below _ (λ over. ok_no_error (Ok tt) tt LongName refl (fault.long_name.1 over)) in
    let fits : length c.args.octets.now ≤ 63 = under _ (λ over. ok_no_error (Ok tt) tt LongLabel refl (fault.long_label.1 (few, over))) in
    let stands = begins.stands (g.B.Octets.list c.append_label_to.new.builder) c.len-len.result fault.ok (c.len-len.ensures.octets ∙ sym long) fits few in
    let size = begins.size in
    no_name_fault (Ok tt) _ (ok_no_error (Ok tt) tt LongName refl) (omega arith)

pub returns-in_default-clause-long_label : goal.returns-in_default-clause-long_label
returns-in_default-clause-long_label g c =
    let P : Built → Type 0 = λ b. StandsFor (g.B.Octets.list c.self.inside.builder) c.self.inside.head b in
    let here = subst P c.self.view_is c.self.invariant in
    let some = some_of (length c.args.octets.now) (sym c.if-is_empty.ensures) in
    let long = stands_len _ _ _ here in
    let begins = open_new _ _ _ c.args.octets.now here c.in_default.is some in
    let fault = c.in_ok-append_label_to.ensures in
    let few : length (g.B.Octets.list c.self.inside.builder) + 1 + length c.args.octets.now ≤ 254 =
    below _ (λ over. ok_no_error (Ok tt) tt LongName refl (fault.long_name.1 over)) in
    let fits : length c.args.octets.now ≤ 63 = under _ (λ over. ok_no_error (Ok tt) tt LongLabel refl (fault.long_label.1 (few, over))) in
    let stands = begins.stands (g.B.Octets.list c.append_label_to.new.builder) c.len-len.result fault.ok (c.len-len.ensures.octets ∙ sym long) fits few in
    let none = begins.none in
    no_label_fault (Ok tt) _ _ (ok_no_error (Ok tt) tt LongLabel refl) (λ all. omega arith)

pub overflow_sub-count : goal.overflow_sub-count
overflow_sub-count g c =
    let P : Built → Type 0 = λ b. StandsFor (g.B.Octets.list c.self.inside.builder) c.self.inside.head b in
    let here = subst P c.self.view_is c.self.invariant in
    let some = some_of (length c.args.octets.now) (sym c.if-is_empty.ensures) in
    let long = stands_len _ _ _ here in
    let goes = open_more _ _ c.in-Some.place _ c.args.octets.now here c.in-Some.is some in
    let short = open_short _ _ c.args.self.now.finished c.args.self.now.begun here in
    let at = goes.count in
    omega (arith, c.len-len.ensures.octets)

pub overflow_sub-count-2 : goal.overflow_sub-count-2
overflow_sub-count-2 g c =
    let P : Built → Type 0 = λ b. StandsFor (g.B.Octets.list c.self.inside.builder) c.self.inside.head b in
    let here = subst P c.self.view_is c.self.invariant in
    let some = some_of (length c.args.octets.now) (sym c.if-is_empty.ensures) in
    let long = stands_len _ _ _ here in
    let goes = open_more _ _ c.in-Some.place _ c.args.octets.now here c.in-Some.is some in
    let short = open_short _ _ c.args.self.now.finished c.args.self.now.begun here in
    let at = goes.count in
    omega (arith, c.len-len.ensures.octets)

pub returns-then-octets-len-clause-long_name : goal.returns-then-octets-len-clause-long_name
returns-then-octets-len-clause-long_name g c =
    let P : Built → Type 0 = λ b. StandsFor (g.B.Octets.list c.self.inside.builder) c.self.inside.head b in
    let here = subst P c.self.view_is c.self.invariant in
    let some = some_of (length c.args.octets.now) (sym c.if-is_empty.ensures) in
    let long = stands_len _ _ _ here in
    let goes = open_more _ _ c.in-Some.place _ c.args.octets.now here c.in-Some.is some in
    let short = open_short _ _ c.args.self.now.finished c.args.self.now.begun here in
    let size = goes.size in
    (λ is. omega (arith, c.len-len.ensures.octets), λ over. refl)

pub returns-then-octets-len-clause-long_label : goal.returns-then-octets-len-clause-long_label
returns-then-octets-len-clause-long_label g c =
    let P : Built → Type 0 = λ b. StandsFor (g.B.Octets.list c.self.inside.builder) c.self.inside.head b in
    let here = subst P c.self.view_is c.self.invariant in
    let some = some_of (length c.args.octets.now) (sym c.if-is_empty.ensures) in
    let long = stands_len _ _ _ here in
    let goes = open_more _ _ c.in-Some.place _ c.args.octets.now here c.in-Some.is some in
    let short = open_short _ _ c.args.self.now.finished c.args.self.now.begun here in
    let size = goes.size in
    (λ is. absurd (other_error LongName LongLabel name_no_label _ refl is), λ told. absurd (omega (arith, told.0, c.len-len.ensures.octets)))

pub overflow_sub-count-3 : goal.overflow_sub-count-3
overflow_sub-count-3 g c =
    let P : Built → Type 0 = λ b. StandsFor (g.B.Octets.list c.self.inside.builder) c.self.inside.head b in
    let here = subst P c.self.view_is c.self.invariant in
    let some = some_of (length c.args.octets.now) (sym c.if-is_empty.ensures) in
    let long = stands_len _ _ _ here in
    let goes = open_more _ _ c.in-Some.place _ c.args.octets.now here c.in-Some.is some in
    let short = open_short _ _ c.args.self.now.finished c.args.self.now.begun here in
    let at = goes.count in
    omega (arith, c.len-len.ensures.octets)

pub returns-then-octets-count-clause-long_name : goal.returns-then-octets-count-clause-long_name
returns-then-octets-count-clause-long_name g c =
    let P : Built → Type 0 = λ b. StandsFor (g.B.Octets.list c.self.inside.builder) c.self.inside.head b in
    let here = subst P c.self.view_is c.self.invariant in
    let some = some_of (length c.args.octets.now) (sym c.if-is_empty.ensures) in
    let long = stands_len _ _ _ here in
    let goes = open_more _ _ c.in-Some.place _ c.args.octets.now here c.in-Some.is some in
    let short = open_short _ _ c.args.self.now.finished c.args.self.now.begun here in
    let size = goes.size in
    (λ is. absurd (other_error LongLabel LongName (λ e. name_no_label (sym e)) _ refl is), λ over. absurd (omega (arith, c.len-len.ensures.octets)))

pub returns-then-octets-count-clause-long_label : goal.returns-then-octets-count-clause-long_label
returns-then-octets-count-clause-long_label g c =
    let P : Built → Type 0 = λ b. StandsFor (g.B.Octets.list c.self.inside.builder) c.self.inside.head b in
    let here = subst P c.self.view_is c.self.invariant in
    let some = some_of (length c.args.octets.now) (sym c.if-is_empty.ensures) in
    let long = stands_len _ _ _ here in
    let goes = open_more _ _ c.in-Some.place _ c.args.octets.now here c.in-Some.is some in
    let short = open_short _ _ c.args.self.now.finished c.args.self.now.begun here in
    let size = goes.size in
    let at = goes.count in
    (λ is. (omega (arith, c.len-len.ensures.octets), omega (arith, c.len-len.ensures.octets)), λ told. refl)

pub returns-in_err-append_slice-clause-long_name : goal.returns-in_err-append_slice-clause-long_name
returns-in_err-append_slice-clause-long_name g c =
    let P : Built → Type 0 = λ b. StandsFor (g.B.Octets.list c.self.inside.builder) c.self.inside.head b in
    let here = subst P c.self.view_is c.self.invariant in
    let some = some_of (length c.args.octets.now) (sym c.if-is_empty.ensures) in
    let long = stands_len _ _ _ here in
    let goes = open_more _ _ c.in-Some.place _ c.args.octets.now here c.in-Some.is some in
    let short = open_short _ _ c.args.self.now.finished c.args.self.now.begun here in
    let p = err_from_is_err_and c.from_residual-in_err-append_slice.result c.from_residual-in_err-append_slice.ensures.1 in
    let is = p.1 ∙ ap (λ e. Err e) p.2 in
    let size = goes.size in
    let at = goes.count in
    no_name_fault c.from_residual-in_err-append_slice.result _ (other_error ShortBuf LongName short_no_name _ is) (omega (arith, c.len-len.ensures.octets))

pub returns-in_err-append_slice-clause-long_label : goal.returns-in_err-append_slice-clause-long_label
returns-in_err-append_slice-clause-long_label g c =
    let P : Built → Type 0 = λ b. StandsFor (g.B.Octets.list c.self.inside.builder) c.self.inside.head b in
    let here = subst P c.self.view_is c.self.invariant in
    let some = some_of (length c.args.octets.now) (sym c.if-is_empty.ensures) in
    let long = stands_len _ _ _ here in
    let goes = open_more _ _ c.in-Some.place _ c.args.octets.now here c.in-Some.is some in
    let short = open_short _ _ c.args.self.now.finished c.args.self.now.begun here in
    let p = err_from_is_err_and c.from_residual-in_err-append_slice.result c.from_residual-in_err-append_slice.ensures.1 in
    let is = p.1 ∙ ap (λ e. Err e) p.2 in
    let size = goes.size in
    let at = goes.count in
    no_label_fault c.from_residual-in_err-append_slice.result _ _ (other_error ShortBuf LongLabel short_no_label _ is) (λ all. omega (arith, c.len-len.ensures.octets))

pub set_octet-requires : goal.set_octet-requires
set_octet-requires g c =
    let P : Built → Type 0 = λ b. StandsFor (g.B.Octets.list c.self.inside.builder) c.self.inside.head b in
    let here = subst P c.self.view_is c.self.invariant in
    let some = some_of (length c.args.octets.now) (sym c.if-is_empty.ensures) in
    let long = stands_len _ _ _ here in
    let goes = open_more _ _ c.in-Some.place _ c.args.octets.now here c.in-Some.is some in
    let short = open_short _ _ c.args.self.now.finished c.args.self.now.begun here in
    let at = goes.count in
    omega (arith, ap (length {A = ℕ}) c.in_ok-append_slice.ensures.ok, length-append (g.B.Octets.list c.self.inside.builder) c.args.octets.now)

pub invariant_of-self-2 : goal.invariant_of-self-2
invariant_of-self-2 g c =
    let P : Built → Type 0 = λ b. StandsFor (g.B.Octets.list c.self.inside.builder) c.self.inside.head b in
    let here = subst P c.self.view_is c.self.invariant in
    let some = some_of (length c.args.octets.now) (sym c.if-is_empty.ensures) in
    let long = stands_len _ _ _ here in
    let goes = open_more _ _ c.in-Some.place _ c.args.octets.now here c.in-Some.is some in
    let short = open_short _ _ c.args.self.now.finished c.args.self.now.begun here in
    let at = goes.count in
    let size = goes.size in
    let stands = stands_put _ _ (g.B.Octets.list c.set_octet.new.self) _ c.in-Some.place c.args.self.now c.args.octets.now _ here c.in-Some.is some
    c.in_ok-append_slice.ensures.ok c.set_octet.ensures.octets (omega (arith, c.len-len.ensures.octets)) (omega (arith, c.len-len.ensures.octets)) (omega (arith, c.len-len.ensures.octets)) in
    stands_here _ _ _ stands

pub returns-clause-ok : goal.returns-clause-ok
returns-clause-ok g c =
    let P : Built → Type 0 = λ b. StandsFor (g.B.Octets.list c.self.inside.builder) c.self.inside.head b in
    let here = subst P c.self.view_is c.self.invariant in
    let some = some_of (length c.args.octets.now) (sym c.if-is_empty.ensures) in
    let long = stands_len _ _ _ here in
    let goes = open_more _ _ c.in-Some.place _ c.args.octets.now here c.in-Some.is some in
    let short = open_short _ _ c.args.self.now.finished c.args.self.now.begun here in
    let at = goes.count in
    let size = goes.size in
    let stands = stands_put _ _ (g.B.Octets.list c.set_octet.new.self) _ c.in-Some.place c.args.self.now c.args.octets.now _ here c.in-Some.is some
    c.in_ok-append_slice.ensures.ok c.set_octet.ensures.octets (omega (arith, c.len-len.ensures.octets)) (omega (arith, c.len-len.ensures.octets)) (omega (arith, c.len-len.ensures.octets)) in
    stands_is _ _ (with_octets c.args.self.now c.args.octets.now) stands

pub returns-clause-long_name : goal.returns-clause-long_name
returns-clause-long_name g c =
    let P : Built → Type 0 = λ b. StandsFor (g.B.Octets.list c.self.inside.builder) c.self.inside.head b in
    let here = subst P c.self.view_is c.self.invariant in
    let some = some_of (length c.args.octets.now) (sym c.if-is_empty.ensures) in
    let long = stands_len _ _ _ here in
    let goes = open_more _ _ c.in-Some.place _ c.args.octets.now here c.in-Some.is some in
    let short = open_short _ _ c.args.self.now.finished c.args.self.now.begun here in
    let at = goes.count in
    let size = goes.size in
    let stands = stands_put _ _ (g.B.Octets.list c.set_octet.new.self) _ c.in-Some.place c.args.self.now c.args.octets.now _ here c.in-Some.is some
    c.in_ok-append_slice.ensures.ok c.set_octet.ensures.octets (omega (arith, c.len-len.ensures.octets)) (omega (arith, c.len-len.ensures.octets)) (omega (arith, c.len-len.ensures.octets)) in
    no_name_fault (Ok tt) _ (ok_no_error (Ok tt) tt LongName refl) (omega (arith, c.len-len.ensures.octets))

pub returns-clause-long_label : goal.returns-clause-long_label
returns-clause-long_label g c =
    let P : Built → Type 0 = λ b. StandsFor (g.B.Octets.list c.self.inside.builder) c.self.inside.head b in
    let here = subst P c.self.view_is c.self.invariant in
    let some = some_of (length c.args.octets.now) (sym c.if-is_empty.ensures) in
    let long = stands_len _ _ _ here in
    let goes = open_more _ _ c.in-Some.place _ c.args.octets.now here c.in-Some.is some in
    let short = open_short _ _ c.args.self.now.finished c.args.self.now.begun here in
    let at = goes.count in
    let size = goes.size in
    let stands = stands_put _ _ (g.B.Octets.list c.set_octet.new.self) _ c.in-Some.place c.args.self.now c.args.octets.now _ here c.in-Some.is some
    c.in_ok-append_slice.ensures.ok c.set_octet.ensures.octets (omega (arith, c.len-len.ensures.octets)) (omega (arith, c.len-len.ensures.octets)) (omega (arith, c.len-len.ensures.octets)) in
    no_label_fault (Ok tt) _ _ (ok_no_error (Ok tt) tt LongLabel refl) (λ all. omega (arith, c.len-len.ensures.octets))
