use Rattle.std.proofs.Common.{◌≡◌, ◌+◌, ◌-◌, ◌++◌, ℕ, length, drop, refl, sym, ◌∙◌, ap, arith, length-append, length-take, length-drop}
use Rattle.std.specs.Prelude.{Ok, Err, Some}
use Rattle.std.proofs.lemmas.Result.{err_from_is_err_and}
use Rattle.dns_rr_data.proofs.Builds.{adds_open, adds_full, adds_len, adds_seen, parted, cut_back}
use Rattle.dns_rr_data.proofs.Appended.{at_most, ok_not_long, short_not_long, no_long}
use Rattle.dns_rr_data.proofs.txt.cut.continue_text.Goals as goal

pub returns-then-text-count-clause-ok : goal.returns-then-text-count-clause-ok
returns-then-text-count-clause-ok g c =
    let old = g.Builder.Octets.list c.args.builder.now in
    let begun = drop (c.args.place + 1) old in
    let len = ap (length {A = ℕ}) c.octets-len.ensures in
    let size = length-append begun c.args.text.now in
    let behind = length-drop (c.args.place + 1) old in
    adds_open old c.args.text.now c.args.place _ (omega (arith, c.requires.begun)) c.in_ok-append_slice.ensures.ok c.set_octet.ensures.octets
    (omega (arith, len, size, behind, c.requires.begun)) (omega (arith, len, c.requires.begun)) (omega (arith, len, c.requires.begun, c.if-text-count.true))

pub returns-then-text-count-clause-long : goal.returns-then-text-count-clause-long
returns-then-text-count-clause-long g c =
    let few = at_most _ (λ over. let no = c.is_long.ensures.1 over in let is = c.if-is_long.false in cc) in
    let old = g.Builder.Octets.list c.args.builder.now in
    let len = ap (length {A = ℕ}) c.octets-len.ensures in
    let size = length-append (drop (c.args.place + 1) old) c.args.text.now in
    let behind = length-drop (c.args.place + 1) old in
    no_long (Ok (Some c.args.place)) _ (ok_not_long _ (Some c.args.place) refl) (omega (arith, few, len, size, behind, c.requires.begun))

pub returns-in_err-append_slice-2-clause-long : goal.returns-in_err-append_slice-2-clause-long
returns-in_err-append_slice-2-clause-long g c =
    let few = at_most _ (λ over. let no = c.is_long.ensures.1 over in let is = c.if-is_long.false in cc) in
    let old = g.Builder.Octets.list c.args.builder.now in
    let len = ap (length {A = ℕ}) c.octets-len.ensures in
    let size = length-append (drop (c.args.place + 1) old) c.args.text.now in
    let behind = length-drop (c.args.place + 1) old in
    let p = err_from_is_err_and c.from_residual-in_err-append_slice-2.result c.from_residual-in_err-append_slice-2.ensures.1 in
    no_long c.from_residual-in_err-append_slice-2.result _ (short_not_long _ (p.1 ∙ ap (λ e. Err e) p.2)) (omega (arith, few, len, size, behind, c.requires.begun))

pub returns-in-Ok-clause-ok : goal.returns-in-Ok-clause-ok
returns-in-Ok-clause-ok g c =
    let old = g.Builder.Octets.list c.args.builder.now in
    let len = ap (length {A = ℕ}) c.octets-len.ensures in
    let begun = drop (c.args.place + 1) old in
    let first = c.split_at.result.0.now in
    let behind = length-drop (c.args.place + 1) old in
    let size : length (begun ++ first) ≡ 255 =
    omega (arith, len, behind, length-append begun first, c.split_at.ensures.front_len, c.requires.begun, c.requires.short) in
    adds_seen refl (ap (λ l. begun ++ l) (sym (parted c.args.text.now _ _ (255 - (length c.octets-len.result.now - c.args.place - 1)) c.split_at.ensures.front c.split_at.ensures.back)))
    (adds_full old first c.split_at.result.1.now c.args.place (omega (arith, c.requires.begun)) c.in_ok-append_slice-2.ensures.ok c.in-Ok.ensures.ok c.set_octet-in-Ok.ensures.octets size)

pub returns-in-Ok-clause-fits : goal.returns-in-Ok-clause-fits
returns-in-Ok-clause-fits g c =
    let few = at_most _ (λ over. let no = c.is_long.ensures.1 over in let is = c.if-is_long.false in cc) in
    let old = g.Builder.Octets.list c.args.builder.now in
    let len = ap (length {A = ℕ}) c.octets-len.ensures in
    let size = length-append (drop (c.args.place + 1) old) c.args.text.now in
    let behind = length-drop (c.args.place + 1) old in
    omega (arith, few, len, size, behind, c.requires.begun, adds_len (returns-in-Ok-clause-ok g c), length-take c.args.place old)

pub returns-in-Ok-clause-long : goal.returns-in-Ok-clause-long
returns-in-Ok-clause-long g c =
    let few = at_most _ (λ over. let no = c.is_long.ensures.1 over in let is = c.if-is_long.false in cc) in
    let old = g.Builder.Octets.list c.args.builder.now in
    let len = ap (length {A = ℕ}) c.octets-len.ensures in
    let size = length-append (drop (c.args.place + 1) old) c.args.text.now in
    let behind = length-drop (c.args.place + 1) old in
    no_long (Ok c.in-Ok.head) _ (ok_not_long _ c.in-Ok.head refl) (omega (arith, few, len, size, behind, c.requires.begun))

pub returns-in-Err-clause-err : goal.returns-in-Err-clause-err
returns-in-Err-clause-err g c =
    c.truncate.ensures.octets
    ∙ cut_back (g.Builder.Octets.list c.args.builder.now) _ _ _ c.in_ok-append_slice-2.ensures.ok c.in-Err.ensures.kept (ap (length {A = ℕ}) c.octets-len.ensures)

pub returns-in-Err-clause-long : goal.returns-in-Err-clause-long
returns-in-Err-clause-long g c =
    let few = at_most _ (λ over. let no = c.is_long.ensures.1 over in let is = c.if-is_long.false in cc) in
    let old = g.Builder.Octets.list c.args.builder.now in
    let len = ap (length {A = ℕ}) c.octets-len.ensures in
    let size = length-append (drop (c.args.place + 1) old) c.args.text.now in
    let behind = length-drop (c.args.place + 1) old in
    no_long (Err c.from.result) _ (short_not_long _ (ap (λ e. Err e) c.from.ensures)) (omega (arith, few, len, size, behind, c.requires.begun))
