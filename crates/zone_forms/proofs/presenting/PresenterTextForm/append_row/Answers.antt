use Rattle.std.proofs.Common.{◌≡◌, ◌++◌, List, ℕ, arith, length, rules, subst, option_copied, Option}
use Rattle.std.proofs.lemmas.Grind.{common_steps}
use Rattle.dns_entry_scanner.specs.NameInText.{SpellsUnder}
use Rattle.dns_text.specs.Layout.{layout_of}
use Rattle.zone_forms.specs.Presented.{HasPresentation}
use Rattle.zone_forms.specs.Presenting.{PrintsRow}
use Rattle.zone_general.specs.Seen.{context_in, octets_in, row_in}
use Rattle.zone_forms.proofs.PresentedRows.{cut_back, goes_as_is, goes_so, handed_on}
use Rattle.zone_forms.proofs.presenting.PresenterTextForm.append_row.Goals as goal

pub returns-in_err-read_entry-clause-err : goal.returns-in_err-read_entry-clause-err
returns-in_err-read_entry-clause-err c =
    handed_on c.from_residual-in_err-read_entry.result c.in_err-read_entry.field-0.0 _ c.from_residual-in_err-read_entry.ensures.1
    c.in_err-read_entry.ensures.err

pub returns-in_ok-extend_from_slice-in-Some-clause-ok : goal.returns-in_ok-extend_from_slice-in-Some-clause-ok
returns-in_ok-extend_from_slice-in-Some-clause-ok c =
    let told = c.in_ok-read_entry.ensures.ok in
    let layout = layout_of c.args.self.now.kind in
    let made : PrintsRow (SpellsUnder (option_copied c.origin.result)) c.args.row layout c.in-Some.printed.items =
    rw c.in-Some.is at c.in_ok-printed.ensures.ok in
    let prints : PrintsRow (SpellsUnder (context_in c.args.reader.now).origin) c.args.row layout c.in-Some.printed.items =
    subst (λ (o : Option (List (List ℕ))). PrintsRow (SpellsUnder o) c.args.row layout c.in-Some.printed.items) c.origin.ensures made in
    let size : c.len-len.result ≡ length c.args.out.now.items = search rules in
    let back : c.truncate.new.self.items ≡ c.args.out.now.items = cut_back c.args.out.now.items told.1 size told.3 c.truncate.ensures.items in
    let all : c.extend_from_slice.new.self.items ≡ c.args.out.now.items ++ c.in-Some.printed.items = grind (arith, common_steps, back) in
    goes_so c.args.row c.args.out.now.items c.requires.found prints told.2 all

pub returns-in_ok-extend_from_slice-in-None-clause-ok : goal.returns-in_ok-extend_from_slice-in-None-clause-ok
returns-in_ok-extend_from_slice-in-None-clause-ok c =
    let told = c.in_ok-read_entry.ensures.ok in
    let made : HasPresentation (SpellsUnder (option_copied c.origin.result)) (row_in c.args.row) → ⊥ = rw c.in-None.is at c.in_ok-printed.ensures.none in
    let none : HasPresentation (SpellsUnder (context_in c.args.reader.now).origin) (row_in c.args.row) → ⊥ =
    subst (λ (o : Option (List (List ℕ))). HasPresentation (SpellsUnder o) (row_in c.args.row) → ⊥) c.origin.ensures made in
    let size : c.len-len.result ≡ length c.args.out.now.items = search rules in
    let back : c.truncate.new.self.items ≡ c.args.out.now.items = cut_back c.args.out.now.items told.1 size told.3 c.truncate.ensures.items in
    let all : c.extend_from_slice-in-None.new.self.items ≡ c.args.out.now.items ++ octets_in c.args.row = grind (arith, common_steps, back) in
    goes_as_is c.args.row c.args.out.now.items told.2 none all
