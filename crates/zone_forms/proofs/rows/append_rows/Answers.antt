use Rattle.std.proofs.Common.{◌≡◌, ◌∙◌, true, drop, arith, refl, subst}
use Rattle.std.proofs.lemmas.Grind.{common_steps}
use Rattle.dns_text.specs.Document.{Layout}
use Rattle.dns_text.specs.Tokens.{is_end}
use Rattle.dns_text.proofs.OneRow.{no_row_at_end}
use Rattle.zone_forms.proofs.GoingOn.{fails_row, going_row, going_start}
use Rattle.zone_forms.specs.Going.{RowGoes}
use Rattle.zone_general.specs.Seen.{IsFound, context_in, octets_in, row_in}
use Rattle.zone_general.specs.declared.found_row.FoundRow.{FoundRow}
use Rattle.zone_forms.proofs.rows.append_rows.Goals as goal

pub loop-next-init : goal.loop-next-init
loop-next-init g c = record {
  going = going_start (g.F.TextForm.goes (g.F.TextForm.layout c.args.form.now)) (context_in c.args.reader.now) c.args.text.now c.args.out.now.items;
  layout = refl;
}

pub loop-next-preserved : goal.loop-next-preserved
loop-next-preserved g c =
    let row : FoundRow = record {
      text = c.args.text;
      place = c.loop-next.place;
      next = c.in-Ok-Row.next;
      spans = c.as_slice.result;
      blank_led = c.in-Ok-Row.blank_led;
    } in
    let found : IsFound row = grind (arith, common_steps) in
    let told = c.in-Ok.ensures.ok in
    let goes = subst (λ (it : Layout). RowGoes (g.F.TextForm.goes it) (context_in c.loop-next.reader) (row_in row) (octets_in row)
    told.0 (context_in c.append_row.new.reader)) c.loop-next.invariant.layout told.1 in record {
      going = going_row row found c.loop-next.invariant.going goes told.2;
      layout = c.append_row.ensures.kept ∙ c.loop-next.invariant.layout;
    }

pub loop-next-smaller : goal.loop-next-smaller
loop-next-smaller g c =
    let row : FoundRow = record {
      text = c.args.text;
      place = c.loop-next.place;
      next = c.in-Ok-Row.next;
      spans = c.as_slice.result;
      blank_led = c.in-Ok-Row.blank_led;
    } in
    let found : IsFound row = grind (arith, common_steps) in
    omega (arith, found.behind, found.within)

pub returns-in-Err-append_row-clause-err : goal.returns-in-Err-append_row-clause-err
returns-in-Err-append_row-clause-err g c =
    let row : FoundRow = record {
      text = c.args.text;
      place = c.loop-next.place;
      next = c.in-Ok-Row.next;
      spans = c.as_slice.result;
      blank_led = c.in-Ok-Row.blank_led;
    } in
    let found : IsFound row = grind (arith, common_steps) in
    fails_row c.args.feeds row found c.loop-next.invariant.going c.in-Err-append_row.error c.in-Err-append_row.ensures.err c.form_error.result
    c.form_error.ensures.line c.form_error.ensures.memory

pub returns-in-Ok-End-clause-no_row : goal.returns-in-Ok-End-clause-no_row
returns-in-Ok-End-clause-no_row g c =
    let ends : is_end (drop c.loop-next.place c.args.text.now) ≡ true = rw c.in-Ok-End.field-0-is at c.in-Ok-End.ensures in
    λ tokens rest row. no_row_at_end ends row
