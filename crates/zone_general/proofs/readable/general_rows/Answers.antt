use Rattle.std.proofs.Common.{◌≡◌, ◌<◌, ◌++◌, [], List, ℕ, Some, true, drop, option_copied, arith, subst, sym}
use Rattle.std.proofs.lemmas.Grind.{common_steps}
use Rattle.dns_text.specs.Tokens.{is_end}
use Rattle.dns_entry_scanner.specs.RowFound.{IsFoundAt}
use Rattle.dns_entry_scanner.specs.declared.row.RowFound.TheVariants.{Broken}
use Rattle.dns_zonefile.specs.Entry.{Context, at_start}
use Rattle.zone_general.proofs.ReadableRows.{GoingReadable, goes_on_within, readable_end, readable_line, readable_row, readable_start}
use Rattle.zone_general.specs.Seen.{IsFound, context_in}
use Rattle.zone_general.specs.declared.found_row.FoundRow.{FoundRow}
use Rattle.zone_general.proofs.readable.general_rows.Goals as goal

pub loop-next-init : goal.loop-next-init
loop-next-init c =
    let start = at_start (option_copied c.args.origin) (Some c.args.class) in
    let none : c.new-out.result.items ≡ [] = c.new-out.ensures.items in
    subst (λ (out : List ℕ). GoingReadable start c.args.text.now 0 (context_in c.in_ok-reader.reader) out) (sym none)
    (subst (λ (context : Context). GoingReadable start c.args.text.now 0 context []) (sym c.in_ok-reader.ensures) (readable_start start c.args.text.now))

pub loop-next-preserved-in-Ok-Row : goal.loop-next-preserved-in-Ok-Row
loop-next-preserved-in-Ok-Row c =
    let row : FoundRow = record {
      text = c.args.text;
      place = c.loop-next.place;
      next = c.in-Ok-Row.next;
      spans = c.deref.result;
      blank_led = c.in-Ok-Row.blank_led;
    } in
    let found : IsFound row = grind (arith, common_steps) in readable_row row found c.loop-next.invariant c.in_ok-append_row-in-Ok-Row.ensures

pub loop-next-preserved : goal.loop-next-preserved
loop-next-preserved c =
    let none : IsFoundAt c.args.text.now c.loop-next.place c.read_row.new.tokens.items Broken = rw c.in-Ok-Broken.field-0-is at c.in-Ok-Broken.ensures in
    let before : c.loop-next.place < c.next_line-next.result = c.next_line-next.ensures.behind (goes_on_within c.args.text.now c.loop-next.place none.0 c.loop-next.invariant.within) in
    readable_line c.next_line-next.result c.loop-next.invariant none.0 none.1 c.next_line-next.ensures.left (omega (arith, before))
    c.next_line-next.ensures.within c.extend_from_slice.new.self.items c.in_ok-extend_from_slice-in-Ok-Broken.ensures.items

pub slice_bounds-extend_from_slice-count-in-Ok-End : goal.slice_bounds-extend_from_slice-count-in-Ok-End
slice_bounds-extend_from_slice-count-in-Ok-End c = omega (arith, c.loop-next.invariant.within)

pub slice_bounds-extend_from_slice-start-in-Ok-End : goal.slice_bounds-extend_from_slice-start-in-Ok-End
slice_bounds-extend_from_slice-start-in-Ok-End c = omega (arith, c.loop-next.invariant.within)

pub returns-in-Ok-End : goal.returns-in-Ok-End
returns-in-Ok-End c =
    let ends : is_end (drop c.loop-next.place c.args.text.now) ≡ true = rw c.in-Ok-End.field-0-is at c.in-Ok-End.ensures in
    let all : c.extend_from_slice-in-Ok-End.new.self.items ≡ c.loop-next.out.items ++ drop c.loop-next.place c.args.text.now = grind (arith, common_steps) in
    readable_end c.loop-next.invariant ends all
