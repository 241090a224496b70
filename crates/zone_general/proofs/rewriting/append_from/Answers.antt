use Rattle.std.proofs.Common.{rules, true, Result, Ok, Err, Some, if◌then◌else◌, refl, sym, subst, ◌≡◌, ◌⊎◌, ◌<◌, ◌≤◌, ◌+◌, ◌++◌, Bool, ℕ, List, OnOk, ap, ◌∙◌, arith, length}
use Rattle.std.specs.Prelude.{slice_get}
use Rattle.std.specs.Result.{is_ok}
use Rattle.dns_scan.specs.Token.{unquoted}
use Rattle.dns_entry_scanner.specs.TokenEnd.{between}
use Rattle.zone_general.specs.DataText.{text_of}
use Rattle.zone_general.specs.Seen.{IsFound, tokens_in}
use Rattle.zone_general.specs.WrittenPart.{place_at}
use Rattle.zone_general.specs.declared.found_row.FoundRow.{FoundRow}
use Rattle.zone_general.proofs.RowGoing.{Reached, ending, first_behind, first_within, gap_order, gap_within, no_span, place_order, reached_first, reached_on}
use Rattle.zone_general.proofs.rewriting.append_from.Goals as goal

-- what is there before the loop
there : (row : FoundRow) (place first : ℕ) (word text old : List ℕ) → IsFound row → place < length row.spans.now
    → (first ≡ place) ⊎ ((first ≡ place + 1) × (slice_get (tokens_in row) place ≡ Some (unquoted word)))
    → Reached row place word text (place_at row.text.now row.place row.spans.now first) first old
    (old ++ between row.place (place_at row.text.now row.place row.spans.now first) row.text.now)
there row place first word text old found within begins = reached_first row place first word text old _ found no_span within begins refl

pub place_before-behind-requires : goal.place_before-behind-requires
place_before-behind-requires c = first_within c.requires.first _ c.requires.within

pub slice_bounds-extend_from_slice-count : goal.slice_bounds-extend_from_slice-count
slice_bounds-extend_from_slice-count c =
    let order = place_order c.args.row c.args.first c.requires.found no_span (first_within c.requires.first _ c.requires.within) in
    omega (arith, order, c.place_before-behind.ensures)

pub slice_bounds-extend_from_slice-start : goal.slice_bounds-extend_from_slice-start
slice_bounds-extend_from_slice-start c =
    let begins = place_order c.args.row c.args.first c.requires.found no_span (first_within c.requires.first _ c.requires.within) in
    let order : c.args.row.place ≤ c.place_before-behind.result = omega (arith, begins, c.place_before-behind.ensures) in
    search rules

pub slice_bounds-extend_from_slice-end : goal.slice_bounds-extend_from_slice-end
slice_bounds-extend_from_slice-end c =
    let so = there c.args.row c.args.type_index c.args.first c.args.word.now (text_of c.args.text) c.args.out.now.items c.requires.found c.requires.within c.requires.first in
    let within : c.place_before-behind.result ≤ length c.args.row.text.now = omega (arith, so.going.within, c.place_before-behind.ensures) in
    search rules

pub loop-index-init : goal.loop-index-init
loop-index-init c =
    let at = c.place_before-behind.ensures in
    let out = c.extend_from_slice.new.self.items in (
      first_behind c.requires.first,
      subst (λ n. Reached c.args.row c.args.type_index c.args.word.now (text_of c.args.text) n c.args.first c.args.out.now.items out) (sym at)
          (reached_first c.args.row c.args.type_index c.args.first c.args.word.now (text_of c.args.text) c.args.out.now.items out c.requires.found no_span
          c.requires.within c.requires.first
          (c.in_ok-extend_from_slice.ensures.items ∙ ap (λ n. c.args.out.now.items ++ between c.args.row.place n c.args.row.text.now) at)),
    )

pub slice_bounds-gap-count : goal.slice_bounds-gap-count
slice_bounds-gap-count c = gap_order c.loop-index.invariant.1 _ c.loop-index-test.true _ c.first_place.ensures

pub slice_bounds-gap-start : goal.slice_bounds-gap-start
slice_bounds-gap-start c =
    let order = gap_order c.loop-index.invariant.1 _ c.loop-index-test.true _ c.first_place.ensures in search rules

pub slice_bounds-gap-end : goal.slice_bounds-gap-end
slice_bounds-gap-end c =
    let within = gap_within c.loop-index.invariant.1 _ c.loop-index-test.true _ c.first_place.ensures in search rules

pub loop-index-preserved : goal.loop-index-preserved
loop-index-preserved c =
    let row = c.args.row in
    let gap = between c.loop-index.behind c.first_place.result row.text.now in (
      omega (arith, c.loop-index.invariant.0),
      subst (λ n. Reached row c.args.type_index c.args.word.now (text_of c.args.text) n (c.loop-index.index + 1) c.args.out.now.items c.append_part.new.out.items)
          (sym c.end_place-behind.ensures)
          (reached_on c.loop-index.invariant.1 _ c.loop-index-test.true gap c.append_part.new.out.items
          (ap (λ n. between c.loop-index.behind n row.text.now) c.first_place.ensures) c.in_ok-append_part.ensures),
    )

pub slice_bounds-extend_from_slice-count-2 : goal.slice_bounds-extend_from_slice-count-2
slice_bounds-extend_from_slice-count-2 c =
    (ending c.requires.found c.loop-index.invariant.1.going c.requires.within c.loop-index-test.false).order

pub slice_bounds-extend_from_slice-start-2 : goal.slice_bounds-extend_from_slice-start-2
slice_bounds-extend_from_slice-start-2 c =
    let order = (ending c.requires.found c.loop-index.invariant.1.going c.requires.within c.loop-index-test.false).order in search rules

on_ok : {T E P : Type 0} (r : Result T E) → (is_ok r ≡ true → P) → OnOk r P
on_ok (Ok x) holds = holds refl
on_ok (Err e) holds = tt

pub returns : goal.returns
returns c =
    let ends = ending c.requires.found c.loop-index.invariant.1.going c.requires.within c.loop-index-test.false in
    let last = between c.loop-index.behind c.args.row.next c.args.row.text.now in
    let old = c.append_missing.new.out.items in
    on_ok c.extend_from_slice-2.result (λ ok. (
      ends.new,
      ends.is,
      c.extend_from_slice-2.ensures.items ∙ ap (λ (b : Bool). if b then old ++ last else old) ok
          ∙ ap (λ (l : List ℕ). l ++ last) c.in_ok-append_missing.ensures ∙ ends.appended,
    ))
