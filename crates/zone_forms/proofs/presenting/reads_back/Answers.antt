use Rattle.std.proofs.Common.{◌≡◌, ◌∙◌, ◌++◌, ℕ, Bool, true, nat_eq, List, [], ap, arith, length, option_copied, refl, subst, sym}
use Rattle.std.specs.Cmp.Lexicographic.{pointwise}
use Rattle.std.proofs.lemmas.Slice.Eq.{bytes_eq-Decides}
use Rattle.std.proofs.lemmas.Grind.{common_steps}
use Rattle.dns_label.specs.Octets.{AreOctets}
use Rattle.dns_entry_scanner.specs.RowFound.{IsRowAt}
use Rattle.zone_forms.specs.Presenting.{HasSameFront}
use Rattle.zone_general.specs.Seen.{IsFound, row_in}
use Rattle.zone_general.specs.declared.found_row.FoundRow.{FoundRow}
use Rattle.zone_general.proofs.GeneralRows.{row_found}
use Rattle.zone_general.proofs.ReadRows.{is_found}
use Rattle.zone_forms.proofs.ReadBack.{all_octets, data_back, front_back, front_within, no_truth, one_content, read_back, same_content, whole_row}
use Rattle.zone_general.proofs.RowTypes.{type_within}
use Rattle.zone_forms.proofs.SimpleRows.{one_scanned}
use Rattle.zone_forms.proofs.presenting.reads_back.Goals as goal

pub has_same_front-requires : goal.has_same_front-requires
has_same_front-requires c = type_within c.args.row c.requires

pub scan_data-requires : goal.scan_data-requires
scan_data-requires c =
    let other : FoundRow = record {
      text = c.args.printed;
      place = 0;
      next = c.in-Row.next;
      spans = c.deref.result;
      blank_led = c.in-Row.blank_led;
    } in
    let same : HasSameFront (row_in c.args.row) (row_in other) c.args.kind = grind (arith, common_steps) in
    front_within c.args.row other same

-- octets that are the same compare as equal
all_same : {old items content slice data' : List ℕ} (told : Bool) → old ≡ [] → items ≡ old ++ content → slice ≡ items
    → told ≡ pointwise nat_eq slice data' → content ≡ data' → told ≡ true
all_same {content = content} {slice = slice} {data' = data'} told empty is same compares alike =
    compares ∙ (bytes_eq-Decides slice data').1 (same ∙ is ∙ ap (λ (l : List ℕ). l ++ content) empty ∙ alike)

pub returns-then-next-printed-clause-ok : goal.returns-then-next-printed-clause-ok
returns-then-next-printed-clause-ok c = (
  λ yes. absurd (no_truth yes),
  λ back.
      let found : IsRowAt c.args.printed.now 0 c.read_row.new.tokens.items c.in-Row.next c.in-Row.blank_led = grind (arith, common_steps) in
      let all : c.in-Row.next ≡ length c.args.printed.now = whole_row back.are found in
      let led : c.in-Row.blank_led ≡ c.args.row.blank_led = (row_found back.are found).1 ∙ back.led in
      grind (arith, common_steps),
)

pub returns-then-not-has_same_front-clause-ok : goal.returns-then-not-has_same_front-clause-ok
returns-then-not-has_same_front-clause-ok c = (
  λ yes. absurd (no_truth yes),
  λ back.
      let other : FoundRow = record {
        text = c.args.printed;
        place = 0;
        next = c.in-Row.next;
        spans = c.deref.result;
        blank_led = c.in-Row.blank_led;
      } in
      let found : IsFound other = grind (arith, common_steps) in
      let holds = c.has_same_front.ensures.1 (front_back c.args.row other found back (type_within c.args.row c.requires)) in
      let told = c.if-not-has_same_front.true in
      grind (arith, common_steps),
)

pub returns-in-Ok-clause-ok : goal.returns-in-Ok-clause-ok
returns-in-Ok-clause-ok c =
    let other : FoundRow = record {
      text = c.args.printed;
      place = 0;
      next = c.in-Row.next;
      spans = c.deref.result;
      blank_led = c.in-Row.blank_led;
    } in
    let same : HasSameFront (row_in c.args.row) (row_in other) c.args.kind = grind (arith, common_steps) in
    let found : IsFound other = grind (arith, common_steps) in
    let all : c.in-Row.next ≡ length c.args.printed.now = grind (arith, common_steps) in
    let led : c.in-Row.blank_led ≡ c.args.row.blank_led = grind (arith, common_steps) in
    let told = c.in-Ok.ensures.ok in
    let items : c.scan_data.new.octets.items ≡ c.new-octets.result.items ++ told.0 = told.3 in (
      λ alike.
          let content : told.0 ≡ c.args.data.now = one_content c.eq.result c.new-octets.ensures.items told.3 c.as_slice-in-Ok.ensures.value c.eq.ensures alike in
          read_back c.args.row other found (all_octets other refl all) led same (same_content content told.1),
      λ back.
          let scans = data_back c.args.row other found back (type_within c.args.row c.requires) in
          let small : AreOctets c.args.data.now = c.are_octets.ensures in
          let read : AreOctets told.0 =
          subst AreOctets (c.as_slice.ensures.value ∙ items ∙ ap (λ (l : List ℕ). l ++ told.0) c.new-octets.ensures.items) c.are_octets-in-Ok.ensures in
          all_same c.eq.result c.new-octets.ensures.items told.3 c.as_slice-in-Ok.ensures.value c.eq.ensures
          (one_scanned (option_copied c.args.origin) told.1 scans read small),
    )

pub returns-clause-ok : goal.returns-clause-ok
returns-clause-ok c = (
  λ yes. absurd (no_truth yes),
  λ back.
      let other : FoundRow = record {
        text = c.args.printed;
        place = 0;
        next = c.in-Row.next;
        spans = c.deref.result;
        blank_led = c.in-Row.blank_led;
      } in
      let found : IsFound other = grind (arith, common_steps) in
      absurd (c.in-Err.ensures.err (sym c.is_want_of_memory.ensures ∙ c.if-is_want_of_memory.false) c.args.data.now
      (data_back c.args.row other found back (type_within c.args.row c.requires))),
)

pub returns-in_default : goal.returns-in_default
returns-in_default c = record {
  ok = (
    λ yes. absurd (no_truth yes),
    λ back. absurd (is_found c.args.printed.now c.args.printed.now c.read_row.new.tokens.items c.in_ok-next.field-0 refl c.in_ok-next.ensures back.are
        c.in_default.not-Row),
  );
  err = tt;
}
