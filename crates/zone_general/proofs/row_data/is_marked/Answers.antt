use Rattle.std.proofs.Common.{◌≡◌, ◌+◌, ◌∷◌, ◌∙◌, drop, map, sym}
use Rattle.std.proofs.lemmas.List.{take_rest}
use Rattle.dns_entry_scanner.specs.TokenSpan.{token_in}
use Rattle.zone_general.specs.Seen.{tokens_in}
use Rattle.zone_general.proofs.RowData.{first_token, first_marked}
use Rattle.zone_general.proofs.row_data.is_marked.Goals as goal

pub returns-in-Some : goal.returns-in-Some
returns-in-Some c =
    let row = c.args.row in
    let index = c.args.type_index + 1 in
    let left : drop index (tokens_in row) ≡ token_in row.text.now c.in-Some.first.now ∷ map (λ span. token_in row.text.now span) c.in-Some.field-0-1.now =
    first_token row.text.now row.spans.now index c.in-Some.first.now c.in-Some.field-0-1.now (sym (take_rest row.spans.now index) ∙ c.in-Some.ensures.cases.0) in
    first_marked left c.is_marker.ensures
