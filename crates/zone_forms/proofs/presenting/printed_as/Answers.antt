use Rattle.std.proofs.Common.{List, [], ℕ, Option, arith, option_copied, subst}
use Rattle.std.proofs.lemmas.Grind.{common_steps}
use Rattle.dns_entry_scanner.specs.NameInText.{SpellsUnder}
use Rattle.dns_fields_more.specs.Text.{AppendsFurther}
use Rattle.dns_field_texts.specs.TypeWords.{type_word_written}
use Rattle.dns_rdata_more.specs.Shown.{further_document}
use Rattle.dns_text.specs.Document.{Layout, document_text}
use Rattle.dns_text.specs.Document.Layout.{Simple}
use Rattle.dns_text.specs.Layout.{layout_of}
use Rattle.zone_general.specs.Seen.{RewritesAt}
use Rattle.zone_forms.proofs.FurtherTexts.{names_spelled}
use Rattle.zone_forms.proofs.ReadBack.{octets_by_place}
use Rattle.zone_general.proofs.RowTypes.{type_within}
use Rattle.zone_forms.proofs.SimpleRows.{simple_back}
use Rattle.zone_forms.proofs.presenting.printed_as.Goals as goal

pub append_rewritten-requires-clause-within : goal.append_rewritten-requires-clause-within
append_rewritten-requires-clause-within c = type_within c.args.row c.requires.has

pub returns-clause-none : goal.returns-clause-none
returns-clause-none c = λ simple text.
    let so : RewritesAt c.args.row c.args.kind.index (type_word_written c.args.kind.rtype)
    (document_text (layout_of c.args.layout) (further_document c.args.kind.rtype c.args.data.now)) c.deref.result.now = grind (arith, common_steps) in
    let on_line : RewritesAt c.args.row c.args.kind.index (type_word_written c.args.kind.rtype)
    (document_text Simple (further_document c.args.kind.rtype c.args.data.now)) c.deref.result.now =
    subst (λ (l : Layout). RewritesAt c.args.row c.args.kind.index (type_word_written c.args.kind.rtype)
    (document_text l (further_document c.args.kind.rtype c.args.data.now)) c.deref.result.now) simple so in
    let small = octets_by_place c.args.data.now (λ i. let fits = c.type_inv.data i in omega (arith, fits)) in
    let law = c.printed_further_data_scans_back.ensures in
    let rtype = c.args.kind.rtype in
    let content = c.args.data.now in
    let names = SpellsUnder (option_copied c.args.origin) in
    let written = law.written rtype content text.are small in
    let scans : AppendsFurther names rtype written.0 [] [] content =
    subst (λ (o : Option (List (List ℕ))). AppendsFurther (SpellsUnder o) rtype written.0 [] [] content) c.new-scanner.ensures.origin
    (law.scans rtype content written.0 text.are text.some small (names_spelled _) written.1) in
    let back = simple_back names c.requires.found c.requires.has text written scans on_line in
    let holds = c.in_ok-reads_back.ensures.ok.1 back in
    grind (arith, common_steps)
