use Rattle.std.proofs.Common.{◌∷◌, [], ◌++◌, ◌∙◌}
use Rattle.std.specs.Prelude.{string_bytes}
use Rattle.dns_text.specs.Document.{document_text}
use Rattle.dns_text.specs.Layout.{layout_of}
use Rattle.dns_text.proofs.Writings.{on_ok_then}
use Rattle.zone_records.specs.Typed.{seen_of}
use Rattle.zone.proofs.Documents.{held_document, record_added}
use Rattle.zone.proofs.print.print_record.Goals as goal

pub returns : goal.returns
returns c =
    let typed = c.typed_record-typed in
    let shown = c.display_zonefile.ensures in
    on_ok_then c.append_line.result _ _
    (λ written. record_added (layout_of c.args.kind) (seen_of typed.result) c.args.record.now _ _ typed.ensures.same typed.ensures.fields
    (written ∙ (λ i. string_bytes c.args.text.now ++ (document_text (layout_of (shown.kind i)) (held_document (seen_of (shown.value i))) ++ 10 ∷ []))))
    c.append_line.ensures
