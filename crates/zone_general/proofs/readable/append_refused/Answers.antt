use Rattle.std.proofs.Common.{◌∙◌, ◌++◌, List, ℕ, ap, refl, subst, sym}
use Rattle.dns_entry_scanner.proofs.Refused.{on_ok_weaker}
use Rattle.dns_entry_scanner.specs.NameInText.{SpellsUnder}
use Rattle.dns_scan.specs.Token.{Token}
use Rattle.zone_general.specs.LongerRow.{ScansLonger}
use Rattle.zone_general.specs.Readable.GoesReadable.{refused, unread}
use Rattle.zone_general.specs.Seen.{context_in, octets_in}
use Rattle.zone_general.proofs.ReadableRows.{none_general, on_appended, refused_standing}
use Rattle.zone_general.proofs.RowTypes.{data_at}
use Rattle.zone_general.proofs.WrittenRows.{has_general}
use Rattle.zone_general.proofs.readable.append_refused.Goals as goal

pub returns-in_default-clause-goes : goal.returns-in_default-clause-goes
returns-in_default-clause-goes c =
    on_ok_weaker c.extend_from_slice.result _ _
    (λ appended. record {
      others = octets_in c.args.row;
      goes = refused_standing c.args.row c.requires.found c.in_default.ensures.none c.requires.refused;
      appended = appended ∙ ap (λ (l : List ℕ). c.args.out.now.items ++ l) c.octets.ensures;
    }) (on_appended c.extend_from_slice.result _ _ _ c.extend_from_slice.ensures.items)

pub returns-in-Ok-clause-goes : goal.returns-in-Ok-clause-goes
returns-in-Ok-clause-goes c =
    let writes = c.in-Ok.ensures.ok in record {
      others = writes.0;
      goes = refused c.requires.refused (has_general c.args.row c.in-Some.ensures.some c.requires.found writes.1 (c.in-Some.ensures.further refl));
      appended = writes.2;
    }

pub returns-else-is_want_of_memory-clause-goes : goal.returns-else-is_want_of_memory-clause-goes
returns-else-is_want_of_memory-clause-goes c =
    let has = c.in-Some.ensures.some in
    let kept = c.in-Err.ensures.kept (sym c.is_want_of_memory.ensures ∙ c.if-is_want_of_memory.false) in
    on_ok_weaker c.extend_from_slice-in-Err.result _ _
    (λ appended. record {
      others = octets_in c.args.row;
      goes = unread (none_general (context_in c.args.reader.now) has.has (c.in-Some.ensures.further refl)
          (λ content scans. c.in-Err.ensures.err (sym c.is_want_of_memory.ensures ∙ c.if-is_want_of_memory.false) content
          (subst (λ (l : List Token). ScansLonger (SpellsUnder (context_in c.args.reader.now).origin) c.in-Some.kind.rtype l content)
          (sym (data_at c.args.row has)) scans)));
      appended = appended ∙ (λ i. kept i ++ c.octets-in-Err.ensures i);
    }) (on_appended c.extend_from_slice-in-Err.result _ _ _ c.extend_from_slice-in-Err.ensures.items)
