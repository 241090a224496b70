use Rattle.std.proofs.Common.{◌≡◌, false, map, IfErr, subst}
use Rattle.dns_entry_scanner.specs.EntryError.{is_memory}
use Rattle.dns_entry_scanner.specs.TokenSpan.{token_in}
use Rattle.dns_zonefile.specs.Entry as spec
use Rattle.dns_zonefile.specs.Entry.{IsEntry}
use Rattle.dns_zonefile.specs.Seen.{row_of}
use Rattle.dns_zonefile.proofs.entry_reader.EntryReader.read_entry.Goals as goal

pub returns-clause-err : goal.returns-clause-err
returns-clause-err c =
    subst (λ (context : spec.Context). IfErr c.take_row.result (λ error. is_memory error ≡ false → (entry : spec.Entry) (after : spec.Context)
    → IsEntry context (row_of c.args.blank_led (map (λ span. token_in c.args.text.now span) c.args.spans.now)) entry after → ⊥))
    c.self.view_is c.take_row.ensures.err
