use Rattle.std.proofs.Common.{List, sym, subst, take}
use Rattle.dns_scan.specs.Token.{Token}
use Rattle.dns_entry_scanner.proofs.HandedOn.{handed_on}
use Rattle.dns_entry_scanner.specs.NameInText.{SpellsUnder}
use Rattle.dns_zonefile.specs.Entry as spec
use Rattle.dns_zonefile.specs.RecordFront.{IsFront}
use Rattle.zone_general.specs.LongerRow.{ScansLonger}
use Rattle.zone_general.specs.Seen.{context_in, tokens_in}
use Rattle.zone_general.proofs.FrontEntries.{front_entry, none_fronted}
use Rattle.zone_general.proofs.LongerRows.{none_scanned}
use Rattle.zone_general.proofs.WrittenRows.{goes_general}
use Rattle.zone_general.proofs.RowData.{goes_kept, if_err, on_ok}
use Rattle.zone_general.proofs.RowTypes.{data_at, front_at}
use Rattle.zone_general.proofs.longer_reader.LongerReader.read_further.Goals as goal

pub returns-in_err-append_general-clause-err : goal.returns-in_err-append_general-clause-err
returns-in_err-append_general-clause-err c =
    handed_on c.from_residual.result c.in_err-append_general.field-0.0 _ c.from_residual.ensures.1
    (λ real. none_scanned c.requires.has.has c.requires.not
    (λ content scans. c.in_err-append_general.ensures.err real content
    (subst (λ (l : List Token). ScansLonger (SpellsUnder (context_in c.args.self.now).origin) c.args.kind.rtype l content)
    (sym (data_at c.args.row c.requires.has)) scans)))

pub returns-clause-ok : goal.returns-clause-ok
returns-clause-ok c =
    let has = c.requires.has in
    let writes = c.in_ok-append_general.ensures.ok in
    let before = context_in c.args.self.now in
    let after = c.read_front.new.self in
    on_ok
    (λ read.
    let front = subst (λ (l : List Token). IsFront (SpellsUnder before.origin) before c.args.row.blank_led l read.0 after) (front_at c.args.row has)
    (subst (λ (now : spec.Context). IsFront (SpellsUnder now.origin) now c.args.row.blank_led (take c.args.kind.index (tokens_in c.args.row)) read.0 after) c.in_ok-append_general.ensures.same read.1) in
    let made = front_entry has.has writes.1.content writes.1.octets writes.1.short front in
    (made.0, writes.0, goes_general c.args.row has c.requires.found writes.1 c.requires.not made.1, writes.2))
    c.read_front.result c.read_front.ensures.ok

pub returns-clause-err : goal.returns-clause-err
returns-clause-err c =
    let has = c.requires.has in
    let before = context_in c.args.self.now in
    if_err
    (λ error none real entry after is.
    none_fronted has.has c.requires.not
    (λ owner front.
    none real owner after
    (subst (λ (now : spec.Context). IsFront (SpellsUnder now.origin) now c.args.row.blank_led (take c.args.kind.index (tokens_in c.args.row)) owner after) (sym c.in_ok-append_general.ensures.same)
    (subst (λ (l : List Token). IsFront (SpellsUnder before.origin) before c.args.row.blank_led l owner after) (sym (front_at c.args.row has)) front))) is)
    c.read_front.result c.read_front.ensures.err

pub returns-in_err-append_general-clause-more : goal.returns-in_err-append_general-clause-more
returns-in_err-append_general-clause-more c =
    handed_on c.from_residual.result c.in_err-append_general.field-0.0 _ c.from_residual.ensures.1
    (λ real. goes_kept (c.in_err-append_general.ensures.kept real))

pub returns-clause-more : goal.returns-clause-more
returns-clause-more c =
    let writes = c.in_ok-append_general.ensures.ok in
    if_err (λ error none real. record { more = writes.0; is = writes.2 }) c.read_front.result c.read_front.ensures.err
