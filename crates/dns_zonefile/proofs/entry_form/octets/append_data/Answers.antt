use Rattle.std.proofs.Common.{◌≡◌, ◌<◌, ◌-◌, [], ℕ, List, length, arith, ap, ◌∙◌}
use Rattle.dns_name.specs.Remembered.{patched}
use Rattle.dns_entry_scanner.specs.RowScanner.{origin_of}
use Rattle.dns_entry_scanner.proofs.HandedOn.{handed_on}
use Rattle.dns_scan_data.proofs.Appending.{gone_same}
use Rattle.dns_zonefile.proofs.AppendedData.{went}
use Rattle.dns_wire.proofs.Flat.{always_on_err}
use Rattle.dns_zonefile.proofs.ComposedRows.{composes_data, fits_two, has_room, has_two}
use Rattle.dns_zonefile.proofs.Directions.{ended}
use Rattle.dns_zonefile.proofs.OneEntry.{under_once}
use Rattle.dns_zonefile.proofs.Records.{no_any, none_whole}
use Rattle.dns_zonefile.proofs.entry_form.octets.append_data.Goals as goal

pub returns-in_err-unknown-clause-err : goal.returns-in_err-unknown-clause-err
returns-in_err-unknown-clause-err c =
    handed_on c.from_residual.result c.in_err-unknown.field-0.0 _ c.from_residual.ensures.1 (λ real rdata scans.
    no_any (under_once (origin_of c.args.scanner.now)) (c.in_err-unknown.ensures.err real) rdata [] scans)

pub returns-in_err-unknown-clause-more : goal.returns-in_err-unknown-clause-more
returns-in_err-unknown-clause-more c = always_on_err c.from_residual.result (gone_same c.in_err-unknown.ensures.same)

pub returns-then-continues-clause-err : goal.returns-then-continues-clause-err
returns-then-continues-clause-err c = λ real.
    none_whole _ _ _ (under_once (origin_of c.args.scanner.now)) c.in_ok-unknown.ensures.ok.scans (c.continues.ensures.some.0 c.if-continues.true)

pub returns-then-continues-clause-more : goal.returns-then-continues-clause-more
returns-then-continues-clause-more c = went c.in_ok-unknown.ensures.ok

pub overflow_cast-len : goal.overflow_cast-len
overflow_cast-len c =
    let small : c.len.result - c.len-place.result < 65536 =
    fits_two c.requires.0 c.requires.1 c.in_ok-unknown.ensures.ok c.len-place.result c.len.result (omega arith) (omega arith) in
    omega (arith, small)

pub overflow_sub-place : goal.overflow_sub-place
overflow_sub-place c = has_two c.requires.0 c.requires.1 c.in_ok-unknown.ensures.ok c.len-place.result (omega arith)

pub patch-requires-clause-within : goal.patch-requires-clause-within
patch-requires-clause-within c =
    let room = has_room c.requires.0 c.requires.1 c.in_ok-unknown.ensures.ok c.len-place.result (omega arith) in
    let two : length c.to_be_bytes.result ≡ 2 = ap (λ (l : List ℕ). length l) c.to_be_bytes.ensures in
    omega (arith, room, two)

pub returns-clause-ok : goal.returns-clause-ok
returns-clause-ok c = λ front room.
    composes_data front room c.in_ok-unknown.ensures.ok c.len-place.result c.len.result (omega arith) (omega arith)
    (ended _ c.continues.ensures.some c.if-continues.false)
    (c.patch.ensures.octets
    ∙ ap (λ (l : List ℕ). patched c.scan_data_into.new.octets.items (c.len-place.result - 2) l) c.to_be_bytes.ensures)
