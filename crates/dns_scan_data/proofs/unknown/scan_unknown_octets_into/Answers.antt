use Rattle.std.proofs.Common.{length, arith}
use Rattle.dns_scan_data.proofs.AppendedHex.{appended_count, no_unknown_hex, other_count, unknown_appended}
use Rattle.dns_scan_data.proofs.unknown.scan_unknown_octets_into.Goals as goal

pub returns-in-Err-clause-err : goal.returns-in-Err-clause-err
returns-in-Err-clause-err g c = λ short octets is. c.in-Err.ensures.err short (length octets) is.words is.number

pub returns-else-len-from-clause-ok : goal.returns-else-len-from-clause-ok
returns-else-len-from-clause-ok g c =
    let appends = c.in-Ok-scan_hex_into.ensures.ok in
    let count = c.if-len-from.false in
    let number = c.from.ensures in (
      appends.octets,
      unknown_appended c.in-Ok.ensures.ok appends (omega (arith, count, number)),
      appends.none,
      omega (arith, count, number, appended_count appends),
      appends.behind,
    )

pub returns-then-len-from-clause-err : goal.returns-then-len-from-clause-err
returns-then-len-from-clause-err g c = λ short.
    let differs = c.if-len-from.true in
    let number = c.from.ensures in
    other_count c.in-Ok.ensures.ok c.in-Ok-scan_hex_into.ensures.ok (λ same. omega (arith, differs, number, same))

pub returns-in-Err-scan_hex_into-clause-err : goal.returns-in-Err-scan_hex_into-clause-err
returns-in-Err-scan_hex_into-clause-err g c = λ short. no_unknown_hex c.in-Ok.ensures.ok (c.in-Err-scan_hex_into.ensures.err short)
