use Rattle.std.proofs.Common.{ℕ, List, refl, sym, subst}
use Rattle.std.specs.Net.Addr.{ipv6_octets, ipv6_segments}
use Rattle.std.specs.Net.Grammar.{IsColonHex}
use Rattle.dns_fields.specs.Fields.{ipv6}
use Rattle.dns_fields.proofs.ScanLeaves.{no_ipv6}
use Rattle.dns_scan_data.proofs.field.Ipv6AddrScanFieldInto.scan_field_into.Goals as goal

pub returns-in-Err-clause-err : goal.returns-in-Err-clause-err
returns-in-Err-clause-err g c = λ short.
    no_ipv6 _ _
    (λ text left segments takes written.
    let ran = c.in-Err.ensures.err short text left takes in
    ran.1.1 segments (subst (λ (t : List ℕ). IsColonHex t segments) (sym ran.2) written))

pub returns-in-Ok-extend_from_slice-clause-ok : goal.returns-in-Ok-extend_from_slice-clause-ok
returns-in-Ok-extend_from_slice-clause-ok g c =
    let found = c.in-Ok.ensures.ok in
    let segments = ipv6_segments c.in-Ok.address in
    let written = subst (λ (t : List ℕ). IsColonHex t segments) found.2.2 found.2.1.0 in record {
      field = ipv6 (ipv6_octets c.in-Ok.address);
      kind = refl;
      scans = (found.0, segments, found.1, written, refl);
      behind = rw (← c.octets.ensures) c.in-Ok-extend_from_slice.ensures.items;
    }
