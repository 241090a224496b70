use Rattle.std.proofs.Common.{◌≡◌, ℕ, ◌∙◌, subst}
use Rattle.dns_fields_more.specs.Forms.{IsFurtherData}
use Rattle.dns_fields_more.specs.Text.{NoFurtherScans}
use Rattle.dns_rdata_more.proofs.Whole.{scanned_data}
use Rattle.dns_rdata_more.proofs.further_data.FurtherData+T+Vec+u8.scan.Goals as goal

pub invariant_of-result : goal.invariant_of-result
invariant_of-result g c =
    let of_type : c.from_int.result ≡ g.T.DataType.number = c.from_int.ensures ∙ c.number.ensures in
    subst (λ (n : ℕ). IsFurtherData n c.scan_further_into.new.octets.items) of_type (scanned_data c.new-octets.ensures.items c.in-Ok.ensures.ok)

pub returns-in-Err-clause-err : goal.returns-in-Err-clause-err
returns-in-Err-clause-err g c = λ not_short.
    let of_type : c.from_int.result ≡ g.T.DataType.number = c.from_int.ensures ∙ c.number.ensures in
    subst (λ (n : ℕ). NoFurtherScans (g.S.Scanner.names c.args.scanner.now) n (g.S.Scanner.tokens c.args.scanner.now)) of_type (c.in-Err.ensures.err not_short)
