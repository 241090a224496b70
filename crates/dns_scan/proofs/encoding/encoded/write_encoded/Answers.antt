use Rattle.std.proofs.Common.{◌∙◌, ℕ, List, ap, subst, sym, arith}
use Rattle.std.specs.Fmt.{HasWritten}
use Rattle.dns_scan.specs.Base.{encoded}
use Rattle.dns_scan.proofs.HexWords.{hex_encoded, octets_by_place}
use Rattle.dns_scan.proofs.encoding.encoded.write_encoded.Goals as goal

pub returns-in-Sixteen : goal.returns-in-Sixteen
returns-in-Sixteen g c = λ plain fine.
    let are = octets_by_place c.args.octets.now (λ i. let fits = c.type_inv.octets i in omega (arith, fits)) in
    subst (λ (l : List ℕ). HasWritten g.W.Write.write_str_gives c.args.f.now l c.write_hex.new.f) (sym (hex_encoded c.args.octets.now are) ∙ ap (λ base. encoded base c.args.octets.now) (sym c.in-Sixteen.is))
    (c.write_hex.ensures plain fine)
