use Rattle.std.proofs.Common.{List, ℕ, sym, subst, arith, rules}
use Rattle.std.specs.Fmt.{HasWritten}
use Rattle.std.proofs.Output.{has_written_append}
use Rattle.dns_name.proofs.HexText.{hex_more}
use Rattle.dns_name.proofs.unknown.show.write_hex.Goals as goal

pub loop-octet-preserved : goal.loop-octet-preserved
loop-octet-preserved g c plain =
    let Q : List ℕ → Type 0 = λ l. HasWritten g.W.Write.write_str_gives c.args.f.now l c.write.new.self in
    let front = c.loop-octet.invariant plain in
    subst Q (sym (hex_more c.args.octets.now c.loop-octet.octet-index (omega arith) (omega (arith, c.type_inv.octets c.loop-octet.octet-index)))) (has_written_append _ _ _ _ _ _ front (let here = front in search rules))
