use Rattle.std.proofs.Common.{◌≡◌, List, ℕ, ◌∷◌, sym, subst, rules}
use Rattle.std.specs.Fmt.{HasWritten}
use Rattle.std.specs.List.{flat_map}
use Rattle.std.proofs.Output.{has_written_append}
use Rattle.dns_field_texts.specs.Hardware.{small_pair}
use Rattle.dns_field_texts.specs.HardwareParts.{minus_pair}
use Rattle.dns_field_texts.proofs.HardwareText.{hardware_written-cons}
use Rattle.dns_field_texts.proofs.hardware.write_hardware.Goals as goal

pub returns : goal.returns
returns g c plain ok =
    let first = c.in-Some.field-0-0.now in
    let at : c.args.octets.now ≡ first ∷ c.in-Some.behind.now = search rules in
    let Q : List ℕ → Type 0 = λ l. HasWritten g.W.Write.write_str_gives c.args.f.now l c.write_behind.new.f in
    let one : HasWritten g.W.Write.write_str_gives c.args.f.now (small_pair first) c.write_octet.new.f = search rules in
    let more : HasWritten g.W.Write.write_str_gives c.write_octet.new.f (flat_map minus_pair c.in-Some.behind.now) c.write_behind.new.f = search rules in
    subst Q (sym (hardware_written-cons c.args.octets.now first c.in-Some.behind.now at)) (has_written_append _ _ _ _ _ _ one more)
