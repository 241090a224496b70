use Rattle.std.proofs.Common.{◌≡◌, ◌/◌, ◌<◌, ◌≤◌, length, get_or, rules}
use Rattle.dns_field_texts.proofs.HashWords.{false_true}
use Rattle.dns_field_texts.proofs.TypesLeft.{bit_told, no_bit}
use Rattle.dns_field_texts.proofs.bitmap.windows.is_one.Goals as goal

pub returns-in-Some : goal.returns-in-Some
returns-in-Some c =
    let within : c.args.place / 8 < length c.args.octets.now = search rules in
    let there : get_or c.args.octets.now (c.args.place / 8) 0 ≡ c.in-Some.octet.now = search rules in
    bit_told c.args.octets.now c.args.place c.in-Some.octet.now within there

pub returns-in-None : goal.returns-in-None
returns-in-None c =
    let past : length c.args.octets.now ≤ c.args.place / 8 = search rules in
    (λ is. absurd (false_true is), λ one. absurd (no_bit c.args.octets.now c.args.place past one))
