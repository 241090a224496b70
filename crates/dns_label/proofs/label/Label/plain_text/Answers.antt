use Rattle.std.proofs.Common.{sym, ap, ◌∙◌, arith}
use Rattle.std.proofs.lemmas.Str.{IsUtf8-from_ascii}
use Rattle.dns_label.specs.Printed.{printed_label}
use Rattle.dns_label.proofs.PlainLabels.{run_plain, printed_label-plain, IsAscii-plain}
use Rattle.dns_label.proofs.label.Label.plain_text.Goals as goal

pub from_utf8_unchecked-requires : goal.from_utf8_unchecked-requires
from_utf8_unchecked-requires c =
    let octets = c.as_slice-octets.result.now in
    IsUtf8-from_ascii octets (IsAscii-plain octets (run_plain octets (omega arith)))

pub returns : goal.returns
returns c =
    let octets = c.as_slice-octets.result.now in
    c.from_utf8_unchecked.ensures ∙ sym (printed_label-plain octets (run_plain octets (omega arith)))
    ∙ ap printed_label c.as_slice-octets.ensures
