use Rattle.std.proofs.Common.{subst}
use Rattle.dns_label.proofs.LabelTexts.{Tells, told_of}
use Rattle.dns_label.proofs.label.owned.text.OwnedLabelFromStr.from_str.Goals as goal

pub returns : goal.returns
returns c =
    subst (Tells c.from_text.result) c.as_bytes.ensures.value
    (told_of c.as_bytes.result.now c.from_text.result c.from_text.ensures.ok c.from_text.ensures.err c.from_text.ensures.why)
