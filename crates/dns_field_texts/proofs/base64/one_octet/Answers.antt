use Rattle.std.proofs.Common.{arith}
use Rattle.dns_field_texts.proofs.AppendedBase64.{two_digits}
use Rattle.dns_field_texts.proofs.base64.one_octet.Goals as goal

pub returns : goal.returns
returns c = two_digits c.args.first c.args.second _ (omega arith) (omega arith) (omega arith)
