use Rattle.std.proofs.Common.{arith}
use Rattle.dns_field_texts.proofs.AppendedBase64.{one_padded, two_padded}
use Rattle.dns_field_texts.proofs.base64.append_padded.Goals as goal

pub returns-in_ok-push-in-Some-clause-yes : goal.returns-in_ok-push-in-Some-clause-yes
returns-in_ok-push-in-Some-clause-yes c = λ yes.
    one_padded c.args.text.now (omega arith) (omega arith) (omega arith) c.in-Some.ensures c.in_ok-push-in-Some.ensures.items

pub returns-in_ok-extend_from_slice-in-Some-two_octets-clause-yes : goal.returns-in_ok-extend_from_slice-in-Some-two_octets-clause-yes
returns-in_ok-extend_from_slice-in-Some-two_octets-clause-yes c = λ yes.
    two_padded c.args.text.now (omega arith) (omega arith) c.in-Some-two_octets.ensures c.in_ok-extend_from_slice-in-Some-two_octets.ensures.items
