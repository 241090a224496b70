use Rattle.dns_octets.proofs.Patched.{set_both}
use Rattle.dns_octets.proofs.numbers.put_number.Goals as goal

pub returns : goal.returns
returns c = λ front octets behind is at long. rw c.to_be_bytes.ensures (set_both _ front octets behind _ _ _ is at long)
