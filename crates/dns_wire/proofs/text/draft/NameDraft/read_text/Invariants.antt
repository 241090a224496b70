use Rattle.std.proofs.Common.{length}
use Rattle.dns_wire.proofs.OctetTexts.{Taken}
use Rattle.dns_wire.proofs.text.draft.NameDraft.read_text.Given as goal

abbrev pub invariant-loop-octet : goal.invariant-loop-octet
invariant-loop-octet l = Taken l.text l.rest l.draft

abbrev pub decreases-loop-octet : goal.decreases-loop-octet
decreases-loop-octet l = length l.rest
