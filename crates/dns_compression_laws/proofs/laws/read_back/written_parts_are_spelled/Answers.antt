use mathlib.Core.Logic.{∥∥₁_map}
use Rattle.dns_compression_laws.proofs.ReadParts.{written_read}
use Rattle.dns_compression_laws.proofs.laws.read_back.written_parts_are_spelled.Goals as goal

pub returns : goal.returns
returns c = λ s page parts more sound names fits. ∥∥₁_map sound (λ sound. written_read s page parts more sound names fits)
