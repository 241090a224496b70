use mathlib.Core.Logic.{∥∥₁_map}
use Rattle.dns_compression_laws.proofs.ReadParts.{written_sound}
use Rattle.dns_compression_laws.proofs.laws.read_back.written_parts_are_remembered.Goals as goal

pub returns : goal.returns
returns c = λ s page parts sound names. ∥∥₁_map sound (λ sound. written_sound s page parts sound names)
