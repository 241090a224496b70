use Rattle.std.proofs.Common.{◌+◌, length, ap}
use Rattle.dns_octets.specs.Builder.{Known}
use Rattle.dns_name.specs.Remembered.{is_free}
use Rattle.dns_compress.proofs.compressor.patch_plain.Goals as goal

pub patch-requires-clause-free : goal.patch-requires-clause-free
patch-requires-clause-free g c = ap (λ (l : Known). is_free c.args.place (c.args.place + length c.args.octets.now) l) c.requires.plain
