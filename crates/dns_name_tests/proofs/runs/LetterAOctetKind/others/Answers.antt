use Rattle.std.proofs.Common.{◌==◌, not, w8, arith}
use Rattle.std.proofs.lemmas.Simd.{bitmask_splat}
use Rattle.dns_name_tests.proofs.runs.LetterAOctetKind.others.Goals as goal

pub returns : goal.returns
returns c = bitmask_splat w8 (λ octet other. not (octet == other)) c.args.octets 16 97 c.fits-octets.0 (omega arith)
