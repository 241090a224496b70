use Rattle.std.proofs.Common.{rules}
use Rattle.dns_name.proofs.Spelled.{plain_text, plain_known}
use Rattle.dns_compress.proofs.stream_target.StreamTargetComposer.append_compressed_name.Goals as goal

pub returns-clause-ok : goal.returns-clause-ok
returns-clause-ok g c = rw plain_text c.compose.ensures.ok

pub returns-clause-known : goal.returns-clause-known
returns-clause-known g c = rw plain_known (search rules)

pub returns-clause-short : goal.returns-clause-short
returns-clause-short g c = rw plain_text c.compose.ensures.short
