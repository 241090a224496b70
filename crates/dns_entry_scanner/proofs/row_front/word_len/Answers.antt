use Rattle.std.proofs.Common.{arith}
use Rattle.dns_entry_scanner.proofs.RowFronts.{word_at}
use Rattle.dns_entry_scanner.proofs.row_front.word_len.Goals as goal

pub returns-else-behind-eq0-clause-len : goal.returns-else-behind-eq0-clause-len
returns-else-behind-eq0-clause-len c =
    λ octets size is some. (word_at octets c.args.at c.args.ends c.requires size is (omega arith)).len_is

pub returns-else-behind-eq0-clause-within : goal.returns-else-behind-eq0-clause-within
returns-else-behind-eq0-clause-within c =
    λ octets size is. (word_at octets c.args.at c.args.ends c.requires size is (omega arith)).within
