use Rattle.std.proofs.lemmas.Str.{IsUtf8-from_ascii, chars-IsAscii}
use Rattle.std.proofs.Common.{◌∙◌, ap}
use Rattle.std.specs.Str.{chars}
use Rattle.dns_field_texts.proofs.hash_words.ascii.Goals as goal

pub from_utf8_unchecked-requires : goal.from_utf8_unchecked-requires
from_utf8_unchecked-requires c = IsUtf8-from_ascii c.args.text.now c.if-not-is_ascii.ensures.cases

pub returns-clause-some : goal.returns-clause-some
returns-clause-some c =
    let same = c.from_utf8_unchecked.ensures in
    (same, ap chars same ∙ chars-IsAscii c.args.text.now c.if-not-is_ascii.ensures.cases)
