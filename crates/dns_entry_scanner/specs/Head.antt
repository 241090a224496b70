-- The code's value for the meaning of an octet between two tokens.
use Rattle.dns_text.specs.Tokens.{Head as SpecHead}
use Rattle.dns_text.specs.Tokens.Head.{Go as goes, Comment as comment, Feed as feed, Quote as quote, Word as word, Refused as refused}
use Rattle.dns_entry_scanner.specs.declared.head.Head.{Head}
use Rattle.dns_entry_scanner.specs.declared.head.Head.TheVariants.{Go, Comment, Feed, Quote, Word, Refused}

abbrev pub head_in : Head → SpecHead
head_in (Go behind) = goes behind
head_in Comment = comment
head_in Feed = feed
head_in Quote = quote
head_in Word = word
head_in Refused = refused
