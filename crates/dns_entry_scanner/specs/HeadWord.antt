-- A word before a record's data. Only contracts inside the crate name it.
use Rattle.std.specs.Prelude.{◌≡◌, ◌^◌, ℕ, List, Some, None, true, false}
use Rattle.std.specs.List.{list_all}
use Rattle.std.specs.Char.{is_ascii_digit}
use Rattle.dns_values.specs.Mnemonic.{class_read, number_spelled, type_read}
use Rattle.dns_scan.specs.Token.{Token}
use Rattle.dns_entry_scanner.specs.RecordHead.{IsClass, IsTtl, IsType}
use Rattle.dns_entry_scanner.specs.declared.record_head.HeadWord.{HeadWord}
use Rattle.dns_entry_scanner.specs.declared.record_head.HeadWord.TheVariants.{Ttl, Class, Rtype}

-- what the text of a word says
abbrev pub Heads : List ℕ → HeadWord → Type 0
Heads text (Ttl seconds) = (list_all is_ascii_digit text ≡ true) × (number_spelled (2 ^ 32) text ≡ Some seconds)
Heads text (Class class) = (list_all is_ascii_digit text ≡ false) × (type_read text ≡ None) × (class_read text ≡ Some class)
Heads text (Rtype rtype) = (list_all is_ascii_digit text ≡ false) × (type_read text ≡ Some rtype)

-- what a token says
abbrev pub IsHeadWord : HeadWord → Token → Type 0
IsHeadWord (Ttl seconds) token = IsTtl seconds token
IsHeadWord (Class class) token = IsClass class token
IsHeadWord (Rtype rtype) token = IsType rtype token
