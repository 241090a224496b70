-- The token that a scanner over a row returns.
use Rattle.dns_scan.specs.Token.{Token}
use Rattle.dns_entry_scanner.specs.declared.row_token.RowToken.{RowToken}

abbrev pub token_of : RowToken → Token
token_of token = record { quoted = token.quoted; text = token.text.now }
