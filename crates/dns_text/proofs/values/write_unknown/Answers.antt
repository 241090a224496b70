use Rattle.std.proofs.Common.{◌<◌, ◌∷◌, [], List, OnOk, length, decimal, subst, arith, rules}
use Rattle.dns_scan.specs.Encodings.{encoded_16}
use Rattle.dns_scan.proofs.HexWords.{octets_by_place}
use Rattle.dns_text.specs.Document.{Piece}
use Rattle.dns_text.specs.Document.Piece.{Token}
use Rattle.dns_text.specs.Writing.{Adds}
use Rattle.dns_text.proofs.UnknownTokens.{tokens_more}
use Rattle.dns_text.proofs.values.write_unknown.Goals as goal

pub returns : goal.returns
returns g c =
    let octets = c.args.octets.now in
    let some : 0 < length octets = grind (arith, rules) in
    let P : List Piece → Type 0 = λ pieces. OnOk c.write_token-3.result (Adds g.F.Formatter.writes c.args.formatter.now pieces c.write_token-3.new.self) in
    let written : P (Token (92 ∷ 35 ∷ []) ∷ Token (decimal (length octets)) ∷ Token (encoded_16 octets) ∷ []) = search rules in
    subst P (tokens_more octets some (octets_by_place octets (λ i. let fits = c.type_inv.octets i in omega (arith, fits)))) written
