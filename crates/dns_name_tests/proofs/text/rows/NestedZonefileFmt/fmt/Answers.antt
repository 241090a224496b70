use Rattle.std.proofs.Common.{rules, [], ◌∷◌, codes}
use Rattle.dns_text.specs.Document.Piece.{Token, Newline, Open, Close}
use Rattle.dns_name_tests.proofs.text.rows.NestedZonefileFmt.fmt.Goals as goal

pub returns : goal.returns
returns g c =
    let filled = c.in_ok-block.ensures
    (Token (codes "b") ∷ Newline ∷ Open ∷ Token (codes "c") ∷ Close ∷ Token (codes "d") ∷ []) (λ before behind result met. search rules) in search rules
