use Rattle.std.proofs.Common.{rules, [], ◌∷◌, codes}
use Rattle.dns_text.specs.Document.Piece.{Token}
use Rattle.dns_name_tests.proofs.text.rows.write_inner.Goals as goal

pub returns : goal.returns
returns g c = c.block.ensures (Token (codes "c") ∷ []) (λ before behind result met. search rules)
