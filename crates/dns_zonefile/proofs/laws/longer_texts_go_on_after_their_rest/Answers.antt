use Rattle.dns_zonefile.proofs.Lengthened.{lengthened}
use Rattle.dns_zonefile.proofs.Rests.{after_comment, after_spaces}
use Rattle.dns_zonefile.proofs.laws.longer_texts_go_on_after_their_rest.Goals as goal

pub returns-clause-rest : goal.returns-clause-rest
returns-clause-rest c = λ start after text rest more rows entries all begins are has. lengthened more begins are has

pub returns-clause-space : goal.returns-clause-space
returns-clause-space c = λ start rest more entries some each. after_spaces rest more some each

pub returns-clause-comment : goal.returns-clause-comment
returns-clause-comment c = λ start rest more entries ends each. after_comment rest more ends each
