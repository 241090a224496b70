use Rattle.zone.proofs.read.check_data.Goals as goal

pub returns-then-not-unknown-clause-ok : goal.returns-then-not-unknown-clause-ok
returns-then-not-unknown-clause-ok c = c.requires c.if-not-unknown.true
