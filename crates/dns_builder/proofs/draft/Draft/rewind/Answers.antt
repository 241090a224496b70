use Rattle.dns_builder.proofs.draft.Draft.rewind.Goals as goal

pub returns-clause-built : goal.returns-clause-built
returns-clause-built g c built is = c.go_to-2.ensures.built _ (c.go_to.ensures.built built is)
