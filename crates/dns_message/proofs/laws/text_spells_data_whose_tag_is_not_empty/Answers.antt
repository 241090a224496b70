use Rattle.dns_message.proofs.Spellable.{spellable_tag, tag_spellable}
use Rattle.dns_message.proofs.laws.text_spells_data_whose_tag_is_not_empty.Goals as goal

pub returns-clause-there : goal.returns-clause-there
returns-clause-there c = spellable_tag

pub returns-clause-back : goal.returns-clause-back
returns-clause-back c = tag_spellable
