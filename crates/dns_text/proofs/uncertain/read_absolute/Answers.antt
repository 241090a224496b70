use Rattle.dns_text.proofs.UncertainTexts.{read_ok, read_err}
use Rattle.dns_text.proofs.uncertain.read_absolute.Goals as goal

pub returns : goal.returns
returns g c = record {
  ok = read_ok c.args.text.now c.from_str.result c.text_spells_one_name.ensures.name c.requires c.from_str.ensures.ok;
  err = read_err c.args.text.now c.from_str.result c.requires c.from_str.ensures.err;
}
