use Rattle.dns_text.proofs.UncertainTexts.{spells_back, no_other}
use Rattle.dns_text.proofs.laws.uncertain_text_reads_back.Goals as goal

pub returns : goal.returns
returns g c =
    let name = c.args.name.now in
    let back = spells_back name c.dotted_text_reads_back.ensures.spells c.relative_text_reads_back.ensures.spells c.as_slice-octets.ensures.name in
    let one = c.text_spells_one_name.ensures in
    record { spells = back; alone = λ octets other are. no_other _ name other one.name one.relative one.apart (back octets) are }
