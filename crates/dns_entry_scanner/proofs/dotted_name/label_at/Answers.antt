use Rattle.std.proofs.Common.{◌-◌, arith, drop, refl}
use Rattle.std.proofs.lemmas.List.{length-drop, length-take-le}
use Rattle.dns_entry_scanner.proofs.DottedNames.{near_label}
use Rattle.dns_entry_scanner.proofs.OneLabel.{no_longer}
use Rattle.dns_entry_scanner.proofs.dotted_name.label_at.Goals as goal

pub returns-then-len-le-LABEL_MOST : goal.returns-then-len-le-LABEL_MOST
returns-then-len-le-LABEL_MOST c =
    let text = c.args.text.now in
    let from = c.args.from.now in
    let start = c.args.start in
    let end = c.run_end-end.result in
    near_label text from _ c.min.result start end c.requires.begins c.requires.plain c.requires.within
    (omega (arith, no_longer text from c.requires.begins)) c.run_end-end.ensures.end (omega arith) (omega arith) (omega arith) refl
    (length-take-le (end - start) (drop start text) (omega (arith, length-drop start text)))
