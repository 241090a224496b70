use Rattle.std.proofs.Common.{◌∙◌, Some, sym, ap, codes}
use Rattle.std.specs.Option.{option_map_or}
use Rattle.clap.specs.Words.{found_of}
use Rattle.dns_values.specs.Mnemonic.{class_read}
use Rattle.zonewire_words.specs.Words.{internet}
use Rattle.zonewire_words.proofs.Texts.{text_read}
use Rattle.zonewire_words.proofs.command_line.class.Goals as goal

pub returns-in-Some : goal.returns-in-Some
returns-in-Some c =
    let first = text_read (found_of c.args.options.now) (codes "class") c.get_str.result _ c.get_str.ensures c.in-Some.is in
    c.from_bytes.ensures ∙ ap class_read c.as_bytes.ensures.value ∙ ap (λ o. option_map_or class_read o (Some internet)) (sym first)

pub returns-in-None : goal.returns-in-None
returns-in-None c =
    let first = text_read (found_of c.args.options.now) (codes "class") c.get_str.result _ c.get_str.ensures c.in-None.is in
    ap (λ o. option_map_or class_read o (Some internet)) (sym first)
