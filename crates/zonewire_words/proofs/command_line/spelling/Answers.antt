use Rattle.std.proofs.Common.{◌∙◌, sym, ap, codes}
use Rattle.std.specs.Option.{option_map_or}
use Rattle.clap.specs.Words.{found_of}
use Rattle.zone_core.specs.declared.spelling.Spelling.TheVariants.{Tree}
use Rattle.zonewire_words.specs.Words.{spelling_named}
use Rattle.zonewire_words.proofs.Texts.{text_read}
use Rattle.zonewire_words.proofs.command_line.spelling.Goals as goal

pub returns-in-Some : goal.returns-in-Some
returns-in-Some c =
    let first = text_read (found_of c.args.options.now) (codes "spelling") c.get_str.result _ c.get_str.ensures c.in-Some.is in
    c.spelling_named.ensures ∙ ap (λ o. option_map_or spelling_named o Tree) (sym first)

pub returns-in-None : goal.returns-in-None
returns-in-None c =
    let first = text_read (found_of c.args.options.now) (codes "spelling") c.get_str.result _ c.get_str.ensures c.in-None.is in
    ap (λ o. option_map_or spelling_named o Tree) (sym first)
