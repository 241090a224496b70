use Rattle.std.proofs.Common.{◌∙◌, sym, ap, codes}
use Rattle.std.specs.Option.{option_map_or}
use Rattle.clap.specs.Words.{found_of}
use Rattle.dns_text.specs.declared.layout.DisplayKind.TheVariants.{Simple}
use Rattle.zonewire_words.specs.Words.{layout_named}
use Rattle.zonewire_words.proofs.Texts.{text_read}
use Rattle.zonewire_words.proofs.command_line.layout.Goals as goal

pub returns-in-Some : goal.returns-in-Some
returns-in-Some c =
    let first = text_read (found_of c.args.options.now) (codes "layout") c.get_str.result _ c.get_str.ensures c.in-Some.is in
    c.layout_named.ensures ∙ ap (λ o. option_map_or layout_named o Simple) (sym first)

pub returns-in-None : goal.returns-in-None
returns-in-None c =
    let first = text_read (found_of c.args.options.now) (codes "layout") c.get_str.result _ c.get_str.ensures c.in-None.is in
    ap (λ o. option_map_or layout_named o Simple) (sym first)
