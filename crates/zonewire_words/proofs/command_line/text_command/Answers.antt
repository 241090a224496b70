use Rattle.std.proofs.Common.{◌≡◌, ◌∙◌, ap}
use Rattle.clap.specs.Words.{app_of, new_app}
use Rattle.clap.specs.Simple.{app_of_fields}
use Rattle.zonewire_words.specs.Command.{with_text_options}
use Rattle.zonewire_words.proofs.command_line.text_command.Goals as goal

pub with_text_options-requires : goal.with_text_options-requires
with_text_options-requires c = ap (λ f. f.has_globals) c.about-bare.ensures ∙ c.new.ensures.local

pub returns : goal.returns
returns c =
    let start : app_of c.about-bare.result ≡ new_app c.args.name.now = ap app_of_fields c.about-bare.ensures ∙ c.new.ensures.app in
    (c.in_ok-text.ensures.0 ∙ ap with_text_options start, c.in_ok-text.ensures.1)
