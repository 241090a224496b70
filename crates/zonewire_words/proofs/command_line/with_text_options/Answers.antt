use Rattle.std.proofs.Common.{◌≡◌, ◌∙◌, ◌||◌, Bool, ap, ap₂, false, codes}
use Rattle.clap.specs.Words.{rule_of, with_rule}
use Rattle.clap.specs.declared.builder.arg.Arg.{Arg}
use Rattle.zonewire_words.specs.Command.{text_option}
use Rattle.zonewire_words.proofs.command_line.with_text_options.Goals as goal

pub returns : goal.returns
returns c =
    let is_global : Arg → Bool = λ a. a.global in
    let or : Bool → Bool → Bool = λ a b. a || b in
    let origin : rule_of c.help.result ≡ text_option (codes "origin") = ap rule_of c.help.ensures ∙ c.text_option.ensures.rule in
    let class : rule_of c.help-2.result ≡ text_option (codes "class") = ap rule_of c.help-2.ensures ∙ c.text_option-2.ensures.rule in
    let origin_local : c.help.result.global ≡ false = ap is_global c.help.ensures ∙ c.text_option.ensures.local in
    let class_local : c.help-2.result.global ≡ false = ap is_global c.help-2.ensures ∙ c.text_option-2.ensures.local in
    let shape = ap₂ with_rule (c.in_ok-arg.ensures.shape origin_local ∙ ap (with_rule _) origin) class in
    let local = c.in_ok-arg.ensures.globals ∙ ap₂ or c.requires origin_local in (
      c.in_ok-read.ensures.shape class_local ∙ shape,
      c.in_ok-read.ensures.globals ∙ ap₂ or local class_local,
    )
