use Rattle.std.proofs.Common.{◌≡◌, ◌∙◌, ◌||◌, Bool, ap, ap₂, false, codes, refl}
use Rattle.clap.specs.Words.{app_of, rule_of, new_app, with_rule}
use Rattle.clap.specs.Simple.{app_of_fields}
use Rattle.clap.specs.declared.builder.arg.Arg.{Arg}
use Rattle.zonewire_words.specs.Command.{number_option, text_option, with_text_options}
use Rattle.zonewire_words.proofs.command_line.send_command.Goals as goal

pub with_text_options-requires : goal.with_text_options-requires
with_text_options-requires c = ap (λ f. f.has_globals) c.about-bare.ensures ∙ c.new.ensures.local

pub returns : goal.returns
returns c =
    let is_global : Arg → Bool = λ a. a.global in
    let or : Bool → Bool → Bool = λ a b. a || b in
    let start : app_of c.about-bare.result ≡ new_app (codes "send") = ap app_of_fields c.about-bare.ensures ∙ c.new.ensures.app in
    let text = c.in_ok-with_text_options.ensures in
    let id : rule_of c.help.result ≡ number_option (codes "id") = ap rule_of c.help.ensures ∙ c.number_option.ensures.rule in
    let apex : rule_of c.help-2.result ≡ text_option (codes "apex") = ap rule_of c.help-2.ensures ∙ c.text_option.ensures.rule in
    let max : rule_of c.help-3.result ≡ number_option (codes "max") = ap rule_of c.help-3.ensures ∙ c.number_option-2.ensures.rule in
    let spelling = ap rule_of c.help-4.ensures ∙ c.choice_option-spelling.ensures.rule in
    let id_local : c.help.result.global ≡ false = ap is_global c.help.ensures ∙ c.number_option.ensures.local in
    let apex_local : c.help-2.result.global ≡ false = ap is_global c.help-2.ensures ∙ c.text_option.ensures.local in
    let max_local : c.help-3.result.global ≡ false = ap is_global c.help-3.ensures ∙ c.number_option-2.ensures.local in
    let spelling_local : c.help-4.result.global ≡ false = ap is_global c.help-4.ensures ∙ c.choice_option-spelling.ensures.local in
    let shape_1 = c.in_ok-arg.ensures.shape id_local ∙ ap₂ with_rule (text.0 ∙ ap with_text_options start) id in
    let shape_2 = c.in_ok-arg-2.ensures.shape apex_local ∙ ap₂ with_rule shape_1 apex in
    let shape_3 = c.in_ok-arg-3.ensures.shape max_local ∙ ap₂ with_rule shape_2 max in
    let local_1 = c.in_ok-arg.ensures.globals ∙ ap₂ or text.1 id_local in
    let local_2 = c.in_ok-arg-2.ensures.globals ∙ ap₂ or local_1 apex_local in
    let local_3 = c.in_ok-arg-3.ensures.globals ∙ ap₂ or local_2 max_local in (
      (_, refl, c.in_ok-send.ensures.shape spelling_local ∙ ap₂ with_rule shape_3 spelling),
      c.in_ok-send.ensures.globals ∙ ap₂ or local_3 spelling_local,
    )
