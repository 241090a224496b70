use Rattle.std.proofs.Common.{◌≡◌, ◌∙◌, ◌||◌, Bool, ap, ap₂, false, codes, refl}
use Rattle.clap.specs.Words.{app_of, rule_of, new_app, with_rule}
use Rattle.clap.specs.Simple.{app_of_fields}
use Rattle.clap.specs.declared.builder.arg.Arg.{Arg}
use Rattle.clap.specs.declared.builder.command.Command.TheViews.{out-Command as fields_of}
use Rattle.zonewire_words.specs.Command.{number_option, text_option, always}
use Rattle.zonewire_words.proofs.command_line.receive_command.Goals as goal

pub returns : goal.returns
returns c =
    let start : app_of c.about.result ≡ new_app (codes "receive") = ap app_of_fields c.about.ensures ∙ c.new.ensures.app in
    let is_global : Arg → Bool = λ a. a.global in
    let apex = ap rule_of c.help.ensures ∙ ap rule_of c.required.ensures ∙ ap always c.text_option.ensures.rule in
    let id : rule_of c.help-2.result ≡ number_option (codes "id") = ap rule_of c.help-2.ensures ∙ c.number_option.ensures.rule in
    let class : rule_of c.help-3.result ≡ text_option (codes "class") = ap rule_of c.help-3.ensures ∙ c.text_option-2.ensures.rule in
    let layout = ap rule_of c.help-4.ensures ∙ c.choice_option-layout.ensures.rule in
    let apex_local : c.help.result.global ≡ false = ap is_global c.help.ensures ∙ ap is_global c.required.ensures ∙ c.text_option.ensures.local in
    let id_local : c.help-2.result.global ≡ false = ap is_global c.help-2.ensures ∙ c.number_option.ensures.local in
    let class_local : c.help-3.result.global ≡ false = ap is_global c.help-3.ensures ∙ c.text_option-2.ensures.local in
    let layout_local : c.help-4.result.global ≡ false = ap is_global c.help-4.ensures ∙ c.choice_option-layout.ensures.local in
    let or : Bool → Bool → Bool = λ a b. a || b in
    let start_local : (fields_of c.about.result).has_globals ≡ false = ap (λ f. f.has_globals) c.about.ensures ∙ c.new.ensures.local in
    let shape_1 = c.in_ok-arg.ensures.shape apex_local ∙ ap₂ with_rule start apex in
    let shape_2 = c.in_ok-arg-2.ensures.shape id_local ∙ ap₂ with_rule shape_1 id in
    let shape_3 = c.in_ok-arg-3.ensures.shape class_local ∙ ap₂ with_rule shape_2 class in
    let local_1 = c.in_ok-arg.ensures.globals ∙ ap₂ or start_local apex_local in
    let local_2 = c.in_ok-arg-2.ensures.globals ∙ ap₂ or local_1 id_local in
    let local_3 = c.in_ok-arg-3.ensures.globals ∙ ap₂ or local_2 class_local in (
      (_, refl, c.in_ok-receive.ensures.shape layout_local ∙ ap₂ with_rule shape_3 layout),
      c.in_ok-receive.ensures.globals ∙ ap₂ or local_3 layout_local,
    )
