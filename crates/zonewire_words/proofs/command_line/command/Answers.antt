use Rattle.std.proofs.Common.{◌≡◌, ◌∙◌, ap, ap₂, true}
use Rattle.std.proofs.lemmas.Result.{IfOk-weaker}
use Rattle.clap.specs.Words.{App, app_of, with_subcommand}
use Rattle.clap.specs.Simple.{app_of_fields, on_top}
use Rattle.zonewire_words.specs.Command.{program}
use Rattle.zonewire_words.proofs.command_line.command.Goals as goal

pub returns : goal.returns
returns c =
    let top : app_of c.disable_help_subcommand.result ≡ program = ap app_of_fields c.disable_help_subcommand.ensures
    ∙ ap (on_top (λ s. record s { disable_help_subcommand = true })) (ap app_of_fields c.subcommand_required.ensures
    ∙ ap (on_top (λ s. record s { subcommand_required = true })) (ap app_of_fields c.about.ensures ∙ c.new.ensures.app)) in
    let send = c.in_ok-send_command.ensures in
    let receive = c.in_ok-receive_command.ensures in
    let check = c.in_ok-text_command.ensures in
    let canon = c.in_ok-text_command-2.ensures in
    let sends = c.in_ok-subcommand.ensures.shape send.1 ∙ ap₂ with_subcommand top (ap (λ (a : App). a.top) send.0.2) in
    let receives = c.in_ok-subcommand-2.ensures.shape receive.1 ∙ ap₂ with_subcommand sends (ap (λ (a : App). a.top) receive.0.2) in
    let checks = c.in_ok-subcommand-3.ensures.shape check.1 ∙ ap₂ with_subcommand receives (ap (λ (a : App). a.top) check.0) in
    IfOk-weaker c.subcommand-4.result _ _ (λ m h. (
      send.0.0,
      receive.0.0,
      send.0.1,
      receive.0.1,
      h.shape canon.1 ∙ ap₂ with_subcommand checks (ap (λ (a : App). a.top) canon.0),
    )) c.subcommand-4.ensures
