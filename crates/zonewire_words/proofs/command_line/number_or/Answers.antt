use Rattle.std.proofs.Common.{◌∙◌}
use Rattle.std.specs.Str.Parse.{ParsesUnsigned, ExplainsUnsignedError, HasUnsignedDigitsIfOk}
use Rattle.clap.specs.Words.{found_of, one_of, rows_of}
use Rattle.clap.proofs.WalkLemmas.{one_text-rows}
use Rattle.zonewire_words.proofs.Numbers.{number_read}
use Rattle.zonewire_words.proofs.command_line.number_or.Goals as goal

pub returns : goal.returns
returns c =
    let f = found_of c.args.options.now in
    let same = one_text-rows f c.args.name.now in
    c.unwrap_or.ensures
    ∙ number_read (λ bs r. ParsesUnsigned 16 10 bs r × ExplainsUnsignedError 10 bs r × HasUnsignedDigitsIfOk bs r) (λ u x g. g.0)
    (one_of c.args.name.now (rows_of f)) c.get_one.result c.args.default (λ e. c.get_one.ensures.none (same ∙ e)) (λ t e. c.get_one.ensures.value t (same ∙ e)) c.requires
