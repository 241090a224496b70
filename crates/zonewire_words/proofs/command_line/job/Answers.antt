use Rattle.std.proofs.Common.{◌≡◌, ◌∙◌, ℕ, List, Some, [], ◌∷◌, refl, sym, ap, subst, codes, map, Bor, true, is_some}
use Rattle.std.specs.Prelude.{Ok, Err, MatchResult, Result}
use Rattle.std.proofs.lemmas.Result.{err_from_is_err_and}
use Rattle.clap.specs.Walk.{Row, Text}
use Rattle.clap.specs.Words.{App, app_of, first_of, subcommand_of}
use Rattle.clap.specs.Faults.{fault_of}
use Rattle.zonewire_words.specs.Command.{Choices, zonewire}
use Rattle.zonewire_words.specs.Words.{HasNumber, IsJobOf, IsValueFault, Reads}
use Rattle.zonewire_words.specs.declared.jobs.Job.{Job}
use Rattle.zonewire_words.specs.declared.command_line.WordsFault.{WordsFault}
use Rattle.zonewire_words.specs.declared.command_line.WordsFault.TheVariants.{Line, BadName, BadClass, OutOfMemory}
use Rattle.zonewire_words.proofs.Named.{met_at, met_one, met_rows, one_by, simple_and_free}
use Rattle.zonewire_words.proofs.command_line.job.Goals as goal

-- a list of these words
abbrev choices_of : List Text → Choices
choices_of words = record { ref_ptr = (0, 0); now = map (λ (word : Text). record { ref_ptr = (0, 0); now = word }) words }

pub returns-in_err-command : goal.returns-in_err-command
returns-in_err-command c =
    let (fault, is, memory) = err_from_is_err_and c.from_residual.result c.from_residual.ensures.1 in
    let words = map (λ (w : Bor (List ℕ)). w.now) c.args.words.now in
    let layouts = choices_of (codes "simple" ∷ codes "tabbed" ∷ codes "multiline" ∷ []) in
    let a = zonewire (choices_of (codes "plain" ∷ codes "static" ∷ codes "tree" ∷ codes "hash" ∷ [])) layouts in
    (a, (_, _, refl, refl, refl), subst (Reads a words) (sym (is ∙ ap Err memory)) tt)

pub returns-in_err-matches : goal.returns-in_err-matches
returns-in_err-matches c =
    let (fault, is, line) = err_from_is_err_and c.from_residual-in_err-matches.result c.from_residual-in_err-matches.ensures.1 in
    let a = app_of c.in_ok-command.command in
    let parse = c.in_err-matches.ensures in
    let words = map (λ (w : Bor (List ℕ)). w.now) c.args.words.now in
    (a, c.in_ok-command.ensures, subst (Reads a words) (sym (is ∙ ap Err line)) (parse.kinds (simple_and_free a c.in_ok-command.ensures), parse.passes))

-- the words name the subcommand with these rows, and this holds of the result
reads : (a : App) (words : List Text) (name : Text) (rows options : List Row) (r : Result Job WordsFault) → fault_of a words ≡ []
    → subcommand_of a words ≡ Some (name, rows) → options ≡ rows → MatchResult r (IsJobOf (name, options)) (IsValueFault (name, options)) → Reads a words r
reads a words name rows options (Ok job) clear names same holds = (clear, ((name, rows), names, subst (λ l. IsJobOf (name, l) job) same holds))
reads a words name rows options (Err (Line e)) clear names same holds = absurd holds
reads a words name rows options (Err BadName) clear names same holds =
    (clear, ((name, rows), names, subst (λ l. IsValueFault (name, l) BadName) same holds))
reads a words name rows options (Err BadClass) clear names same holds =
    (clear, ((name, rows), names, subst (λ l. IsValueFault (name, l) BadClass) same holds))
reads a words name rows options (Err OutOfMemory) clear names same holds = tt

pub send_job-requires-clause-id : goal.send_job-requires-clause-id
send_job-requires-clause-id c =
    let a = app_of c.in_ok-command.command in
    let words = map (λ (w : Bor (List ℕ)). w.now) c.args.words.now in
    let m = c.in_ok-matches.matches in
    let met = met_one a c.in_ok-command.ensures words m c.in_ok-matches.ensures.kinds c.in_ok-matches.ensures.matches in
    let s = met_at a words m met (codes "send") c.in-Some.name.now c.in-Some.ensures.name c.in-send.is in
    subst (HasNumber (codes "id")) (sym (met_rows m (codes "send", s.rows) s.met _ c.in-Some.ensures.rows)) s.holds.0

pub send_job-requires-clause-max : goal.send_job-requires-clause-max
send_job-requires-clause-max c =
    let a = app_of c.in_ok-command.command in
    let words = map (λ (w : Bor (List ℕ)). w.now) c.args.words.now in
    let m = c.in_ok-matches.matches in
    let met = met_one a c.in_ok-command.ensures words m c.in_ok-matches.ensures.kinds c.in_ok-matches.ensures.matches in
    let s = met_at a words m met (codes "send") c.in-Some.name.now c.in-Some.ensures.name c.in-send.is in
    subst (HasNumber (codes "max")) (sym (met_rows m (codes "send", s.rows) s.met _ c.in-Some.ensures.rows)) s.holds.1

pub returns-in-send : goal.returns-in-send
returns-in-send c =
    let a = app_of c.in_ok-command.command in
    let words = map (λ (w : Bor (List ℕ)). w.now) c.args.words.now in
    let m = c.in_ok-matches.matches in
    let clear = c.in_ok-matches.ensures.kinds (simple_and_free a c.in_ok-command.ensures) in
    let met = met_one a c.in_ok-command.ensures words m c.in_ok-matches.ensures.kinds c.in_ok-matches.ensures.matches in
    let s = met_at a words m met (codes "send") c.in-Some.name.now c.in-Some.ensures.name c.in-send.is in
    let same = met_rows m (codes "send", s.rows) s.met _ c.in-Some.ensures.rows in
    (a, c.in_ok-command.ensures, reads a words (codes "send") s.rows _ c.send_job.result clear s.names same c.send_job.ensures)

pub receive_job-requires-clause-id : goal.receive_job-requires-clause-id
receive_job-requires-clause-id c =
    let a = app_of c.in_ok-command.command in
    let words = map (λ (w : Bor (List ℕ)). w.now) c.args.words.now in
    let m = c.in_ok-matches.matches in
    let met = met_one a c.in_ok-command.ensures words m c.in_ok-matches.ensures.kinds c.in_ok-matches.ensures.matches in
    let s = met_at a words m met (codes "receive") c.in-Some.name.now c.in-Some.ensures.name c.in-receive.is in
    subst (HasNumber (codes "id")) (sym (met_rows m (codes "receive", s.rows) s.met _ c.in-Some.ensures.rows)) s.holds.0

pub receive_job-requires-clause-apex : goal.receive_job-requires-clause-apex
receive_job-requires-clause-apex c =
    let a = app_of c.in_ok-command.command in
    let words = map (λ (w : Bor (List ℕ)). w.now) c.args.words.now in
    let m = c.in_ok-matches.matches in
    let met = met_one a c.in_ok-command.ensures words m c.in_ok-matches.ensures.kinds c.in_ok-matches.ensures.matches in
    let s = met_at a words m met (codes "receive") c.in-Some.name.now c.in-Some.ensures.name c.in-receive.is in
    subst (λ (l : List Row). is_some (first_of (codes "apex") l) ≡ true) (sym (met_rows m (codes "receive", s.rows) s.met _ c.in-Some.ensures.rows)) s.holds.1

pub returns-in-receive : goal.returns-in-receive
returns-in-receive c =
    let a = app_of c.in_ok-command.command in
    let words = map (λ (w : Bor (List ℕ)). w.now) c.args.words.now in
    let m = c.in_ok-matches.matches in
    let clear = c.in_ok-matches.ensures.kinds (simple_and_free a c.in_ok-command.ensures) in
    let met = met_one a c.in_ok-command.ensures words m c.in_ok-matches.ensures.kinds c.in_ok-matches.ensures.matches in
    let s = met_at a words m met (codes "receive") c.in-Some.name.now c.in-Some.ensures.name c.in-receive.is in
    let same = met_rows m (codes "receive", s.rows) s.met _ c.in-Some.ensures.rows in
    (a, c.in_ok-command.ensures, reads a words (codes "receive") s.rows _ c.receive_job.result clear s.names same c.receive_job.ensures)

pub returns-in-check : goal.returns-in-check
returns-in-check c =
    let a = app_of c.in_ok-command.command in
    let words = map (λ (w : Bor (List ℕ)). w.now) c.args.words.now in
    let m = c.in_ok-matches.matches in
    let clear = c.in_ok-matches.ensures.kinds (simple_and_free a c.in_ok-command.ensures) in
    let met = met_one a c.in_ok-command.ensures words m c.in_ok-matches.ensures.kinds c.in_ok-matches.ensures.matches in
    let s = met_at a words m met (codes "check") c.in-Some.name.now c.in-Some.ensures.name c.in-check.is in
    let same = met_rows m (codes "check", s.rows) s.met _ c.in-Some.ensures.rows in
    (a, c.in_ok-command.ensures, reads a words (codes "check") s.rows _ c.check_job.result clear s.names same c.check_job.ensures)

pub returns-in-canon : goal.returns-in-canon
returns-in-canon c =
    let a = app_of c.in_ok-command.command in
    let words = map (λ (w : Bor (List ℕ)). w.now) c.args.words.now in
    let m = c.in_ok-matches.matches in
    let clear = c.in_ok-matches.ensures.kinds (simple_and_free a c.in_ok-command.ensures) in
    let met = met_one a c.in_ok-command.ensures words m c.in_ok-matches.ensures.kinds c.in_ok-matches.ensures.matches in
    let s = met_at a words m met (codes "canon") c.in-Some.name.now c.in-Some.ensures.name c.in-canon.is in
    let same = met_rows m (codes "canon", s.rows) s.met _ c.in-Some.ensures.rows in
    (a, c.in_ok-command.ensures, reads a words (codes "canon") s.rows _ c.canon_job.result clear s.names same c.canon_job.ensures)

pub unreachable-requires-in_default-name : goal.unreachable-requires-in_default-name
unreachable-requires-in_default-name c =
    let a = app_of c.in_ok-command.command in
    let words = map (λ (w : Bor (List ℕ)). w.now) c.args.words.now in
    let m = c.in_ok-matches.matches in
    let met = met_one a c.in_ok-command.ensures words m c.in_ok-matches.ensures.kinds c.in_ok-matches.ensures.matches in
    one_by a words m met c.in-Some.name.now c.in-Some.ensures.name c.in_default-name.not-send c.in_default-name.not-receive
    c.in_default-name.not-check c.in_default-name.not-canon
