-- How the program ends: its words name no job, or it ends as a run of the job that they name does.
use Rattle.std.specs.Prelude.{ℕ, List, Ok, Result, ⊤}
use Rattle.std.specs.Borrow.{Bor}
use Rattle.clap.specs.Walk.{Text, texts}
use Rattle.clap.specs.Simple.{App}
use Rattle.zonewire_words.specs.Command.{IsZonewire}
use Rattle.zonewire_words.specs.Words.{Reads}
use Rattle.zonewire_words.specs.declared.jobs.Job.{Job}
use Rattle.zonewire.specs.declared.fault.Fault.{Fault}
use Rattle.zonewire_words.specs.declared.command_line.WordsFault.{WordsFault}
use Rattle.zonewire.specs.declared.programs.Ending.{Ending}
use Rattle.zonewire.specs.declared.programs.Ending.TheVariants as ending

-- the exit status: 0, or 1 if the job failed, or 2 if the words name none
abbrev pub status_of : Ending → ℕ
status_of ending.Done = 0
status_of (ending.Failed error) = 1
status_of (ending.Refused error) = 2

-- a fact if the job was done
abbrev pub OnDone : Ending → Type 0 → Type 0
OnDone ending.Done Holds = Holds
OnDone (ending.Failed error) Holds = ⊤
OnDone (ending.Refused error) Holds = ⊤

-- a fact of the fault if the job failed
abbrev pub IfFailed : Ending → (Fault → Type 0) → Type 0
IfFailed ending.Done Holds = ⊤
IfFailed (ending.Failed error) Holds = Holds error
IfFailed (ending.Refused error) Holds = ⊤

-- a fact of the fault if the words name no job
abbrev pub IfRefused : Ending → (WordsFault → Type 0) → Type 0
IfRefused ending.Done Holds = ⊤
IfRefused (ending.Failed error) Holds = ⊤
IfRefused (ending.Refused error) Holds = Holds error

-- what the words of a command line name: a job, or none for this reason
abbrev pub AreRead : List (Bor Text) → Result Job WordsFault → Type 0
AreRead words named = (a : App) × IsZonewire a × Reads a (texts words) named

-- the words name a job for which this holds
abbrev pub NameJob : List (Bor Text) → (Job → Type 0) → Type 0
NameJob words Holds = (job : Job) × AreRead words (Ok job) × Holds job
