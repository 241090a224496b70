-- The tasks of `zonetool`.
use Rattle.std.specs.Prelude.{◌≡◌, ◌&&◌, false, ⊤, codes}
use Rattle.std.specs.Str.{bytes_eq}
use Rattle.tool_words.specs.declared.task.Task.{Task}
use Rattle.tool_words.specs.declared.task.Task.TheVariants.{Explain, Diff, Sort, Stats, General, Present, Query}

-- standard input, whose name is `-`, is not both of the zones that are compared
abbrev pub ReadsInputOnce : Task → Type 0
ReadsInputOnce (Explain file reading all color) = ⊤
ReadsInputOnce (Diff old new reading without ignore_ttl ignore_serial present color) = (bytes_eq old.now (codes "-") && bytes_eq new.now (codes "-")) ≡ false
ReadsInputOnce (Sort file reading present layout) = ⊤
ReadsInputOnce (Stats file reading present) = ⊤
ReadsInputOnce (General file reading) = ⊤
ReadsInputOnce (Present file reading layout) = ⊤
ReadsInputOnce (Query apex class id) = ⊤
