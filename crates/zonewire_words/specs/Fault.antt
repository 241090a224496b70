-- The fault of a command line for an error of a layer below. One fault, `OutOfMemory`, covers every allocation.
use Rattle.dns_wire.specs.declared.text.FromStrError.{FromStrError}
use Rattle.dns_wire.specs.declared.text.FromStrError.TheVariants as from_str_error
use Rattle.zonewire_words.specs.declared.command_line.WordsFault.{WordsFault}
use Rattle.zonewire_words.specs.declared.command_line.WordsFault.TheVariants as words_fault

-- the fault of a word that is read as a name
abbrev pub of_name : FromStrError → WordsFault
of_name (from_str_error.Presentation error) = words_fault.BadName
of_name from_str_error.ShortBuf = words_fault.OutOfMemory
