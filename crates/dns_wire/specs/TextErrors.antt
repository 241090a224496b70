-- Why a text was refused, by why its octets were not appended to a name.
use Rattle.dns_wire.specs.declared.push_error.PushError.{PushError}
use Rattle.dns_wire.specs.declared.push_error.PushError.TheVariants.{LongLabel, LongName, ShortBuf}
use Rattle.dns_wire.specs.declared.text.FromStrError.{FromStrError}
use Rattle.dns_wire.specs.declared.text.FromStrError.TheVariants as text_errors
use Rattle.dns_wire.specs.declared.text.PresentationError.TheVariants as presentation

abbrev pub text_error : PushError → FromStrError
text_error LongLabel = text_errors.Presentation presentation.LongLabel
text_error LongName = text_errors.Presentation presentation.LongName
text_error ShortBuf = text_errors.ShortBuf
