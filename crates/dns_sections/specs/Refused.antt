-- Why an item is not added to a message.
use Rattle.dns_octets.specs.declared.error.AppendError.{AppendError}
use Rattle.dns_octets.specs.declared.error.AppendError.TheVariants as append
use Rattle.dns_sections.specs.declared.error.PushError.{PushError}
use Rattle.dns_sections.specs.declared.error.PushError.TheVariants as push

-- the error of a push for that of its append
abbrev pub as_push_error : AppendError → PushError
as_push_error append.ShortBuf = push.ShortBuf
as_push_error append.OutOfMemory = push.OutOfMemory
as_push_error append.BadLength = push.BadLength
