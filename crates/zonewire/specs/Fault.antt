-- The program's fault for each error of a layer below. One fault, `OutOfMemory`, covers every allocation.
use Rattle.zone.specs.declared.zone_error.ZoneError.{ZoneError}
use Rattle.zone.specs.declared.zone_error.ZoneError.TheVariants as zone_error
use Rattle.zone_send.specs.declared.sending.error.SendError.{SendError}
use Rattle.zone_send.specs.declared.sending.error.SendError.TheVariants as send_error
use Rattle.zone_receive.specs.declared.error.ReceiveError.{ReceiveError}
use Rattle.zone_receive.specs.declared.error.ReceiveError.TheVariants as receive_error
use Rattle.zonewire.specs.declared.source.ReadAllError.{ReadAllError}
use Rattle.zonewire.specs.declared.source.ReadAllError.TheVariants as read_all_error
use Rattle.zonewire.specs.declared.fault.Fault.{Fault}
use Rattle.zonewire.specs.declared.fault.Fault.TheVariants.{Read, Zone, Send, Receive, OutOfMemory}

abbrev pub of_read : ReadAllError → Fault
of_read read_all_error.Read = Read
of_read read_all_error.OutOfMemory = OutOfMemory

abbrev pub of_zone : ZoneError → Fault
of_zone zone_error.OutOfMemory = OutOfMemory
of_zone error = Zone error

abbrev pub of_send : SendError → Fault
of_send send_error.OutOfMemory = OutOfMemory
of_send error = Send error

abbrev pub of_receive : ReceiveError → Fault
of_receive receive_error.OutOfMemory = OutOfMemory
of_receive error = Receive error
