-- The numbers by which C knows a fault: the hundreds are a table of docs/ERRORS.md, and the rest is its row.
use Rattle.std.specs.Prelude.{ℕ}
use Rattle.zone.specs.declared.zone_error.ZoneError.{ZoneError}
use Rattle.zone.specs.declared.zone_error.ZoneError.TheVariants as zone_error
use Rattle.zone_core.specs.declared.query_error.QueryError.{QueryError}
use Rattle.zone_core.specs.declared.query_error.QueryError.TheVariants as query_error
use Rattle.zone_send.specs.declared.sending.error.SendError.{SendError}
use Rattle.zone_send.specs.declared.sending.error.SendError.TheVariants as send_error
use Rattle.zone_receive.specs.declared.error.ReceiveError.{ReceiveError}
use Rattle.zone_receive.specs.declared.error.ReceiveError.TheVariants as receive_error
use Rattle.zonewire_c.specs.declared.fault.Fault.{Fault}
use Rattle.zonewire_c.specs.declared.fault.Fault.TheVariants as fault

abbrev pub zone_code : ZoneError → ℕ
zone_code zone_error.OutOfMemory = 1
zone_code zone_error.ClassAny = 101
zone_code (zone_error.Text n) = 102
zone_code (zone_error.Include n) = 103
zone_code (zone_error.Untyped n) = 104
zone_code (zone_error.FirstNotSoa n) = 105
zone_code (zone_error.SecondSoa n) = 106
zone_code (zone_error.OutOfZone n) = 107
zone_code (zone_error.Unspellable n) = 108
zone_code zone_error.NoSoa = 109

abbrev pub query_code : QueryError → ℕ
query_code query_error.Short = 201
query_code query_error.Response = 202
query_code query_error.Opcode = 203
query_code query_error.Counts = 204
query_code query_error.Malformed = 205
query_code query_error.NotAxfr = 206
query_code query_error.ClassAny = 207
query_code query_error.Trailing = 208

abbrev pub send_code : SendError → ℕ
send_code send_error.OutOfMemory = 1
send_code (send_error.Query why) = query_code why
send_code send_error.WrongZone = 302
send_code (send_error.Record n) = 303

abbrev pub receive_code : ReceiveError → ℕ
receive_code receive_error.OutOfMemory = 1
receive_code (receive_error.Query why) = query_code why
receive_code receive_error.Short = 402
receive_code receive_error.Id = 403
receive_code receive_error.NotResponse = 404
receive_code receive_error.Opcode = 405
receive_code (receive_error.Rcode rcode) = 406
receive_code receive_error.Counts = 407
receive_code receive_error.Question = 408
receive_code (receive_error.Record n) = 409
receive_code receive_error.FirstNotSoa = 410
receive_code (receive_error.Class n) = 411
receive_code (receive_error.OutOfZone n) = 412
receive_code (receive_error.SoaDiffers n) = 413
receive_code (receive_error.AfterLast n) = 414
receive_code (receive_error.Unspellable n) = 415
receive_code receive_error.Trailing = 416
receive_code receive_error.Unfinished = 417

-- the number of a fault
abbrev pub code_of : Fault → ℕ
code_of fault.OutOfMemory = 1
code_of fault.BadName = 2
code_of fault.BadLayout = 3
code_of fault.BadSpelling = 4
code_of (fault.Zone error) = zone_code error
code_of (fault.Send error) = send_code error
code_of (fault.Receive error) = receive_code error

abbrev pub zone_number : ZoneError → ℕ
zone_number zone_error.OutOfMemory = 0
zone_number zone_error.ClassAny = 0
zone_number (zone_error.Text n) = n
zone_number (zone_error.Include n) = n
zone_number (zone_error.Untyped n) = n
zone_number (zone_error.FirstNotSoa n) = n
zone_number (zone_error.SecondSoa n) = n
zone_number (zone_error.OutOfZone n) = n
zone_number (zone_error.Unspellable n) = n
zone_number zone_error.NoSoa = 0

abbrev pub send_number : SendError → ℕ
send_number send_error.OutOfMemory = 0
send_number (send_error.Query why) = 0
send_number send_error.WrongZone = 0
send_number (send_error.Record n) = n

abbrev pub receive_number : ReceiveError → ℕ
receive_number (receive_error.Rcode rcode) = rcode
receive_number (receive_error.Record n) = n
receive_number (receive_error.Class n) = n
receive_number (receive_error.OutOfZone n) = n
receive_number (receive_error.SoaDiffers n) = n
receive_number (receive_error.AfterLast n) = n
receive_number (receive_error.Unspellable n) = n
receive_number error = 0

-- the number that the fault names: of an entry, of a record, or a response code; 0 if it names none
abbrev pub number_of : Fault → ℕ
number_of fault.OutOfMemory = 0
number_of fault.BadName = 0
number_of fault.BadLayout = 0
number_of fault.BadSpelling = 0
number_of (fault.Zone error) = zone_number error
number_of (fault.Send error) = send_number error
number_of (fault.Receive error) = receive_number error
