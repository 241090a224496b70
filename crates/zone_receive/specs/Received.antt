-- How far a receiver has come. Only the receiver itself uses it.
use Rattle.std.specs.Prelude.{◌≢◌, Bool, ⊤}
use Rattle.zone_records.specs.Zone.{any_class}
use Rattle.zone_core.specs.Query.{AxfrQuery}
use Rattle.zone_receive.specs.Receiving.{Heard, Stage}
use Rattle.zone_receive.specs.Receiving.Stage.{Ended, Refused}
use Rattle.zone_receive.specs.FrameBuffer.{IsEnded, IsWaiting, stage_where}
use Rattle.zone_receive.specs.declared.frame_buffer.FrameBuffer.{FrameBuffer}
use Rattle.zone_receive.specs.declared.receiver.Progress.{Progress}
use Rattle.zone_receive.specs.declared.receiver.Progress.TheVariants as progress

abbrev pub stage_in : Progress → Bool → Stage
stage_in progress.Begun is_first = stage_where is_first
stage_in progress.Done is_first = Ended
stage_in (progress.Refused error) is_first = Refused error

-- the value of a receiver, as its contracts show it
abbrev pub heard_in : Progress → FrameBuffer → AxfrQuery → Heard
heard_in at buffer query = record {
  query = query;
  records = buffer.records;
  open_frame = buffer.open_frame.items;
  stage = stage_in at buffer.is_first;
}

-- what holds of the octets and the records
abbrev pub IsAt : Progress → FrameBuffer → AxfrQuery → Type 0
IsAt progress.Begun buffer query = IsWaiting buffer query
IsAt progress.Done buffer query = IsEnded buffer query
IsAt (progress.Refused error) buffer query = ⊤

-- the invariant of a receiver
pub record IsReceiver (at : Progress) (buffer : FrameBuffer) (query : AxfrQuery) : Type 0 where
  pub is_at : IsAt at buffer query
  pub class_known : query.class ≢ any_class
