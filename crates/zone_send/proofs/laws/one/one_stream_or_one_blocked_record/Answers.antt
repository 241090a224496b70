use Rattle.zone_send.proofs.SentOnce.{sent_once, sent_or_blocked, blocked_once}
use Rattle.zone_send.proofs.laws.one.one_stream_or_one_blocked_record.Goals as goal

pub returns-clause-one_stream : goal.returns-clause-one_stream
returns-clause-one_stream c = sent_once

pub returns-clause-not_both : goal.returns-clause-not_both
returns-clause-not_both c = sent_or_blocked

pub returns-clause-one_blocked : goal.returns-clause-one_blocked
returns-clause-one_blocked c = blocked_once
