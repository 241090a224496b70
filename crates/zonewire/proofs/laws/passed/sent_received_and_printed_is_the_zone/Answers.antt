use Rattle.zonewire.proofs.Passed.{passed_known, sent_passed}
use Rattle.zonewire.proofs.laws.passed.sent_received_and_printed_is_the_zone.Goals as goal

pub returns : goal.returns
returns c = λ spelling layout text origin class max records others octets stream printed query each zone sent asked received is. (
  sent_passed spelling records others class octets max stream query sent asked received,
  λ again. c.printed_text_is_the_zones.ensures layout again class others printed zone.class_known
      (passed_known spelling records others class octets max stream query each sent asked received) is,
)
