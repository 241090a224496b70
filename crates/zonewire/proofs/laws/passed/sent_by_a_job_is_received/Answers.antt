use Rattle.dns_text.specs.Layout.{layout_of}
use Rattle.zonewire.proofs.JobsPassed.{sent_back}
use Rattle.zonewire.proofs.laws.passed.sent_by_a_job_is_received.Goals as goal

pub returns : goal.returns
returns c = λ spelling kind origin apex class id max name records text stream values named each zone same output.
    let back = sent_back spelling kind origin apex class id max name records text stream values named each zone same output in (
      back.others,
      back.printed,
      back.passed,
      back.output,
      λ again. c.printed_text_is_the_zones.ensures (layout_of kind) again class back.others back.printed zone.class_known back.known back.print,
    )
