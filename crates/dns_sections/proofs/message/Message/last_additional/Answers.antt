use Rattle.dns_sections.specs.Firsts.{LastAdditional}
use Rattle.dns_sections.specs.Message.{octets_in}
use Rattle.dns_sections.specs.Seen.{records_at}
use Rattle.dns_sections.proofs.Last.{last-is}
use Rattle.dns_sections.proofs.message.Message.last_additional.Goals as goal

pub returns-in-Ok : goal.returns-in-Ok
returns-in-Ok g c =
    last-is (octets_in g.Octs.Octets.list c.args.self.now) (records_at c.in-Ok.section) c.in-Ok.ensures c.last_record.result
    c.last_record.ensures.some c.last_record.ensures.none

pub returns-in-Err : goal.returns-in-Err
returns-in-Err g c = LastAdditional.out_of_reach c.in-Err.ensures
