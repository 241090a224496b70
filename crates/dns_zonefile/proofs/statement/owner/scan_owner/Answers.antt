use Rattle.dns_zonefile.proofs.Records.{led_owner, own_owner}
use Rattle.dns_zonefile.proofs.statement.owner.scan_owner.Goals as goal

pub returns-then-blank_led-clause-ok : goal.returns-then-blank_led-clause-ok
returns-then-blank_led-clause-ok g c = led_owner c.if-blank_led.true

pub returns-clause-ok : goal.returns-clause-ok
returns-clause-ok g c = own_owner c.if-blank_led.false c.in_ok-scan_name.ensures.ok
