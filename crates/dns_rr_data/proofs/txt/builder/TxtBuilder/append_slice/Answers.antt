use Rattle.dns_rr_data.proofs.Builds.{put_closed, put_open, open_here, stands_put, goes_put, stands_seen}
use Rattle.dns_rr_data.proofs.txt.builder.TxtBuilder.append_slice.Goals as goal

pub invariant_of-self-in_default : goal.invariant_of-self-in_default
invariant_of-self-in_default g c =
    let here = stands_seen c.self.view_is c.self.invariant in
    stands_put c.args.self.now c.args.octets.now here
    (put_closed c.args.self.now c.args.octets.now here c.in_default.is c.in_ok-self-inside.ensures.ok) c.in_ok-self-inside.ensures.fits

pub returns-in_default-clause-ok : goal.returns-in_default-clause-ok
returns-in_default-clause-ok g c =
    let here = stands_seen c.self.view_is c.self.invariant in
    goes_put c.args.self.now c.args.octets.now here
    (put_closed c.args.self.now c.args.octets.now here c.in_default.is c.in_ok-self-inside.ensures.ok) c.in_ok-self-inside.ensures.fits

pub invariant_of-self-2 : goal.invariant_of-self-2
invariant_of-self-2 g c =
    let here = stands_seen c.self.view_is c.self.invariant in
    stands_put c.args.self.now c.args.octets.now here
    (put_open c.args.self.now c.args.octets.now (open_here here c.in-Some.is) c.in_ok-self-inside-2.ensures.ok) c.in_ok-self-inside-2.ensures.fits

pub returns-clause-ok : goal.returns-clause-ok
returns-clause-ok g c =
    let here = stands_seen c.self.view_is c.self.invariant in
    goes_put c.args.self.now c.args.octets.now here
    (put_open c.args.self.now c.args.octets.now (open_here here c.in-Some.is) c.in_ok-self-inside-2.ensures.ok) c.in_ok-self-inside-2.ensures.fits
