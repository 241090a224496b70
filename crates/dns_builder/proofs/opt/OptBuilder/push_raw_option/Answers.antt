use Rattle.std.proofs.Common.{◌-◌, ◌∙◌, ℕ, List, Some, length, take, drop, inl, inr, ap, refl, arith}
use Rattle.dns_name.proofs.Soundness.{merely-within}
use Rattle.dns_name.proofs.Growth.{octets_back, known_back}
use Rattle.dns_header.specs.Opt.{option_octets}
use Rattle.dns_builder.specs.OptSeen.{opt_in}
use Rattle.dns_builder.proofs.OptOptions.{only-grown, option-long}
use Rattle.dns_builder.proofs.OptPages.{front-more, last-more}
use Rattle.dns_builder.proofs.opt.OptBuilder.push_raw_option.Goals as goal

pub returns-in-Some-clause-err : goal.returns-in-Some-clause-err
returns-in-Some-clause-err g c = λ i. record (opt_in g.Target.Octets.list c.args.self.now) { refused = c.in-Some.is i }

pub returns-in-Some-clause-why : goal.returns-in-Some-clause-why
returns-in-Some-clause-why g c = inl c.in-Some.is

pub returns-in-Some-clause-leaves : goal.returns-in-Some-clause-leaves
returns-in-Some-clause-leaves g c = record {
  front = refl;
  known = refl;
  bound = refl;
  header = refl;
  stays = g.met.Target.OctetsBuilder.stays_here c.args.self.now.target;
}

pub returns-in-Ok-clause-ok : goal.returns-in-Ok-clause-ok
returns-in-Ok-clause-ok g c =
    let adds = c.in-Ok.ensures.ok in
    record {
      octets = adds.octets;
      writes = adds.writes;
      long = adds.long;
      is = last-more (g.Target.Octets.list c.args.self.now.target) (option_octets (record { code = c.args.code; octets = adds.octets }))
          (g.Target.Octets.list c.append_option.new.target) c.args.self.now.rdlen c.in-Ok.rdlen adds.is
          (omega (arith, c.in-Ok.ensures.rdlen, adds.long, option-long c.args.code adds.octets));
    }

pub returns-in-Ok-clause-leaves : goal.returns-in-Ok-clause-leaves
returns-in-Ok-clause-leaves g c =
    let adds = c.in-Ok.ensures.ok in
    record {
      front = front-more (g.Target.Octets.list c.args.self.now.target) (option_octets (record { code = c.args.code; octets = adds.octets }))
          (g.Target.Octets.list c.append_option.new.target) c.args.self.now.rdlen c.in-Ok.rdlen c.args.self.now.replaced adds.is
          (omega (arith, c.in-Ok.ensures.rdlen, adds.long, option-long c.args.code adds.octets));
      known = c.append_option.ensures.grows.known;
      bound = c.append_option.ensures.grows.bound;
      header = refl;
      stays = c.append_option.ensures.grows.stays;
    }

pub returns-in-Err-clause-err : goal.returns-in-Err-clause-err
returns-in-Err-clause-err g c =
    let here = ap (length {A = ℕ}) c.octets-len.ensures in
    let same = octets_back (length c.octets-len.result.now) _ (only-grown c.append_option.ensures.grows) here c.truncate.ensures.octets in
    ap (λ (l : List ℕ). record (opt_in g.Target.Octets.list c.args.self.now) {
      options = drop (length l - c.args.self.now.rdlen) l;
      refused = Some c.in-Err.error;
    }) same

pub returns-in-Err-clause-why : goal.returns-in-Err-clause-why
returns-in-Err-clause-why g c = inr c.in-Err.ensures.why

pub returns-in-Err-clause-leaves : goal.returns-in-Err-clause-leaves
returns-in-Err-clause-leaves g c =
    let here = ap (length {A = ℕ}) c.octets-len.ensures in
    let same = octets_back (length c.octets-len.result.now) _ (only-grown c.append_option.ensures.grows) here c.truncate.ensures.octets in
    record {
      front = ap (λ (l : List ℕ). take (length l - c.args.self.now.rdlen - c.args.self.now.replaced) l) same;
      known = known_back (length c.octets-len.result.now) _ (merely-within (g.met.Target.Composer.sound c.args.self.now.target))
          (only-grown c.append_option.ensures.grows) here c.truncate.ensures.known;
      bound = c.truncate.ensures.same_bound ∙ c.append_option.ensures.grows.bound;
      header = refl;
      stays = g.met.Target.OctetsBuilder.stays_on _ _ _ c.append_option.ensures.grows.stays c.truncate.ensures.stays;
    }
