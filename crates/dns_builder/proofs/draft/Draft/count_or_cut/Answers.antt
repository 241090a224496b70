use Rattle.dns_builder.proofs.Cleared.{free_cut, take-long}
use Rattle.dns_builder.proofs.draft.Draft.count_or_cut.Goals as goal

pub invariant_of-self : goal.invariant_of-self
invariant_of-self g c = record {
  header = take-long 12 c.args.len (g.Target.Octets.list c.count_item-counted.new.self.opt.target)
      (g.Target.Octets.list c.truncate.new.self) c.truncate.ensures.octets c.requires.header c.count_item-counted.new.self.header;
  free = free_cut c.args.len 12 (g.Target.Remembers.known c.count_item-counted.new.self.opt.target)
      (g.Target.Remembers.known c.truncate.new.self) c.truncate.ensures.known c.count_item-counted.new.self.free;
  behind = c.count_item-counted.new.self.behind;
}
