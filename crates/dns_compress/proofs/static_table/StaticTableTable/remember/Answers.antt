use Rattle.dns_compress.proofs.Spots.{read_more, few_spots}
use Rattle.dns_compress.proofs.static_table.StaticTableTable.remember.Goals as goal

pub push_all-requires-clause-few : goal.push_all-requires-clause-few
push_all-requires-clause-few c = few_spots c.args.self.now.written.items _ c.requires.sound

pub returns : goal.returns
returns c = read_more c.args._octets.now c.args.self.now.written.items c.push_all.new.self.written.items _ c.push_all.ensures c.requires.sound
