use Rattle.std.proofs.Common.{rules}
use Rattle.std.specs.Prelude.{nat_le}
use Rattle.arrayvec.proofs.ArrayVecLemmas.{filter-from_retain}
use Rattle.dns_compress.proofs.Spots.{read_before}
use Rattle.dns_compress.proofs.static_table.StaticTableTable.forget.Goals as goal

pub returns : goal.returns
returns c = λ octets sound.
    read_before c.args.len octets c.args.self.now.written.items c.retain.new.self.items
    (filter-from_retain _ (λ spot. nat_le spot.stop c.args.len) _ (λ spot kept f after called. search rules) _ _ c.retain.ensures.filtered) sound
