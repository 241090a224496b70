use Rattle.std.proofs.Common.{◌-◌, arith, length-set}
use Rattle.dns_wire.proofs.Wire.{length-labels_wire_more}
use Rattle.dns_wire.proofs.Drafts.{draft-end, draft-len, labels_more}
use Rattle.dns_wire.proofs.text.draft.NameDraft.end_label.Goals as goal

pub returns-clause-ok : goal.returns-clause-ok
returns-clause-ok c = λ done begun holds.
    let all = c.args.self.now.whole in
    let few = c.args.self.now.few in
    let short = c.args.self.now.short in
    let full = c.args.self.now.full in
    let room = c.args.self.now.room in
    let at = holds.place in
    let size = draft-len c.args.self.now.octets c.args.self.now.len done begun (omega arith) holds.written in
    record {
      written = draft-end c.args.self.now.octets c.args.self.now.len c.args.self.now.start (c.args.self.now.len - c.args.self.now.start - 1) done begun
          (omega arith) holds.written holds.place (omega arith) (length-set c.args.self.now.octets _ _);
      place = omega (arith, length-labels_wire_more done begun);
      labels = labels_more done begun holds.labels (record { some = omega arith; short = omega arith });
    }
