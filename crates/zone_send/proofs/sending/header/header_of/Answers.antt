use Rattle.std.proofs.Common.{[], ◌∷◌, ◌++◌, ◌∙◌}
use Rattle.std.specs.Prelude.{if◌then◌else◌}
use Rattle.std.specs.Int.{to_be_bytes, w16}
use Rattle.zone_send.proofs.HeaderFronts.{front_octets}
use Rattle.zone_send.proofs.sending.header.header_of.Goals as goal

pub returns : goal.returns
returns c =
    front_octets c.id.result c.rd.result c.new-header.result c.set_id.new.self c.set_qr.new.self c.set_aa.new.self c.set_rd.new.self
    c.new-header.ensures c.set_id.ensures c.set_qr.ensures c.set_aa.ensures c.set_rd.ensures c.header_is_its_fields.ensures
    ∙ (λ i. to_be_bytes w16 (c.id.ensures i) ++ (if c.rd.ensures i then 133 else 132) ∷ 0 ∷ [])
