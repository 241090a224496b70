use Rattle.std.proofs.Common.{◌≡◌, ◌+◌, ℕ, length, ◌∷◌, [], ◌∙◌, sym, ap, arith, length-append}
use Rattle.dns_octets.proofs.Grows.{GrowsTo-append}
use Rattle.dns_name.proofs.Soundness.{merely-within}
use Rattle.dns_name.proofs.Growth.{GrowsTo-trans}
use Rattle.dns_name.proofs.WrittenParts.{free_mark, GrowsTo-is, GrowsTo-counted}
use Rattle.dns_name.proofs.record_data.counted.append_canonical_counted.Goals as goal

pub count_behind-requires-clause-free : goal.count_behind-requires-clause-free
count_behind-requires-clause-free g c =
    let before = merely-within (g.met.Target.Composer.sound c.args.target.now) in
    let two : length (g.Target.Octets.list c.append_slice.new.self) ≡ length (g.Target.Octets.list c.args.target.now) + 2 =
    ap (length {A = ℕ}) c.in_ok-append_slice.ensures.ok ∙ length-append (g.Target.Octets.list c.args.target.now) (0 ∷ 0 ∷ []) in
    let here : length c.octets-place.result.now ≡ length (g.Target.Octets.list c.args.target.now) = ap (length {A = ℕ}) c.octets-place.ensures in
    free_mark _ (g.Target.Octets.list c.append_slice.new.self) _ before here (two ∙ ap (λ n. n + 2) (sym here)) c.append_slice.ensures.known
    (GrowsTo-append (g.Target.Octets.list c.append_slice.new.self) _ (g.Target.Octets.list c.compose_canonical_rdata.new.target) _ _
    c.in_ok-compose_canonical_rdata.ensures.ok c.compose_canonical_rdata.ensures.known)

pub returns-in_err-count_behind-clause-grows : goal.returns-in_err-count_behind-clause-grows
returns-in_err-count_behind-clause-grows g c =
    GrowsTo-is _ _ (GrowsTo-trans c.append_slice.ensures.grows
    (GrowsTo-append _ _ _ _ _ c.in_ok-compose_canonical_rdata.ensures.ok c.compose_canonical_rdata.ensures.known))
    c.in_err-count_behind.ensures.err c.count_behind.ensures.known

pub returns-in_err-count_behind-clause-stays : goal.returns-in_err-count_behind-clause-stays
returns-in_err-count_behind-clause-stays g c =
    g.met.Target.OctetsBuilder.stays_on _ _ _ c.append_slice.ensures.stays
    (g.met.Target.OctetsBuilder.stays_on _ _ _ c.compose_canonical_rdata.ensures.stays c.count_behind.ensures.stays)

pub returns-clause-grows : goal.returns-clause-grows
returns-clause-grows g c =
    let grown = GrowsTo-trans c.append_slice.ensures.grows
    (GrowsTo-append _ _ _ _ _ c.in_ok-compose_canonical_rdata.ensures.ok c.compose_canonical_rdata.ensures.known) in
    let here : length c.octets-place.result.now ≡ length (g.Target.Octets.list c.args.target.now) = ap (length {A = ℕ}) c.octets-place.ensures in
    GrowsTo-counted (length c.octets-place.result.now) _ _ grown (omega (arith, here))
    (omega (
      arith,
      here,
      ap (length {A = ℕ}) c.in_ok-append_slice.ensures.ok,
      length-append (g.Target.Octets.list c.args.target.now) (0 ∷ 0 ∷ []),
      ap (length {A = ℕ}) c.in_ok-compose_canonical_rdata.ensures.ok,
      length-append (g.Target.Octets.list c.append_slice.new.self) (g.Data.ComposeRecordData.canonical_octets c.args.rdata.now),
    ))
    c.in_ok-count_behind.ensures.ok c.count_behind.ensures.known

pub returns-clause-stays : goal.returns-clause-stays
returns-clause-stays g c =
    g.met.Target.OctetsBuilder.stays_on _ _ _ c.append_slice.ensures.stays
    (g.met.Target.OctetsBuilder.stays_on _ _ _ c.compose_canonical_rdata.ensures.stays c.count_behind.ensures.stays)
