use Rattle.std.proofs.Common.{◌∙◌, ap, sym}
use Rattle.std.proofs.lemmas.Bool.{eqb-true, eq-eqb}
use Rattle.dns_label.specs.Name.{low}
use Rattle.zone_records.proofs.ReadData.{data_as}
use Rattle.zone_records.proofs.SameSoas.{same_told, told_same}
use Rattle.zone_records.proofs.record_data.is_same_soa.Goals.{then-is_at, else-is_at}
use Rattle.zone_records.proofs.record_data.is_same_soa.Goals as goal

pub parse_data-data-requires : goal.parse_data-data-requires
parse_data-data-requires c = data_as _ _ _ _ c.rtype.ensures c.data.ensures c.requires.first.1.sendable.data_is

pub parse_data-other_data-requires : goal.parse_data-other_data-requires
parse_data-other_data-requires c = data_as _ _ _ _ c.rtype-2.ensures c.data-2.ensures c.requires.second.1.sendable.data_is

pub returns-then-eq : goal.returns-then-eq
returns-then-eq c =
    let first = c.parse_data-data.ensures in
    let second = c.parse_data-other_data.ensures in
    let number = first.number ∙ c.rtype.ensures ∙ c.requires.first.2 in
    let other_number = second.number ∙ c.rtype-2.ensures ∙ c.requires.second.2 in
    let yes_is = c.if-eq.true in
    elim c.if-is_at.branch [
      | then-is_at w ↦
          let owner = c.is_at.ensures.0 w.if-is_at.true ∙ ap low c.owner.ensures.owner in
          let ttl = sym w.ttl.ensures ∙ eqb-true w.ttl.result w.ttl-then-is_at.result (sym w.eq.ensures ∙ sym w.value-is ∙ yes_is)
          ∙ w.ttl-then-is_at.ensures in (
            λ told. same_told c.args.soa.now c.args.other.now _ _ number (first.octets ∙ c.data.ensures) first.fields other_number
                (second.octets ∙ c.data-2.ensures) second.fields (sym c.eq-then-eq.ensures ∙ told) owner c.requires.class ttl,
            λ same. c.eq-then-eq.ensures
                ∙ told_same c.args.soa.now c.args.other.now _ _ number (first.octets ∙ c.data.ensures) first.fields other_number
                (second.octets ∙ c.data-2.ensures) second.fields same,
          )
      | else-is_at w ↦ let no_is = w.if-is_at.false in let value = w.value-is in absurd cc
    ]

pub returns-else-eq : goal.returns-else-eq
returns-else-eq c =
    let no_is = c.if-eq.false in
    elim c.if-is_at.branch [
      | then-is_at w ↦ (
        λ told. absurd cc,
        λ same. w.value-is ∙ w.eq.ensures ∙ eq-eqb w.ttl.result w.ttl-then-is_at.result (w.ttl.ensures ∙ same.ttl ∙ sym w.ttl-then-is_at.ensures),
      )
      | else-is_at w ↦ (λ told. absurd cc, λ same. w.value-is ∙ c.is_at.ensures.1 (same.owner ∙ sym (ap low c.owner.ensures.owner)))
    ]
