use Rattle.std.proofs.Common.{◌≡◌, true, rules}
use Rattle.dns_service_parameters.proofs.ServiceKeys.{ordered_of, parameters_of}
use Rattle.dns_service_parameters.proofs.check.are_parameters.Goals as goal

pub returns-then-not-are_ordered : goal.returns-then-not-are_ordered
returns-then-not-are_ordered c =
    (λ yes. absurd (cc), λ holds. let yes : c.are_ordered.result ≡ true = c.are_ordered.ensures.1 (ordered_of holds) in absurd (cc))

pub returns-then-not-has_mandatory : goal.returns-then-not-has_mandatory
returns-then-not-has_mandatory c = (
  λ yes. absurd (cc),
  λ holds.
      let ordered = ordered_of holds in
      let yes : c.has_mandatory.result ≡ true = (c.has_mandatory.ensures _ ordered.each ordered.ascend ordered.written).1 holds.are.mandatory in
      absurd (cc),
)

pub returns-then-not-has_key : goal.returns-then-not-has_key
returns-then-not-has_key c =
    let ordered = c.are_ordered.ensures.0 (search rules) in
    let mandatory = (c.has_mandatory.ensures _ ordered.each ordered.ascend ordered.written).0 (search rules) in (
      λ yes. parameters_of ordered mandatory (λ among.
          let yes : c.has_key.result ≡ true = (c.has_key.ensures _ ordered.each ordered.ascend ordered.written).1 among in absurd (cc)),
      λ holds. cc,
    )

pub returns : goal.returns
returns c =
    let ordered = c.are_ordered.ensures.0 (search rules) in
    let mandatory = (c.has_mandatory.ensures _ ordered.each ordered.ascend ordered.written).0 (search rules) in (
      λ yes. parameters_of ordered mandatory (λ among. (c.has_key-2.ensures _ ordered.each ordered.ascend ordered.written).0 yes),
      λ holds.
          let its = ordered_of holds in
          let among = (c.has_key.ensures _ its.each its.ascend its.written).0 (search rules) in
          (c.has_key-2.ensures _ its.each its.ascend its.written).1 (holds.are.alpn among),
    )
