use Rattle.std.proofs.Common.{◌<◌, ℕ, List, [], ◌∙◌, length, sym, subst, arith}
use Rattle.dns_label.specs.Name.{IsName}
use Rattle.dns_wire.specs.Draft.{Holds}
use Rattle.dns_wire.proofs.Flat.{flat-written}
use Rattle.dns_wire.proofs.Drafts.{draft-name, draft-some, draft-wire, holds_one}
use Rattle.dns_flat.proofs.text.finish.finish.Goals as goal

pub from_octets_unchecked-requires : goal.from_octets_unchecked-requires
from_octets_unchecked-requires g c =
    let s = c.args.draft in
    let whole = s.whole in
    let few = s.few in
    let holds = c.requires.1 in
    flat-written _ c.requires.0 (draft-name s.octets s.len c.requires.0 (omega arith) few holds.written holds.labels)
    (c.in_ok-octets.ensures.octets ∙ c.in_ok-finished.ensures.ok ∙ draft-wire s.octets s.len c.requires.0 holds.written)

pub returns-clause-ok : goal.returns-clause-ok
returns-clause-ok g c =
    let s = c.args.draft in
    let whole = s.whole in
    let few = s.few in
    let holds = c.requires.1 in
    let is = holds_one s c.requires.0 c.from_octets_unchecked.result holds (sym c.from_octets_unchecked.ensures ∙ c.in_ok-octets.ensures.octets ∙ c.in_ok-finished.ensures.ok) in
    let P : List (List ℕ) → Type 0 = λ n. IsName n × Holds s n [] × (0 < length n) in
    subst P (sym is) (
      draft-name s.octets s.len c.requires.0 (omega arith) few holds.written holds.labels,
      holds,
      draft-some s.octets s.len c.requires.0 (omega arith) c.in_ok-finished.ensures.some holds.written,
    )
