use Rattle.std.proofs.Common.{ℕ, ◌++◌, length, sym, ◌∙◌, ap, arith}
use Rattle.dns_wire.proofs.Case.{wire_one}
use Rattle.dns_wire.proofs.Flat.{flat-written}
use Rattle.dns_entry_scanner.proofs.ChainedNames.{few_octets, front_octets, wire-append}
use Rattle.dns_entry_scanner.proofs.inline_name.InlineNameTextName.of_labels_under.Goals as goal

pub append-requires-2 : goal.append-requires-2
append-requires-2 c =
    let few = few_octets c.args.draft.now c.requires.0 c.requires.0 c.args.origin.now c.requires.1 c.requires.1 c.requires.2 in
    let front = c.append.ensures ∙ ap (λ l. l ++ c.labels.result.now) c.new-octets.ensures ∙ c.labels.ensures
    ∙ front_octets c.args.draft.now c.requires.0 c.requires.1 in
    omega (arith, few, ap (length {A = ℕ}) front, ap (length {A = ℕ}) c.as_slice.ensures.octets)

pub from_octets_unchecked-requires : goal.from_octets_unchecked-requires
from_octets_unchecked-requires c =
    let front = c.append.ensures ∙ ap (λ l. l ++ c.labels.result.now) c.new-octets.ensures ∙ c.labels.ensures
    ∙ front_octets c.args.draft.now c.requires.0 c.requires.1 in
    flat-written _ (c.requires.0 ++ c.args.origin.now) c.requires.2
    (c.append-2.ensures ∙ ap (λ l. l ++ c.as_slice.result.now) front ∙ wire-append c.requires.0 c.args.origin.now c.as_slice.ensures.octets)

pub returns-clause-made : goal.returns-clause-made
returns-clause-made c =
    let front = c.append.ensures ∙ ap (λ l. l ++ c.labels.result.now) c.new-octets.ensures ∙ c.labels.ensures
    ∙ front_octets c.args.draft.now c.requires.0 c.requires.1 in (
      c.requires.0,
      c.requires.1,
      c.requires.2,
      wire_one _ (c.requires.0 ++ c.args.origin.now)
          (sym c.from_octets_unchecked.ensures ∙ c.append-2.ensures ∙ ap (λ l. l ++ c.as_slice.result.now) front
          ∙ wire-append c.requires.0 c.args.origin.now c.as_slice.ensures.octets),
    )
