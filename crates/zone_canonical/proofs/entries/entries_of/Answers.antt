use Rattle.std.proofs.Common.{List, [], ◌∷◌, ◌++◌, take, map, sym, ap, ◌∙◌, arith}
use Rattle.std.proofs.lemmas.List.{map-append}
use Rattle.zone_records.specs.Record.{Record}
use Rattle.zone_records.proofs.Indexed.{all_at, element_at, take-next}
use Rattle.zone_canonical.specs.Canonical.{HasCanonicalForm}
use Rattle.zone_canonical.specs.Keyed.{Keyed, keyed}
use Rattle.zone_canonical.proofs.entries.entries_of.Goals as goal

pub loop-index-preserved : goal.loop-index-preserved
loop-index-preserved c =
    let apex = c.args.apex.now in
    let front : List Record = take c.loop-index.index c.args.records.now in
    let there = element_at c.args.records.now c.loop-index.index (omega arith) in
    c.in_ok-push.ensures.items
    ∙ ap (λ (l : List Keyed). l ++ c.entry_at.result ∷ []) c.loop-index.invariant
    ∙ ap (λ (e : Keyed). map (keyed apex) front ++ e ∷ []) (c.entry_at.ensures there.0 there.1)
    ∙ sym (map-append (keyed apex) front (there.0 ∷ []))
    ∙ ap (map (keyed apex)) (sym (take-next c.args.records.now c.loop-index.index there.0 there.1))

pub entry_at-requires-clause-has : goal.entry_at-requires-clause-has
entry_at-requires-clause-has c r found = all_at HasCanonicalForm c.args.records.now c.loop-index.index r found c.requires
