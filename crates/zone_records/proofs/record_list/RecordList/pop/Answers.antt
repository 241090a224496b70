use Rattle.std.proofs.Common.{◌≡◌, ◌-◌, ◌++◌, ◌∷◌, [], List, length, take, ap, ◌∙◌}
use Rattle.zone_records.specs.Record.{Record}
use Rattle.zone_records.proofs.StoredRecords.{stored_less, stored_found, stored_view}
use Rattle.zone_records.proofs.record_list.RecordList.pop.Goals as goal

pub invariant_of-self : goal.invariant_of-self
invariant_of-self c =
    let at : c.self.inside.places.items ≡ c.pop.new.self.items ++ c.in-Some.last ∷ [] = c.in-Some.ensures.items in
    stored_found _ _ _ (stored_less _ _ _ _ _ _ c.self.invariant at c.truncate.ensures.items)

pub returns-in-Some : goal.returns-in-Some
returns-in-Some c =
    let at : c.self.inside.places.items ≡ c.pop.new.self.items ++ c.in-Some.last ∷ [] = c.in-Some.ensures.items in
    stored_view _ _ _ (stored_less _ _ _ _ _ _ c.self.invariant at c.truncate.ensures.items)
    ∙ ap (λ (l : List Record). take (length l - 1) l) c.self.view_is
