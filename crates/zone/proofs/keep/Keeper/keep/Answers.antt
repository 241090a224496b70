use Rattle.std.proofs.Common.{◌++◌, ◌∷◌, [], ap, arith, length-append, sym, ◌∙◌}
use Rattle.zone_records.proofs.StoredRecords.{stored_more}
use Rattle.zone.proofs.Keeping.{all_again, all_kept, apex_more, begins, first_again, first_kept}
use Rattle.zone.proofs.keep.Keeper.keep.Goals as goal

pub count_record-requires : goal.count_record-requires
count_record-requires c =
    let counted = c.requires.2.counted in
    let few = c.requires.3 in omega (arith, counted, few)

pub returns-then-self-clause-kept : goal.returns-then-self-clause-kept
returns-then-self-clause-kept c = λ before records r keeps is whole at long.
    let counted = keeps.counted in
    let more = c.count_record.ensures.counted in
    let first = first_kept (sym c.count_record.ensures.kind ∙ c.if-self.true) keeps in record {
      apex = apex_more records before r (begins keeps) keeps.apex at long c.count_record.ensures.first c.count_record.ensures.later;
      counted = omega (arith, counted, more, length-append records (r ∷ []));
      kept = first_again _ _ _ c.if-self.true (c.leave_first.ensures before records r first is whole at);
    }

pub returns-clause-kept : goal.returns-clause-kept
returns-clause-kept c = λ before records r keeps is whole at long.
    let counted = keeps.counted in
    let more = c.count_record.ensures.counted in
    let stored = all_kept (sym c.count_record.ensures.kind ∙ c.if-self.false) keeps in
    let places =
    c.in_ok-push.ensures.items ∙ ap (λ l. l ++ c.args.place ∷ []) c.count_record.ensures.places ∙ ap (λ n. c.args.self.now.places.items ++ n ∷ []) at in record {
      apex = apex_more records before r (begins keeps) keeps.apex at long c.count_record.ensures.first c.count_record.ensures.later;
      counted = omega (arith, counted, more, length-append records (r ∷ []));
      kept = all_again _ _ _ c.if-self.false
          (stored_more before c.args.self.now.places.items c.args.octets.now.items c.push.new.self.items records r stored is whole places);
    }
