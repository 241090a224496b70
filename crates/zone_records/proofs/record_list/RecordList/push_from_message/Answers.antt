use Rattle.std.proofs.Common.{◌≡◌, ◌++◌, ◌∷◌, [], List, ℕ, length, ap, ◌∙◌, arith, rules}
use Rattle.std.specs.Prelude.{Err}
use Rattle.std.proofs.lemmas.Grind.{common_steps}
use Rattle.dns_message.specs.HeaderRecord.{RecordOf, with_labels}
use Rattle.dns_message.specs.Held.{record_of}
use Rattle.dns_name.specs.ParsedName.{labels_of}
use Rattle.dns_octets.specs.declared.error.AppendError.TheVariants.{BadLength}
use Rattle.dns_rdata.specs.Data.{Data}
use Rattle.zone_records.specs.Typed.{seen_of}
use Rattle.zone_records.proofs.StoredRecords.{stored_more, stored_found, stored_view}
use Rattle.zone_records.proofs.WrittenRecords.{data_fits, octets_written}
use Rattle.zone_records.proofs.record_list.RecordList.push_from_message.Goals as goal

pub unreachable-requires : goal.unreachable-requires
unreachable-requires c =
    let rr : RecordOf (List (List ℕ)) Data = seen_of (with_labels labels_of c.args.next.now) in
    let fits : c.compose.result ≡ Err BadLength → ⊥ = λ is. data_fits c.self.inside.octets.items rr c.requires (c.compose.ensures.bad is) in
    grind (arith, common_steps, fits)

pub invariant_of-self-in_default : goal.invariant_of-self-in_default
invariant_of-self-in_default c =
    let rr : RecordOf (List (List ℕ)) Data = seen_of (with_labels labels_of c.args.next.now) in
    let start : c.len-start.result ≡ length c.self.inside.octets.items = search rules in
    stored_found _ _ _ (stored_more _ _ _ _ _ (record_of rr) c.self.invariant c.requires
    (octets_written c.self.inside.octets.items _ rr c.in-Ok.ensures.ok)
    (c.in_default.ensures.items ∙ ap (λ n. c.self.inside.places.items ++ n ∷ []) start))

pub returns-clause-ok : goal.returns-clause-ok
returns-clause-ok c =
    let rr : RecordOf (List (List ℕ)) Data = seen_of (with_labels labels_of c.args.next.now) in
    let start : c.len-start.result ≡ length c.self.inside.octets.items = search rules in
    stored_view _ _ _ (stored_more _ _ _ _ _ (record_of rr) c.self.invariant c.requires
    (octets_written c.self.inside.octets.items _ rr c.in-Ok.ensures.ok)
    (c.in_default.ensures.items ∙ ap (λ n. c.self.inside.places.items ++ n ∷ []) start))
    ∙ ap (λ l. l ++ record_of rr ∷ []) c.self.view_is
