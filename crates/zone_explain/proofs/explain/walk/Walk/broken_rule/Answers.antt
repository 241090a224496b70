use Rattle.std.proofs.Common.{◌≡◌, ◌∙◌, ℕ, List, Option, sym, subst, rules}
use Rattle.dns_rdata.specs.Fields.{IsData}
use Rattle.dns_zonefile.specs.ReaderSeen.{entries_met}
use Rattle.zone_records.specs.Record.{Record}
use Rattle.zone.specs.Reading.{BreaksRule}
use Rattle.zone.specs.declared.zone_error.ZoneError.TheVariants as zone_error
use Rattle.zone_explain.specs.AllFaults.{apex_for}
use Rattle.zone_explain.specs.Walk.{front_of}
use Rattle.zone_explain.proofs.Walks.{check_breaks}
use Rattle.zone_explain.proofs.explain.walk.Walk.broken_rule.Goals as goal

pub check_record-requires : goal.check_record-requires
check_record-requires c = λ bare.
    let is = c.requires in
    let same : c.from_octets-record.result ≡ is.0 = c.from_octets-record.ensures is.0 is.1 (c.deref.ensures.value ∙ is.2) in
    subst (λ (r : Record). IsData r.rtype r.rdata) (sym same) (is.3 bare)

pub returns-in-Err : goal.returns-in-Err
returns-in-Err c = record {
  none = tt;
  some = λ r is octets.
      let same : c.from_octets-record.result ≡ r = c.from_octets-record.ensures r is (c.deref.ensures.value ∙ octets) in
      let other : c.in-Err.fault ≡ zone_error.OutOfMemory → ⊥ = search rules in
      let fault = c.in-Err.fault in
      let number = entries_met c.args.self.now.zonefile in
      let broken = check_breaks _ _ _ _ fault other c.in-Err.ensures.err in
      let numbered = subst (λ n. BreaksRule n c.apex_for-apex.result c.from_octets-record.result fault) c.entry_number-number.ensures broken.0 in
      let judged = subst (λ (a : Option (List (List ℕ))). BreaksRule number a c.from_octets-record.result fault) c.apex_for-apex.ensures numbered in
      (subst (λ (s : Record). BreaksRule number (apex_for (front_of c.args.self.now.front) s) s fault) same judged, broken.1);
}
