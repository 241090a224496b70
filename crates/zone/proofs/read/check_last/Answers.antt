use Rattle.std.proofs.Common.{sym, subst}
use Rattle.std.proofs.lemmas.Result.{IfErr-weaker, on_ok_weaker}
use Rattle.dns_rdata.specs.Fields.{IsData}
use Rattle.zone_records.specs.Record as spec
use Rattle.zone.specs.ZoneText.{IsWellTyped}
use Rattle.zone.specs.Reading.{BeginWith, IsCheckFault, MayStandUnder}
use Rattle.zone.proofs.LastRecord.{back_is, front_is, place_within}
use Rattle.zone.proofs.read.check_last.Goals as goal

pub split_at-requires : goal.split_at-requires
split_at-requires c = place_within c.requires.2

pub with_owner_len-record-requires : goal.with_owner_len-record-requires
with_owner_len-record-requires c =
    let stands = c.requires.2 in (c.requires.1, stands.is, back_is _ stands c.split_at.ensures.back, c.requires.4)

pub apex_of-requires : goal.apex_of-requires
apex_of-requires c =
    let stands = c.requires.2 in
    (c.requires.0, subst (BeginWith c.requires.0) (sym (front_is _ stands c.split_at.ensures.front)) stands.begin, c.requires.3)

pub check_record-requires : goal.check_record-requires
check_record-requires c = λ bare.
    let stands = c.requires.2 in
    let same = c.with_owner_len-record.ensures c.requires.1 stands.is (back_is _ stands c.split_at.ensures.back) in
    subst (λ (r : spec.Record). IsData r.rtype r.rdata) (sym same) (c.requires.5 bare)

pub returns-clause-ok : goal.returns-clause-ok
returns-clause-ok c =
    on_ok_weaker c.check_record.result (λ kept apex r stands long.
    let begin = subst (BeginWith apex) (sym (front_is _ stands c.split_at.ensures.front)) stands.begin in
    let found = c.apex_of.ensures apex begin long in
    let same = c.with_owner_len-record.ensures r stands.is (back_is _ stands c.split_at.ensures.back) in
    subst (λ a. IsWellTyped r × MayStandUnder a r) found
    (subst (λ x. IsWellTyped x × MayStandUnder c.apex_of.result x) same kept)) c.check_record.ensures.ok

pub returns-clause-err : goal.returns-clause-err
returns-clause-err c =
    IfErr-weaker c.check_record.result _ _ (λ error broken apex r stands long.
    let begin = subst (BeginWith apex) (sym (front_is _ stands c.split_at.ensures.front)) stands.begin in
    let found = c.apex_of.ensures apex begin long in
    let same = c.with_owner_len-record.ensures r stands.is (back_is _ stands c.split_at.ensures.back) in
    subst (λ a. IsCheckFault c.args.unknown c.args.number a r error) found
    (subst (λ x. IsCheckFault c.args.unknown c.args.number c.apex_of.result x error) same broken)) c.check_record.ensures.err
