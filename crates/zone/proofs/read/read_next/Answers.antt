use Rattle.std.proofs.Common.{◌≡◌, ◌<◌, ◌^◌, length, arith, ap, refl, rules, ◌∙◌}
use Rattle.zone_records.specs.Held.{record_of}
use Rattle.dns_entry_scanner.proofs.HandedOn.{handed_on}
use Rattle.zone.proofs.ReaderSteps.{number_given}
use Rattle.zone.specs.Reading.{apex_in, name_len}
use Rattle.zone.proofs.Keeping.{begins}
use Rattle.zone.proofs.LastOwner.{owner_given}
use Rattle.zone.proofs.ReadRecords.{breaks, data_met, few_met, follows, front_read, more_read, record_is, record_met, shorter_read, stands_last}
use Rattle.zone.proofs.read.read_next.Goals as goal

pub returns-in_err-unknown-clause-err : goal.returns-in_err-unknown-clause-err
returns-in_err-unknown-clause-err c =
    handed_on c.from_residual.result c.in_err-unknown.field-0.0 _ c.from_residual.ensures.1 (λ text origin class records read _.
    c.in_err-unknown.ensures.err text origin class records read)

pub check_last-requires : goal.check_last-requires
check_last-requires c =
    let met = rw c.in-Some.is at c.in_ok-unknown.ensures.ok in
    let place : c.len-place.result ≡ length c.args.octets.now.items = search rules in
    let records = c.requires.read.3 in
    let keeps = c.requires.read.5 in
    let begin = begins keeps in
    let owner = c.last_owner_len-owner_len.ensures ∙ ap name_len (owner_given met.2.is met.1) in (
      apex_in records,
      record_of met.2.rr,
      stands_last (apex_in records) c.len-place.result c.deref.result.now begin met.2 place c.deref.ensures.value,
      keeps.apex,
      owner,
      (λ bare. data_met c.requires.read.4 met.1 met.2 bare),
    )

pub returns-in_err-check_last-clause-err : goal.returns-in_err-check_last-clause-err
returns-in_err-check_last-clause-err c =
    handed_on c.from_residual-in_err-check_last.result c.in_err-check_last.field-0.0 _ c.from_residual-in_err-check_last.ensures.1 (λ text origin class records read keeps.
    let met = rw c.in-Some.is at c.in_ok-unknown.ensures.ok in
    let place : c.len-place.result ≡ length c.args.octets.now.items = search rules in
    let begin = begins keeps in
    let stands = stands_last (apex_in records) c.len-place.result c.deref.result.now begin met.2 place c.deref.ensures.value in
    let number = c.entry_number-number.ensures ∙ number_given c.append_next.new.zonefile c.in_ok-unknown.ensures.unrefused in
    breaks _ records (apex_in records) (record_of met.2.rr) c.in_err-check_last.field-0.0 read.class_known refl (front_read read)
    (record_met read met.1 met.2.is number) (c.in_err-check_last.ensures.err (apex_in records) (record_of met.2.rr) stands keeps.apex))

pub keep-requires : goal.keep-requires
keep-requires c =
    let met = rw c.in-Some.is at c.in_ok-unknown.ensures.ok in
    let number = c.entry_number-number.ensures ∙ number_given c.append_next.new.zonefile c.in_ok-unknown.ensures.unrefused in
    let most : c.entry_number-number.result < 2 ^ 64 = search rules in (
      c.args.octets.now.items,
      c.requires.read.3,
      c.requires.read.5,
      omega (arith, most, few_met (record_met c.requires.read.4 met.1 met.2.is number)),
    )

pub returns-clause-more : goal.returns-clause-more
returns-clause-more c = λ _ text origin class records read keeps.
    let met = rw c.in-Some.is at c.in_ok-unknown.ensures.ok in
    let place : c.len-place.result ≡ length c.args.octets.now.items = search rules in
    let begin = begins keeps in
    let stands = stands_last (apex_in records) c.len-place.result c.deref.result.now begin met.2 place c.deref.ensures.value in
    let number = c.entry_number-number.ensures ∙ number_given c.append_next.new.zonefile c.in_ok-unknown.ensures.unrefused in
    let checked = c.in_ok-check_last.ensures.ok (apex_in records) (record_of met.2.rr) stands keeps.apex in
    let owner = c.last_owner_len-owner_len.ensures ∙ ap name_len (owner_given met.2.is met.1) in
    let r = record_of met.2.rr in (
      r,
      more_read read (record_met read met.1 met.2.is number) checked.0 (follows records (apex_in records) r refl (front_read read) checked.1),
      c.in_ok-keep.ensures.kept c.args.octets.now.items records r keeps (record_is met.2.rr met.2.held) met.2.octets place owner,
    )

pub returns-clause-shorter : goal.returns-clause-shorter
returns-clause-shorter c = λ _. let met = rw c.in-Some.is at c.in_ok-unknown.ensures.ok in shorter_read met.2.is met.1
