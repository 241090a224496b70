use Rattle.std.proofs.Common.{◌≡◌, ◌<◌, ◌∙◌, [], length, ap, refl, sym, subst, option_copied, Ok, rules}
use Rattle.std.specs.List.{push}
use Rattle.std.proofs.lemmas.Result.{err_from_is_err_and}
use Rattle.zone.specs.Kept.{Keeps}
use Rattle.zone.proofs.Keeping.{begins}
use Rattle.zone.proofs.ReadRecords.{no_record_read, nothing_read, zone_read}
use Rattle.zone.proofs.read.read_all.Goals as goal

pub loop-octets-init : goal.loop-octets-init
loop-octets-init c = (
  c.in_ok-zonefile.ensures.unrefused,
  [],
  nothing_read c.requires.known c.in_ok-zonefile.ensures.named c.in_ok-zonefile.ensures.at,
  subst (λ o. Keeps c.args.keeper.now o []) (sym c.new-octets.ensures.items) c.requires.empty,
  refl,
)

pub loop-octets-preserved : goal.loop-octets-preserved
loop-octets-preserved c =
    let read = c.loop-octets.invariant in
    let more = c.in_ok-read_next.ensures.more (ap Ok c.if-branch.true) c.args.text.items (option_copied c.args.origin) c.args.class read.1 read.2 read.3 in
    (c.in_ok-read_next.ensures.unrefused, push read.1 more.0, more.1, more.2, c.in_ok-read_next.ensures.kind ∙ read.4)

pub returns-in_err-read_next-clause-err : goal.returns-in_err-read_next-clause-err
returns-in_err-read_next-clause-err c =
    let p = err_from_is_err_and c.from_residual-in_err-read_next.result c.from_residual-in_err-read_next.ensures.1 in
    let read = c.loop-octets.invariant in
    rw (p.1, p.2) (c.in_err-read_next.ensures.err c.args.text.items (option_copied c.args.origin) c.args.class read.1 read.2 read.3)

pub returns-then-is_empty-clause-err : goal.returns-then-is_empty-clause-err
returns-then-is_empty-clause-err c =
    let read = c.loop-octets.invariant in
    let end = c.in_ok-read_next.ensures.end (ap Ok c.if-branch.false) in
    let none : length c.loop-octets.octets.items ≡ 0 = search rules in
    no_record_read c.loop-octets.octets.items read.2 end.0 (begins read.3) none

pub returns-clause-ok : goal.returns-clause-ok
returns-clause-ok c =
    let read = c.loop-octets.invariant in
    let end = c.in_ok-read_next.ensures.end (ap Ok c.if-branch.false) in
    let some : 0 < length c.loop-octets.octets.items = search rules in
    let keeps : Keeps c.read_next.new.keeper c.read_next.new.octets.items read.1 = rw (end.1, end.2) read.3 in
    (read.1, zone_read c.loop-octets.octets.items read.2 end.0 (begins read.3) some, keeps)

pub returns-clause-kind : goal.returns-clause-kind
returns-clause-kind c = c.in_ok-read_next.ensures.kind ∙ c.loop-octets.invariant.4
