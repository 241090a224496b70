use Rattle.std.proofs.Common.{◌∙◌, Some, None, Ok, Err, refl, subst, sym}
use Rattle.std.proofs.lemmas.Result.{err_from_is_err_and}
use Rattle.dns_zonefile.specs.Reader.{Gives}
use Rattle.dns_zonefile.specs.ReaderSeen.{reader_of}
use Rattle.dns_zonefile.specs.RowRead.{IsInForm, ReadsRow}
use Rattle.dns_zonefile.specs.RowRead.IsInForm.{found, ended, refused}
use Rattle.dns_zonefile.proofs.Going.{passed-nowhere, passed-on, given-behind, ended-behind, refused-behind}
use Rattle.dns_zonefile.proofs.zonefile.Zonefile.read_entry.Goals as goal

pub loop-given-init : goal.loop-given-init
loop-given-init g c = record { passed = passed-nowhere (reader_of c.args.self.now); refused = refl; kept = refl }

pub loop-given-preserved : goal.loop-given-preserved
loop-given-preserved g c =
    let before = g.F.EntryForm.octets c.loop-given.form in
    let after = g.F.EntryForm.octets c.read_row.new.form in
    let read = subst (λ r. ReadsRow g.F.EntryForm.gives (reader_of c.loop-given.self) before r (reader_of c.read_row.new.self) after)
    c.in-Passed.is c.in_ok-read_row.ensures.ok in record {
      passed = passed-on c.loop-given.invariant.passed read.1 read.2;
      refused = c.in_ok-read_row.ensures.refused ∙ c.loop-given.invariant.refused;
      kept = read.4 ∙ c.loop-given.invariant.kept;
    }

pub returns-in-Found-clause-gives : goal.returns-in-Found-clause-gives
returns-in-Found-clause-gives g c =
    let gives = g.F.EntryForm.gives in
    let before = g.F.EntryForm.octets c.loop-given.form in
    let after = g.F.EntryForm.octets c.read_row.new.form in
    let read = subst (λ r. ReadsRow gives (reader_of c.loop-given.self) before r (reader_of c.read_row.new.self) after)
    c.in-Found.is c.in_ok-read_row.ensures.ok in record {
      given = Ok (Some read.0);
      is = given-behind c.loop-given.invariant.passed read.1 read.2;
      so = found (subst (λ l. gives l read.0 c.in-Found.given after) c.loop-given.invariant.kept read.3);
    }

pub returns-in-Ended-clause-gives : goal.returns-in-Ended-clause-gives
returns-in-Ended-clause-gives g c =
    let gives = g.F.EntryForm.gives in
    let before = g.F.EntryForm.octets c.loop-given.form in
    let after = g.F.EntryForm.octets c.read_row.new.form in
    let read = subst (λ r. ReadsRow gives (reader_of c.loop-given.self) before r (reader_of c.read_row.new.self) after)
    c.in-Ended.is c.in_ok-read_row.ensures.ok in record {
      given = Ok None;
      is = subst (λ r. Gives (reader_of c.args.self.now) (Ok None) r) (sym read.1) (ended-behind c.loop-given.invariant.passed read.0);
      so = subst (λ l. IsInForm gives (g.F.EntryForm.octets c.args.form.now) (Ok None) (Ok None) l) (sym (read.2 ∙ c.loop-given.invariant.kept)) ended;
    }

pub returns-in_err-read_row-clause-gives : goal.returns-in_err-read_row-clause-gives
returns-in_err-read_row-clause-gives g c =
    let error = c.in_err-read_row.field-0.0 in
    let p = err_from_is_err_and c.from_residual.result c.from_residual.ensures.1 in
    rw (p.1, p.2) (record {
      given = Err error;
      is = subst (λ r. Gives (reader_of c.args.self.now) (Err error) r) (sym c.in_err-read_row.ensures.same)
          (refused-behind error c.loop-given.invariant.passed c.in_err-read_row.ensures.err);
      so = subst (λ l. IsInForm g.F.EntryForm.gives (g.F.EntryForm.octets c.args.form.now) (Err error) (Err error) l)
          (sym (c.in_err-read_row.ensures.kept ∙ c.loop-given.invariant.kept)) refused;
    })
