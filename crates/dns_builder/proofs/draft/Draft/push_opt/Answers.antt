use Rattle.std.proofs.Common.{◌∙◌, ◌<◌, ℕ, length, ap, subst, refl, arith}
use Rattle.dns_octets.specs.Builder.{IsWithin}
use Rattle.dns_name.specs.Page.{Page}
use Rattle.dns_name.specs.RecordData.{page_of}
use Rattle.dns_name.proofs.Soundness.{merely-within}
use Rattle.dns_name.proofs.Growth.{octets_back, known_back}
use Rattle.dns_header.specs.Written.{parts_of}
use Rattle.dns_sections.specs.Refused.{as_push_error}
use Rattle.dns_builder.specs.Built.{Draft}
use Rattle.dns_builder.specs.OptAdded.RefusesOpt.{unbuilt, uncounted}
use Rattle.dns_builder.specs.OptSeen.{opt_in}
use Rattle.dns_builder.specs.Refused.{IsUncounted}
use Rattle.dns_builder.specs.Seen.{draft_in}
use Rattle.dns_builder.proofs.Begun.{handed-on}
use Rattle.dns_builder.proofs.Cleared.{grown-long}
use Rattle.dns_builder.proofs.DraftPages.{number_grown}
use Rattle.dns_builder.proofs.FreeHeader.{free_grown}
use Rattle.dns_builder.proofs.NewHeader.{headed}
use Rattle.dns_builder.proofs.OptWritten.{opt_short}
use Rattle.dns_builder.proofs.OnResults.{on_err_any}
use Rattle.dns_builder.proofs.Pushes.{pushed_on}
use Rattle.dns_builder.proofs.draft.Draft.push_opt.Goals as goal

pub invariant_of-self : goal.invariant_of-self
invariant_of-self g c = record {
  header = grown-long 12 c.append_opt.ensures.grows c.args.self.now.header;
  free = free_grown 0 12 c.append_opt.ensures.grows c.args.self.now.header c.args.self.now.free;
  behind = c.args.self.now.behind;
}

pub returns-in_err-header-clause-why : goal.returns-in_err-header-clause-why
returns-in_err-header-clause-why g c =
    handed-on c.from_residual.result (as_push_error c.in_err-header.field-0.0) _ c.from_residual.ensures.1
    (unbuilt c.in_err-header.ensures.why refl)

pub returns-in_err-count_or_cut-clause-err : goal.returns-in_err-count_or_cut-clause-err
returns-in_err-count_or_cut-clause-err g c =
    let here = ap (length {A = ℕ}) c.octets-len.ensures in
    on_err_any c.from_residual-in_err-count_or_cut.result (c.in_err-count_or_cut.ensures.err ∙ λ i. record {
      page = page_of
          (octets_back (length c.octets-len.result.now) _ c.append_opt.ensures.grows here refl i)
          (known_back (length c.octets-len.result.now) _ (merely-within (g.met.Target.Composer.sound c.args.self.now.opt.target))
          c.append_opt.ensures.grows here refl i);
      bound = c.append_opt.ensures.same_bound i;
      starts = c.args.self.now.starts.items;
      limit = c.args.self.now.limit;
    })

pub returns-in_err-count_or_cut-clause-why : goal.returns-in_err-count_or_cut-clause-why
returns-in_err-count_or_cut-clause-why g c =
    let w = c.in_ok-header.ensures.ok in
    handed-on c.from_residual-in_err-count_or_cut.result c.in_err-count_or_cut.field-0.0 _ c.from_residual-in_err-count_or_cut.ensures.1
    (uncounted w.builds (subst (λ (d : Draft). IsUncounted 3 d c.in_err-count_or_cut.field-0.0) (λ i. record {
      page = w.written i;
      bound = c.append_opt.ensures.same_bound i;
      starts = c.args.self.now.starts.items;
      limit = c.args.self.now.limit;
    }) c.in_err-count_or_cut.ensures.why))

pub returns-clause-ok : goal.returns-clause-ok
returns-clause-ok g c =
    let w = c.in_ok-header.ensures.ok in
    let appended : Draft = record {
      page = page_of (g.Target.Octets.list c.append_opt.new.self.target) (g.Target.Remembers.known c.append_opt.new.self.target);
      bound = g.Target.OctetsBuilder.bound c.append_opt.new.self.target;
      starts = c.args.self.now.starts.items;
      limit = c.args.self.now.limit;
    } in
    let taken = c.in_ok-count_or_cut.ensures.taken in
    record {
      header = c.in_ok-header.header;
      opt = w.opt;
      builds = w.builds;
      taken = record {
        counted = opt_short g.F.FnOnce (opt_in g.Target.Octets.list) c.args.op g.Target.Composer.spelling (draft_in c.args.self.now).page c.in_ok-header.header w.opt w.builds;
        fits = subst (λ (d : Draft). IsWithin d.bound (length d.page.octets)) (λ i. record {
          page = w.written i;
          bound = c.append_opt.ensures.same_bound i;
          starts = c.args.self.now.starts.items;
          limit = c.args.self.now.limit;
        }) taken.fits;
        short = subst (λ (p : Page). length p.octets < c.args.self.now.limit) w.written taken.short;
        few = subst (λ n. n < 65535) (number_grown 10 c.append_opt.ensures.grows (omega (arith, c.args.self.now.header))) taken.few;
      };
      adds = λ built is.
          headed _ (draft_in c.set_header.new.self)
          (pushed_on 3 (parts_of w.opt) appended (draft_in c.count_or_cut.new.self) is w.written refl c.requires.last (omega arith) taken.few
          (ap (λ (d : Draft). d.page) c.in_ok-count_or_cut.ensures.ok) (ap (λ (d : Draft). d.starts) c.in_ok-count_or_cut.ensures.ok))
          c.set_header.ensures.four (ap (λ (d : Draft). d.page) c.set_header.ensures.draft)
          (ap (λ (d : Draft). d.starts) c.set_header.ensures.draft);
    }

pub returns-in_err-count_or_cut-clause-stays : goal.returns-in_err-count_or_cut-clause-stays
returns-in_err-count_or_cut-clause-stays g c = g.met.Target.OctetsBuilder.stays_on _ _ _ c.append_opt.ensures.stays c.count_or_cut.ensures.stays

pub returns-clause-stays : goal.returns-clause-stays
returns-clause-stays g c =
    g.met.Target.OctetsBuilder.stays_on _ _ _
    (g.met.Target.OctetsBuilder.stays_on _ _ _ c.append_opt.ensures.stays c.count_or_cut.ensures.stays) c.set_header.ensures.stays
