use Rattle.std.proofs.Common.{◌≡◌, ◌∙◌, ℕ, length, ap, refl}
use Rattle.std.proofs.lemmas.Result.{on_err_weaker}
use Rattle.dns_name.specs.RecordData.{page_of}
use Rattle.dns_name.proofs.Soundness.{merely-within}
use Rattle.dns_name.proofs.Growth.{octets_back, known_back}
use Rattle.dns_builder.specs.Built.{Draft}
use Rattle.dns_builder.specs.Seen.{draft_in}
use Rattle.dns_builder.proofs.Cleared.{grown-long}
use Rattle.dns_builder.proofs.FreeHeader.{free_grown}
use Rattle.dns_builder.proofs.OnResults.{on_both}
use Rattle.dns_builder.proofs.Pushes.{pushed_on}
use Rattle.dns_builder.proofs.draft.Draft.push_item.Goals as goal

pub invariant_of-self : goal.invariant_of-self
invariant_of-self g c = record {
  header = grown-long 12 c.append_to.ensures.grows c.args.self.now.header;
  free = free_grown 0 12 c.append_to.ensures.grows c.args.self.now.header c.args.self.now.free;
  behind = c.args.self.now.behind;
}

pub returns-clause-ok : goal.returns-clause-ok
returns-clause-ok g c built is =
    let written : Draft = record {
      page = page_of (g.Target.Octets.list c.append_to.new.target) (g.Target.Remembers.known c.append_to.new.target);
      bound = g.Target.OctetsBuilder.bound c.append_to.new.target;
      starts = c.args.self.now.starts.items;
      limit = c.args.self.now.limit;
    } in
    on_both c.count_or_cut.result (λ taken same. pushed_on c.args.number (g.I.Item.parts c.args.item.now) written (draft_in c.count_or_cut.new.self) is
    c.in_ok-append_to.ensures.ok refl c.requires.last c.requires.few taken.few
    (ap (λ (d : Draft). d.page) same) (ap (λ (d : Draft). d.starts) same)) c.count_or_cut.ensures.taken c.count_or_cut.ensures.ok

pub returns-clause-err : goal.returns-clause-err
returns-clause-err g c =
    let here : length c.octets-len.result.now ≡ length (g.Target.Octets.list c.args.self.now.opt.target) =
    ap (length {A = ℕ}) c.octets-len.ensures in
    on_err_weaker c.count_or_cut.result (λ same. same ∙ λ i. record {
      page = page_of
          (octets_back (length c.octets-len.result.now) _ c.append_to.ensures.grows here refl i)
          (known_back (length c.octets-len.result.now) _ (merely-within (g.met.Target.Composer.sound c.args.self.now.opt.target))
          c.append_to.ensures.grows here refl i);
      bound = c.append_to.ensures.same_bound i;
      starts = c.args.self.now.starts.items;
      limit = c.args.self.now.limit;
    }) c.count_or_cut.ensures.err
