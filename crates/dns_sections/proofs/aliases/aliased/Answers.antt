use Rattle.std.proofs.Common.{◌≡◌, ◌∙◌, true, false, List, Some, ap, subst, sym}
use Rattle.dns_name.specs.ParsedName.{labels_of}
use Rattle.dns_header.specs.Record.{with_labels}
use Rattle.dns_sections.specs.Aliases.{Alias, HasAliases}
use Rattle.dns_sections.specs.Given.{seen}
use Rattle.dns_sections.specs.Sections.{SectionCursor}
use Rattle.dns_sections.specs.Seen.{asked_at, only_in}
use Rattle.dns_sections.proofs.AliasSteps.{GivesRows, named, is_of, other-passed, unread-passed, found-first, none-found, all-found, any-class, given-name, given-error, given-end}
use Rattle.dns_sections.proofs.aliases.aliased.Goals as goal

pub loop-alias-preserved-in-Err : goal.loop-alias-preserved-in-Err
loop-alias-preserved-in-Err c =
    let inv = c.loop-alias.invariant in
    let at = (asked_at c.loop-alias.aliases).cursor in
    let behind = (asked_at c.next.new.self).cursor in
    let gives = subst (λ r. GivesRows (only_in c.loop-alias.aliases) at (seen (with_labels labels_of) r) behind)
    (c.in-Some.is ∙ ap Some c.in-Err.is) c.next.ensures.steps.2 in record {
      only = c.next.ensures.steps.1 ∙ inv.only;
      looks = unread-passed inv.looks (given-error (any-class inv.only gives));
    }

pub loop-alias-preserved : goal.loop-alias-preserved
loop-alias-preserved c =
    let inv = c.loop-alias.invariant in
    let at = (asked_at c.loop-alias.aliases).cursor in
    let behind = (asked_at c.next.new.self).cursor in
    let gives = subst (λ r. GivesRows (only_in c.loop-alias.aliases) at (seen (with_labels labels_of) r) behind)
    (c.in-Some.is ∙ ap Some c.in-Ok.is) c.next.ensures.steps.2 in
    let alias = given-name (any-class inv.only gives) in
    let other : is_of (labels_of c.args.name.now) (named (with_labels labels_of c.in-Ok.alias) alias.name) ≡ false =
    cc (c.owner.ensures, c.if-eq.ensures) in record {
      only = c.next.ensures.steps.1 ∙ inv.only;
      looks = other-passed inv.looks alias.gives other;
    }

pub returns-then-eq-clause-first : goal.returns-then-eq-clause-first
returns-then-eq-clause-first c = λ aliases has.
    let inv = c.loop-alias.invariant in
    let at = (asked_at c.loop-alias.aliases).cursor in
    let behind = (asked_at c.next.new.self).cursor in
    let gives = subst (λ r. GivesRows (only_in c.loop-alias.aliases) at (seen (with_labels labels_of) r) behind)
    (c.in-Some.is ∙ ap Some c.in-Ok.is) c.next.ensures.steps.2 in
    let alias = given-name (any-class inv.only gives) in
    let same : is_of (labels_of c.args.name.now) (named (with_labels labels_of c.in-Ok.alias) alias.name) ≡ true =
    cc (c.owner.ensures, c.if-eq.ensures) in
    let name : labels_of c.into_cname.result ≡ alias.name = cc (c.into_cname.ensures, c.into_data.ensures, alias.rdata) in
    ap Some name ∙ found-first inv.looks alias.gives same aliases
    (subst (λ (s : SectionCursor). HasAliases s.cursor aliases) (sym c.limit_to-aliases.ensures.at) has)

pub returns-clause-first : goal.returns-clause-first
returns-clause-first c = λ aliases has.
    none-found c.loop-alias.invariant.looks (given-end (any-class c.loop-alias.invariant.only c.in_default.ensures.steps.2)) aliases
    (subst (λ (s : SectionCursor). HasAliases s.cursor aliases) (sym c.limit_to-aliases.ensures.at) has)

pub returns-clause-none : goal.returns-clause-none
returns-clause-none c =
    subst (λ (s : SectionCursor). (aliases : List Alias) × HasAliases s.cursor aliases) c.limit_to-aliases.ensures.at
    (all-found c.loop-alias.invariant.looks (given-end (any-class c.loop-alias.invariant.only c.in_default.ensures.steps.2)))
