use Rattle.std.proofs.Common.{◌≡◌, ◌∙◌, Bool, true, false, List, Some, refl, ap, subst, sym}
use Rattle.std.proofs.lemmas.Bool.{false≢true}
use Rattle.std.specs.Prelude.{not, is_some}
use Rattle.dns_name.specs.ParsedName.{labels_of}
use Rattle.dns_header.specs.Record.{with_labels}
use Rattle.dns_sections.specs.Aliases.{Alias, HasAliases, aliased}
use Rattle.dns_sections.specs.Given.{seen}
use Rattle.dns_sections.specs.Sections.{SectionCursor}
use Rattle.dns_sections.specs.Seen.{asked_at, only_in}
use Rattle.dns_sections.proofs.SameQuestions.{not-false}
use Rattle.dns_sections.proofs.AliasSteps.{GivesRows, named, is_of, finds-other, finds-same, finds-unread, finds-all, any-class, given-name, given-error, given-end}
use Rattle.dns_sections.proofs.aliases.is_alias.Goals as goal

not-of : (same : Bool) → true ≡ not same → same ≡ false
not-of true is = absurd (false≢true (sym is))
not-of false is = refl

pub loop-alias-preserved-in-Err : goal.loop-alias-preserved-in-Err
loop-alias-preserved-in-Err c =
    let inv = c.loop-alias.invariant in
    let at = (asked_at c.loop-alias.aliases).cursor in
    let behind = (asked_at c.next.new.self).cursor in
    let gives = subst (λ r. GivesRows (only_in c.loop-alias.aliases) at (seen (with_labels labels_of) r) behind)
    (c.in-Some.is ∙ ap Some c.in-Err.is) c.next.ensures.steps.2 in record {
      only = c.next.ensures.steps.1 ∙ inv.only;
      finds = finds-unread inv.finds (given-error (any-class inv.only gives));
    }

pub loop-alias-preserved-then-ne : goal.loop-alias-preserved-then-ne
loop-alias-preserved-then-ne c =
    let inv = c.loop-alias.invariant in
    let at = (asked_at c.loop-alias.aliases).cursor in
    let behind = (asked_at c.next.new.self).cursor in
    let gives = subst (λ r. GivesRows (only_in c.loop-alias.aliases) at (seen (with_labels labels_of) r) behind)
    (c.in-Some.is ∙ ap Some c.in-Ok.is) c.next.ensures.steps.2 in
    let alias = given-name (any-class inv.only gives) in
    let other : is_of (labels_of c.args.name.now) (named (with_labels labels_of c.in-Ok.alias) alias.name) ≡ false =
    not-of _ (cc (c.owner.ensures, c.if-ne.ensures)) in record {
      only = c.next.ensures.steps.1 ∙ inv.only;
      finds = finds-other inv.finds alias.gives other;
    }

pub loop-alias-preserved : goal.loop-alias-preserved
loop-alias-preserved c =
    let inv = c.loop-alias.invariant in
    let at = (asked_at c.loop-alias.aliases).cursor in
    let behind = (asked_at c.next.new.self).cursor in
    let gives = subst (λ r. GivesRows (only_in c.loop-alias.aliases) at (seen (with_labels labels_of) r) behind)
    (c.in-Some.is ∙ ap Some c.in-Ok.is) c.next.ensures.steps.2 in
    let alias = given-name (any-class inv.only gives) in
    let same : is_of (labels_of c.args.name.now) (named (with_labels labels_of c.in-Ok.alias) alias.name) ≡ true =
    not-false _ (cc (c.owner.ensures, c.if-ne.ensures)) in record {
      only = c.next.ensures.steps.1 ∙ inv.only;
      finds = finds-same inv.finds alias.gives same;
    }

pub returns : goal.returns
returns c =
    subst (λ (s : SectionCursor). (aliases : List Alias) × HasAliases s.cursor aliases
    × (c.loop-alias.found ≡ is_some (aliased aliases (labels_of c.args.name.now)))) c.limit_to-aliases.ensures.at
    (finds-all c.loop-alias.invariant.finds (given-end (any-class c.loop-alias.invariant.only c.in_default.ensures.steps.2)))
