use Rattle.std.proofs.Common.{◌≡◌, true, false, refl, sym, ap, ◌∙◌, subst}
use Rattle.dns_entry_scanner.proofs.HandedOn.{handed_on}
use Rattle.dns_zonefile.specs.Directive.{BeginsDirective}
use Rattle.dns_zonefile.specs.Seen.{row_of}
use Rattle.dns_zonefile.proofs.ComposedRows.{directs_no_record}
use Rattle.dns_zonefile.proofs.Forms.{if_err_each, if_ok_each, include_stays, on_err_each, says_under, unentered}
use Rattle.dns_zonefile.proofs.Records.{no_direction, says_direction}
use Rattle.dns_zonefile.proofs.entry_form.octets.take_directive.Goals as goal

pub returns-in_err-statement-clause-err : goal.returns-in_err-statement-clause-err
returns-in_err-statement-clause-err c =
    handed_on c.from_residual.result c.in_err-statement.field-0.0 _ c.from_residual.ensures.1 (λ real entry after is.
    let begins = subst BeginsDirective (sym c.of_row-scanner.ensures.tokens) c.requires.begins in
    no_direction refl begins (c.in_err-statement.ensures.err real)
    (says_under (sym (c.of_row-scanner.ensures.origin ∙ c.as_ref-origin.ensures.value)) (ap (row_of false) (sym c.of_row-scanner.ensures.tokens)) is.says))

pub composed_of-requires : goal.composed_of-requires
composed_of-requires c = λ rr is. directs_no_record c.in_ok-statement.ensures.ok refl c.in_ok-entry.ensures.ok is

pub returns-clause-ok : goal.returns-clause-ok
returns-clause-ok c =
    let begins = subst BeginsDirective (sym c.of_row-scanner.ensures.tokens) c.requires.begins in
    if_ok_each c.composed_of.result _ _
    (λ given handed. (
      _,
      record {
        statement = _;
        says = says_under (c.of_row-scanner.ensures.origin ∙ c.as_ref-origin.ensures.value) (ap (row_of false) c.of_row-scanner.ensures.tokens)
            (says_direction refl begins c.in_ok-statement.ensures.ok);
        enters = c.in_ok-entry.ensures.ok;
      },
      handed,
    )) c.composed_of.ensures.ok

pub returns-clause-err : goal.returns-clause-err
returns-clause-err c =
    if_err_each c.composed_of.result _ _ (λ error fails real. let bad : true ≡ false = sym fails.0 ∙ real in absurd cc) c.composed_of.ensures.err

pub returns-clause-same : goal.returns-clause-same
returns-clause-same c =
    on_err_each c.composed_of.result _ _ (λ error fails. include_stays _ _ c.in_ok-entry.ensures.ok fails.1.2) c.composed_of.ensures.err

pub returns-in_err-entry-clause-err : goal.returns-in_err-entry-clause-err
returns-in_err-entry-clause-err c =
    handed_on c.from_residual-in_err-entry.result c.in_err-entry.field-0.0 _ c.from_residual-in_err-entry.ensures.1 (λ real.
    let begins = subst BeginsDirective (sym c.of_row-scanner.ensures.tokens) c.requires.begins in
    unentered
    (says_under (c.of_row-scanner.ensures.origin ∙ c.as_ref-origin.ensures.value) (ap (row_of false) c.of_row-scanner.ensures.tokens)
    (says_direction refl begins c.in_ok-statement.ensures.ok))
    (c.in_err-entry.ensures.err real))
