use Rattle.std.proofs.Common.{◌≤◌, ◌-◌, ℕ, arith, sym, subst, take}
use Rattle.dns_entry_scanner.specs.RowScanner.{tokens_of}
use Rattle.dns_entry_scanner.proofs.HandedOn.{handed_on}
use Rattle.dns_entry_scanner.specs.RecordHead.{States}
use Rattle.dns_zonefile.proofs.RecordFronts.{composes_front, no_owner_among, owners, owners_are, unclassed, unstated}
use Rattle.dns_zonefile.proofs.entry_form.front.append_front.Goals as goal

pub returns-in_err-append_owner-clause-err : goal.returns-in_err-append_owner-clause-err
returns-in_err-append_owner-clause-err c =
    handed_on c.from_residual.result c.in_err-append_owner.field-0.0 _ c.from_residual.ensures.1
    (λ real owner after is. no_owner_among c.args.count (c.in_err-append_owner.ensures.err real) is)

pub returns-in-Err-clause-err : goal.returns-in-Err-clause-err
returns-in-Err-clause-err c = λ real owner after is.
    let few = owners_are c.args.blank_led c.from-owners.result c.from-owners.ensures in
    let within : owners c.args.blank_led ≤ c.args.count = omega (arith, few) in
    unstated c.args.count c.in_ok-append_owner.ensures.ok within
    (λ ttl class states.
    c.in-Err.ensures.err real ttl class
    (subst (λ (n : ℕ). States (take (c.args.count - n) (tokens_of c.append_owner.new.scanner)) ttl class) (sym few) states)) is

pub returns-in-Err-head_of-clause-err : goal.returns-in-Err-head_of-clause-err
returns-in-Err-head_of-clause-err c = λ real owner after is.
    let few = owners_are c.args.blank_led c.from-owners.result c.from-owners.ensures in
    let within : owners c.args.blank_led ≤ c.args.count = omega (arith, few) in
    unclassed c.args.count c.in_ok-append_owner.ensures.ok within
    (subst (λ (n : ℕ). States (take (c.args.count - n) (tokens_of c.append_owner.new.scanner)) c.in-Ok.stated.0 c.in-Ok.stated.1) few c.in-Ok.ensures.ok)
    c.in-Err-head_of.ensures.err.1 is

pub returns-clause-ok : goal.returns-clause-ok
returns-clause-ok c =
    let few = owners_are c.args.blank_led c.from-owners.result c.from-owners.ensures in
    let within : owners c.args.blank_led ≤ c.args.count = omega (arith, few) in
    composes_front c.args.count c.in_ok-append_owner.ensures.ok within (omega arith)
    (subst (λ (n : ℕ). States (take (c.args.count - n) (tokens_of c.append_owner.new.scanner)) c.in-Ok.stated.0 c.in-Ok.stated.1) few c.in-Ok.ensures.ok)
    c.in-Ok-head_of.ensures.class c.in-Ok-head_of.ensures.last_ttl
