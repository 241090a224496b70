use Rattle.std.proofs.Common.{arith}
use Rattle.dns_entry_scanner.proofs.TokenRuns.{escape_leads, over_to, runs_to, taken_past, taken_to}
use Rattle.dns_entry_scanner.proofs.token_end.token_end.Goals as goal

pub loop-behind-init : goal.loop-behind-init
loop-behind-init c =
    let is = c.plain_end-end.ensures.end in
    record {
      taken = taken_to c.args.quoted c.args.text.now c.args.place _ is;
      over = over_to c.args.quoted c.args.text.now c.args.place _ is;
      behind = omega (arith, is);
      within = c.plain_end-end.ensures.within;
    }

pub loop-behind-preserved : goal.loop-behind-preserved
loop-behind-preserved c =
    let text = c.args.text.now in
    let is = c.plain_end-end-in-Some.ensures.end in
    let found = c.in-Some.ensures.found in
    let leads = escape_leads text _ _ c.in-Some.ensures.within found in
    record {
      taken = taken_past c.args.quoted text c.args.place _ _ _ _ c.loop-behind.invariant.taken found is;
      over = over_to c.args.quoted text _ _ is;
      behind = omega (arith, is, leads.0, c.loop-behind.invariant.behind);
      within = c.plain_end-end-in-Some.ensures.within;
    }

pub loop-behind-smaller : goal.loop-behind-smaller
loop-behind-smaller c =
    let leads = escape_leads c.args.text.now _ _ c.in-Some.ensures.within c.in-Some.ensures.found in
    omega (arith, c.plain_end-end-in-Some.ensures.end, leads.0, leads.1)

pub returns-clause-run : goal.returns-clause-run
returns-clause-run c =
    let so_far = c.loop-behind.invariant in
    runs_to c.args.quoted c.args.text.now c.args.place (record { place = c.loop-behind.end; has_escape = c.loop-behind.has_escape }) so_far.behind
    so_far.within so_far.taken so_far.over c.in_default.ensures.none
