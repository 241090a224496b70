use Rattle.std.proofs.Common.{List, ℕ, length, ap, ◌∙◌, sym, arith}
use Rattle.std.proofs.lemmas.Grind.{merely}
use Rattle.dns_label.specs.Name.{wire}
use Rattle.dns_label.proofs.Spelling.{labels_at-reads}
use Rattle.dns_wire.proofs.Heads.{spelled-within}
use Rattle.dns_wire.proofs.Readable.{read_at, parsed_ok}
use Rattle.dns_name.proofs.parsed.ParsedName+ref+slice+u8.parse.Goals as goal

pub returns-in_err-seek-clause-err : goal.returns-in_err-seek-clause-err
returns-in_err-seek-clause-err c =
    let found = c.in_ok-walk.ensures.ok in
    let within = spelled-within found.1.spelled in
    let bad = c.in_err-seek.ensures.enough.1 (omega (arith, ap (length {A = ℕ}) c.as_slice-octets.ensures)) in cc

pub returns-in_err-seek-clause-short : goal.returns-in_err-seek-clause-short
returns-in_err-seek-clause-short c =
    let found = c.in_ok-walk.ensures.ok in
    let within = spelled-within found.1.spelled in
    let bad = c.in_err-seek.ensures.enough.1 (omega (arith, ap (length {A = ℕ}) c.as_slice-octets.ensures)) in cc

pub invariant_of-result : goal.invariant_of-result
invariant_of-result c =
    let found = c.in_ok-walk.ensures.ok in
    record {
      reads = merely (read_at _ _ _ _ found.1);
      counted = found.2 ∙ ap (λ (n : List (List ℕ)). length (wire n)) (sym (labels_at-reads found.1));
    }

pub returns-clause-ok : goal.returns-clause-ok
returns-clause-ok c =
    parsed_ok c.as_slice-octets.ensures c.pos-start.ensures c.in_ok-seek.ensures.ok.1 c.in_ok-walk.ensures.ok.1
