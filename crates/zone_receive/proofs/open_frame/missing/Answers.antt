use Rattle.std.proofs.Common.{ℕ, ◌++◌, List, drop, sym, ◌∙◌, arith, length-append}
use Rattle.zone_receive.proofs.Begun.{completes, cut_is_partial, open_is_short, small_at, with_both, without_first, without_second}
use Rattle.zone_receive.proofs.open_frame.missing.Goals as goal

pub returns-then-missing-octets-clause-found : goal.returns-then-missing-octets-clause-found
returns-then-missing-octets-clause-found c =
    let front : List ℕ = c.args.open_frame.now in
    let back : List ℕ = c.args.octets.now in
    let first = sym c.octet_at.ensures ∙ c.in_ok-high.was in
    let second = sym c.octet_at-2.ensures ∙ c.in_ok-low.was in
    let begins = with_both (front ++ back) c.in_ok-high.high c.in_ok-low.low first second in
    let small = small_at front back (λ i. let fits = c.type_inv.open_frame i in omega (arith, fits)) (λ i. let fits = c.type_inv.octets i in omega (arith, fits)) in
    let short = open_is_short front back (drop 2 (front ++ back)) c.in_ok-high.high c.in_ok-low.low c.requires begins in
    completes front back (drop 2 (front ++ back)) c.in_ok-high.high c.in_ok-low.low _ (small 0 c.in_ok-high.high first) (small 1 c.in_ok-low.low second)
    c.requires begins (omega (arith, short, c.from-len.ensures, c.from_be_bytes.ensures)) c.if-missing-octets.true

pub overflow_sub-missing : goal.overflow_sub-missing
overflow_sub-missing c =
    let front : List ℕ = c.args.open_frame.now in
    let back : List ℕ = c.args.octets.now in
    let first = sym c.octet_at.ensures ∙ c.in_ok-high.was in
    let second = sym c.octet_at-2.ensures ∙ c.in_ok-low.was in
    let begins = with_both (front ++ back) c.in_ok-high.high c.in_ok-low.low first second in
    let short = open_is_short front back (drop 2 (front ++ back)) c.in_ok-high.high c.in_ok-low.low c.requires begins in
    omega (arith, short, c.from-len.ensures, c.from_be_bytes.ensures)

pub returns-else-missing-octets-clause-found : goal.returns-else-missing-octets-clause-found
returns-else-missing-octets-clause-found c =
    let front : List ℕ = c.args.open_frame.now in
    let back : List ℕ = c.args.octets.now in
    let first = sym c.octet_at.ensures ∙ c.in_ok-high.was in
    let second = sym c.octet_at-2.ensures ∙ c.in_ok-low.was in
    let begins = with_both (front ++ back) c.in_ok-high.high c.in_ok-low.low first second in
    let short = open_is_short front back (drop 2 (front ++ back)) c.in_ok-high.high c.in_ok-low.low c.requires begins in
    cut_is_partial (front ++ back) (drop 2 (front ++ back)) c.in_ok-high.high c.in_ok-low.low begins
    (omega (arith, short, c.if-missing-octets.false, c.from-len.ensures, c.from_be_bytes.ensures, length-append front back))

pub returns-in_err-high-clause-found : goal.returns-in_err-high-clause-found
returns-in_err-high-clause-found c =
    rw c.from_residual.ensures (without_first (c.args.open_frame.now ++ c.args.octets.now) (sym c.octet_at.ensures ∙ c.in_err-high.was))

pub returns-in_err-low-clause-found : goal.returns-in_err-low-clause-found
returns-in_err-low-clause-found c =
    rw c.from_residual-in_err-low.ensures (without_second (c.args.open_frame.now ++ c.args.octets.now) (sym c.octet_at-2.ensures ∙ c.in_err-low.was))
