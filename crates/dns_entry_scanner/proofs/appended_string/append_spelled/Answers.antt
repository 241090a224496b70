use Rattle.std.proofs.Common.{◌≡◌, ◌-◌, ◌++◌, ◌∷◌, [], ℕ, length, set, ap, ◌∙◌, arith, length-append, append_assoc}
use Rattle.std.proofs.lemmas.List.{set_at}
use Rattle.std.proofs.lemmas.Result.{err_from_is_err_and}
use Rattle.dns_scan.proofs.TextsBack.{spells_one}
use Rattle.dns_entry_scanner.proofs.appended_string.append_spelled.Goals as goal

pub returns-in_err-append_symbols-clause-err : goal.returns-in_err-append_symbols-clause-err
returns-in_err-append_symbols-clause-err c =
    let p = err_from_is_err_and c.from_residual.result c.from_residual.ensures.1 in
    rw (p.1, p.2) (λ real string is. c.in_err-append_symbols.ensures.err real string is.spells)

pub returns-then-len-gt-STRING_MOST-clause-err : goal.returns-then-len-gt-STRING_MOST-clause-err
returns-then-len-gt-STRING_MOST-clause-err c = λ real string is.
    let read = c.in_ok-append_symbols.ensures.ok in
    let same = spells_one _ read.0 string read.1 is.spells in
    let short = is.short in
    let old = c.args.octets.now.items in
    omega (
      arith,
      short,
      ap (length {A = ℕ}) same,
      ap (length {A = ℕ}) read.2,
      length-append c.push.new.self.items read.0,
      ap (length {A = ℕ}) c.in-Ok.ensures.items,
      length-append old (0 ∷ []),
      c.if-len-gt-STRING_MOST.true,
    )

pub returns-clause-ok : goal.returns-clause-ok
returns-clause-ok c =
    let read = c.in_ok-append_symbols.ensures.ok in
    let old = c.args.octets.now.items in
    let size : c.len.result - c.len-place.result - 1 ≡ length read.0 =
    omega (
      arith,
      ap (length {A = ℕ}) read.2,
      length-append c.push.new.self.items read.0,
      ap (length {A = ℕ}) c.in-Ok.ensures.items,
      length-append old (0 ∷ []),
    ) in
    let items : c.append_symbols.new.octets.items ≡ old ++ 0 ∷ read.0 =
    read.2 ∙ ap (λ l. l ++ read.0) c.in-Ok.ensures.items ∙ append_assoc old (0 ∷ []) read.0 in (
      read.0,
      record { spells = read.1; short = omega (arith, size, c.if-len-gt-STRING_MOST.false) },
      ap (λ l. set l c.len-place.result (c.len.result - c.len-place.result - 1)) items
          ∙ ap (λ n. set (old ++ 0 ∷ read.0) c.len-place.result n) size
          ∙ set_at old 0 read.0 (length read.0) c.len-place.result (omega arith),
    )
