use Rattle.std.proofs.Common.{◌≡◌, ℕ, [], length, ap, arith}
use Rattle.std.proofs.lemmas.List.{nil_from_length}
use Rattle.dns_scan_data.proofs.HexDigits.{pairs_all, pairs_decode, pairs_wrong}
use Rattle.dns_scan_data.proofs.hex.append_hex.Goals as goal

pub returns-in-Ok-len1-up-clause-err : goal.returns-in-Ok-len1-up-clause-err
returns-in-Ok-len1-up-clause-err c = λ short.
    let left = c.in-Ok-len1-up.field-0.now in
    let some : left ≡ [] → ⊥ = λ none. omega (arith, c.in-Ok-len1-up.len_at_least, ap (length {A = ℕ}) none) in
    pairs_wrong c.in-Ok-len1-up.ensures.ok some c.in-Ok-len1-up.ensures.all

pub returns-in-Ok-len1-clause-err : goal.returns-in-Ok-len1-clause-err
returns-in-Ok-len1-clause-err c = λ short.
    let left = c.in-Ok-len1-up.field-0.now in
    let some : left ≡ [] → ⊥ = λ none. omega (arith, c.in-Ok-len1-up.len_at_least, ap (length {A = ℕ}) none) in
    pairs_wrong c.in-Ok-len1-up.ensures.ok some c.in-Ok-len1-up.ensures.all

pub returns-in-Ok-len2-up-clause-err : goal.returns-in-Ok-len2-up-clause-err
returns-in-Ok-len2-up-clause-err c = λ short.
    let left = c.in-Ok-len1-up.field-0.now in
    let some : left ≡ [] → ⊥ = λ none. omega (arith, c.in-Ok-len1-up.len_at_least, ap (length {A = ℕ}) none) in
    pairs_wrong c.in-Ok-len1-up.ensures.ok some c.in-Ok-len1-up.ensures.all

pub returns-in-Ok-empty-clause-ok : goal.returns-in-Ok-empty-clause-ok
returns-in-Ok-empty-clause-ok c =
    let so = c.in-Ok-empty.ensures.ok in
    let none : c.in-Ok-empty.field-0.now ≡ [] = nil_from_length _ (omega (arith, c.in-Ok-empty.len_below)) in
    (so.octets, pairs_decode c.args.text.now so.octets (pairs_all so none), so.behind)
