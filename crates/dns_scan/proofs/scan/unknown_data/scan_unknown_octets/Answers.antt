use Rattle.std.proofs.Common.{◌^◌, ℕ, List, length, ◌∙◌, ap, subst, arith}
use Rattle.std.specs.Str.{chars}
use Rattle.std.proofs.lemmas.Result.{err_from_is_err_and}
use Rattle.dns_name.proofs.Flat.{always_on_err}
use Rattle.dns_name.specs.Mnemonic.{number_spelled}
use Rattle.dns_scan.specs.declared.encoding.base.Base.TheVariants.{Sixteen}
use Rattle.dns_scan.specs.Base.{Decodes}
use Rattle.dns_scan.specs.Token.{Token, IsEntry, IsWord}
use Rattle.dns_scan.proofs.Entries.{words_one, nothing_left}
use Rattle.dns_scan.proofs.Encodings.{decodes_one}
use Rattle.dns_scan.proofs.UnknownWords.{word_ending, endings_join, one_word}
use Rattle.dns_scan.proofs.scan.unknown_data.scan_unknown_octets.Goals as goal

pub returns-in_err-number-clause-err : goal.returns-in_err-number-clause-err
returns-in_err-number-clause-err g c =
    let p = err_from_is_err_and c.from_residual.result c.from_residual.ensures.1 in
    rw (p.1, p.2) (λ short octets is. c.in_err-number.ensures.err short (length octets) is.words is.number)

pub returns-in_err-octets-clause-left : goal.returns-in_err-octets-clause-left
returns-in_err-octets-clause-left g c =
    always_on_err c.from_residual-in_err-octets.result
    (endings_join _ _ _ c.in_err-octets.ensures.left (word_ending (number_spelled (2 ^ 16)) _ _ _ c.in_ok-number.ensures.ok))

pub returns-in_err-octets-clause-err : goal.returns-in_err-octets-clause-err
returns-in_err-octets-clause-err g c =
    let p = err_from_is_err_and c.from_residual-in_err-octets.result c.from_residual-in_err-octets.ensures.1 in
    rw (p.1, p.2)
    (λ short octets is.
    let one = one_word (number_spelled (2 ^ 16)) _ _ _ _ _ is.number c.in_ok-number.ensures.ok in
    let P : List Token → Type 0 = λ l. IsEntry IsWord l is.text in
    c.in_err-octets.ensures.err short is.text octets (subst P one.lefts is.joined) is.decodes)

pub returns-then-octets-from-clause-left : goal.returns-then-octets-from-clause-left
returns-then-octets-from-clause-left g c = nothing_left _ _ c.in_ok-octets.ensures.ok.3

pub returns-then-octets-from-clause-err : goal.returns-then-octets-from-clause-err
returns-then-octets-from-clause-err g c = λ short octets is.
    let one = one_word (number_spelled (2 ^ 16)) _ _ _ _ _ is.number c.in_ok-number.ensures.ok in
    let P : List Token → Type 0 = λ l. IsEntry IsWord l is.text in
    let at = c.in_ok-octets.ensures.ok in
    let text = words_one _ is.text at.0 (subst P one.lefts is.joined) at.1 in
    let Q : List ℕ → Type 0 = λ l. Decodes Sixteen (chars l) octets in
    let same = decodes_one Sixteen (chars at.0) octets _ (subst Q text is.decodes) at.2 in
    let size = ap (length {A = ℕ}) (c.octets.ensures ∙ same) in
    let number = one.values in
    let wide = c.from.ensures in
    let differs = c.if-octets-from.true in omega arith
