use Rattle.std.proofs.Common.{◌≡◌, Bool, true, false, List, ◌∷◌, sym, ◌∙◌, subst, rules}
use Rattle.std.proofs.lemmas.Result.{err_from_is_err_and}
use Rattle.dns_name.proofs.Flat.{always_on_err}
use Rattle.dns_name.specs.Mnemonic.{type_read}
use Rattle.dns_scan.specs.Token.{Token, IsEnding, marker}
use Rattle.dns_scan.specs.UnknownData.{IsUnknownData}
use Rattle.dns_scan.proofs.Tokens.{if_err_weaker, on_err_weaker, one_taken}
use Rattle.dns_scan.proofs.UnknownWords.{word_ending, endings_join, one_word}
use Rattle.dns_scan.proofs.scan.unknown_data.UnknownRecordDataScan.scan.Goals as goal

pub returns-in_err-rtype-clause-err : goal.returns-in_err-rtype-clause-err
returns-in_err-rtype-clause-err g c =
    let p = err_from_is_err_and c.from_residual.result c.from_residual.ensures.1 in
    rw (p.1, p.2) (λ short value left is. c.in_err-rtype.ensures.err short value.number (marker ∷ is.words) is.of_type)

pub returns-in_err-scan_opt_unknown_marker-clause-err :
    goal.returns-in_err-scan_opt_unknown_marker-clause-err
returns-in_err-scan_opt_unknown_marker-clause-err g c =
    let p = err_from_is_err_and c.from_residual-in_err-scan_opt_unknown_marker.result c.from_residual-in_err-scan_opt_unknown_marker.ensures.1 in
    rw (p.1, p.2)
    (λ short value left is. never c.in_err-scan_opt_unknown_marker.ensures.err short)
  where
    never : {b : Bool} → b ≡ true → b ≡ false → ⊥
    never is unlike = cc

pub returns-in_err-scan_opt_unknown_marker-clause-left :
    goal.returns-in_err-scan_opt_unknown_marker-clause-left
returns-in_err-scan_opt_unknown_marker-clause-left g c =
    always_on_err c.from_residual-in_err-scan_opt_unknown_marker.result
    (endings_join _ _ _ c.in_err-scan_opt_unknown_marker.ensures.left (word_ending type_read _ _ _ c.in_ok-rtype.ensures.ok))

pub returns-then-not-branch-clause-left : goal.returns-then-not-branch-clause-left
returns-then-not-branch-clause-left g c =
    let stays = c.in_ok-scan_opt_unknown_marker.ensures.other (search rules) in
    let P : List Token → Type 0 = λ l. IsEnding l (g.S.Scanner.tokens c.args.scanner.now) in
    subst P (sym stays.0) (word_ending type_read _ _ _ c.in_ok-rtype.ensures.ok)

pub returns-clause-err : goal.returns-clause-err
returns-clause-err g c =
    if_err_weaker c.scan_without_marker.result _ _
    (λ error none short value left is.
    let one = one_word type_read _ _ _ _ _ is.of_type c.in_ok-rtype.ensures.ok in
    let taken = c.in_ok-scan_opt_unknown_marker.ensures.marked (search rules) in
    let P : List Token → Type 0 = λ l. IsUnknownData l value.octets in
    none short value.octets (subst P (behind (one.lefts ∙ taken)) is.rest)) c.scan_without_marker.ensures.err
  where
    behind : {a b : Token} {xs ys : List Token} → a ∷ xs ≡ b ∷ ys → xs ≡ ys
    behind e = cc

pub returns-clause-left : goal.returns-clause-left
returns-clause-left g c =
    let taken = c.in_ok-scan_opt_unknown_marker.ensures.marked (search rules) in
    on_err_weaker c.scan_without_marker.result _ _
    (λ left. endings_join _ _ _ left (endings_join _ _ _ (one_taken _ _ _ taken) (word_ending type_read _ _ _ c.in_ok-rtype.ensures.ok)))
    c.scan_without_marker.ensures.left
