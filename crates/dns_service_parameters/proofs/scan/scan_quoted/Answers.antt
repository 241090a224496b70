use Rattle.std.proofs.Common.{◌≡◌, ◌∙◌, List, [], refl, sym, ap, subst, append-nil, inr}
use Rattle.std.proofs.lemmas.Result.{err_from_is_err_and}
use Rattle.dns_scan.specs.Token.{Token}
use Rattle.dns_service_parameters.specs.ServiceText.{TakesQuoted}
use Rattle.dns_service_parameters.proofs.ServiceScans.{next_is, quoted_spells, quoted_taken, unmarked}
use Rattle.dns_service_parameters.proofs.scan.scan_quoted.Goals as goal
use Rattle.dns_service_parameters.proofs.scan.scan_quoted.Goals.{then-next_is_quoted+in_ok-peek_text+in_ok-read_text, else-next_is_quoted}

pub returns-in_err-read_text-clause-err : goal.returns-in_err-read_text-clause-err
returns-in_err-read_text-clause-err g c =
    let p = err_from_is_err_and c.from_residual-in_err-read_text.result c.from_residual-in_err-read_text.ensures.1 in
    let quoted = c.next_is_quoted.ensures.0 c.if-next_is_quoted.true in
    let takes = c.in_ok-peek_text.ensures.ok in
    rw (p.1, p.2) (λ short text left spells. c.in_err-read_text.ensures.err short text (quoted_spells quoted.1 takes.1 spells))

pub returns-clause-ok : goal.returns-clause-ok
returns-clause-ok g c =
    let tokens = g.S.Scanner.tokens c.args.scanner.now in
    elim c.if-next_is_quoted.branch [
      | then-next_is_quoted+in_ok-peek_text+in_ok-read_text w ↦
          let quoted = c.next_is_quoted.ensures.0 w.if-next_is_quoted.true in
          let takes = w.in_ok-peek_text.ensures.ok in
          let read = w.in_ok-read_text.ensures.ok in
          let left = next_is takes.1 (ap g.S.Scanner.tokens w.scanner-is ∙ w.skip_token.ensures.taken) in (
            read.0,
            subst (λ (l : List Token). TakesQuoted read.0 tokens l) (sym left) (quoted_taken quoted.1 takes.1 read.1),
            ap (λ octets. octets.items) w.octets-is ∙ read.2,
          )
      | else-next_is_quoted w ↦ (
        [],
        inr (unmarked c.next_is_quoted.result w.if-next_is_quoted.false c.next_is_quoted.ensures, refl, ap g.S.Scanner.tokens w.scanner-is),
        ap (λ octets. octets.items) w.octets-is ∙ sym (append-nil c.args.octets.now.items),
      )
    ]
