use Rattle.std.proofs.Common.{◌≡◌, List, ◌∷◌, sym, ◌∙◌, ap, subst}
use Rattle.std.proofs.lemmas.Result.{err_from_is_err_and}
use Rattle.dns_label.specs.declared.symbol.Symbol.{Symbol}
use Rattle.dns_scan.specs.Symbols.{AreWritten}
use Rattle.dns_scan.specs.Token.{Token}
use Rattle.dns_scan.proofs.SymbolsRead.{written_one}
use Rattle.dns_scan.proofs.scan.scanner.Scanner.convert_token.Goals as goal

pub returns-in_err-given-clause-err : goal.returns-in_err-given-clause-err
returns-in_err-given-clause-err g c =
    let p = err_from_is_err_and c.from_residual-in_err-given.result c.from_residual-in_err-given.ensures.1 in
    rw (p.1, p.2)
    (λ short octets left takes.
    let read = c.in_ok-convert_text.ensures.ok in
    let at = c.in_ok-peek_text.ensures.ok.1 in
    let token : takes.token ≡ at.token = head (sym takes.is ∙ sym c.octets_builder.ensures.stays ∙ at.is) in
    let here : AreWritten takes.fits.symbols _ =
    subst (λ l. AreWritten takes.fits.symbols l) (ap (λ (t : Token). t.text) token ∙ at.fits) takes.fits.has in
    let one = written_one _ _ _ read.1 here in
    let P : List Symbol → Type 0 = λ l. g.C.ConvertSymbols.converts l octets in
    c.in_err-given.ensures.err short read.0 _ read.2 octets (subst P one takes.fits.converted))
  where
    head : {a b : Token} {xs ys : List Token} → a ∷ xs ≡ b ∷ ys → a ≡ b
    head e = cc
