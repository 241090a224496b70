use Rattle.std.proofs.Common.{subst}
use Rattle.dns_scan.specs.Decoding.{Held}
use Rattle.dns_scan.specs.Symbols.{symbols_in}
use Rattle.dns_scan.proofs.Deciphered.{NoneEnds}
use Rattle.dns_scan.proofs.Tokens.{if_err_weaker}
use Rattle.dns_scan.specs.declared.encoding.base.Base.{Base}
use Rattle.dns_scan.proofs.encoding.symbol_converter.SymbolConverterConvertSymbolsEntrySymbol.process_tail.Goals as goal

pub returns-clause-err : goal.returns-clause-err
returns-clause-err g c =
    let P : Held → Type 0 = λ h. NoneEnds g.E.Encoding.BASE h in
    let Q : Base → Type 0 = λ b. NoneEnds b c.self.inside.group in
    if_err_weaker c.end_symbols.result _ _
    (λ error none short symbols octets. let here = subst P c.self.view_is (subst Q c.BASE.ensures none) in here (symbols_in symbols) octets) c.end_symbols.ensures.err
