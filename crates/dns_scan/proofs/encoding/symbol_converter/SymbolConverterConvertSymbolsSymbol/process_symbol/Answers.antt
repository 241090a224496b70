use Rattle.std.proofs.Common.{◌≡◌, subst, false}
use Rattle.std.specs.Prelude.{IfErr}
use Rattle.dns_scan.specs.Decoding.{Held}
use Rattle.dns_scan.proofs.Deciphered.{NoneBehind}
use Rattle.dns_scan.specs.declared.encoding.base.Base.{Base}
use Rattle.dns_scan.proofs.encoding.symbol_converter.SymbolConverterConvertSymbolsSymbol.process_symbol.Goals as goal

pub returns-clause-err : goal.returns-clause-err
returns-clause-err g c =
    let P : Held → Type 0 = λ h. IfErr c.take_symbol.result (λ error. g.Error.ScannerError.is_short error ≡ false → NoneBehind g.E.Encoding.BASE h c.args.symbol) in
    let Q : Base → Type 0 = λ b. IfErr c.take_symbol.result (λ error. g.Error.ScannerError.is_short error ≡ false → NoneBehind b c.self.inside.group c.args.symbol) in
    subst P c.self.view_is (subst Q c.BASE.ensures c.take_symbol.ensures.err)
