use Rattle.std.proofs.Common.{ℕ, List, [], ◌++◌, sym, ◌∙◌, subst, append-nil}
use Rattle.std.proofs.lemmas.Result.{IfOk-weaker}
use Rattle.dns_label.specs.declared.symbol.Symbol.{Symbol}
use Rattle.dns_scan.specs.Converted.{HasDeciphered}
use Rattle.dns_scan.specs.Decoding.{Held}
use Rattle.dns_scan.specs.Symbols.{symbols_in}
use Rattle.dns_scan.proofs.Deciphered.{NoneBehind, deciphered_at, entry_push, entry_mark, entry_behind}
use Rattle.dns_scan.proofs.Tokens.{if_err_weaker}
use Rattle.dns_scan.specs.declared.encoding.base.Base.{Base}
use Rattle.dns_scan.proofs.encoding.symbol_converter.SymbolConverterConvertSymbolsEntrySymbol.process_symbol.Goals as goal

pub returns-in-Symbol-clause-ok : goal.returns-in-Symbol-clause-ok
returns-in-Symbol-clause-ok g c =
    IfOk-weaker c.take_symbol.result _ _
    (λ given goes symbols octets has.
    let P : Held → Type 0 = λ h. HasDeciphered g.E.Encoding.BASE h (symbols_in symbols) octets in
    let taken = deciphered_at _ _ _ _ _ c.BASE.ensures
    (goes (symbols_in symbols) octets (deciphered_at _ _ _ _ _ (sym c.BASE.ensures) (subst P (sym c.self.view_is) has))) in
    record { text = taken.text; plain = sym (entry_push symbols c.args.symbol c.in-Symbol.symbol c.in-Symbol.is) ∙ taken.plain; read = taken.read })
    c.take_symbol.ensures.ok

pub returns-in-Symbol-clause-err : goal.returns-in-Symbol-clause-err
returns-in-Symbol-clause-err g c =
    let P : Held → Type 0 = λ h. NoneBehind g.E.Encoding.BASE h c.in-Symbol.symbol in
    let Q : Base → Type 0 = λ b. NoneBehind b c.self.inside.group c.in-Symbol.symbol in
    if_err_weaker c.take_symbol.result _ _
    (λ error none short. entry_behind g.E.Encoding.BASE c.args.self.now c.args.symbol c.in-Symbol.symbol c.in-Symbol.is (subst P c.self.view_is (subst Q c.BASE.ensures (none short))))
    c.take_symbol.ensures.err

pub returns-in-EndOfToken-clause-ok : goal.returns-in-EndOfToken-clause-ok
returns-in-EndOfToken-clause-ok g c = λ symbols octets has.
    let P : List Symbol → Type 0 = λ l. HasDeciphered g.E.Encoding.BASE c.args.self.now l (octets ++ []) in
    let Q : List ℕ → Type 0 = λ l. HasDeciphered g.E.Encoding.BASE c.args.self.now (symbols_in symbols) l in
    subst P (entry_mark symbols c.args.symbol c.in-EndOfToken.is) (subst Q (sym (append-nil octets)) has)
