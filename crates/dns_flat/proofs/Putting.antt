-- Symbols appended to a name that is built.
use Rattle.std.proofs.Common.{◌≡◌, List, [], ◌∷◌, ◌++◌, sym, ◌∙◌, ap, subst}
use Rattle.dns_label.specs.declared.symbol.Symbol.{Symbol}
use Rattle.dns_wire.specs.Built.{Built}
use Rattle.dns_flat.specs.BuiltText.{MayPut, Puts, put_symbol}

-- one symbol more
pub puts_more : (taken : List Symbol) (built middle end : Built) (symbol : Symbol) → Puts built taken middle → MayPut middle symbol
    → end ≡ put_symbol middle symbol → Puts built (taken ++ symbol ∷ []) end
puts_more [] built middle end symbol puts may is =
    let P : Built → Type 0 = λ b. MayPut b symbol in
    (subst P (sym puts) may, ap (λ b. put_symbol b symbol) puts ∙ sym is)
puts_more (first ∷ taken) built middle end symbol puts may is =
    (puts.0, puts_more taken (put_symbol built first) middle end symbol puts.1 may is)
