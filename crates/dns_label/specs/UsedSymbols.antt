-- What a closure makes of the symbols of characters.
use Rattle.std.specs.Prelude.{◌≡◌, Result, Ok, Err}
use Rattle.std.specs.Borrow.{MutBor}
use Rattle.std.specs.Fn.{Once, FnOnceReturnsAtMut}
use Rattle.dns_label.specs.declared.symbol.SymbolCharsError.{SymbolCharsError}
use Rattle.dns_label.specs.declared.symbols.Symbols.{Symbols}
use Rattle.dns_label.specs.Symbols.{chars_of}

module _ {C F R E : Type 0} (closure : Once F (MutBor (Symbols C) × Unit {0}) (Result R E × (MutBor (Symbols C) × Unit {0}))) (make : F) (chars : C) where
  -- it may be called with the symbols of these characters
  abbrev pub MayUse : Type 0
  MayUse = (symbols : MutBor (Symbols C)) → chars_of symbols.now ≡ Ok chars → closure.pre make (symbols, tt)

  -- called with them it may return this, and leave those symbols
  pub record Uses (made : Result R E) (end : Symbols C) : Type 0 where
    pub start : Symbols C
    pub whole : chars_of start ≡ Ok chars
    pub called : FnOnceReturnsAtMut closure make start made end

  -- it returns an error of its own; or it returns a value, and the symbols that it leaves have ended with an error
  pub data StopsUsing (from : SymbolCharsError → E → Type 0) (error : E) (end : Symbols C) : Type 0 where
    refused : Uses (Err error) end → StopsUsing from error end
    ended : (made : R) (why : SymbolCharsError) → Uses (Ok made) end → chars_of end ≡ Err why → from why error
        → StopsUsing from error end
