-- Why a zone is not read, from why its origin is not.
use Rattle.std.proofs.Common.{◌≡◌, ℕ, List, [], ◌∷◌, refl}
use Rattle.zonewire_c.specs.Given.{IsNameFault, IsTextFault}
use Rattle.zonewire_c.specs.declared.fault.Fault.{Fault}
use Rattle.zonewire_c.specs.declared.fault.Fault.TheVariants as fault

of-origin : (text : List ℕ) (c : ℕ) (cs : List ℕ) (class : ℕ) (error : Fault) → IsNameFault (c ∷ cs) error → IsTextFault text (c ∷ cs) class error
of-origin text c cs class fault.OutOfMemory why = tt
of-origin text c cs class fault.BadName why = why
of-origin text c cs class fault.BadLayout why = absurd why
of-origin text c cs class fault.BadSpelling why = absurd why
of-origin text c cs class (fault.Zone error) why = absurd why
of-origin text c cs class (fault.Send error) why = absurd why
of-origin text c cs class (fault.Receive error) why = absurd why

pub origin-fault : (text origin : List ℕ) (class : ℕ) (error : Fault) → (origin ≡ [] → ⊥) → IsNameFault origin error
    → IsTextFault text origin class error
origin-fault text [] class error given why = absurd (given refl)
origin-fault text (c ∷ cs) class error given why = of-origin text c cs class error why
