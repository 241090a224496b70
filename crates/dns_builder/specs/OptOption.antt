-- An option that is added to an OPT record, whose octets a closure appends (RFC 6891 6.1.2).
use Rattle.std.specs.Prelude.{◌≡◌, ◌≢◌, ◌<◌, ◌+◌, ℕ, List, ◌++◌, length, Result, Ok, Err, Option}
use Rattle.std.specs.Borrow.{MutBor}
use Rattle.std.specs.Fn.{Once, FnOnceReturnsAtMut}
use Rattle.std.specs.Int.{to_be_bytes, w16}
use Rattle.dns_octets.specs.Builder.{Known, IsPast}
use Rattle.dns_octets.specs.declared.error.AppendError.{AppendError}
use Rattle.dns_octets.specs.declared.error.AppendError.TheVariants.{ShortBuf, OutOfMemory, BadLength}
use Rattle.dns_header.specs.Opt.{option_octets}

-- a target has more octets at the end, and the same of all else
pub record OnlyGrows {Target : Type 0} (list_of : Target → List ℕ) (known_of : Target → Known) (bound_of : Target → Option ℕ)
    (keeps : Target → Target → Type 0) (old new : Target) : Type 0 where
  pub tail : List ℕ
  pub octets : list_of new ≡ list_of old ++ tail
  pub known : known_of new ≡ known_of old
  pub bound : bound_of new ≡ bound_of old
  pub stays : keeps old new

module _ {F Target : Type 0} (closure : Once F (MutBor Target × Unit {0}) (Result (Unit {0}) AppendError × (MutBor Target × Unit {0})))
    (list_of : Target → List ℕ) (op : F) where
  -- a closure appends octets and does nothing else
  abbrev pub OnlyAppends : (Target → Known) → (Target → Option ℕ) → (Target → Target → Type 0) → Type 0
  OnlyAppends known_of bound_of keeps =
      (old new : Target) (answer : Result (Unit {0}) AppendError) → FnOnceReturnsAtMut closure op old answer new
      → OnlyGrows list_of known_of bound_of keeps old new

  -- called on a target that holds `here`, the closure returns this, and appends these octets
  pub record Writes (here : List ℕ) (answer : Result (Unit {0}) AppendError) (octets : List ℕ) : Type 0 where
    pub first : Target
    pub last : Target
    pub holds : list_of first ≡ here
    pub called : FnOnceReturnsAtMut closure op first answer last
    pub writes : list_of last ≡ here ++ octets

  -- an option follows these octets: its code, its length, and `len` octets that the closure appends
  pub record AddsOption (here : List ℕ) (code len : ℕ) (old new : List ℕ) : Type 0 where
    pub octets : List ℕ
    pub writes : Writes (here ++ (to_be_bytes w16 code ++ to_be_bytes w16 len)) (Ok tt) octets
    pub long : length octets ≡ len
    pub is : new ≡ old ++ option_octets (record { code = code; octets = octets })

  -- Why no option is added after `used` octets of options: the options would be more than 65,535 octets; the target is
  -- full; out of memory; or the closure returns an error, or appends another number of octets than stated.
  pub data RefusesOption (here : List ℕ) (bound : Option ℕ) (used code len : ℕ) : AppendError → Type 0 where
    too_long : 65535 < used + 4 + len → RefusesOption here bound used code len BadLength
    no_room : IsPast bound (length here + 4) → RefusesOption here bound used code len ShortBuf
    no_memory : RefusesOption here bound used code len OutOfMemory
    by_closure : {error : AppendError} {octets : List ℕ} → Writes (here ++ (to_be_bytes w16 code ++ to_be_bytes w16 len)) (Err error) octets
        → RefusesOption here bound used code len error
    other_length : {octets : List ℕ} → Writes (here ++ (to_be_bytes w16 code ++ to_be_bytes w16 len)) (Ok tt) octets → length octets ≢ len
        → RefusesOption here bound used code len BadLength
