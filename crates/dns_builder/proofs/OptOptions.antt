-- An option that a closure appends: the octets of its target before and after.
use Rattle.std.proofs.Common.{◌≡◌, ◌+◌, ℕ, List, ◌++◌, Ok, Err, Option, length, sym, ◌∙◌, ap, subst, arith, length-append, append_assoc}
use Rattle.std.specs.Prelude.{Result}
use Rattle.std.specs.Borrow.{MutBor}
use Rattle.std.specs.Fn.{Once, FnOnceReturnsAtMut}
use Rattle.std.specs.Int.{to_be_bytes, w16}
use Rattle.dns_octets.specs.Builder.{Known, GrowsTo, IsPast}
use Rattle.dns_octets.specs.declared.error.AppendError.{AppendError}
use Rattle.dns_octets.specs.declared.error.AppendError.TheVariants.{ShortBuf, OutOfMemory, BadLength}
use Rattle.dns_octets.proofs.Grows.{GrowsTo-append}
use Rattle.dns_header.specs.Opt.{option_octets}
use Rattle.dns_builder.specs.OptReplaced.{RefusesOctets}
use Rattle.dns_builder.specs.OptOption.{OnlyGrows, Writes, AddsOption, RefusesOption}

-- the result of an append that fails
abbrev pub refused : AppendError → Result (Unit {0}) AppendError
refused error = Err error

-- octets are appended, and then more
pub grows-twice : {Target : Type 0} {list_of : Target → List ℕ} {known_of : Target → Known} {bound_of : Target → Option ℕ}
    {keeps : Target → Target → Type 0} (on : (a b c : Target) → keeps a b → keeps b c → keeps a c) (old mid new : Target) (octets : List ℕ)
    → list_of mid ≡ list_of old ++ octets → known_of mid ≡ known_of old → bound_of mid ≡ bound_of old → keeps old mid
    → OnlyGrows list_of known_of bound_of keeps mid new → OnlyGrows list_of known_of bound_of keeps old new
grows-twice {list_of = list_of} on old mid new octets is known bound stays grows = record {
  tail = octets ++ grows.tail;
  octets = grows.octets ∙ ap (λ l. l ++ grows.tail) is ∙ append_assoc (list_of old) octets grows.tail;
  known = grows.known ∙ known;
  bound = grows.bound ∙ bound;
  stays = on old mid new stays grows.stays;
}

pub only-grown : {Target : Type 0} {list_of : Target → List ℕ} {known_of : Target → Known} {bound_of : Target → Option ℕ}
    {keeps : Target → Target → Type 0} {old new : Target} → OnlyGrows list_of known_of bound_of keeps old new
    → GrowsTo (list_of old) (known_of old) (list_of new) (known_of new)
only-grown grows = GrowsTo-append _ _ _ _ grows.tail grows.octets grows.known

pub option-long : (code : ℕ) (octets : List ℕ) → length (option_octets (record { code = code; octets = octets })) ≡ 4 + length octets
option-long code octets = omega arith

module _ {F Target : Type 0} (closure : Once F (MutBor Target × Unit {0}) (Result (Unit {0}) AppendError × (MutBor Target × Unit {0})))
    (list_of : Target → List ℕ) (op : F) (here : List ℕ) (code len : ℕ) where
  -- what is appended before the closure is called
  abbrev pub headed : List ℕ
  headed = here ++ (to_be_bytes w16 code ++ to_be_bytes w16 len)

  pub writes : (mid new : Target) (answer : Result (Unit {0}) AppendError) (octets : List ℕ) → list_of mid ≡ headed
      → list_of new ≡ list_of mid ++ octets → FnOnceReturnsAtMut closure op mid answer new → Writes closure list_of op headed answer octets
  writes mid new answer octets holds grows called = record {
    first = mid;
    last = new;
    holds = holds;
    called = called;
    writes = grows ∙ ap (λ l. l ++ octets) holds;
  }

  pub adds : (mid new : Target) (octets : List ℕ) → list_of mid ≡ headed → list_of new ≡ list_of mid ++ octets → length octets ≡ len
      → FnOnceReturnsAtMut closure op mid (Ok tt) new → AddsOption closure list_of op here code len here (list_of new)
  adds mid new octets holds grows long called = record {
    octets = octets;
    writes = writes mid new (Ok tt) octets holds grows called;
    long = long;
    is = grows ∙ ap (λ l. l ++ octets) holds ∙ append_assoc here (to_be_bytes w16 code ++ to_be_bytes w16 len) octets
        ∙ ap (λ n. here ++ (to_be_bytes w16 code ++ (to_be_bytes w16 n ++ octets))) (sym long);
  }

  -- the octets before the option's cannot be appended
  pub no-head : (bound : Option ℕ) (used : ℕ) (head : List ℕ) (error : AppendError) → length head ≡ 4
      → (refused error ≡ refused ShortBuf → IsPast bound (length (here ++ head)))
      → (refused error ≡ refused BadLength → ⊥) → RefusesOption closure list_of op here bound used code len error
  no-head bound used head ShortBuf four short bad =
      RefusesOption.no_room (subst (IsPast bound) (let same : length (here ++ head) ≡ length here + 4 = omega (arith, length-append here head) in same) (short (λ _. refused ShortBuf)))
  no-head bound used head OutOfMemory four short bad = RefusesOption.no_memory
  no-head bound used head BadLength four short bad = absurd (bad (λ _. refused BadLength))

-- octets cannot be appended
pub no-octets : (here octets : List ℕ) (bound : Option ℕ) (error : AppendError)
    → (refused error ≡ refused ShortBuf → IsPast bound (length (here ++ octets))) → (refused error ≡ refused BadLength → ⊥)
    → RefusesOctets here bound (length octets) error
no-octets here octets bound ShortBuf short bad =
    RefusesOctets.no_room (subst (IsPast bound) (length-append here octets) (short (λ _. refused ShortBuf)))
no-octets here octets bound OutOfMemory short bad = RefusesOctets.no_memory
no-octets here octets bound BadLength short bad = absurd (bad (λ _. refused BadLength))
