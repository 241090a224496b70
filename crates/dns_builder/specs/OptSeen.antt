-- What contracts see of builders of OPT records.
use Rattle.std.specs.Prelude.{◌≡◌, ◌-◌, ℕ, List, Option, Result, length, take, drop}
use Rattle.std.specs.Borrow.{MutBor}
use Rattle.std.specs.Fn.{Once, FnOnceReturnsAtMut}
use Rattle.dns_octets.specs.Builder.{Known}
use Rattle.dns_octets.specs.declared.error.AppendError.{AppendError}
use Rattle.dns_header.specs.Header.{rcode_of}
use Rattle.dns_header.specs.HeaderFields.{fields_of}
use Rattle.dns_builder.specs.OptBuilt.{OptBuilt}
use Rattle.dns_builder.specs.declared.opt.OptBuilder.{OptBuilder}

-- how many octets of options there are
abbrev pub rdlen_of : {Target : Type 0} → OptBuilder Target → ℕ
rdlen_of builder = builder.rdlen

-- its target
abbrev pub target_of : {Target : Type 0} → OptBuilder Target → Target
target_of builder = builder.target

module _ {Target : Type 0} (list_of : Target → List ℕ) where
  -- where the options begin in the octets of the target
  abbrev pub options_start : OptBuilder Target → ℕ
  options_start builder = length (list_of builder.target) - builder.rdlen

  -- where the data of the record begins: before the replaced options, if there are any
  abbrev pub start_of : OptBuilder Target → ℕ
  start_of builder = options_start builder - builder.replaced

  -- what a builder of an OPT record holds
  abbrev pub opt_in : OptBuilder Target → OptBuilt
  opt_in builder = record {
    header = builder.header;
    fields = builder.fields;
    options = drop (options_start builder) (list_of builder.target);
    refused = builder.refused;
  }

module _ {Target : Type 0} (list_of : Target → List ℕ) (known_of : Target → Known) (bound_of : Target → Option ℕ)
    (keeps : Target → Target → Type 0) where
  -- Only the OPT record and the response code of the message change: what precedes the record's data, what the target
  -- remembers and may hold, and every other bit of the header stay.
  pub record LeavesMessage (old new : OptBuilder Target) : Type 0 where
    pub front : take (start_of list_of new) (list_of new.target) ≡ take (start_of list_of old) (list_of old.target)
    pub known : known_of new.target ≡ known_of old.target
    pub bound : bound_of new.target ≡ bound_of old.target
    pub header : fields_of new.header ≡ record (fields_of old.header) { rcode = rcode_of new.header }
    pub stays : keeps old.target new.target

  -- each call of a closure leaves the message so
  abbrev pub OnlyBuilds : {F : Type 0}
      → Once F (MutBor (OptBuilder Target) × Unit {0}) (Result (Unit {0}) AppendError × (MutBor (OptBuilder Target) × Unit {0})) → F → Type 0
  OnlyBuilds closure op =
      (old new : OptBuilder Target) (answer : Result (Unit {0}) AppendError) → FnOnceReturnsAtMut closure op old answer new
      → LeavesMessage old new
