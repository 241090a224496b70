-- An OPT record that a closure builds at the end of a message (RFC 6891 6.1).
use Rattle.std.specs.Prelude.{◌≡◌, ◌≤◌, ◌+◌, ℕ, List, length, take, Result, Ok, Err, Option, Some, None}
use Rattle.std.specs.Borrow.{MutBor}
use Rattle.std.specs.Fn.{Once, FnOnceReturnsAtMut}
use Rattle.dns_octets.specs.Builder.{IsPast}
use Rattle.dns_octets.specs.declared.error.AppendError.{AppendError}
use Rattle.dns_octets.specs.declared.error.AppendError.TheVariants.{ShortBuf, OutOfMemory}
use Rattle.dns_name.specs.Spelling.{Spelling}
use Rattle.dns_name.specs.Page.{Page, write}
use Rattle.dns_header.specs.Header.{rcode_of}
use Rattle.dns_header.specs.HeaderFields.{fields_of}
use Rattle.dns_header.specs.Written.{Written, parts_of}
use Rattle.dns_builder.specs.OptBuilt.{OptBuilt, empty_opt, IsOpt}

-- why a record is not added: the error of the first call that failed, or else that of the closure
abbrev pub refusal : Option AppendError → Result (Unit {0}) AppendError → Option AppendError
refusal (Some error) answer = Some error
refusal None (Ok done) = None
refusal None (Err error) = Some error

module _ {F Builder : Type 0} (closure : Once F (MutBor Builder × Unit {0}) (Result (Unit {0}) AppendError × (MutBor Builder × Unit {0})))
    (see : Builder → OptBuilt) (op : F) where
  -- The closure turns an empty record into this one, and the message's header into that one, with only the response
  -- code changed.
  pub record BuildsOpt (message header : List ℕ) (opt : Written) : Type 0 where
    pub first : Builder
    pub last : Builder
    pub empty : see first ≡ empty_opt (take 4 message)
    pub called : FnOnceReturnsAtMut closure op first (Ok tt) last
    pub unrefused : (see last).refused ≡ None
    pub is : IsOpt (see last).fields (see last).options opt
    pub short : length (see last).options ≤ 65535
    pub sets : header ≡ (see last).header
    pub others : fields_of header ≡ record (fields_of message) { rcode = rcode_of header }

  -- Why no record is built: the target is full; out of memory; a call in the closure fails, or the closure returns an
  -- error.
  pub data RefusesRecord (message : List ℕ) (bound : Option ℕ) : AppendError → Type 0 where
    no_room : IsPast bound (length message + 11) → RefusesRecord message bound ShortBuf
    no_memory : RefusesRecord message bound OutOfMemory
    closed : {first last : Builder} {answer : Result (Unit {0}) AppendError} {error : AppendError} → see first ≡ empty_opt (take 4 message)
        → FnOnceReturnsAtMut closure op first answer last → refusal (see last).refused answer ≡ Some error → RefusesRecord message bound error

  -- the record is written after a page
  pub record WritesOpt (s : Spelling) (old : Page) (header : List ℕ) (new : Page) : Type 0 where
    pub opt : Written
    pub builds : BuildsOpt old.octets header opt
    pub written : new ≡ write s old (parts_of opt)
