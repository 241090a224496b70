-- An OPT record that a closure builds is added to a message (RFC 6891 6.1).
use Rattle.std.specs.Prelude.{◌≡◌, ◌<◌, ℕ, List, Result}
use Rattle.std.specs.Borrow.{MutBor}
use Rattle.std.specs.Fn.{Once}
use Rattle.dns_octets.specs.declared.error.AppendError.{AppendError}
use Rattle.dns_name.specs.Spelling.{Spelling}
use Rattle.dns_name.specs.Page.{write}
use Rattle.dns_header.specs.Written.{Written, parts_of, data_length}
use Rattle.dns_sections.specs.Refused.{as_push_error}
use Rattle.dns_sections.specs.declared.error.PushError.{PushError}
use Rattle.dns_builder.specs.Built.{Built, Draft, IsDraftOf}
use Rattle.dns_builder.specs.Steps.{with_item, with_header, IsTakenBy}
use Rattle.dns_builder.specs.Refused.{IsUncounted}
use Rattle.dns_builder.specs.OptBuilt.{OptBuilt}
use Rattle.dns_builder.specs.OptAsked.{BuildsOpt, RefusesRecord}

module _ {F Builder : Type 0} (closure : Once F (MutBor Builder × Unit {0}) (Result (Unit {0}) AppendError × (MutBor Builder × Unit {0})))
    (see : Builder → OptBuilt) (op : F) (s : Spelling) (old : Draft) where
  -- the record that the closure builds is the last of the additional section, and the message has the header that goes
  -- with it
  pub record AddsOpt (new : Draft) : Type 0 where
    pub header : List ℕ
    pub opt : Written
    pub builds : BuildsOpt closure see op old.page.octets header opt
    pub taken : IsTakenBy s 3 old (parts_of opt) (65535 < data_length s old.page opt)
    pub adds : (built : Built) → IsDraftOf s built old → IsDraftOf s (with_header (with_item built (parts_of opt)) header) new

  -- Why no record is added: none is built; or the message would be as long as its limit, or longer; or the section has
  -- 65,535 records.
  pub data RefusesOpt : PushError → Type 0 where
    unbuilt : {error : AppendError} {why : PushError} → RefusesRecord closure see op old.page.octets old.bound error → why ≡ as_push_error error
        → RefusesOpt why
    uncounted : {header : List ℕ} {opt : Written} {why : PushError} → BuildsOpt closure see op old.page.octets header opt
        → IsUncounted 3 (record old { page = write s old.page (parts_of opt) }) why → RefusesOpt why
