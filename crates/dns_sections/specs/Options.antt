-- The EDNS fields of a message (RFC 6891 6.1).
use Rattle.std.specs.Prelude.{◌==◌, ◌⊎◌, ℕ, List, Some, None, Ok, Err}
use Rattle.dns_octets.specs.declared.error.ParseError.{ParseError}
use Rattle.dns_header.specs.Header.{rcode_of}
use Rattle.dns_header.specs.Opt.{EdnsOption, ReadsOptions}
use Rattle.dns_header.specs.OptFields.{opt_fields, extended_rcode}
use Rattle.dns_header.specs.Record.{RecordOf}
use Rattle.dns_sections.specs.Firsts.{GivesFirst}
use Rattle.dns_sections.specs.declared.section.Section.TheVariants.{Additional}

-- The response code of a message (RFC 6891 6.1.3): its high eight bits are in the message's OPT record (type 41), the
-- first of its additional section. If there is none, or the first is an error, it is that of the header.
pub data HasResponseCode (message : List ℕ) : ℕ → Type 0 where
  extended : {rr : RecordOf (List (List ℕ)) (List EdnsOption)}
      → GivesFirst (λ number. number == 41) ReadsOptions message Additional (Some (Ok rr))
      → HasResponseCode message (extended_rcode (opt_fields rr.class rr.ttl) (rcode_of message))
  plain : GivesFirst (λ number. number == 41) ReadsOptions message Additional None
      ⊎ ((error : ParseError) × GivesFirst (λ number. number == 41) ReadsOptions message Additional (Some (Err error)))
      → HasResponseCode message (rcode_of message)
