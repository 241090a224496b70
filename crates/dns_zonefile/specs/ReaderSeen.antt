-- The views of readers of zone files.
use Rattle.std.specs.Prelude.{ℕ, List, ◌+◌, if◌then◌else◌, Option, Some, None, Result, Ok, Err, is_some, vec_capacity}
use Rattle.dns_entry_scanner.specs.declared.entry_error.EntryError.{EntryError}
use Rattle.dns_zonefile.specs.Entry.{Entry}
use Rattle.dns_zonefile.specs.Error.{reason_of}
use Rattle.dns_zonefile.specs.Reader.{Reader}
use Rattle.dns_zonefile.specs.Seen.{context_of, entry_of}
use Rattle.dns_zonefile.specs.declared.entry.Entry as found
use Rattle.dns_zonefile.specs.declared.error.Error.{Error}
use Rattle.dns_zonefile.specs.declared.zonefile.Zonefile.{Zonefile}

-- a reader of a zone file
abbrev pub reader_of : Zonefile → Reader
reader_of zonefile = record {
  text = zonefile.text.items;
  place = zonefile.place;
  context = context_of zonefile.context;
  count = zonefile.count;
}

-- the number of octets to which its text may grow without another allocation
abbrev pub text_capacity : Zonefile → ℕ
text_capacity zonefile = vec_capacity zonefile.text

-- the error after which it reads nothing more
abbrev pub refused_in : Zonefile → Option Error
refused_in zonefile = zonefile.refused

-- the number of entries that it has met, one that failed included
abbrev pub entries_met : Zonefile → ℕ
entries_met zonefile = zonefile.count + (if is_some zonefile.refused then 1 else 0)

-- the result of a call, with names by what they spell
abbrev pub given_in : {N : Type 0} → (N → List (List ℕ)) → Result (Option (found.Entry N)) EntryError → Result (Option Entry) EntryError
given_in name (Ok None) = Ok None
given_in name (Ok (Some entry)) = Ok (Some (entry_of name (Some entry)))
given_in name (Err error) = Err error

-- the same, with only the reason of an error
abbrev pub given_of : {N : Type 0} → (N → List (List ℕ)) → Result (Option (found.Entry N)) Error → Result (Option Entry) EntryError
given_of name (Ok None) = Ok None
given_of name (Ok (Some entry)) = Ok (Some (entry_of name (Some entry)))
given_of name (Err error) = Err (reason_of error)
