-- The origin of the context in which a row of a zone's text is read is a name. So the data of a record in fields is a
-- row of its type.
use Rattle.std.proofs.Common.{◌≡◌, ℕ, List, [], ◌∷◌, Option, Some, None, refl, sym, subst, arith}
use Rattle.std.specs.Prelude.{⊤, IfSome}
use Rattle.std.specs.List.{AllByRecursion}
use Rattle.dns_label.specs.Name.{IsName}
use Rattle.dns_label.specs.NameText.{IsAbsoluteText}
use Rattle.dns_scan.specs.Token.{Token}
use Rattle.dns_text.specs.Rows.{TokenRow}
use Rattle.dns_header.specs.Record.{RecordOf}
use Rattle.dns_rdata.specs.Fields.{IsRow}
use Rattle.dns_rdata.specs.Data.{Data, typed, unknown_data, number_of, ScansAnyData}
use Rattle.dns_entry_scanner.specs.NameInText.{SpellsUnder}
use Rattle.dns_entry_scanner.specs.NameInText.SpellsUnder.{at, absolute, relative}
use Rattle.dns_zonefile.specs.Statement.{Directs, Says, Stated, StatesRecord, Statement}
use Rattle.dns_zonefile.specs.Statement.Statement.{SetOrigin, StateRecord}
use Rattle.dns_zonefile.specs.Entry.{Context, Entry, Enters}
use Rattle.dns_zonefile.specs.Entry.Entry.{Directive, Include, Resource}
use Rattle.dns_zonefile.specs.Entries.{AreEntries}
use Rattle.zone.proofs.ScannedRows.{AreNames, scanned_is_row}

-- fields are a row of their type
abbrev pub IsRowed : Data → Type 0
IsRowed (typed number row) = IsRow number row
IsRowed (unknown_data unknown) = ⊤

abbrev pub IsFitting : Entry → Type 0
IsFitting (Resource rr) = IsRowed rr.rdata
IsFitting (Include path origin) = ⊤
IsFitting Directive = ⊤

absolute_named : {text : List ℕ} {name : List (List ℕ)} → IsAbsoluteText text name → IsName name
absolute_named (IsAbsoluteText.root is) = record { labels = tt; short = omega arith }
absolute_named (IsAbsoluteText.labels some parts is) = is

named_under : (origin : Option (List (List ℕ))) → IfSome origin IsName → (text : List ℕ) (name : List (List ℕ)) → SpellsUnder origin text name
    → IsName name
named_under (Some origin) named text name at = named
named_under origin named text name (absolute is) = absolute_named is
named_under (Some origin) named text name (relative bare labels is) = is

rowed : (names : List ℕ → List (List ℕ) → Type 0) → AreNames names → (rtype : ℕ) (rdata : Data) (tokens left : List Token)
    → ScansAnyData names rtype rdata tokens left → IsRowed rdata
rowed names are rtype (typed number row) tokens left scans = subst (λ n. IsRow n row) (sym scans.1) (scanned_is_row are scans.2)
rowed names are rtype (unknown_data unknown) tokens left scans = tt

directed : {origin : Option (List (List ℕ))} {tokens : List Token} {statement : Statement} → IfSome origin IsName → Directs (SpellsUnder origin) tokens statement
    → (name : List (List ℕ)) → statement ≡ SetOrigin name → IsName name
directed {origin} named (Directs.origin {text = text} {name = found} word is) name same =
    let names : found ≡ name = cc in subst IsName names (named_under origin named text found is)
directed named (Directs.ttl word is number) name same = absurd cc
directed named (Directs.include word is path ascii) name same = absurd cc
directed named (Directs.include_at word is path ascii origin) name same = absurd cc

said_origin : {origin : Option (List (List ℕ))} {row : TokenRow} {statement : Statement} → IfSome origin IsName → Says (SpellsUnder origin) row statement
    → (name : List (List ℕ)) → statement ≡ SetOrigin name → IsName name
said_origin named (Says.directive is directs) name same = directed named directs name same
said_origin named (Says.resource is) name same = absurd cc

said_record : {origin : Option (List (List ℕ))} {row : TokenRow} {statement : Statement} → IfSome origin IsName → Says (SpellsUnder origin) row statement
    → (stated : Stated) → statement ≡ StateRecord stated → IsRowed stated.rdata
said_record named (Says.directive is (Directs.origin word spells)) stated same = absurd cc
said_record named (Says.directive is (Directs.ttl word token number)) stated same = absurd cc
said_record named (Says.directive is (Directs.include word token path ascii)) stated same = absurd cc
said_record named (Says.directive is (Directs.include_at word token path ascii spells)) stated same = absurd cc
said_record {origin} named (Says.resource {stated = found} is) stated same =
    let alike : found ≡ stated = cc in
    subst (λ (s : Stated). IsRowed s.rdata) alike (rowed (SpellsUnder origin) (named_under origin named) (number_of found.rdata) found.rdata is.data_tokens [] is.scans)

entered : {context after : Context} {row : TokenRow} {statement : Statement} {entry : Entry} → IfSome context.origin IsName
    → Says (SpellsUnder context.origin) row statement → Enters context statement entry after → IfSome after.origin IsName × IsFitting entry
entered named says (Enters.origin {name = name}) = (said_origin named says name refl, tt)
entered named says Enters.ttl = (named, tt)
entered named says Enters.file = (named, tt)
entered named says (Enters.resource {stated = stated} is_owner is_class known) = (named, said_record named says stated refl)

-- entries of rows
pub entries_fit : {context after : Context} {rows : List TokenRow} {all : List Entry} → IfSome context.origin IsName
    → AreEntries context rows all after → AllByRecursion IsFitting all
entries_fit named AreEntries.none = tt
entries_fit named (AreEntries.bare are) = entries_fit named are
entries_fit named (AreEntries.entry is are) =
    let here = entered named is.says is.enters in (here.1, entries_fit here.0 are)

-- and the origin after them is a name too
pub entries_named : {context after : Context} {rows : List TokenRow} {all : List Entry} → IfSome context.origin IsName
    → AreEntries context rows all after → IfSome after.origin IsName
entries_named named AreEntries.none = named
entries_named named (AreEntries.bare are) = entries_named named are
entries_named named (AreEntries.entry is are) = entries_named (entered named is.says is.enters).0 are
