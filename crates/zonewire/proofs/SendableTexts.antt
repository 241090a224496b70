-- The records of a zone's text can be sent.
use Rattle.std.proofs.Common.{◌≡◌, ℕ, ◌<◌, ◌^◌, List, [], ◌∷◌, length, Option, Some, None, sym, subst, arith}
use Rattle.std.specs.Prelude.{IfSome, unwrap_or, ⊤}
use Rattle.std.specs.List.{AllByRecursion}
use Rattle.std.specs.Option.{option_or}
use Rattle.dns_label.specs.Name.{IsName}
use Rattle.dns_label.specs.NameText.{IsAbsoluteText}
use Rattle.dns_scan.specs.Token.{Token}
use Rattle.dns_text.specs.Rows.{TokenRow}
use Rattle.dns_rdata.specs.Data.{number_of}
use Rattle.dns_rdata.specs.Fields.{IsData}
use Rattle.dns_rdata.specs.Fields.IsData.{unknown, typed}
use Rattle.dns_entry_scanner.specs.NameInText.{SpellsUnder}
use Rattle.zone.specs.Entries.{AreEntries}
use Rattle.zone.specs.Entry.{Context, Enters, Entry}
use Rattle.zone.specs.Entry.Entry.{Directive, Include, Resource}
use Rattle.dns_entry_scanner.specs.RecordHead.{IsTtl, States}
use Rattle.zone.specs.Statement.{Directs, HasOwner, Says, Statement}
use Rattle.zone.specs.Statement.Statement.{NameFile, SetOrigin, SetTtl, StateRecord}
use Rattle.zone_records.specs.Record.{Record}
use Rattle.zone_records.specs.Records.{AreSendable, IsSendable}
use Rattle.zone.specs.ZoneText.{IsWellTyped, IsZoneText, records_in, start_of}
use Rattle.zone.proofs.RecordClasses.{zone_text_class}
use Rattle.zonewire.proofs.SpelledNumbers.{spelled_small, type_small}

-- ---- what rows say

absolute_name : {text : List ℕ} {name : List (List ℕ)} → IsAbsoluteText text name → IsName name
absolute_name (IsAbsoluteText.root is) = record { labels = tt; short = omega arith }
absolute_name (IsAbsoluteText.labels some parts is) = is

spelled_name : {origin : Option (List (List ℕ))} {text : List ℕ} {name : List (List ℕ)} → IfSome origin IsName
    → SpellsUnder origin text name → IsName name
spelled_name known SpellsUnder.at = known
spelled_name known (SpellsUnder.absolute is) = absolute_name is
spelled_name known (SpellsUnder.relative apart is named) = named

-- a TTL of 32 bits
abbrev IsSmall : ℕ → Type 0
IsSmall seconds = seconds < 2 ^ 32

-- its names are names, and its numbers fit
abbrev IsFit : Statement → Type 0
IsFit (SetOrigin name) = IsName name
IsFit (SetTtl seconds) = IsSmall seconds
IsFit (NameFile path origin) = ⊤
IsFit (StateRecord stated) = IfSome stated.owner IsName × IfSome stated.ttl IsSmall × (number_of stated.rdata < 2 ^ 16)

directed : {origin : Option (List (List ℕ))} {tokens : List Token} {statement : Statement} → IfSome origin IsName
    → Directs (SpellsUnder origin) tokens statement → IsFit statement
directed known (Directs.origin word spells) = spelled_name known spells
directed known (Directs.ttl {text = text} {seconds = seconds} word takes number) = spelled_small (2 ^ 32) text seconds number
directed known (Directs.include word is spells ascii) = tt
directed known (Directs.include_at word is spells ascii named) = tt

owner_name : {origin : Option (List (List ℕ))} {row : TokenRow} {owner : Option (List (List ℕ))} {tokens : List Token} → IfSome origin IsName
    → HasOwner (SpellsUnder origin) row owner tokens → IfSome owner IsName
owner_name known HasOwner.last = tt
owner_name known (HasOwner.own spells) = spelled_name known spells

ttl_small : (seconds : ℕ) (token : Token) → IsTtl seconds token → IsSmall seconds
ttl_small seconds token is = spelled_small (2 ^ 32) is.0 seconds is.3

stated_ttl : {before : List Token} {ttl class : Option ℕ} → States before ttl class → IfSome ttl IsSmall
stated_ttl States.nothing = tt
stated_ttl (States.ttl {token = token} {seconds = seconds} is) = ttl_small seconds token is
stated_ttl (States.class is) = tt
stated_ttl (States.ttl_class {first = first} {seconds = seconds} is also) = ttl_small seconds first is
stated_ttl (States.class_ttl {second = second} {seconds = seconds} is also) = ttl_small seconds second also

said : {origin : Option (List (List ℕ))} {row : TokenRow} {statement : Statement} → IfSome origin IsName
    → Says (SpellsUnder origin) row statement → IsFit statement
said known (Says.directive is directs) = directed known directs
said known (Says.resource {stated = stated} says) = (
  owner_name known says.owner,
  stated_ttl says.head.states,
  type_small says.head.type_is.0 (number_of stated.rdata) says.head.type_is.3,
)

-- ---- what rows leave

record IsFitContext (context : Context) : Type 0 where
  origin : IfSome context.origin IsName
  owner : IfSome context.owner IsName
  default_ttl : IfSome context.default_ttl IsSmall
  last_ttl : IsSmall context.last_ttl

abbrev IsFitEntry : Entry → Type 0
IsFitEntry (Resource rr) = IsName rr.owner × (number_of rr.rdata < 2 ^ 16) × IsSmall rr.ttl
IsFitEntry (Include path origin) = ⊤
IsFitEntry Directive = ⊤

either : {X : Type 0} (P : X → Type 0) (first second : Option X) → IfSome first P → IfSome second P → IfSome (option_or first second) P
either P (Some x) second holds other = holds
either P None second holds other = other

chosen : {X : Type 0} (P : X → Type 0) (o : Option X) (x : X) → IfSome o P → o ≡ Some x → P x
chosen {X} P o x holds is = subst (λ (choice : Option X). IfSome choice P) is holds

defaulted : (P : ℕ → Type 0) (o : Option ℕ) (d : ℕ) → IfSome o P → P d → P (unwrap_or o d)
defaulted P (Some n) d holds other = holds
defaulted P None d holds other = other

entered : {context after : Context} {statement : Statement} {entry : Entry} → IsFitContext context → IsFit statement
    → Enters context statement entry after → IsFitContext after × IsFitEntry entry
entered fit is Enters.origin =
    (record { origin = is; owner = fit.owner; default_ttl = fit.default_ttl; last_ttl = fit.last_ttl }, tt)
entered fit is Enters.ttl = (record { origin = fit.origin; owner = fit.owner; default_ttl = is; last_ttl = fit.last_ttl }, tt)
entered fit is Enters.file = (fit, tt)
entered {context} fit is (Enters.resource {stated = stated} {owner = owner} is_owner is_class is_known) =
    let named : IsName owner =
    chosen IsName (option_or stated.owner context.owner) owner (either IsName stated.owner context.owner is.0 fit.owner) is_owner in
    let seconds = either IsSmall stated.ttl context.default_ttl is.1 fit.default_ttl in (
      record {
        origin = fit.origin;
        owner = named;
        default_ttl = fit.default_ttl;
        last_ttl = defaulted IsSmall stated.ttl context.last_ttl is.1 fit.last_ttl;
      },
      (named, is.2, defaulted IsSmall (option_or stated.ttl context.default_ttl) context.last_ttl seconds fit.last_ttl),
    )

each_fit : {context after : Context} {rows : List TokenRow} {entries : List Entry} → IsFitContext context
    → AreEntries context rows entries after → AllByRecursion IsFitEntry entries
each_fit fit AreEntries.none = tt
each_fit fit (AreEntries.bare are) = each_fit fit are
each_fit fit (AreEntries.entry is are) =
    let first = entered fit (said fit.origin is.says) is.enters in (first.1, each_fit first.0 are)

-- ---- records

data_short : (rtype : ℕ) (data' : List ℕ) → IsData rtype data' → length data' < 2 ^ 16
data_short rtype data' (typed row is same) = subst (λ (l : List ℕ). length l < 2 ^ 16) (sym same) is.short
data_short rtype data' (unknown none short) = short

each_sendable : (class : ℕ) (entries : List Entry) → class < 2 ^ 16 → AllByRecursion IsFitEntry entries
    → AllByRecursion IsWellTyped (records_in entries) → AllByRecursion (λ (r : Record). r.class ≡ class) (records_in entries)
    → AllByRecursion (IsSendable class) (records_in entries)
each_sendable class [] small fit well classes = tt
each_sendable class (Resource rr ∷ entries) small fit well classes = (
  record {
    lawful = record {
      owner = fit.0.0;
      rtype = fit.0.1;
      class = subst (λ (n : ℕ). n < 2 ^ 16) (sym classes.0) small;
      ttl = fit.0.2;
      rdata = data_short _ _ well.0.data_is;
    };
    data_is = well.0.data_is;
    class_is = classes.0;
    spellable = well.0.spellable;
  },
  each_sendable class entries small fit.1 well.1 classes.1,
)
each_sendable class (Include path origin ∷ entries) small fit well classes = each_sendable class entries small fit.1 well classes
each_sendable class (Directive ∷ entries) small fit well classes = each_sendable class entries small fit.1 well classes

pub text_sendable : (text : List ℕ) (origin : Option (List (List ℕ))) (class : ℕ) (records : List Record) → IfSome origin IsName
    → class < 2 ^ 16 → IsZoneText text origin class records → AreSendable class records
text_sendable text origin class records known small zone =
    let begins : IsFitContext (start_of origin class) = record { origin = known; owner = tt; default_ttl = tt; last_ttl = omega arith } in
    let classes = subst (λ (l : List Record). AllByRecursion (λ (r : Record). r.class ≡ class) l) zone.are (zone_text_class zone) in
    record {
      each = subst (λ (l : List Record). AllByRecursion (IsSendable class) l) (sym zone.are)
          (each_sendable class zone.entries small (each_fit begins zone.has.are) zone.keep.each classes);
      zone = zone.zone;
    }
