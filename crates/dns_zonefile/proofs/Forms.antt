-- The result of a reader, as values or as octets.
use Rattle.std.proofs.Common.{◌≡◌, ℕ, List, Option, Some, None, Ok, Err, String, Global, Box, box_value, refl, sym, subst, ◌∙◌, ap}
use Rattle.std.specs.Prelude.{Result, IfErr, IfOk, OnErr, option_map, string_bytes}
use Rattle.dns_entry_scanner.specs.NameInText.{SpellsUnder}
use Rattle.dns_entry_scanner.specs.declared.entry_error.EntryError.{EntryError}
use Rattle.dns_text.specs.Rows.{TokenRow}
use Rattle.dns_zonefile.specs.Composed.{HandsOn, included, with_reason}
use Rattle.dns_zonefile.specs.ComposedRow.{IsHandedOn}
use Rattle.dns_zonefile.specs.Entry.{Context, Entry, Enters, IsEntry}
use Rattle.dns_zonefile.specs.Entry.Entry.{Include}
use Rattle.dns_zonefile.specs.Reader.{Gives, Reader}
use Rattle.dns_zonefile.specs.ReaderSeen.{given_in, given_of}
use Rattle.dns_zonefile.specs.RowRead.{Form, GivesInForm, IsGiven, IsInForm}
use Rattle.dns_zonefile.specs.Seen.{context_of, entry_of}
use Rattle.dns_zonefile.specs.Statement.{Says, Statement}
use Rattle.dns_zonefile.specs.declared.context.Context as kept
use Rattle.dns_zonefile.specs.declared.entry.ComposedEntry.TheVariants as composed
use Rattle.dns_zonefile.specs.declared.entry.ComposedEntry.{ComposedEntry}
use Rattle.dns_zonefile.specs.declared.entry.Entry as found
use Rattle.dns_zonefile.specs.declared.entry.Entry.TheVariants as entries
use Rattle.dns_zonefile.specs.declared.entry.IncludedFile.{IncludedFile}
use Rattle.dns_zonefile.specs.declared.error.Error.{Error}
use Rattle.dns_zonefile.proofs.Going.{no-directive}
use Rattle.dns_zonefile.proofs.OneEntry.{under_once}
use Rattle.dns_zonefile.proofs.OneStatement.{one_statement}

-- what a row says under an origin
pub says_under : {origin origin' : Option (List (List ℕ))} {row row' : TokenRow} {statement : Statement} → origin ≡ origin' → row ≡ row'
    → Says (SpellsUnder origin) row statement → Says (SpellsUnder origin') row' statement
says_under {origin' = origin'} {row} {statement = statement} origins rows says =
    subst (λ (r : TokenRow). Says (SpellsUnder origin') r statement) rows
    (subst (λ (o : Option (List (List ℕ))). Says (SpellsUnder o) row statement) origins says)

-- a row that says a statement is no entry if the statement has none
pub unentered : {context : Context} {row : TokenRow} {statement : Statement} → Says (SpellsUnder context.origin) row statement
    → ((entry : Entry) (after : Context) → Enters context statement entry after → ⊥) → (entry : Entry) (after : Context)
    → IsEntry context row entry after → ⊥
unentered {context} says none entry after is =
    none entry after
    (subst (λ (s : Statement). Enters context s entry after) (one_statement (under_once context.origin) is.says says) is.enters)

-- entries as values
module _ {N : Type 0} (name : N → List (List ℕ)) where
  abbrev pub AsValue : Form (found.Entry N)
  AsValue old entry given new = entry ≡ entry_of name (Some given)

  pub value_is_given : (entry : Option (found.Entry N)) (old : List ℕ) → IsGiven AsValue old (entry_of name entry) entry old
  value_is_given None old = (refl, refl)
  value_is_given (Some entry) old = (no-directive name entry, refl)

  value_in : {before after : List ℕ} {given : Result (Option Entry) EntryError} {handed : Result (Option (found.Entry N)) EntryError}
      → IsInForm AsValue before given handed after → given ≡ given_in name handed
  value_in (IsInForm.found is) = ap (λ (e : Entry). Ok (Some e)) is
  value_in IsInForm.ended = refl
  value_in IsInForm.refused = refl

  value_of : (result : Result (Option (found.Entry N)) Error) → given_in name (with_reason result) ≡ given_of name result
  value_of (Ok None) = refl
  value_of (Ok (Some entry)) = refl
  value_of (Err error) = refl

  pub value_given : (result : Result (Option (found.Entry N)) Error) {old new : Reader} {before after : List ℕ}
      → GivesInForm AsValue old before (with_reason result) new after → Gives old (given_of name result) new
  value_given result {old} {new} gives =
      subst (λ (given : Result (Option Entry) EntryError). Gives old given new) (value_in gives.so ∙ value_of result) gives.is

-- records as octets
abbrev pub AsOctets : Form ComposedEntry
AsOctets old entry given new = HandsOn old (Ok (Some entry)) (Ok (Some given)) new

pub handed_on : {old new : List ℕ} {given : Result (Option Entry) EntryError} {handed : Result (Option ComposedEntry) EntryError}
    → IsInForm AsOctets old given handed new → HandsOn old given handed new
handed_on (IsInForm.found hands) = hands
handed_on IsInForm.ended = HandsOn.ended
handed_on IsInForm.refused = HandsOn.refused

-- a name in an array is what it spells
abbrev pub spelled : List (List ℕ) → List (List ℕ)
spelled name = name

pub spelled_origin : (origin : Option (List (List ℕ))) → option_map spelled origin ≡ origin
spelled_origin None = refl
spelled_origin (Some name) = refl

pub include_handed : (entry : Option (found.Entry (List (List ℕ)))) (path : String Global) (origin : Option (List (List ℕ))) (file : Box IncludedFile Global)
    → entry ≡ Some (entries.Include path origin) → box_value file ≡ record { path = path; origin = origin } → (octets : List ℕ)
    → IsHandedOn octets (entry_of spelled entry) (Some (composed.Include file)) octets
include_handed entry path origin file is same octets =
    subst (λ (e : Option (found.Entry (List (List ℕ)))). IsHandedOn octets (entry_of spelled e) (Some (composed.Include file)) octets) (sym is) (
      no-directive spelled (entries.Include path origin),
      subst (λ (e : Entry). HandsOn octets (Ok (Some e)) (Ok (Some (composed.Include file))) octets)
          (ap included same ∙ ap (Include (string_bytes path)) (sym (spelled_origin origin))) HandsOn.include,
    )

-- an include sets nothing
file_after : {context after : Context} {statement : Statement} {entry : Entry} {path : List ℕ} {origin : Option (List (List ℕ))}
    → Enters context statement entry after → entry ≡ Include path origin → after ≡ context
file_after Enters.origin is = let no : ⊥ = cc in absurd no
file_after Enters.ttl is = let no : ⊥ = cc in absurd no
file_after Enters.file is = refl
file_after (Enters.resource is_owner is_class known) is = let no : ⊥ = cc in absurd no

abbrev kept_by : Context → kept.Context
kept_by context = record {
  origin = context.origin;
  owner = context.owner;
  default_ttl = context.default_ttl;
  last_ttl = context.last_ttl;
  class = context.class;
}

pub include_stays : (old new : kept.Context) {statement : Statement} {entry : Entry} {path : List ℕ} {origin : Option (List (List ℕ))}
    → Enters (context_of old) statement entry (context_of new) → entry ≡ Include path origin → new ≡ old
include_stays old new enters is = ap kept_by (file_after enters is)

-- what holds of every value, and of every error
pub if_ok_each : {T E : Type 0} (result : Result T E) (P Q : T → Type 0) → ((value : T) → P value → Q value) → IfOk result P → IfOk result Q
if_ok_each (Ok value) P Q each is = each value is
if_ok_each (Err error) P Q each is = tt

pub if_err_each : {T E : Type 0} (result : Result T E) (P Q : E → Type 0) → ((error : E) → P error → Q error) → IfErr result P → IfErr result Q
if_err_each (Ok value) P Q each is = tt
if_err_each (Err error) P Q each is = each error is

pub on_err_each : {T E : Type 0} (result : Result T E) (P : E → Type 0) (Q : Type 0) → ((error : E) → P error → Q) → IfErr result P → OnErr result Q
on_err_each (Ok value) P Q each is = tt
on_err_each (Err error) P Q each is = each error is
