-- A row that is an entry by zonewire's grammar reads as it stands by the longer table.
use Rattle.std.proofs.Common.{◌≡◌, ◌⊎◌, ◌∙◌, ◌==◌, ℕ, Bool, true, false, List, [], ◌∷◌, ◌++◌, is_some, Option, Some, None, inl, inr, refl, sym, ap, subst}
use Rattle.std.specs.Prelude.{if◌then◌else◌}
use Rattle.std.specs.List.{AllByRecursion}
use Rattle.std.proofs.lemmas.Bool.Decides.{Decides-eqb}
use Rattle.dns_values.specs.Mnemonic.{type_read}
use Rattle.dns_scan.specs.Token.{Token, unquoted}
use Rattle.dns_text.specs.Rows.{TokenRow}
use Rattle.dns_fields.specs.Fields.{Kind, kinds_in, table}
use Rattle.dns_rdata.specs.Data.{Data, ScansAnyData, typed, unknown_data, number_of}
use Rattle.dns_fields_more.specs.Forms.{forms_of}
use Rattle.dns_entry_scanner.specs.NameInText.{SpellsUnder}
use Rattle.dns_zonefile.specs.Entries.{AreEntries, HasEntries}
use Rattle.dns_zonefile.specs.Entries.AreEntries.{none, bare, entry}
use Rattle.dns_zonefile.specs.Entry.{Context, Entry, IsEntry}
use Rattle.dns_zonefile.specs.Statement.{HasOwner, IsDirective, Names, Says, Stated, Statement, StatesRecord}
use Rattle.dns_zonefile.specs.Statement.HasOwner.{last as last_owner, own as own_owner}
use Rattle.dns_zonefile.specs.Statement.Says.{directive, resource}
use Rattle.zone_general.specs.LongerEntries.{AreLongerEntries, HasLongerEntries}
use Rattle.zone_general.specs.LongerRow.{HasType, IsKnown, IsMarked, IsNoTypeWord, IsTypeWord, Stands}
use Rattle.zone_general.specs.LongerRow.HasFront.{last, own}
use Rattle.zone_general.specs.LongerRow.IsGeneralRow.{same as same_row}
use Rattle.zone_forms.proofs.NoTypeWords.{stated_no_types}
use Rattle.zone_general.proofs.RowTypes.{one_type}
use Rattle.zone_general.proofs.SameRecords.{is_type_word}

-- the type of a row behind its owner
type_behind : {names : Names} {row : TokenRow} {owner : Option (List (List ℕ))} {tokens : List Token} → HasOwner names row owner tokens
    → (IsDirective row → ⊥) → (before : List Token) (word : Token) (data' : List Token) {rtype : ℕ} → tokens ≡ before ++ word ∷ data'
    → AllByRecursion IsNoTypeWord before → IsTypeWord rtype word → (front : List Token) × HasType row front word rtype data'
type_behind last_owner plain before word data' is first type =
    (before, record { no_directive = plain; is = is; others = before; has_front = last; first = first; type = type })
type_behind (own_owner {text = text} spelled) plain before word data' is first type = (
  unquoted text ∷ before,
  record {
    no_directive = plain;
    is = ap (λ (l : List Token). unquoted text ∷ l) is;
    others = before;
    has_front = own;
    first = first;
    type = type;
  },
)

-- a record states the type that its row has
pub stated_type : {names : Names} {row : TokenRow} {stated : Stated} (states : StatesRecord names row stated)
    → (front : List Token) × HasType row front states.head.type_token (number_of stated.rdata) states.data_tokens
stated_type states =
    type_behind states.owner states.no_directive states.head.before states.head.type_token states.data_tokens states.head.is
    (stated_no_types states.head.states) (is_type_word states.head.type_is)

-- the tables share no type
apart_in : (rows : List (ℕ × List Kind)) (rtype : ℕ) (kinds : List Kind) → AllByRecursion (λ (row : ℕ × List Kind). forms_of row.0 ≡ None) rows
    → kinds_in rows rtype ≡ Some kinds → forms_of rtype ≡ None
apart_in [] rtype kinds each its = absurd cc
apart_in (row ∷ rows) rtype kinds each its = by (rtype == row.0) refl (apart_in rows rtype kinds each.1) its
  where
    by : (here : Bool) → (rtype == row.0) ≡ here → (kinds_in rows rtype ≡ Some kinds → forms_of rtype ≡ None)
        → (if here then Some row.1 else kinds_in rows rtype) ≡ Some kinds → forms_of rtype ≡ None
    by true is others found = subst (λ (n : ℕ). forms_of n ≡ None) (sym ((Decides-eqb rtype row.0).0 is)) each.0
    by false is others found = others found

all_apart : AllByRecursion (λ (row : ℕ × List Kind). forms_of row.0 ≡ None) table
all_apart =
    (refl, (refl, (refl, (refl, (refl, (refl, (refl, (refl, (refl, (refl, (refl, (refl, (refl, (refl, (refl, (refl, (refl, (refl, (refl, (refl, (refl, (refl, tt))))))))))))))))))))))

scanned_stands : (names : Names) (number : ℕ) (rdata : Data) (tokens : List Token) → ScansAnyData names number rdata tokens []
    → IsMarked tokens ⊎ (forms_of number ≡ None)
scanned_stands names number (typed n row) tokens scans = inr (apart_in table number _ all_apart scans.2.kinds)
scanned_stands names number (unknown_data unknown) tokens scans = inl (record { words = scans.1; is = scans.2 })

pub entry_stands : {context after : Context} {row : TokenRow} {entry : Entry} → IsEntry context row entry after → Stands row
entry_stands {context} {row = row} is front word rtype data' has = by is.says
  where
    by : {statement : Statement} → Says (SpellsUnder context.origin) row statement → IsKnown word × (IsMarked data' ⊎ (forms_of rtype ≡ None))
    by (directive is_one directs) = absurd (has.no_directive is_one)
    by (resource {stated = stated} states) =
        let one = one_type has (stated_type states).1 in
        let type_is = states.head.type_is in (
          ap (λ (t : Token). is_some (type_read t.text)) (one.words ∙ type_is.1.0) ∙ ap (λ (o : Option ℕ). is_some o) type_is.3,
          elim (scanned_stands (SpellsUnder context.origin) (number_of stated.rdata) stated.rdata states.data_tokens states.scans) [
            | inl marked ↦ inl (subst IsMarked (sym one.datas) marked)
            | inr apart ↦ inr (ap forms_of one.types ∙ apart)
          ],
        )

are_longer : {context after : Context} {rows : List TokenRow} {entries : List Entry} → AreEntries context rows entries after
    → AreLongerEntries context rows entries after
are_longer none = AreLongerEntries.none
are_longer (bare are) = AreLongerEntries.bare (are_longer are)
are_longer (entry {row = row} is are) =
    AreLongerEntries.entry (record { general = row; is = same_row (entry_stands is); so = is }) (are_longer are)

-- The law
pub longer : {start : Context} {text : List ℕ} {entries : List Entry} → HasEntries start text entries → HasLongerEntries start text entries
longer has = record { rows = has.rows; is_text = has.is_text; after = has.after; are = are_longer has.are }
