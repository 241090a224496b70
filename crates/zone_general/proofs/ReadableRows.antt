-- A text whose rows go to their general rows, where they have any.
use Rattle.std.proofs.Common.{◌≡◌, ◌≤◌, ◌<◌, ◌+◌, ◌-◌, ◌++◌, ◌∙◌, ℕ, zero, suc, true, false, List, [], length, take, drop, ap, refl, subst, sym, append_assoc, Result, Ok, Err, OnOk, is_ok, if◌then◌else◌, arith, take-append-drop}
use Rattle.std.proofs.lemmas.List.{drop-drop}
use Rattle.std.proofs.Math.ListN.{drop_of_length-le}
use Rattle.dns_text.specs.Rows.{TokenRow}
use Rattle.dns_text.specs.Tokens.{is_end}
use Rattle.dns_entry_scanner.specs.RowFound.{NoRow}
use Rattle.dns_zonefile.specs.Entry.{Context}
use Rattle.dns_entry_scanner.specs.Lines.{behind_line}
use Rattle.dns_scan.specs.Token.{Token}
use Rattle.dns_entry_scanner.specs.NameInText.{SpellsUnder}
use Rattle.zone_general.proofs.FoundRows.{found_row}
use Rattle.zone_general.proofs.RowTypes.{one_type}
use Rattle.zone_general.specs.LongerRow.{HasType, IsGeneralRow, ScansLonger, Stands}
use Rattle.zone_general.specs.LongerRow.IsGeneralRow.{same, further}
use Rattle.zone_general.specs.Rewritten.IsWrittenAs.{same as written_same}
use Rattle.zone_general.specs.Readable.{AppendsReadable, GoesReadable, HasNoGeneralRow, IsNoEntry, IsReadableOf}
use Rattle.zone_general.specs.Readable.GoesReadable.{read, refused}
use Rattle.zone_general.specs.Readable.{AppendsReadable as appends}
use Rattle.zone_general.specs.Readable.IsReadableOf.{ended, bare, more, broken}
use Rattle.zone_general.specs.Seen.{IsFound, octets_in, row_in}
use Rattle.zone_general.specs.declared.found_row.FoundRow.{FoundRow}

-- what is appended if there is memory
pub on_appended : {T E : Type 0} (result : Result T E) (new added old : List ℕ) → new ≡ (if is_ok result then added else old)
    → OnOk result (new ≡ added)
on_appended (Ok value) new added old is = is
on_appended (Err error) new added old is = tt

-- a row that stands is its general row
pub refused_standing : {context : Context} (row : FoundRow) → IsFound row → Stands (row_in row) → IsNoEntry context (row_in row)
    → GoesReadable context (row_in row) (octets_in row) (octets_in row) context
refused_standing row found stands none =
    refused none (record { general = row_in row; is = same stands; are = (found_row row found).are; written = written_same refl })

-- one whose data does not read has none
pub none_general : (context : Context) {row : TokenRow} {front : List Token} {word : Token} {rtype : ℕ} {data' : List Token}
    → HasType row front word rtype data' → (Stands row → ⊥) → ((content : List ℕ) → ScansLonger (SpellsUnder context.origin) rtype data' content → ⊥)
    → HasNoGeneralRow context row
none_general context {row} {rtype = rtype} {data'} has not none general is = by is
  where
    by : {general : TokenRow} → IsGeneralRow (SpellsUnder context.origin) row general → ⊥
    by (same stands) = not stands
    by (further {rtype = rtype'} {octets = octets} still has' scans) =
        let one = one_type has' has in
        none octets
        (subst (λ (n : ℕ). ScansLonger (SpellsUnder context.origin) n data' octets) one.types
        (subst (λ (l : List Token). ScansLonger (SpellsUnder context.origin) rtype' l octets) one.datas scans))

-- The text up to the place went to the octets: what is left goes on as the whole does.
pub record GoingReadable (start : Context) (text : List ℕ) (place : ℕ) (context : Context) (out : List ℕ) : Type 0 where
  pub within : place ≤ length text
  pub goes : (new : List ℕ) → IsReadableOf context (drop place text) new → IsReadableOf start text (out ++ new)

pub readable_start : (start : Context) (text : List ℕ) → GoingReadable start text 0 start []
readable_start start text = record { within = omega arith; goes = λ new is. is }

-- octets of the text go to others, and what is behind them goes on
step : {start context : Context} {text out : List ℕ} {place : ℕ} (next : ℕ) (octets others : List ℕ) (after : Context)
    → GoingReadable start text place context out → drop place text ≡ octets ++ drop next text → next ≤ length text
    → ((new : List ℕ) → IsReadableOf after (drop next text) new → IsReadableOf context (octets ++ drop next text) (others ++ new))
    → GoingReadable start text next after (out ++ others)
step {start} {context} {text} {out} next octets others after going behind within goes = record {
  within = within;
  goes = λ new is.
      subst (λ (l : List ℕ). IsReadableOf start text l) (sym (append_assoc out others new))
      (going.goes (others ++ new) (subst (λ (l : List ℕ). IsReadableOf context l (others ++ new)) (sym behind) (goes new is)));
}

pub readable_row : {start context after : Context} {out new : List ℕ} (row : FoundRow) → IsFound row
    → GoingReadable start row.text.now row.place context out → AppendsReadable context (row_in row) (octets_in row) after out new
    → GoingReadable start row.text.now row.next after new
readable_row {start} {context} {after} {out} {new} row is going (appends.bare none kept behind) =
    let found = found_row row is in
    let octets = octets_in row in
    subst (λ (l : List ℕ). GoingReadable start row.text.now row.next after l) (sym behind)
    (subst (λ (it : Context). GoingReadable start row.text.now row.next it (out ++ octets)) (sym kept)
    (step row.next octets octets context going found.behind is.within (λ others goes. bare octets found.are none goes)))
readable_row {start} {context} {after} {out} {new} row is going (appends.more others some told behind) =
    let found = found_row row is in
    subst (λ (l : List ℕ). GoingReadable start row.text.now row.next after l) (sym behind)
    (step row.next (octets_in row) others after going found.behind is.within (λ others' goes. more (octets_in row) others found.are some told goes))

-- a line that begins with no row
pub readable_line : {start context : Context} {text out : List ℕ} {place : ℕ} (next : ℕ) → GoingReadable start text place context out
    → is_end (drop place text) ≡ false → NoRow (drop place text) → drop next text ≡ behind_line (drop place text) → place ≤ next
    → next ≤ length text → (new : List ℕ) → new ≡ out ++ take (next - place) (drop place text) → GoingReadable start text next context new
readable_line {start} {context} {text} {out} {place} next going goes_on none left from within new is =
    let line = take (next - place) (drop place text) in
    let len : place + (next - place) ≡ next = omega (arith, from) in
    let rest : drop (next - place) (drop place text) ≡ drop next text =
    drop-drop (next - place) place text ∙ ap (λ (n : ℕ). drop n text) len in
    let behind : drop place text ≡ line ++ drop next text =
    sym (take-append-drop (next - place) (drop place text)) ∙ ap (λ (l : List ℕ). line ++ l) rest in
    subst (λ (l : List ℕ). GoingReadable start text next context l) (sym is)
    (step next line line context going behind within (λ others goes.
    broken line (subst (λ (l : List ℕ). is_end l ≡ false) behind goes_on) (subst NoRow behind none)
    (subst (λ (l : List ℕ). drop next text ≡ behind_line l) behind left) goes))

-- a text that goes on has an octet there
pub goes_on_within : (text : List ℕ) (place : ℕ) → is_end (drop place text) ≡ false → place ≤ length text → place < length text
goes_on_within text place goes_on within = by (length text - place) refl
  where
    by : (n : ℕ) → length text - place ≡ n → place < length text
    by zero e =
        let all : length text ≤ place = omega (arith, e) in
        let none : drop place text ≡ [] = drop_of_length-le text all in
        let bad : true ≡ false = subst (λ (l : List ℕ). is_end l ≡ false) none goes_on in absurd cc
    by (suc n) e = omega (arith, e)

pub readable_end : {start context : Context} {text out new : List ℕ} {place : ℕ} → GoingReadable start text place context out
    → is_end (drop place text) ≡ true → new ≡ out ++ drop place text → IsReadableOf start text new
readable_end {start} {context} {text} {out} {new} {place} going ends is =
    subst (λ (l : List ℕ). IsReadableOf start text l) (sym is) (going.goes (drop place text) (ended ends))
