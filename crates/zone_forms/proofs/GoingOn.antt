-- A text that is gone over row by row.
use Rattle.std.proofs.Common.{◌≡◌, ◌≢◌, ◌+◌, ◌-◌, ◌<◌, ◌^◌, ◌==◌, ◌++◌, ◌∙◌, ℕ, suc, Bool, true, false, if◌then◌else◌, List, [], ◌∷◌, length, take, drop, refl, subst, sym, ap, append_assoc, append-nil, arith, length-append, take-append-drop, Result, Ok, Err, IfErr}
use Rattle.std.proofs.Math.Seq.{take-add}
use Rattle.std.proofs.lemmas.List.{length-take}
use Rattle.dns_text.specs.Rows.{BeginsWithRows, TokenRow}
use Rattle.dns_text.specs.Tokens.{is_end}
use Rattle.dns_entry_scanner.specs.EntryError.{is_memory}
use Rattle.dns_entry_scanner.specs.RowFound.{NoRow}
use Rattle.dns_entry_scanner.specs.declared.entry_error.EntryError.{EntryError}
use Rattle.dns_zonefile.proofs.Going.{begins-on}
use Rattle.dns_entry_scanner.proofs.MarkedLines.{lines-few}
use Rattle.dns_zonefile.specs.Entry.{Context, Entry}
use Rattle.dns_entry_scanner.specs.Lines.{line_at, line_behind}
use Rattle.zone_general.proofs.FoundRows.{found_row}
use Rattle.zone_forms.proofs.GoneTexts.{Told, bare_longer}
use Rattle.zone_general.proofs.RewrittenParts.{row_begins}
use Rattle.zone_general.specs.LongerEntries.{AreLongerEntries, IsLongerEntry}
use Rattle.zone_forms.specs.Refused.{FailsInLine}
use Rattle.zone_forms.specs.Refused.FailsInLine.{broken, no_entry}
use Rattle.zone_general.specs.Rewritten.{AreRow}
use Rattle.zone_forms.specs.Going.{FailsBehind, GoesTo, GoesUpTo, HasGone, RowGoes}
use Rattle.zone_forms.specs.Going.HasGone.{none, more}
use Rattle.zone_forms.specs.Going.RowGoes.{bare, entry}
use Rattle.zone_general.specs.Seen.{IsFound, octets_in, row_in, tokens_in}
use Rattle.zone_forms.specs.declared.error.FormError.{FormError}
use Rattle.zone_forms.specs.declared.error.FormError.TheVariants.{Line, OutOfMemory}
use Rattle.zone_general.specs.declared.found_row.FoundRow.{FoundRow}

pub if_err_weaker : {T E : Type 0} (result : Result T E) (P Q : E → Type 0) → ((error : E) → P error → Q error) → IfErr result P → IfErr result Q
if_err_weaker (Ok value) P Q weaker is = tt
if_err_weaker (Err error) P Q weaker is = weaker error is

-- rows that have gone are some rows before any text, and entries
record Gone (start : Context) (front : List ℕ) (context : Context) : Type 0 where
  rows : List TokenRow
  entries : List Entry
  begins : (rest : List ℕ) → BeginsWithRows (front ++ rest) rows rest
  are : AreLongerEntries start rows entries context

longer_on : {start mid after : Context} {rows others : List TokenRow} {entries more : List Entry} → AreLongerEntries start rows entries mid
    → AreLongerEntries mid others more after → AreLongerEntries start (rows ++ others) (entries ++ more) after
longer_on AreLongerEntries.none others = others
longer_on (AreLongerEntries.bare are) others = AreLongerEntries.bare (longer_on are others)
longer_on (AreLongerEntries.entry is are) others = AreLongerEntries.entry is (longer_on are others)

row_entries : {Goes : Told} {context after : Context} {row : TokenRow} {octets others : List ℕ} → RowGoes Goes context row octets others after
    → (entries : List Entry) × AreLongerEntries context (row ∷ []) entries after
row_entries {context = context} {row = row} (bare empty same is) =
    ([], subst (λ (after : Context). AreLongerEntries context (row ∷ []) [] after) (sym same) (bare_longer row empty AreLongerEntries.none))
row_entries (entry {entry = one} some longer goes) = (one ∷ [], AreLongerEntries.entry longer AreLongerEntries.none)

gone_rows : {Goes : Told} {start context : Context} {front out : List ℕ} → HasGone Goes start front out context → Gone start front context
gone_rows none = record { rows = []; entries = []; begins = λ rest. BeginsWithRows.none; are = AreLongerEntries.none }
gone_rows (more {front = front} {octets = octets} {row = row} gone are goes) =
    let before = gone_rows gone in
    let here = row_entries goes in record {
      rows = before.rows ++ row ∷ [];
      entries = before.entries ++ here.0;
      begins = λ rest. begins-on
          (subst (λ (l : List ℕ). BeginsWithRows l before.rows (octets ++ rest)) (sym (append_assoc front octets rest)) (before.begins (octets ++ rest)))
          (row_begins are rest);
      are = longer_on before.are here.1;
    }

-- rows that have gone, and rows behind them
pub gone_then : {Goes : Told} {start mid after : Context} {front front' out out' : List ℕ} → HasGone Goes start front out mid
    → HasGone Goes mid front' out' after → HasGone Goes start (front ++ front') (out ++ out') after
gone_then {Goes} {start} {mid} {front = front} {out = out} gone none =
    subst (λ (l : List ℕ). HasGone Goes start l (out ++ []) mid) (sym (append-nil front))
    (subst (λ (l : List ℕ). HasGone Goes start front l mid) (sym (append-nil out)) gone)
gone_then {Goes} {start} {after = after} {front = front} {out = out} gone
    (more {front = front'} {out = out'} {octets = octets} {others = others} behind are goes) =
    subst (λ (l : List ℕ). HasGone Goes start l (out ++ (out' ++ others)) after) (append_assoc front front' octets)
    (subst (λ (l : List ℕ). HasGone Goes start ((front ++ front') ++ octets) l after) (append_assoc out out' others)
    (more (gone_then gone behind) are goes))

-- a row before a text that goes to another
row_goes : {Goes : Told} {context next after : Context} {row : TokenRow} {octets others text new : List ℕ} {entries : List Entry} → AreRow octets row
    → RowGoes Goes context row octets others next → GoesTo Goes next text new entries after
    → (all : List Entry) × GoesTo Goes context (octets ++ text) (others ++ new) all after
row_goes {Goes} {context} {after = after} {octets = octets} {text = text} {new = new} {entries = entries} are (bare empty same is) goes = (
  entries,
  subst (λ (l : List ℕ). GoesTo Goes context (octets ++ text) (l ++ new) entries after) (sym is)
      (GoesTo.bare octets are empty (subst (λ (it : Context). GoesTo Goes it text new entries after) same goes)),
)
row_goes {octets = octets} {others = others} {entries = entries} are (entry {entry = one} some longer told) goes =
    (one ∷ entries, GoesTo.more octets others are some told goes)

gone_before : {Goes : Told} {start context after : Context} {front out text new : List ℕ} {entries : List Entry} → HasGone Goes start front out context
    → GoesTo Goes context text new entries after → (all : List Entry) × GoesTo Goes start (front ++ text) (out ++ new) all after
gone_before {entries = entries} none goes = (entries, goes)
gone_before {Goes} {start} {after = after} {text = text} {new = new} (more {front = front} {out = out} {octets = octets} {others = others} gone are told) goes =
    let all = gone_before gone (row_goes are told goes).1 in (
      all.0,
      subst (λ (l : List ℕ). GoesTo Goes start l ((out ++ others) ++ new) all.0 after) (sym (append_assoc front octets text))
          (subst (λ (l : List ℕ). GoesTo Goes start (front ++ (octets ++ text)) l all.0 after) (sym (append_assoc out others new)) all.1),
    )

-- the text ends behind them
pub gone_end : {Goes : Told} {start context : Context} {front out : List ℕ} → HasGone Goes start front out context → (rest : List ℕ)
    → is_end rest ≡ true → (entries : List Entry) × GoesTo Goes start (front ++ rest) (out ++ rest) entries context
gone_end gone rest ends = gone_before gone (GoesTo.ended ends)

-- the text goes on behind them, but with no row
pub fails_broken : {Goes : Told} {start context : Context} {front out : List ℕ} → HasGone Goes start front out context → (rest : List ℕ)
    → is_end rest ≡ false → NoRow rest → FailsInLine start (front ++ rest) (line_behind front)
fails_broken {front = front} gone rest goes_on no_row =
    let before = gone_rows gone in
    broken front refl (before.begins rest) (record { rest = rest; begins = before.begins rest; goes_on = goes_on; no_row = no_row }) before.are

-- or with a row that is no entry
fails_entry : {Goes : Told} {start context : Context} {row : TokenRow} {front out octets : List ℕ} → HasGone Goes start front out context
    → AreRow octets row → row.tokens ≢ [] → ((one : Entry) (after : Context) → IsLongerEntry context row one after → ⊥) → (rest : List ℕ)
    → FailsInLine start (front ++ (octets ++ rest)) (line_behind front)
fails_entry {front = front} {octets = octets} gone are some no_entry' rest =
    let before = gone_rows gone in no_entry front refl (before.begins (octets ++ rest)) (row_begins are rest) before.are some no_entry'

-- the lines of octets and of those behind them
lines_step : (feed : Bool) (whole left right : ℕ) → whole + 1 ≡ left + right
    → (if feed then suc whole else whole) + 1 ≡ (if feed then suc left else left) + right
lines_step true whole left right is = omega (arith, is)
lines_step false whole left right is = omega (arith, is)

pub lines_append : (front back : List ℕ) → line_behind (front ++ back) + 1 ≡ line_behind front + line_behind back
lines_append [] back = omega arith
lines_append (octet ∷ front) back =
    lines_step (octet == 10) (line_behind (front ++ back)) (line_behind front) (line_behind back) (lines_append front back)

-- the number of a line that is behind a front with these line feeds
pub counted_line : (feeds : ℕ) (front back : List ℕ) → feeds + 1 ≡ line_behind front → line_behind (front ++ back) ≡ feeds + line_behind back
counted_line feeds front back is = omega (arith, is, lines_append front back)

pub counted_few : (feeds count : ℕ) (front back : List ℕ) → feeds + 1 ≡ line_behind front → length front + length back < count
    → feeds + line_behind back < count + 1
counted_few feeds count front back is few =
    omega (arith, is, few, lines_append front back, lines-few (front ++ back), length-append front back)

-- a place in a text that is gone over
pub going_start : (Goes : Told) (context : Context) (text old : List ℕ) → GoesUpTo Goes context text 0 context old old
going_start Goes context text old = record { within = omega arith; others = []; appended = sym (append-nil old); gone = none }

up_to : (row : FoundRow) → IsFound row → take row.place row.text.now ++ octets_in row ≡ take row.next row.text.now
up_to row is =
    let whole : row.place + (row.next - row.place) ≡ row.next = omega (arith, is.behind) in
    sym (take-add row.place (row.next - row.place) row.text.now) ∙ ap (λ (n : ℕ). take n row.text.now) whole

pub going_row : {Goes : Told} {start context after : Context} {old now others new : List ℕ} (row : FoundRow) → IsFound row
    → GoesUpTo Goes start row.text.now row.place context old now → RowGoes Goes context (row_in row) (octets_in row) others after
    → new ≡ now ++ others → GoesUpTo Goes start row.text.now row.next after old new
going_row {Goes} {start} {after = after} {old = old} {others = others} row is going told appended = record {
  within = is.within;
  others = going.others ++ others;
  appended = appended ∙ ap (λ (l : List ℕ). l ++ others) going.appended ∙ append_assoc old going.others others;
  gone = subst (λ (l : List ℕ). HasGone Goes start l (going.others ++ others) after) (up_to row is)
      (more going.gone (found_row row is).are told);
}

-- the error of a row that is no entry
pub fails_row : {Goes : Told} {context mid : Context} {old now : List ℕ} (feeds : ℕ) (row : FoundRow) → IsFound row
    → GoesUpTo Goes context row.text.now row.place mid old now → (error : EntryError)
    → (is_memory error ≡ false → (tokens_in row ≢ []) × ((one : Entry) (after : Context) → IsLongerEntry mid (row_in row) one after → ⊥))
    → (told : FormError)
    → (is_memory error ≡ false → feeds + line_at row.text.now row.place < 2 ^ 64 → told ≡ Line (feeds + line_at row.text.now row.place))
    → (is_memory error ≡ true → told ≡ OutOfMemory) → (line : ℕ) → told ≡ Line line → (rest : List ℕ)
    → FailsBehind Goes context feeds (length row.text.now) (row.text.now ++ rest) line
fails_row {Goes} {context} feeds row is going error no_entry' told in_line memory line same rest start front out gone counted few =
    by (is_memory error) refl
  where
    text : List ℕ
    text = row.text.now

    before : List ℕ
    before = take row.place text

    behind : List ℕ
    behind = drop row.next text

    whole : (front ++ before) ++ (octets_in row ++ (behind ++ rest)) ≡ front ++ (text ++ rest)
    whole =
        let apart : (front ++ before) ++ (octets_in row ++ (behind ++ rest)) ≡ front ++ ((before ++ (octets_in row ++ behind)) ++ rest) =
        simp append_assoc in
        let text_is : before ++ (octets_in row ++ behind) ≡ text =
        ap (λ (l : List ℕ). before ++ l) (sym (found_row row is).behind) ∙ take-append-drop row.place text in
        apart ∙ ap (λ (l : List ℕ). front ++ (l ++ rest)) text_is

    short : feeds + line_at text row.place < 2 ^ 64
    short =
        omega (arith, counted, few, is.behind, is.within, lines_append front before, lines-few (front ++ before), length-append front before, length-take row.place text)

    by : (m : Bool) → is_memory error ≡ m → FailsInLine start (front ++ (text ++ rest)) line
    by true e = let bad : OutOfMemory ≡ Line line = sym (memory e) ∙ same in cc
    by false e =
        let both : Line (feeds + line_at text row.place) ≡ Line line = sym (in_line e short) ∙ same in
        let number : feeds + line_at text row.place ≡ line = cc in
        let fails = fails_entry (gone_then gone going.gone) (found_row row is).are (no_entry' e).0 (no_entry' e).1 (behind ++ rest) in
        subst (λ (n : ℕ). FailsInLine start (front ++ (text ++ rest)) n) (counted_line feeds front before counted ∙ number)
        (subst (λ (l : List ℕ). FailsInLine start l (line_behind (front ++ before))) whole fails)

-- a whole text goes to another
pub goes_whole : {Goes : Told} {start context : Context} {text old now new : List ℕ} {place : ℕ} → GoesUpTo Goes start text place context old now
    → old ≡ [] → is_end (drop place text) ≡ true → new ≡ now ++ drop place text
    → (entries : List Entry) × (after : Context) × GoesTo Goes start text new entries after
goes_whole {Goes} {start} {context} {text} {new = new} {place = place} going empty ends is =
    let goes = gone_end going.gone (drop place text) ends in
    let octets : going.others ++ drop place text ≡ new =
    ap (λ (l : List ℕ). (l ++ going.others) ++ drop place text) (sym empty) ∙ ap (λ (l : List ℕ). l ++ drop place text) (sym going.appended) ∙ sym is in (
      goes.0,
      context,
      subst (λ (l : List ℕ). GoesTo Goes start l new goes.0 context) (take-append-drop place text)
          (subst (λ (l : List ℕ). GoesTo Goes start (take place text ++ drop place text) l goes.0 context) octets goes.1),
    )

-- or fails in a row
pub fails_whole : {Goes : Told} {start : Context} {text : List ℕ} {line : ℕ} → length text < 2 ^ 64
    → ((rest : List ℕ) → FailsBehind Goes start 0 (length text) (text ++ rest) line) → FailsInLine start text line
fails_whole {start = start} {text = text} {line = line} few fails =
    subst (λ (l : List ℕ). FailsInLine start l line) (append-nil text) (fails [] start [] [] none refl (omega (arith, few)))

-- or behind its rows
pub fails_there : {Goes : Told} {start context : Context} {text old now : List ℕ} {place : ℕ} → GoesUpTo Goes start text place context old now
    → length text + 1 < 2 ^ 64 → is_end (drop place text) ≡ false → NoRow (drop place text) → (told : FormError)
    → (0 + line_at text place < 2 ^ 64 → told ≡ Line (0 + line_at text place)) → (line : ℕ) → told ≡ Line line → FailsInLine start text line
fails_there {start = start} {text = text} {place = place} going few goes_on no_row told in_line line same =
    let short : 0 + line_at text place < 2 ^ 64 = omega (arith, few, lines-few (take place text), length-take place text) in
    let both : Line (0 + line_at text place) ≡ Line line = sym (in_line short) ∙ same in
    let number : 0 + line_at text place ≡ line = cc in
    let counted : line_at text place ≡ 0 + line_at text place = omega arith in
    subst (λ (n : ℕ). FailsInLine start text n) number
    (subst (λ (l : List ℕ). FailsInLine start l (0 + line_at text place)) (take-append-drop place text)
    (subst (λ (n : ℕ). FailsInLine start (take place text ++ drop place text) n) counted (fails_broken going.gone (drop place text) goes_on no_row)))
