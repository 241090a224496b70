-- A text has its entries in one way.
use Rattle.std.proofs.Common.{◌≡◌, ◌≢◌, ◌⊎◌, ℕ, Bool, true, false, List, [], ◌∷◌, ◌++◌, inl, inr, append_assoc, append-nil, refl, sym, ◌∙◌, ap, subst}
use Rattle.dns_scan.specs.Token.{Token}
use Rattle.dns_text.specs.Tokens.{is_end}
use Rattle.dns_text.specs.Rows.{BeginsWithRows, BreaksAfter, TokenRow}
use Rattle.dns_text.proofs.OneRow.{no_row_at_end, one_text}
use Rattle.dns_zonefile.specs.Entry.{Context, Entry, IsEntry}
use Rattle.dns_zonefile.specs.Entries.{AreEntries, HasEntries, IsRefusedAfter}
use Rattle.dns_zonefile.specs.Entries.AreEntries.{none, bare, entry}
use Rattle.dns_zonefile.specs.Entries.IsRefusedAfter.{broken, no_entry}
use Rattle.dns_zonefile.proofs.OneEntry.{one_entry, entry_has_tokens}
use Rattle.dns_zonefile.proofs.RowFronts.{Compared, all_rows, compare, none_behind}
use Rattle.dns_zonefile.proofs.RowFronts.Compared.{longer, shorter}

abbrev bare_row : Bool → TokenRow
bare_row blank_led = record { blank_led = blank_led; tokens = [] }

-- rows are at most one list of entries
bare_entry : {context : Context} {row : TokenRow} {found : Entry} {next : Context} → row.tokens ≡ [] → IsEntry context row found next → ⊥
bare_entry none' is = entry_has_tokens is none'

pub one_list : {context context' : Context} {rows rows' : List TokenRow} {entries entries' : List Entry} {after after' : Context}
    → context ≡ context' → rows ≡ rows' → AreEntries context rows entries after → AreEntries context' rows' entries' after'
    → (entries ≡ entries') × (after ≡ after')
one_list contexts same none none = (refl, contexts)
one_list contexts same none (bare are) = absurd cc
one_list contexts same none (entry is are) = absurd cc
one_list contexts same (bare are) none = absurd cc
one_list contexts same (bare {rows = rows} are) (bare {rows = rows'} also) =
    let behind : rows ≡ rows' = cc in one_list contexts behind are also
one_list contexts same (bare {blank_led = blank_led} are) (entry {row = row} is also) =
    let first : bare_row blank_led ≡ row = cc in
    absurd (bare_entry (sym (ap (λ (r : TokenRow). r.tokens) first)) is)
one_list contexts same (entry is are) none = absurd cc
one_list contexts same (entry {row = row} is are) (bare {blank_led = blank_led} also) =
    let first : row ≡ bare_row blank_led = cc in
    absurd (bare_entry (ap (λ (r : TokenRow). r.tokens) first) is)
one_list {context} {context'} contexts same (entry {row = row} {rows = rows} is are)
    (entry {next = next'} {row = row'} {rows = rows'} {entry = found'} is' also) =
    let first : row ≡ row' = cc in
    let behind : rows ≡ rows' = cc in
    let there : IsEntry context row found' next' =
    subst (λ (c : Context). IsEntry c row found' next') (sym contexts)
    (subst (λ (r : TokenRow). IsEntry context' r found' next') (sym first) is') in
    let one = one_entry is there in
    let rest = one_list one.1 behind are also in
    ((λ i. one.0 i ∷ rest.0 i), rest.1)

-- the entries of the first rows
record Cut (context : Context) (front more : List TokenRow) (after : Context) : Type 0 where
  pub first : List Entry
  pub between : Context
  pub begins : AreEntries context front first between
  pub others : List Entry
  pub goes_on : AreEntries between more others after

add_bare : {context : Context} {row : TokenRow} {front more : List TokenRow} {after : Context} → row.tokens ≡ []
    → Cut context front more after → Cut context (row ∷ front) more after
add_bare {context} {row} {front} none' at = record {
  first = at.first;
  between = at.between;
  begins =
      subst (λ (l : List Token). AreEntries context (record { blank_led = row.blank_led; tokens = l } ∷ front) at.first at.between) (sym none')
      (bare at.begins);
  others = at.others;
  goes_on = at.goes_on;
}

add_entry : {context next : Context} {row : TokenRow} {found : Entry} {front more : List TokenRow} {after : Context}
    → IsEntry context row found next → Cut next front more after → Cut context (row ∷ front) more after
add_entry {found = found} is at = record {
  first = found ∷ at.first;
  between = at.between;
  begins = entry is at.begins;
  others = at.others;
  goes_on = at.goes_on;
}

cut : {context : Context} {rows : List TokenRow} (front : List TokenRow) {more : List TokenRow} {entries : List Entry} {after : Context}
    → rows ≡ front ++ more → AreEntries context rows entries after → Cut context front more after
cut {context} [] {entries = entries} {after = after} is are = record {
  first = [];
  between = context;
  begins = none;
  others = entries;
  goes_on = subst (λ (l : List TokenRow). AreEntries context l entries after) is are;
}
cut (row ∷ front) is none = absurd cc
cut (row ∷ front) {more} is (bare {blank_led = blank_led} {rows = rows} are) =
    let behind : rows ≡ front ++ more = cc in
    let first : bare_row blank_led ≡ row = cc in
    add_bare (sym (ap (λ (r : TokenRow). r.tokens) first)) (cut front behind are)
cut {context} (row ∷ front) {more} is (entry {next = next} {row = row'} {rows = rows} {entry = found} has are) =
    let behind : rows ≡ front ++ more = cc in
    let first : row' ≡ row = cc in
    add_entry (subst (λ (r : TokenRow). IsEntry context r found next) first has) (cut front behind are)

-- a row with tokens that says nothing is not among the rows of entries
abbrev pub SaysNothing : Context → TokenRow → Type 0
SaysNothing context row = (found : Entry) (next : Context) → IsEntry context row found next → ⊥

says_something : {context : Context} {rows : List TokenRow} {row : TokenRow} {more : List TokenRow} {entries : List Entry} {after : Context}
    → rows ≡ row ∷ more → AreEntries context rows entries after → row.tokens ≢ [] → SaysNothing context row → ⊥
says_something same none some nothing = absurd cc
says_something {row = row} same (bare {blank_led = blank_led} are) some nothing =
    let first : bare_row blank_led ≡ row = cc in
    some (sym (ap (λ (r : TokenRow). r.tokens) first))
says_something {context} {row = row} same (entry {next = next} {row = row'} {entry = found} is are) some nothing =
    let first : row' ≡ row = cc in nothing found next (subst (λ (r : TokenRow). IsEntry context r found next) first is)

pub within : {start between after : Context} (rows front more : List TokenRow) {row : TokenRow} {entries others : List Entry}
    → rows ≡ front ++ row ∷ more → AreEntries start rows entries after → AreEntries start front others between → row.tokens ≢ []
    → SaysNothing between row → ⊥
within rows front more {row = row} same all begins some nothing =
    let at = cut front same all in
    let there = (one_list refl refl at.begins begins).1 in
    says_something refl at.goes_on some (λ found next is. nothing found next (subst (λ (c : Context). IsEntry c row found next) there is))

-- rows followed by such a row, and more
pub behind_one : (front : List TokenRow) (row : TokenRow) (more : List TokenRow) → (front ++ row ∷ []) ++ more ≡ front ++ row ∷ more
behind_one front row more = append_assoc front (row ∷ []) more

-- the last of the rows
abbrev IsLastOrInside : List TokenRow → List TokenRow → TokenRow → Type 0
IsLastOrInside rows front row = (rows ≡ front) ⊎ ((more : List TokenRow) × (rows ≡ front ++ row ∷ more))

one_more : (row : TokenRow) {first first' : TokenRow} (rows front : List TokenRow) → first ≡ first' → IsLastOrInside rows front row
    → IsLastOrInside (first ∷ rows) (first' ∷ front) row
one_more row rows front same (inl is) = inl (λ i. same i ∷ is i)
one_more row rows front same (inr is) = inr (is.0, (λ i. same i ∷ is.1 i))

last_or_inside : (rows front : List TokenRow) (row row' : TokenRow) (more : List TokenRow) → rows ++ row ∷ [] ≡ front ++ row' ∷ more
    → IsLastOrInside rows front row'
last_or_inside [] [] row row' more same = inl refl
last_or_inside [] (first ∷ []) row row' more same = absurd cc
last_or_inside [] (first ∷ (second ∷ front)) row row' more same = absurd cc
last_or_inside (first ∷ rows) [] row row' more same = let at : first ≡ row' = cc in inr (rows, λ i. at i ∷ rows)
last_or_inside (first ∷ rows) (first' ∷ front) row row' more same =
    let at : first ≡ first' = cc in
    let behind : rows ++ row ∷ [] ≡ front ++ row' ∷ more = cc in
    one_more row' rows front at (last_or_inside rows front row row' more behind)

-- two rows that fail
refused_same : {start between between' : Context} (rows rows' : List TokenRow) (row row' : TokenRow) (more : List TokenRow) {entries entries' : List Entry}
    → rows ++ row ∷ [] ≡ (rows' ++ row' ∷ []) ++ more → AreEntries start rows entries between → AreEntries start rows' entries' between'
    → row'.tokens ≢ [] → SaysNothing between' row' → entries ≡ entries'
refused_same rows rows' row row' more {entries} {entries'} same are also some nothing =
    by (last_or_inside rows rows' row row' more (same ∙ behind_one rows' row' more))
  where
    by : IsLastOrInside rows rows' row' → entries ≡ entries'
    by (inl is) = (one_list refl is are also).0
    by (inr is) = absurd (within rows rows' is.0 is.1 are also some nothing)

-- The law
pub whole : {start : Context} {text : List ℕ} {entries others : List Entry} → HasEntries start text entries → HasEntries start text others
    → entries ≡ others
whole is also = (one_list refl (sym (one_text is.is_text also.rows also.is_text)) is.are also.are).0

broken_whole : {text : List ℕ} {rows rows' : List TokenRow} {rest : List ℕ} → BeginsWithRows text rows rest → is_end rest ≡ true
    → BreaksAfter text rows' → ⊥
broken_whole {rest = rest} begins ends breaks =
    let all = all_rows begins (λ tokens behind row. no_row_at_end ends row) breaks.begins in
    let here = (none_behind breaks.no_row all.begins).1 in
    let bad : true ≡ false = sym ends ∙ sym (ap is_end here) ∙ breaks.goes_on in cc

pub not_both : {start : Context} {text : List ℕ} {entries others : List Entry} → HasEntries start text entries
    → IsRefusedAfter start text others → ⊥
not_both is (broken breaks are) = broken_whole is.is_text.begins is.is_text.ends breaks
not_both is (no_entry {rows = rows} {row = row} begins are some nothing) =
    let all = all_rows is.is_text.begins (λ tokens behind row. no_row_at_end is.is_text.ends row) begins in
    within is.rows rows all.behind (all.is ∙ behind_one rows row all.behind) is.are are some nothing

one_break : {text : List ℕ} {rows rows' : List TokenRow} → BreaksAfter text rows → BreaksAfter text rows' → rows ≡ rows'
one_break {rows' = rows'} is also =
    let all = all_rows is.begins is.no_row also.begins in
    let none' = (none_behind also.no_row all.begins).0 in
    all.is ∙ ap (λ (l : List TokenRow). rows' ++ l) none' ∙ append-nil rows'

breaks_behind : {start between between' : Context} {text rest : List ℕ} {rows rows' : List TokenRow} {row' : TokenRow}
    {entries entries' : List Entry} → BreaksAfter text rows → AreEntries start rows entries between
    → BeginsWithRows text (rows' ++ row' ∷ []) rest → AreEntries start rows' entries' between' → row'.tokens ≢ [] → SaysNothing between' row' → ⊥
breaks_behind {rows = rows} {rows' = rows'} {row' = row'} breaks are begins also some nothing =
    let all = all_rows breaks.begins breaks.no_row begins in
    within rows rows' all.behind (all.is ∙ behind_one rows' row' all.behind) are also some nothing

pub refused : {start : Context} {text : List ℕ} {entries others : List Entry} → IsRefusedAfter start text entries
    → IsRefusedAfter start text others → entries ≡ others
refused (broken breaks are) (broken breaks' also) = (one_list refl (one_break breaks breaks') are also).0
refused (broken breaks are) (no_entry begins also some nothing) = absurd (breaks_behind breaks are begins also some nothing)
refused (no_entry begins are some nothing) (broken breaks also) = absurd (breaks_behind breaks also begins are some nothing)
refused {start} {entries = entries} {others = others} (no_entry {rows = rows} {row = row} {rest = rest} begins are some nothing)
    (no_entry {rows = rows'} {row = row'} {rest = rest'} begins' also some' nothing') =
    by (compare refl begins begins')
  where
    by : Compared (rows ++ row ∷ []) (rows' ++ row' ∷ []) rest rest' → entries ≡ others
    by (longer behind is begins) = refused_same rows rows' row row' behind is are also some' nothing'
    by (shorter behind is begins) = sym (refused_same rows' rows row' row behind is also are some nothing)
