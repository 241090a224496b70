-- Of two lists of entries at the start of a text, one begins with the other.
use Rattle.std.proofs.Common.{◌≡◌, ◌⊎◌, ℕ, List, [], ◌∷◌, ◌++◌, append-nil, inl, inr, refl, sym, ◌∙◌, ap}
use Rattle.dns_text.specs.Rows.{BeginsWithRows, TokenRow}
use Rattle.dns_text.proofs.OneRow.{no_row_at_end}
use Rattle.dns_zonefile.specs.Entry.{Context, Entry}
use Rattle.dns_zonefile.specs.Entries.{AreEntries, HasEntries, IsRefusedAfter}
use Rattle.dns_zonefile.specs.Entries.IsRefusedAfter.{broken, no_entry}
use Rattle.dns_zonefile.proofs.Lengthened.{parted}
use Rattle.dns_zonefile.proofs.OneList.{behind_one, one_list, within}
use Rattle.dns_zonefile.proofs.RowFronts.{Compared, all_rows, compare}
use Rattle.dns_zonefile.proofs.RowFronts.Compared.{longer, shorter}

-- the text begins with rows that are these entries
pub record BeginsWith (start : Context) (text : List ℕ) (entries : List Entry) : Type 0 where
  pub rows : List TokenRow
  pub rest : List ℕ
  pub after : Context
  pub begins : BeginsWithRows text rows rest
  pub are : AreEntries start rows entries after

abbrev pub IsFront : {X : Type 0} → List X → List X → Type 0
IsFront {X} front all = (more : List X) × (all ≡ front ++ more)

-- a front of a list with a last element is a front of what is before that, or the whole list
pub front_or_whole : {X : Type 0} (before : List X) (last : X) (front more : List X) → before ++ last ∷ [] ≡ front ++ more
    → IsFront front before ⊎ (front ≡ before ++ last ∷ [])
front_or_whole before last [] more same = inl (before, refl)
front_or_whole [] last (x ∷ []) more same = let first : x ≡ last = cc in inr (λ i. first i ∷ [])
front_or_whole [] last (x ∷ (y ∷ front)) more same = absurd cc
front_or_whole {X} (b ∷ before) last (x ∷ front) more same =
    let first : b ≡ x = cc in
    let behind : before ++ last ∷ [] ≡ front ++ more = cc in
    elim (front_or_whole before last front more behind) [
      | inl is ↦ inl (is.0, λ i. first i ∷ is.1 i)
      | inr is ↦ inr (λ i. sym first i ∷ is i)
    ]

-- the entries of the first rows are the first entries
first_entries : {start between after : Context} {rows others : List TokenRow} (behind : List TokenRow) {all entries : List Entry} → rows ≡ others ++ behind
    → AreEntries start rows all after → AreEntries start others entries between → IsFront entries all
first_entries {others = others} behind same all are =
    let at = parted others same all in
    (at.behind, at.is ∙ ap (λ (l : List Entry). l ++ at.behind) (one_list refl refl at.begins are).0)

pub comparable : {start : Context} {text : List ℕ} {entries others : List Entry} → BeginsWith start text entries
    → BeginsWith start text others → IsFront entries others ⊎ IsFront others entries
comparable {entries = entries} {others = others} is also = by (compare refl is.begins also.begins)
  where
    by : Compared is.rows also.rows is.rest also.rest → IsFront entries others ⊎ IsFront others entries
    by (longer behind same begins) = inr (first_entries behind same is.are also.are)
    by (shorter behind same begins) = inl (first_entries behind same also.are is.are)

pub within_whole : {start : Context} {text : List ℕ} {all entries : List Entry} → HasEntries start text all
    → BeginsWith start text entries → IsFront entries all
within_whole has is =
    let rows = all_rows has.is_text.begins (λ tokens behind row. no_row_at_end has.is_text.ends row) is.begins in
    first_entries rows.behind rows.is has.are is.are

-- an entry that fails is in no list of entries
pub within_refused : {start : Context} {text : List ℕ} {all entries : List Entry} → IsRefusedAfter start text all
    → BeginsWith start text entries → IsFront entries all
within_refused (broken breaks are) is =
    let rows = all_rows breaks.begins breaks.no_row is.begins in first_entries rows.behind rows.is are is.are
within_refused {all = all} {entries = entries} (no_entry {rows = rows} {row = row} {rest = rest} begins are some nothing) is =
    by (compare refl begins is.begins)
  where
    inside : (behind : List TokenRow) → is.rows ≡ (rows ++ row ∷ []) ++ behind → IsFront entries all
    inside behind same = absurd (within is.rows rows behind (same ∙ behind_one rows row behind) is.are are some nothing)

    by : Compared (rows ++ row ∷ []) is.rows rest is.rest → IsFront entries all
    by (shorter behind same begins) = inside behind same
    by (longer behind same begins) = elim (front_or_whole rows row is.rows behind same) [
      | inl front ↦ first_entries front.0 front.1 are is.are
      | inr whole ↦ inside [] (whole ∙ sym (append-nil (rows ++ row ∷ [])))
    ]
