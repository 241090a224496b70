-- A text is one list of entries at most by the longer table.
use Rattle.std.proofs.Common.{◌≡◌, Bool, List, [], ◌∷◌, refl, sym, ap, subst, ℕ}
use Rattle.dns_text.specs.Document.{Layout}
use Rattle.dns_text.specs.Rows.{TokenRow}
use Rattle.dns_text.proofs.OneRow.{one_text}
use Rattle.dns_zonefile.specs.Entries.{HasEntries}
use Rattle.dns_zonefile.specs.Entry.{Context, Entry}
use Rattle.zone_general.specs.LongerEntries.{AreLongerEntries, HasLongerEntries, IsLongerEntry}
use Rattle.zone_general.specs.LongerEntries.AreLongerEntries.{none, bare, entry}
use Rattle.zone_forms.specs.Presented.{IsGeneralOf, IsPresentedOf}
use Rattle.zone_forms.proofs.OneLongerEntry.{longer_has_tokens, one_longer}
use Rattle.zone_forms.proofs.StandingRows.{longer}

abbrev bare_row : Bool → TokenRow
bare_row blank_led = record { blank_led = blank_led; tokens = [] }

one_list : {context context' : Context} {rows rows' : List TokenRow} {entries entries' : List Entry} {after after' : Context}
    → context ≡ context' → rows ≡ rows' → AreLongerEntries context rows entries after → AreLongerEntries context' rows' entries' after'
    → entries ≡ entries'
one_list contexts same none none = refl
one_list contexts same none (bare are) = absurd cc
one_list contexts same none (entry is are) = absurd cc
one_list contexts same (bare are) none = absurd cc
one_list contexts same (bare {rows = rows} are) (bare {rows = rows'} also) =
    let behind : rows ≡ rows' = cc in one_list contexts behind are also
one_list contexts same (bare {blank_led = blank_led} are) (entry {row = row} is also) =
    let first : bare_row blank_led ≡ row = cc in absurd (longer_has_tokens is (sym (ap (λ (r : TokenRow). r.tokens) first)))
one_list contexts same (entry is are) none = absurd cc
one_list contexts same (entry {row = row} is are) (bare {blank_led = blank_led} also) =
    let first : row ≡ bare_row blank_led = cc in absurd (longer_has_tokens is (ap (λ (r : TokenRow). r.tokens) first))
one_list {context} {context'} contexts same (entry {row = row} {rows = rows} is are)
    (entry {next = next'} {row = row'} {rows = rows'} {entry = found'} is' also) =
    let first : row ≡ row' = cc in
    let behind : rows ≡ rows' = cc in
    let there : IsLongerEntry context row found' next' =
    subst (λ (c : Context). IsLongerEntry c row found' next') (sym contexts)
    (subst (λ (r : TokenRow). IsLongerEntry context' r found' next') (sym first) is') in
    let one = one_longer is there in
    let rest = one_list one.1 behind are also in
    λ i. one.0 i ∷ rest i

-- The law
pub whole : {start : Context} {text : List ℕ} {entries others : List Entry} → HasLongerEntries start text entries → HasLongerEntries start text others
    → entries ≡ others
whole is also = one_list refl (sym (one_text is.is_text also.rows also.is_text)) is.are also.are

-- what is rewritten twice has the entries that it had
pub general_shown : {layout : Layout} {start : Context} {text general shown : List ℕ} → IsGeneralOf start text general
    → IsPresentedOf layout start general shown → (entries : List Entry) × HasLongerEntries start text entries × HasLongerEntries start shown entries
general_shown {start = start} {shown = shown} is also = (
  is.entries,
  is.read,
  subst (HasLongerEntries start shown) (whole also.read (longer is.written)) also.written,
)

pub shown_general : {layout : Layout} {start : Context} {text shown general : List ℕ} → IsPresentedOf layout start text shown
    → IsGeneralOf start shown general → (entries : List Entry) × HasLongerEntries start text entries × HasEntries start general entries
shown_general {start = start} {general = general} is also =
    (is.entries, is.read, subst (HasEntries start general) (whole also.read is.written) also.written)
