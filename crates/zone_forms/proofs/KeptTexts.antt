-- A text that reads by zonewire's grammar is its own general form.
use Rattle.std.proofs.Common.{◌≡◌, ◌≢◌, ℕ, List, [], ◌∷◌, ◌++◌, refl, sym, ◌∙◌, ap, subst}
use Rattle.dns_text.specs.Rows.{BeginsWithRows, IsText, TokenRow}
use Rattle.dns_text.proofs.OneRow.{one_text}
use Rattle.dns_zonefile.specs.Entries.{AreEntries, HasEntries}
use Rattle.dns_zonefile.specs.Entries.AreEntries.{none, bare, entry}
use Rattle.dns_zonefile.specs.Entry.{Context, Entry, IsEntry}
use Rattle.dns_zonefile.proofs.Going.{begins-on}
use Rattle.dns_zonefile.proofs.OneEntry.{entry_has_tokens, one_entry}
use Rattle.zone_general.specs.LongerRow.{Stands}
use Rattle.zone_forms.specs.Presented.{IsGeneralOf}
use Rattle.zone_general.specs.Rewritten.{GoesGeneral, IsWrittenAs}
use Rattle.zone_forms.specs.Going.{GoesTo}
use Rattle.zone_forms.specs.Going.GoesTo.{ended, more}
use Rattle.zone_forms.specs.Going.GoesTo.{bare as goes_bare}
use Rattle.zone_general.specs.Rewritten.IsWrittenAs.{same, further}
use Rattle.zone_general.proofs.RewrittenParts.{row_begins}
use Rattle.zone_forms.proofs.StandingRows.{entry_stands}
use Rattle.zone_general.proofs.WrittenRows.{standing_entry}

-- the first of the rows with entries
record First (context : Context) (row : TokenRow) (rows : List TokenRow) (after : Context) : Type 0 where
  found : Entry
  next : Context
  is : IsEntry context row found next
  others : List Entry
  are : AreEntries next rows others after

first_entry : {context after : Context} {row : TokenRow} {rows all : List TokenRow} {entries : List Entry} → all ≡ row ∷ rows → row.tokens ≢ []
    → AreEntries context all entries after → First context row rows after
first_entry whole some none = absurd cc
first_entry {row = row} whole some (bare {blank_led = blank_led} are) =
    let first : ◌≡◌ {A = TokenRow} (record { blank_led = blank_led; tokens = [] }) row = cc in absurd (some (sym (ap (λ (r : TokenRow). r.tokens) first)))
first_entry {context} {after} {row} {rows} whole some (entry {next = next} {row = row'} {rows = rows'} {entry = found} {entries = others} is are) =
    let first : row' ≡ row = cc in
    let behind : rows' ≡ rows = cc in record {
      found = found;
      next = next;
      is = subst (λ (r : TokenRow). IsEntry context r found next) first is;
      others = others;
      are = subst (λ (l : List TokenRow). AreEntries next l others after) behind are;
    }

behind_bare : {context after : Context} {row : TokenRow} {rows all : List TokenRow} {entries : List Entry} → all ≡ row ∷ rows → row.tokens ≡ []
    → AreEntries context all entries after → AreEntries context rows entries after
behind_bare whole empty none = absurd cc
behind_bare {context} {after} {rows = rows} {entries = entries} whole empty (bare {rows = rows'} are) =
    let behind : rows' ≡ rows = cc in subst (λ (l : List TokenRow). AreEntries context l entries after) behind are
behind_bare {row = row} whole empty (entry {row = row'} is are) =
    let first : row' ≡ row = cc in absurd (entry_has_tokens is (ap (λ (r : TokenRow). r.tokens) first ∙ empty))

written_kept : {row general : TokenRow} {octets new : List ℕ} → Stands row → IsWrittenAs row general octets new → new ≡ octets
written_kept stands (same is) = refl
written_kept stands (further other content not is are rewrites) = absurd (not stands)

-- a text with its rows, which stays if they are entries
record Kept (start : Context) (text new : List ℕ) : Type 0 where
  rows : List TokenRow
  is_text : IsText text rows
  stays : (entries : List Entry) (after : Context) → AreEntries start rows entries after → new ≡ text

one_more : {start next : Context} {text new octets other : List ℕ} {row : TokenRow} → BeginsWithRows (octets ++ text) (row ∷ []) text → Kept next text new
    → ((rows : List TokenRow) → (entries : List Entry) (after : Context) → AreEntries start (row ∷ rows) entries after
    → (other ≡ octets) × (others : List Entry) × AreEntries next rows others after) → Kept start (octets ++ text) (other ++ new)
one_more {row = row} begins behind each = record {
  rows = row ∷ behind.rows;
  is_text = record { rest = behind.is_text.rest; begins = begins-on begins behind.is_text.begins; ends = behind.is_text.ends };
  stays = λ entries after are.
      let first = each behind.rows entries after are in
      let others = behind.stays first.1 after first.2 in
      λ i. first.0 i ++ others i;
}

kept : {start after : Context} {text new : List ℕ} {entries : List Entry} → GoesTo GoesGeneral start text new entries after → Kept start text new
kept (ended {rest = rest} ends) =
    record { rows = []; is_text = record { rest = rest; begins = BeginsWithRows.none; ends = ends }; stays = λ entries after are. refl }
kept (goes_bare {text = text} octets is empty goes) =
    one_more (row_begins is text) (kept goes) (λ rows entries after are. (refl, entries, behind_bare refl empty are))
kept (more {context = context} {next = next} {text = text} {row = row} {entry = its} octets other is some told goes) =
    one_more (row_begins is text) (kept goes)
    (λ rows entries after are.
    let first = first_entry refl some are in
    let stands = entry_stands first.is in
    let so : IsEntry context row its next = standing_entry stands (record { general = told.general; is = told.is; so = told.so }) in (
      written_kept stands told.written,
      first.others,
      subst (λ (c : Context). AreEntries c rows first.others after) (one_entry first.is so).1 first.are,
    ))

-- The law
pub text_stays : {start : Context} {text new : List ℕ} {entries : List Entry} → IsGeneralOf start text new → HasEntries start text entries → new ≡ text
text_stays {start} {entries = entries} is has =
    let all = kept is.goes in
    all.stays entries has.after
    (subst (λ (l : List TokenRow). AreEntries start l entries has.after) (one_text all.is_text has.rows has.is_text) has.are)
