-- Texts that go to others, row by row.
use Rattle.std.specs.Prelude.{◌≡◌, ◌≢◌, ◌+◌, ◌^◌, ◌<◌, ◌≤◌, ℕ, true, List, [], ◌∷◌, ◌++◌, length, take}
use Rattle.dns_text.specs.Rows.{TokenRow}
use Rattle.dns_text.specs.Tokens.{is_end}
use Rattle.dns_zonefile.specs.Entry.{Context, Entry}
use Rattle.dns_entry_scanner.specs.Lines.{line_behind}
use Rattle.zone_general.specs.LongerEntries.{IsLongerEntry}
use Rattle.zone_general.specs.Rewritten.{AreRow}
use Rattle.zone_forms.specs.Refused.{FailsInLine}

-- The text goes to the other, row by row, each row with its entry as the relation says, in the context of the entries before it. Rows
-- without tokens stay, and so does the end of the text behind its last row.
pub data GoesTo (Goes : Context → TokenRow → List ℕ → List ℕ → Entry → Context → Type 0)
    : Context → List ℕ → List ℕ → List Entry → Context → Type 0 where
  ended : {context : Context} {rest : List ℕ} → is_end rest ≡ true → GoesTo Goes context rest rest [] context
  bare : {context after : Context} {text new : List ℕ} {row : TokenRow} {entries : List Entry} (octets : List ℕ) → AreRow octets row
      → row.tokens ≡ [] → GoesTo Goes context text new entries after → GoesTo Goes context (octets ++ text) (octets ++ new) entries after
  more : {context next after : Context} {text new : List ℕ} {row : TokenRow} {entry : Entry} {entries : List Entry} (octets others : List ℕ)
      → AreRow octets row → row.tokens ≢ [] → Goes context row octets others entry next
      → GoesTo Goes next text new entries after → GoesTo Goes context (octets ++ text) (others ++ new) (entry ∷ entries) after

-- what a row goes to: the same if it has no tokens, and else octets for its entry, as the relation says
pub data RowGoes (Goes : Context → TokenRow → List ℕ → List ℕ → Entry → Context → Type 0) (context : Context) (row : TokenRow)
    (octets others : List ℕ) (after : Context) : Type 0 where
  bare : row.tokens ≡ [] → after ≡ context → others ≡ octets → RowGoes Goes context row octets others after
  entry : {entry : Entry} → row.tokens ≢ [] → IsLongerEntry context row entry after → Goes context row octets others entry after
      → RowGoes Goes context row octets others after

-- The front of a text is rows, which have gone to these octets, each in the context of the rows before it.
pub data HasGone (Goes : Context → TokenRow → List ℕ → List ℕ → Entry → Context → Type 0) (start : Context)
    : List ℕ → List ℕ → Context → Type 0 where
  none : HasGone Goes start [] [] start
  more : {front out octets others : List ℕ} {row : TokenRow} {context after : Context} → HasGone Goes start front out context
      → AreRow octets row → RowGoes Goes context row octets others after → HasGone Goes start (front ++ octets) (out ++ others) after

-- the rows before the place have gone to what was appended
pub record GoesUpTo (Goes : Context → TokenRow → List ℕ → List ℕ → Entry → Context → Type 0) (context : Context) (text : List ℕ) (place : ℕ)
    (after : Context) (old new : List ℕ) : Type 0 where
  pub within : place ≤ length text
  pub others : List ℕ
  pub appended : new ≡ old ++ others
  pub gone : HasGone Goes context (take place text) others after

-- Behind a front with this number of line feeds that has gone, the text fails in this line. Front and octets that were read are not too
-- many to be counted.
abbrev pub FailsBehind : (Context → TokenRow → List ℕ → List ℕ → Entry → Context → Type 0) → Context → ℕ → ℕ → List ℕ → ℕ → Type 0
FailsBehind Goes context feeds read text line =
    (start : Context) (front out : List ℕ) → HasGone Goes start front out context → feeds + 1 ≡ line_behind front
    → length front + read < 2 ^ 64 → FailsInLine start (front ++ text) line
