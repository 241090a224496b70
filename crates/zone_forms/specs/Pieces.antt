-- Texts that come in pieces, and go to another form row by row.
use Rattle.std.specs.Prelude.{◌≡◌, ◌+◌, ◌^◌, ◌<◌, ℕ, List, ◌++◌, None, Option, length}
use Rattle.dns_text.specs.Layout.{layout_of}
use Rattle.dns_text.specs.Rows.{TokenRow}
use Rattle.dns_entry_scanner.specs.RowFound.{NoRow}
use Rattle.dns_zonefile.specs.Entry.{Context, Entry}
use Rattle.dns_entry_scanner.specs.Lines.{line_behind}
use Rattle.zone_forms.specs.Presented.{GoesPresented, IsGeneralOf, IsPresentedOf}
use Rattle.zone_forms.specs.Refused.{FailsInLine}
use Rattle.zone_general.specs.Rewritten.{GoesGeneral}
use Rattle.zone_forms.specs.Going.{HasGone}
use Rattle.zone_general.specs.Seen.{context_in}
use Rattle.zone_forms.specs.declared.error.FormError.{FormError}
use Rattle.zone_forms.specs.declared.rewriter.Form.{Form}
use Rattle.zone_forms.specs.declared.rewriter.Form.TheVariants.{General, Presentation}
use Rattle.zone_forms.specs.declared.rewriter.Rewriter.{Rewriter}

-- how a row with tokens and what it goes to are related in the form
abbrev pub goes_in : Form → Context → TokenRow → List ℕ → List ℕ → Entry → Context → Type 0
goes_in General = GoesGeneral
goes_in (Presentation kind) = GoesPresented (layout_of kind)

-- the new text is the text in the form
abbrev pub IsInForm : Form → Context → List ℕ → List ℕ → Type 0
IsInForm General start text new = IsGeneralOf start text new
IsInForm (Presentation kind) start text new = IsPresentedOf (layout_of kind) start text new

-- what has come behind the last row that is whole
abbrev pub waiting_in : Rewriter → List ℕ
waiting_in rewriter = rewriter.pending.items

-- the error after which no more is taken
abbrev pub failed_in : Rewriter → Option FormError
failed_in rewriter = rewriter.failed

-- The rewriter has taken the text: its rows have gone to these octets, and what waits behind them begins with no row.
pub record HasTaken (Goes : Context → TokenRow → List ℕ → List ℕ → Entry → Context → Type 0) (start : Context) (text out : List ℕ)
    (rewriter : Rewriter) : Type 0 where
  pub front : List ℕ
  pub whole : text ≡ front ++ waiting_in rewriter
  pub gone : HasGone Goes start front out (context_in rewriter.reader)
  pub no_row : NoRow (waiting_in rewriter)
  pub feeds : length front < 2 ^ 64 → rewriter.feeds + 1 ≡ line_behind front

-- The rewriter for this form has taken the text, and has not failed.
pub record HasRewritten (form : Form) (start : Context) (text out : List ℕ) (rewriter : Rewriter) : Type 0 where
  pub form_is : rewriter.form ≡ form
  pub sound : failed_in rewriter ≡ None
  pub taken : HasTaken (goes_in form) start text out rewriter

-- The rewriter takes the piece too, whatever it has taken before, and appends what the rows go to that are whole with it.
pub record GoesOn (Has : Context → List ℕ → List ℕ → Rewriter → Type 0) (old : Rewriter) (piece : List ℕ) (new : Rewriter)
    (before after : List ℕ) : Type 0 where
  pub others : List ℕ
  pub appended : after ≡ before ++ others
  pub goes : (start : Context) (text out : List ℕ) → Has start text out old → Has start (text ++ piece) (out ++ others) new

-- What the rewriter has taken fails with the piece in this line, whatever comes behind it.
abbrev pub Refuses : (Context → List ℕ → List ℕ → Rewriter → Type 0) → Rewriter → List ℕ → ℕ → Type 0
Refuses Has old piece line =
    (start : Context) (text out rest : List ℕ) → Has start text out old → length (text ++ piece) < 2 ^ 64
    → FailsInLine start ((text ++ piece) ++ rest) line
