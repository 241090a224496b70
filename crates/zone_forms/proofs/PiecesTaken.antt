-- A text that comes in pieces, and what a rewriter has of it.
use Rattle.std.proofs.Common.{◌≡◌, ◌+◌, ◌<◌, ◌≤◌, ◌^◌, ◌++◌, ◌∙◌, ℕ, true, false, None, List, [], ◌∷◌, length, take, drop, refl, subst, sym, ap, append_assoc, arith, length-append, take-append-drop}
use Rattle.dns_text.specs.Tokens.{is_end}
use Rattle.dns_text.proofs.OneRow.{no_row_at_end}
use Rattle.dns_entry_scanner.specs.RowFound.{IsFoundAt, NoRow}
use Rattle.dns_entry_scanner.specs.declared.row.RowFound.{RowFound}
use Rattle.dns_entry_scanner.specs.declared.row.RowFound.TheVariants.{Broken, End}
use Rattle.dns_entry_scanner.specs.declared.row.RowFound.TheVariants.{Row as Found}
use Rattle.dns_entry_scanner.specs.declared.token_span.TokenSpan.{TokenSpan}
use Rattle.dns_entry_scanner.proofs.MarkedLines.{lines-few}
use Rattle.dns_zonefile.specs.Entry.{Context, Entry}
use Rattle.dns_entry_scanner.specs.Lines.{line_at, line_behind}
use Rattle.zone_forms.proofs.GoingOn.{counted_line, fails_broken, gone_end, gone_then}
use Rattle.zone_forms.proofs.GoneTexts.{Told, general_gone, presented_gone}
use Rattle.zone_forms.specs.Pieces.{GoesOn, HasRewritten, HasTaken, IsInForm, Refuses, goes_in}
use Rattle.zone_forms.specs.Refused.{FailsInLine}
use Rattle.zone_forms.specs.Going.{GoesTo, GoesUpTo, HasGone}
use Rattle.zone_general.specs.Seen.{context_in}
use Rattle.zone_forms.specs.declared.rewriter.Form.{Form}
use Rattle.zone_forms.specs.declared.rewriter.Form.TheVariants.{General, Presentation}
use Rattle.zone_forms.specs.declared.rewriter.Rewriter.{Rewriter}

-- the rows up to the place have gone, and the rest waits
pub taken_on : {Goes : Told} {old new : Rewriter} {piece pending before after : List ℕ} {place : ℕ} → pending ≡ old.pending.items ++ piece
    → GoesUpTo Goes (context_in old.reader) pending place (context_in new.reader) before after → NoRow (drop place pending)
    → new.pending.items ≡ drop place pending
    → (old.feeds + line_at pending place ≤ 2 ^ 64 → new.feeds + 1 ≡ old.feeds + line_at pending place)
    → GoesOn (HasTaken Goes) old piece new before after
taken_on {Goes} {old} {new} {piece} {pending} {place = place} came going no_row left counted = record {
  others = going.others;
  appended = going.appended;
  goes = λ start text out has.
      let front = take place pending in record {
        front = has.front ++ front;
        whole = ap (λ (l : List ℕ). l ++ piece) has.whole ∙ append_assoc has.front old.pending.items piece
            ∙ ap (λ (l : List ℕ). has.front ++ l) (sym came ∙ sym (take-append-drop place pending) ∙ ap (λ (l : List ℕ). front ++ l) (sym left))
            ∙ sym (append_assoc has.front front new.pending.items);
        gone = gone_then has.gone going.gone;
        no_row = subst NoRow (sym left) no_row;
        feeds = λ few.
            let count = length-append has.front front in
            let before = has.feeds (omega (arith, few, count)) in
            let line = counted_line old.feeds has.front front before in
            counted (omega (arith, few, line, lines-few (has.front ++ front))) ∙ sym line;
      };
}

-- the same for a rewriter with a form
pub rewritten_on : {old new : Rewriter} {piece before after : List ℕ} (form : Form) → old.form ≡ form → new.form ≡ old.form → new.failed ≡ old.failed
    → GoesOn (HasTaken (goes_in form)) old piece new before after → (wanted : Form) → GoesOn (HasRewritten wanted) old piece new before after
rewritten_on {old} {new} {piece} form is same failed on wanted = record {
  others = on.others;
  appended = on.appended;
  goes = λ start text out has.
      let one : form ≡ wanted = sym is ∙ has.form_is in
      let before = subst (λ (f : Form). HasTaken (goes_in f) start text out old) (sym one) has.taken in record {
        form_is = same ∙ has.form_is;
        sound = failed ∙ has.sound;
        taken = subst (λ (f : Form). HasTaken (goes_in f) start (text ++ piece) (out ++ on.others) new) one (on.goes start text out before);
      };
}

pub rewritten_refuses : {old : Rewriter} {piece : List ℕ} {line : ℕ} (form : Form) → old.form ≡ form → Refuses (HasTaken (goes_in form)) old piece line
    → (wanted : Form) → Refuses (HasRewritten wanted) old piece line
rewritten_refuses {old} form is refuses wanted start text out rest has few =
    let one : form ≡ wanted = sym is ∙ has.form_is in
    refuses start text out rest (subst (λ (f : Form). HasTaken (goes_in f) start text out old) (sym one) has.taken) few

-- the end of a text
in_form : (form : Form) {start after : Context} {text new : List ℕ} {entries : List Entry} → GoesTo (goes_in form) start text new entries after
    → IsInForm form start text new
in_form General goes = general_gone goes
in_form (Presentation kind) goes = presented_gone goes

pub rewritten_end : {rewriter : Rewriter} → is_end rewriter.pending.items ≡ true → (form : Form) (start : Context) (text out : List ℕ)
    → HasRewritten form start text out rewriter → IsInForm form start text (out ++ rewriter.pending.items)
rewritten_end {rewriter} ends form start text out has =
    let taken = has.taken in
    let goes = gone_end taken.gone rewriter.pending.items ends in
    subst (λ (l : List ℕ). IsInForm form start l (out ++ rewriter.pending.items)) (sym taken.whole) (in_form form goes.1)

-- there is no row, and no end
goes_on : (text : List ℕ) (spans : List TokenSpan) (found : RowFound) → IsFoundAt text 0 spans found → (found ≡ End → ⊥) → NoRow text
    → is_end text ≡ false
goes_on text spans (Found next blank_led) is not none = absurd (none _ _ is.row)
goes_on text spans End is not none = absurd (not refl)
goes_on text spans Broken is not none = is.0

some_left : (text : List ℕ) → is_end text ≡ false → 0 < length text
some_left [] goes_on = absurd cc
some_left (octet ∷ text) goes_on = omega arith

pub rewritten_fails : {rewriter : Rewriter} {line : ℕ} (spans : List TokenSpan) (found : RowFound) → IsFoundAt rewriter.pending.items 0 spans found
    → (found ≡ End → ⊥) → (rewriter.feeds + 1 < 2 ^ 64 → line ≡ rewriter.feeds + 1) → (form : Form) (start : Context) (text out : List ℕ)
    → HasRewritten form start text out rewriter → length text < 2 ^ 64 → FailsInLine start text line
rewritten_fails {rewriter} {line} spans found is not told form start text out has few =
    let taken = has.taken in
    let on = goes_on rewriter.pending.items spans found is not taken.no_row in
    let count : length text ≡ length taken.front + length rewriter.pending.items =
    ap (length {A = ℕ}) taken.whole ∙ length-append taken.front rewriter.pending.items in
    let counted = taken.feeds (omega (arith, few, count)) in
    let some : 0 < length rewriter.pending.items = some_left rewriter.pending.items on in
    let number : line ≡ line_behind taken.front = told (omega (arith, few, count, some, counted, lines-few taken.front)) ∙ counted in
    subst (λ (l : List ℕ). FailsInLine start l line) (sym taken.whole)
    (subst (λ (n : ℕ). FailsInLine start (taken.front ++ rewriter.pending.items) n) (sym number) (fails_broken taken.gone rewriter.pending.items on taken.no_row))

-- the start of a text
pub rewritten_start : (rewriter : Rewriter) {start : Context} → rewriter.failed ≡ None → rewriter.pending.items ≡ [] → rewriter.feeds ≡ 0
    → context_in rewriter.reader ≡ start → HasRewritten rewriter.form start [] [] rewriter
rewritten_start rewriter {start} sound empty none same = record {
  form_is = refl;
  sound = sound;
  taken = record {
    front = [];
    whole = sym empty;
    gone = subst (λ (context : Context). HasGone (goes_in rewriter.form) start [] [] context) (sym same) HasGone.none;
    no_row = subst NoRow (sym empty) (λ tokens rest row. no_row_at_end refl row);
    feeds = λ few. ap (λ n. n + 1) none;
  };
}
