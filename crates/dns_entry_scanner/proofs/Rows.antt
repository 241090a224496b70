-- Rows, token by token, and the end of a text.
use Rattle.std.proofs.Common.{◌≡◌, ◌==◌, ℕ, ◌+◌, ◌<◌, ◌≤◌, Bool, true, false, List, [], ◌∷◌, ◌++◌, length, map, drop, get_or, Option, Some, None, if◌then◌else◌, not, refl, sym, ◌∙◌, ap, subst, arith, append_assoc, length-append}
use Rattle.std.proofs.lemmas.List.{append-nil, drop_more, length-drop}
use Rattle.std.specs.Prelude.{All}
use Rattle.std.proofs.lemmas.List.Elements.{All-nil, All-push}
use Rattle.std.proofs.lemmas.Bool.Decides.{Decides-eqb}
use Rattle.dns_scan.specs.Token.{Token}
use Rattle.dns_text.specs.Rows.{is_led}
use Rattle.dns_text.specs.Tokens.{Next, Row, from_feed, has_feed, is_end}
use Rattle.dns_text.specs.Tokens.Next.{ended, goes, comment, quoted, unquoted}
use Rattle.dns_text.specs.Tokens.Row.{end, token}
use Rattle.dns_entry_scanner.specs.BegunRow.{BegunRow}
use Rattle.dns_entry_scanner.specs.Gap.{end_in}
use Rattle.dns_entry_scanner.specs.RowFound.{AreNext, IsRowAt, NoRow}
use Rattle.dns_entry_scanner.specs.RowFound.AreNext.{ended as last_next, token as later}
use Rattle.dns_entry_scanner.specs.TokenSpan.{IsMarked, NoNext, token_in}
use Rattle.dns_entry_scanner.specs.declared.token_span.TokenSpan.{TokenSpan}
use Rattle.dns_entry_scanner.proofs.Steps.{SameNext, one_next}

-- the rest is shorter
feed_shorter : (octet : ℕ) (text : List ℕ) (feed : Bool) → length (from_feed text) ≤ length text
    → length (if feed then octet ∷ text else from_feed text) ≤ length (octet ∷ text)
feed_shorter octet text true behind = omega arith
feed_shorter octet text false behind = omega (arith, behind)

length-from_feed : (text : List ℕ) → length (from_feed text) ≤ length text
length-from_feed [] = omega arith
length-from_feed (octet ∷ text) = feed_shorter octet text (octet == 10) (length-from_feed text)

pub next_shorter : {inside : Bool} {text : List ℕ} {found : Option Token} {out : Bool} {rest : List ℕ} → Next inside text found out rest
    → length rest < length text
next_shorter (ended octet head) = omega arith
next_shorter (goes octet behind head next) = omega (arith, next_shorter next)
next_shorter (comment {text = text} octet head next) = omega (arith, next_shorter next, length-from_feed text)
next_shorter (quoted {front = front} {rest = rest} octet head run) =
    omega (arith, ap (length {A = ℕ}) run.whole, length-append front (34 ∷ rest))
next_shorter (unquoted {front = front} {rest = rest} octet head run some) =
    omega (arith, ap (length {A = ℕ}) run.whole, length-append front rest, some)

pub row_shorter : {inside : Bool} {text rest : List ℕ} {tokens : List Token} → Row inside text tokens rest → length rest < length text
row_shorter (end next) = next_shorter next
row_shorter (token out left next others) = omega (arith, next_shorter next, row_shorter others)

-- the row after its first token
row_behind : {inside out : Bool} {text left rest : List ℕ} {found : Token} {tokens : List Token} → Next inside text (Some found) out left
    → Row inside text tokens rest → (others : List Token) × Row out left others rest
row_behind {found = found} first (end {rest = rest} next) =
    let bad = (one_next first None false rest next).founds in absurd cc
row_behind {out = out} {left = left} {rest = rest} first (token {found = found'} {others = others} out' left' next row) =
    let same = one_next first (Some found') out' left' next in
    (others, subst (λ (b : Bool). Row b left others rest) (sym same.outs) (subst (λ (l : List ℕ). Row out' l others rest) (sym same.rests) row))

tokens_more : (text : List ℕ) (spans : List TokenSpan) (span : TokenSpan) (others : List Token)
    → map (λ s. token_in text s) (spans ++ span ∷ []) ++ others ≡ map (λ s. token_in text s) spans ++ (token_in text span ∷ others)
tokens_more text [] span others = refl
tokens_more text (first ∷ spans) span others = ap (λ l. token_in text first ∷ l) (tokens_more text spans span others)

pub held_more : {text : List ℕ} {start place behind : ℕ} {spans all : List TokenSpan} {inside out : Bool} (span : TokenSpan)
    → BegunRow text start spans inside place → Next inside (drop place text) (Some (token_in text span)) out (drop behind text)
    → behind ≡ end_in text span → IsMarked text span → all ≡ spans ++ span ∷ [] → BegunRow text start all out behind
held_more {text} {start} {place} {behind} {spans} {all} {inside} {out} span held next place_is marked is =
    let here : Next inside (drop place text) (Some (token_in text span)) out (drop (end_in text span) text) =
    subst (λ (n : ℕ). Next inside (drop place text) (Some (token_in text span)) out (drop n text)) place_is next in
    let more : BegunRow text start (spans ++ span ∷ []) out (end_in text span) = record {
      on = λ others rest row. subst (λ (l : List Token). Row false (drop start text) l rest) (sym (tokens_more text spans span others))
          (held.on (token_in text span ∷ others) rest (token out (drop (end_in text span) text) here row));
      back = λ tokens rest row. let left_row = held.back tokens rest row in row_behind here left_row.1;
      placed = λ others next are. subst (λ (l : List TokenSpan). AreNext text false start l next) (sym (append_assoc spans (span ∷ []) others))
          (held.placed (span ∷ others) next (later here are));
      marked = All-push (IsMarked text) spans span held.marked marked;
    } in
    subst (λ (l : List TokenSpan). BegunRow text start l out behind) (sym is)
    (subst (λ (n : ℕ). BegunRow text start (spans ++ span ∷ []) out n) (sym place_is) more)

-- a row ends outside parentheses
ends_outside : {inside out : Bool} {text rest : List ℕ} → Next inside text None out rest → out ≡ false
ends_outside (ended octet head) = refl
ends_outside (goes octet behind head next) = ends_outside next
ends_outside (comment octet head next) = ends_outside next

pub held_last : {text : List ℕ} {start place next : ℕ} {spans : List TokenSpan} {inside out blank_led : Bool} → BegunRow text start spans inside place
    → Next inside (drop place text) None out (drop next text) → next ≤ length text → blank_led ≡ is_led (drop start text)
    → IsRowAt text start spans next blank_led
held_last {text} {start} {place} {next} {spans} {inside} {out} held ends within leads =
    let tokens = map (λ span. token_in text span) spans in
    let last : Next inside (drop place text) None false (drop next text) =
    subst (λ (b : Bool). Next inside (drop place text) None b (drop next text)) (ends_outside ends) ends in
    let row : Row false (drop start text) tokens (drop next text) =
    subst (λ (l : List Token). Row false (drop start text) l (drop next text)) (append-nil tokens) (held.on [] (drop next text) (end last)) in record {
      row = row;
      placed = subst (λ (l : List TokenSpan). AreNext text false start l next) (append-nil spans) (held.placed [] next (last_next last));
      marked = held.marked;
      leads = leads;
      behind = omega (arith, row_shorter row, length-drop start text, length-drop next text);
      within = within;
    }

none_of_row : {inside : Bool} {text rest : List ℕ} {tokens : List Token} → NoNext inside text → Row inside text tokens rest → ⊥
none_of_row none (end next) = none _ _ _ next
none_of_row none (token out left next others) = none _ _ _ next

pub held_broken : {text : List ℕ} {start place : ℕ} {spans : List TokenSpan} {inside : Bool} → BegunRow text start spans inside place
    → NoNext inside (drop place text) → NoRow (drop start text)
held_broken held none tokens rest row = let left_row = held.back tokens rest row in none_of_row none left_row.1

end_feed : (octet : ℕ) (text : List ℕ) (feed : Bool) → (octet == 10) ≡ feed → not (has_feed text) ≡ is_end (from_feed text)
    → not (if feed then true else has_feed text) ≡ is_end (if feed then octet ∷ text else from_feed text)
end_feed octet text true is behind =
    let e : 10 ≡ octet = sym ((Decides-eqb octet 10).0 is) in
    subst (λ (n : ℕ). false ≡ is_end (n ∷ text)) e refl
end_feed octet text false is behind = behind

end_behind_comment : (text : List ℕ) → not (has_feed text) ≡ is_end (from_feed text)
end_behind_comment [] = refl
end_behind_comment (octet ∷ text) = end_feed octet text (octet == 10) refl (end_behind_comment text)

pub end_at_comment : (text : List ℕ) (place stop : ℕ) → place < length text → get_or text place 0 ≡ 59
    → drop stop text ≡ from_feed (drop (place + 1) text) → is_end (drop place text) ≡ is_end (drop stop text)
end_at_comment text place stop within is feed =
    ap is_end (drop_more text place 0 within) ∙ ap (λ (n : ℕ). is_end (n ∷ drop (place + 1) text)) is
    ∙ end_behind_comment (drop (place + 1) text) ∙ ap is_end (sym feed)

are_from : {text : List ℕ} {inside : Bool} {place place' next : ℕ} {spans : List TokenSpan} → drop place text ≡ drop place' text
    → AreNext text inside place spans next → AreNext text inside place' spans next
are_from {text} {inside} {next = next} same (last_next ends) = last_next (subst (λ (l : List ℕ). Next inside l None false (drop next text)) same ends)
are_from {text} {inside} same (later {out = out} {span = span} first others) =
    later (subst (λ (l : List ℕ). Next inside l (Some (token_in text span)) out (drop (end_in text span) text)) same first) others

-- a row that begins with nothing, also behind the end of the text
pub held_none : (text : List ℕ) (start place : ℕ) (spans : List TokenSpan) → spans ≡ [] → drop place text ≡ drop start text
    → BegunRow text start spans false place
held_none text start place spans none same =
    subst (λ (l : List TokenSpan). BegunRow text start l false place) (sym none) (record {
      on = λ others rest row. subst (λ (l : List ℕ). Row false l others rest) same row;
      back = λ tokens rest row. (tokens, subst (λ (l : List ℕ). Row false l tokens rest) (sym same) row);
      placed = λ others next are. are_from same are;
      marked = All-nil (IsMarked text);
    })

-- what is no token
pub none_found : (found : Option TokenSpan) → ((span : TokenSpan) → found ≡ Some span → ⊥) → found ≡ None
none_found None none = refl
none_found (Some span) none = absurd (none span refl)

-- and what is passed over
row_on : {inside inside' : Bool} {left left' rest : List ℕ} {tokens : List Token} → SameNext inside left inside' left'
    → Row inside' left' tokens rest → Row inside left tokens rest
row_on same (end next) = end (same.on _ _ _ next)
row_on same (token out behind next row) = token out behind (same.on _ _ _ next) row

row_back : {inside inside' : Bool} {left left' rest : List ℕ} {tokens : List Token} → SameNext inside left inside' left'
    → Row inside left tokens rest → Row inside' left' tokens rest
row_back same (end next) = end (same.back _ _ _ next)
row_back same (token out behind next row) = token out behind (same.back _ _ _ next) row

next_on : {text : List ℕ} {inside inside' : Bool} {place place' next : ℕ} {spans : List TokenSpan}
    → SameNext inside (drop place text) inside' (drop place' text) → AreNext text inside' place' spans next → AreNext text inside place spans next
next_on same (last_next next) = last_next (same.on _ _ _ next)
next_on same (later next others) = later (same.on _ _ _ next) others

pub held_over : {text : List ℕ} {start place place' : ℕ} {spans : List TokenSpan} {inside inside' : Bool} → BegunRow text start spans inside place
    → SameNext inside (drop place text) inside' (drop place' text) → BegunRow text start spans inside' place'
held_over held same = record {
  on = λ others rest row. held.on others rest (row_on same row);
  back = λ tokens rest row. let at = held.back tokens rest row in (at.0, row_back same at.1);
  placed = λ others next are. held.placed others next (next_on same are);
  marked = held.marked;
}
