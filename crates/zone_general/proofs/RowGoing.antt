-- A place in the row that was found, and what was appended for the parts before it.
use Rattle.std.proofs.Common.{◌≡◌, ◌⊎◌, inl, inr, Some, ◌+◌, ◌-◌, ◌*◌, ◌<◌, ◌≤◌, ℕ, zero, suc, Bool, true, false, List, [], ◌∷◌, ◌++◌, if◌then◌else◌, get_or, length, min, take, drop, refl, sym, ◌∙◌, ap, subst, arith, append_assoc, append-nil, length-append, length-drop}
use Rattle.std.specs.Prelude.{slice_get}
use Rattle.std.proofs.lemmas.List.{drop_more, length-map}
use Rattle.std.proofs.Math.Seq.{take-append_seam}
use Rattle.dns_entry_scanner.specs.Gap.{end_in, first_of}
use Rattle.dns_entry_scanner.specs.RowFound.{AreNext}
use Rattle.dns_entry_scanner.specs.RowFound.AreNext.{ended, token}
use Rattle.dns_entry_scanner.proofs.Rows.{next_shorter}
use Rattle.dns_entry_scanner.specs.TokenEnd.{between}
use Rattle.dns_entry_scanner.specs.TokenSpan.{token_in}
use Rattle.dns_entry_scanner.specs.declared.token_span.TokenSpan.{TokenSpan}
use Rattle.dns_scan.specs.Token.{Token, unquoted}
use Rattle.zone_general.specs.Parts.{token_octets}
use Rattle.zone_general.specs.Seen.{IsFound, RewritesAt, octets_in, tokens_in}
use Rattle.zone_general.specs.WrittenPart.{GoesOver, place_at, written_none, written_part}
use Rattle.zone_general.specs.declared.found_row.FoundRow.{FoundRow}
use Rattle.zone_general.proofs.RewrittenSteps.{Gone, gone_all, gone_next, gone_none, last_at, length-token_octets, same_front, split_between, written_before, written_type}
use Rattle.zone_general.proofs.RowParts.{cut_token}
use Rattle.zone_general.proofs.RowTypes.{token_at}

-- The place is after the parts that were gone over.
pub record Going (row : FoundRow) (place : ℕ) (word text : List ℕ) (inside : Bool) (behind index : ℕ) (old now : List ℕ) : Type 0 where
  pub within : behind ≤ length row.text.now
  pub gone : Gone (octets_in row) (drop row.next row.text.now) (tokens_in row) place word text inside (drop behind row.text.now) index old now

pub going_none : {row : FoundRow} (place : ℕ) (word text old : List ℕ) → IsFound row → Going row place word text false row.place 0 old old
going_none {row} place word text old found = record {
  within = omega (arith, found.behind, found.within);
  gone = gone_none place word text old found.row (split_between row.text.now row.place row.next (omega (arith, found.behind)));
}

module _ {row : FoundRow} {place : ℕ} {word text : List ℕ} {inside : Bool} {behind index : ℕ} {old now : List ℕ}
    (going : Going row place word text inside behind index old now) where
  count : length (tokens_in row) ≡ length row.spans.now
  count = length-map row.spans.now (λ (s : TokenSpan). token_in row.text.now s)

  -- one more token
  pub going_on : {gap : List ℕ} {out : Bool} {end : ℕ} (over : GoesOver inside (drop behind row.text.now) gap out (drop end row.text.now))
      → end ≤ length row.text.now → (after : List ℕ) → after ≡ now ++ written_part index place word text gap (token_octets over.token)
      → Going row place word text out end (index + 1) old after
  going_on {gap} {end = end} over within after is =
      let rest = drop end row.text.now in
      let step = gone_next going.gone over.next in
      let same : gap ++ (token_octets over.token ++ rest) ≡ step.gap ++ (token_octets over.token ++ rest) =
      sym over.whole ∙ step.is in
      let gap_is : gap ≡ step.gap = same_front gap step.gap (token_octets over.token ++ rest) same in record {
        within = within;
        gone = step.on after (is ∙ ap (λ l. now ++ written_part index place word text l (token_octets over.token)) gap_is);
      }

-- one more place in the text
between_more : (text : List ℕ) (place behind end : ℕ) (gap octets : List ℕ) → place ≤ behind → behind ≤ end
    → drop behind text ≡ gap ++ (octets ++ drop end text) → between place end text ≡ between place behind text ++ (gap ++ octets)
between_more text place behind end gap octets order more whole =
    let front = between place behind text in
    let rest = drop end text in
    same_front (between place end text) (front ++ (gap ++ octets)) rest
    (sym (split_between text place end (omega (arith, order, more))) ∙ split_between text place behind order
    ∙ ap (λ l. front ++ l) (whole ∙ sym (append_assoc gap octets rest)) ∙ sym (append_assoc front (gap ++ octets) rest))

-- before the type, what is appended is the text
pub record Before (row : FoundRow) (place : ℕ) (word text : List ℕ) (inside : Bool) (behind index : ℕ) (old : List ℕ) : Type 0 where
  pub order : row.place ≤ behind
  pub few : index ≤ place
  pub going : Going row place word text inside behind index old (old ++ between row.place behind row.text.now)

pub before_none : {row : FoundRow} (place : ℕ) (word text old : List ℕ) → IsFound row → Before row place word text false row.place 0 old
before_none {row} place word text old found =
    let zero_len : row.place - row.place ≡ 0 = omega arith in
    let none : between row.place row.place row.text.now ≡ [] = ap (λ n. take {A = ℕ} n (drop row.place row.text.now)) zero_len in record {
      order = omega arith;
      few = omega arith;
      going =
          subst (λ l. Going row place word text false row.place 0 old l) (sym (ap (λ l. old ++ l) none ∙ append-nil old))
          (going_none place word text old found);
    }

pub before_on : {row : FoundRow} {place : ℕ} {word text : List ℕ} {inside : Bool} {behind index : ℕ} {old gap : List ℕ} {out : Bool} {end : ℕ}
    → Before row place word text inside behind index old → index < place
    → GoesOver inside (drop behind row.text.now) gap out (drop end row.text.now) → end ≤ length row.text.now
    → Before row place word text out end (index + 1) old
before_on {row} {place} {word} {text} {behind = behind} {index} {old} {gap} {end = end} so first over within =
    let octets = token_octets over.token in
    let rest = drop end row.text.now in
    let size : length row.text.now - behind ≡ length gap + (length octets + (length row.text.now - end)) =
    sym (length-drop behind row.text.now) ∙ ap (length {A = ℕ}) over.whole ∙ length-append gap (octets ++ rest)
    ∙ ap (λ n. length gap + n) (length-append octets rest ∙ ap (λ n. length octets + n) (length-drop end row.text.now)) in
    let more : behind ≤ end = omega (arith, size, within, so.going.within) in
    let is = between_more row.text.now row.place behind end gap octets so.order more over.whole in
    let part = written_before index place word text gap octets first in record {
      order = omega (arith, so.order, more);
      few = omega (arith, first);
      going =
          going_on so.going over within (old ++ between row.place end row.text.now)
          (ap (λ l. old ++ l) is ∙ sym (append_assoc old (between row.place behind row.text.now) (gap ++ octets))
          ∙ ap (λ l. (old ++ between row.place behind row.text.now) ++ l) (sym part));
    }

-- at the type
pub before_all : {row : FoundRow} {place : ℕ} {word text : List ℕ} {inside : Bool} {behind index : ℕ} {old : List ℕ}
    → Before row place word text inside behind index old → place ≤ index → (now : List ℕ) → now ≡ old ++ between row.place behind row.text.now
    → Going row place word text inside behind place old now
before_all {row} {place} {word} {text} {inside} {behind} {index} {old} so whole now is =
    let same : index ≡ place = omega (arith, so.few, whole) in
    subst (λ l. Going row place word text inside behind place old l) (sym is)
    (subst (λ n. Going row place word text inside behind n old (old ++ between row.place behind row.text.now)) same so.going)

-- any span
pub no_span : TokenSpan
no_span = record { start = 0; len = 0; quoted = false; has_escape = false }

-- what is left of a text that goes on with tokens
some_left : {text : List ℕ} {inside : Bool} {place next : ℕ} {spans : List TokenSpan} → AreNext text inside place spans next
    → 0 < length (drop place text)
some_left (ended ends) = omega (arith, next_shorter ends)
some_left (token first others) = omega (arith, next_shorter first)

-- The token of the first span, and the gap before it from a place on.
pub record FirstSpan (text : List ℕ) (inside : Bool) (behind : ℕ) (span : TokenSpan) (others : List TokenSpan) (next : ℕ) : Type 0 where
  pub out : Bool
  pub over : GoesOver inside (drop behind text) (between behind (first_of span) text) out (drop (end_in text span) text)
  pub token_is : over.token ≡ token_in text span
  pub placed : AreNext text out (end_in text span) others next
  pub order : behind ≤ first_of span
  pub within : first_of span ≤ length text
  pub ends : end_in text span ≤ length text

-- where the token begins
first_at : (quoted : Bool) (start len behind gap size : ℕ) → start < size
    → size - behind ≡ gap + (len + 2 * (if quoted then 1 else 0) + (size - (start + len + (if quoted then 1 else 0))))
    → start + len + (if quoted then 1 else 0) < size → behind < size → (if quoted then start - 1 else start) ≡ behind + gap
first_at true start len behind gap size here all ends below = omega (arith, here, all, ends, below)
first_at false start len behind gap size here all ends below = omega (arith, here, all, ends, below)

pub first_span : {text : List ℕ} {inside : Bool} {behind next : ℕ} {span : TokenSpan} {others : List TokenSpan}
    → AreNext text inside behind (span ∷ others) next → FirstSpan text inside behind span others next
first_span {text} {inside} {behind} {next} {span} {others} (token {out = out} first more) =
    let found = token_in text span in
    let cut = cut_token first in
    let rest = drop (end_in text span) text in
    let some : end_in text span < length text = omega (arith, some_left more, length-drop (end_in text span) text) in
    let start : min span.start (length text) ≡ span.start = omega (arith, some) in
    let here : span.start < length text = omega (arith, some, start) in
    let end : end_in text span ≡ span.start + length found.text + (if span.quoted then 1 else 0) =
    ap (λ n. n + length found.text + (if span.quoted then 1 else 0)) start in
    let below : behind < length text = omega (arith, next_shorter first, length-drop behind text) in
    let size : length text - behind ≡ length cut.gap + (length found.text + 2 * (if span.quoted then 1 else 0) + (length text - (span.start + length found.text + (if span.quoted then 1 else 0)))) =
    sym (length-drop behind text) ∙ ap (length {A = ℕ}) cut.whole ∙ length-append cut.gap (token_octets found ++ rest)
    ∙ ap (λ n. length cut.gap + n) (length-append (token_octets found) rest
    ∙ ap (λ n. n + length rest) (length-token_octets found)
    ∙ ap (λ n. (length found.text + 2 * (if span.quoted then 1 else 0)) + n) (length-drop (end_in text span) text ∙ ap (λ n. length text - n) end)) in
    let first_is : first_of span ≡ behind + length cut.gap =
    first_at span.quoted span.start (length found.text) behind (length cut.gap) (length text) here size (omega (arith, some, end)) below in
    let long : first_of span - behind ≡ length cut.gap = omega (arith, first_is) in
    let gap_is : cut.gap ≡ between behind (first_of span) text =
    sym (take-append_seam cut.gap (token_octets found ++ rest)) ∙ ap (take (length cut.gap)) (sym cut.whole)
    ∙ ap (λ n. take n (drop behind text)) (sym long) in record {
      out = out;
      over = record {
        token = found;
        next = first;
        whole = cut.whole ∙ ap (λ l. l ++ (token_octets found ++ rest)) gap_is;
      };
      token_is = refl;
      placed = more;
      order = omega (arith, first_is);
      within = omega (arith, first_is, size, below);
      ends = omega (arith, some);
    }

-- a token ends behind where the gap before it begins
ends_behind : {text : List ℕ} {inside : Bool} {behind next : ℕ} {span : TokenSpan} {others : List TokenSpan}
    → (at : FirstSpan text inside behind span others next) → behind ≤ end_in text span
ends_behind {text} {behind = behind} {span = span} at =
    let octets = token_octets at.over.token in
    let rest = drop (end_in text span) text in
    let gap = between behind (first_of span) text in
    let size : length text - behind ≡ length gap + (length octets + (length text - end_in text span)) =
    sym (length-drop behind text) ∙ ap (length {A = ℕ}) at.over.whole ∙ length-append gap (octets ++ rest)
    ∙ ap (λ n. length gap + n) (length-append octets rest ∙ ap (λ n. length octets + n) (length-drop (end_in text span) text)) in
    omega (arith, size, at.ends, at.order, at.within)

-- The place is behind the tokens before the index, and those from it on are next.
pub record Reached (row : FoundRow) (place : ℕ) (word text : List ℕ) (behind index : ℕ) (old now : List ℕ) : Type 0 where
  pub inside : Bool
  pub going : Going row place word text inside behind index old now
  pub placed : AreNext row.text.now inside behind (drop index row.spans.now) row.next

module _ {row : FoundRow} {place : ℕ} {word text : List ℕ} {behind index : ℕ} {old now : List ℕ}
    (so : Reached row place word text behind index old now) (default : TokenSpan) (less : index < length row.spans.now) where
  span_here : drop index row.spans.now ≡ get_or row.spans.now index default ∷ drop (index + 1) row.spans.now
  span_here = drop_more row.spans.now index default less

  here : FirstSpan row.text.now so.inside behind (get_or row.spans.now index default) (drop (index + 1) row.spans.now) row.next
  here = first_span (subst (λ (l : List TokenSpan). AreNext row.text.now so.inside behind l row.next) span_here so.placed)

  -- the gap before it
  pub gap_order : (first : ℕ) → first ≡ first_of (get_or row.spans.now index default) → behind ≤ first
  gap_order first is = omega (arith, is, here.order)

  pub gap_within : (first : ℕ) → first ≡ first_of (get_or row.spans.now index default) → first ≤ length row.text.now
  gap_within first is = omega (arith, is, here.within)

  -- one more token
  pub reached_on : (gap after : List ℕ) → gap ≡ between behind (first_of (get_or row.spans.now index default)) row.text.now
      → ((token : List ℕ) → after ≡ now ++ written_part index place word text gap token)
      → Reached row place word text (end_in row.text.now (get_or row.spans.now index default)) (index + 1) old after
  reached_on gap after gap_is is = record {
    inside = here.out;
    going =
        going_on so.going here.over here.ends after
        (is (token_octets here.over.token) ∙ ap (λ l. now ++ written_part index place word text l (token_octets here.over.token)) gap_is);
    placed = here.placed;
  }

-- the same before the type
pub record ReachedBefore (row : FoundRow) (place : ℕ) (word text : List ℕ) (behind index : ℕ) (old : List ℕ) : Type 0 where
  pub inside : Bool
  pub before : Before row place word text inside behind index old
  pub placed : AreNext row.text.now inside behind (drop index row.spans.now) row.next

pub place_next : (text : List ℕ) (place : ℕ) (spans : List TokenSpan) (index : ℕ) (default : TokenSpan) → index < length spans
    → end_in text (get_or spans index default) ≡ place_at text place spans (suc index)
place_next text place [] index default less = absurd (omega (arith, less))
place_next text place (span ∷ spans) zero default less = refl
place_next text place (span ∷ spans) (suc index) default less = place_next text (end_in text span) spans index default (omega (arith, less))

pub reached_before : (row : FoundRow) (place : ℕ) (word text old : List ℕ) → IsFound row → TokenSpan → (index : ℕ) → index ≤ place
    → index ≤ length row.spans.now → ReachedBefore row place word text (place_at row.text.now row.place row.spans.now index) index old
reached_before row place word text old found default zero few within =
    record { inside = false; before = before_none place word text old found; placed = found.placed }
reached_before row place word text old found default (suc index) few within =
    let so = reached_before row place word text old found default index (omega (arith, few)) (omega (arith, within)) in
    let at = first_span (subst (λ (l : List TokenSpan). AreNext row.text.now so.inside (place_at row.text.now row.place row.spans.now index) l row.next)
    (drop_more row.spans.now index default (omega (arith, within))) so.placed) in
    let next : index + 1 ≡ suc index = omega arith in
    subst (λ n. ReachedBefore row place word text n (suc index) old) (place_next row.text.now row.place row.spans.now index default (omega (arith, within)))
    (subst (λ n. ReachedBefore row place word text (end_in row.text.now (get_or row.spans.now index default)) n old) next
    (record { inside = at.out; before = before_on so.before (omega (arith, few)) at.over at.ends; placed = at.placed }))

-- at the type
pub reached_type : {row : FoundRow} {place : ℕ} {word text old : List ℕ} {behind : ℕ} → ReachedBefore row place word text behind place old
    → (now : List ℕ) → now ≡ old ++ between row.place behind row.text.now → Reached row place word text behind place old now
reached_type so now is = record { inside = so.inside; going = before_all so.before (omega arith) now is; placed = so.placed }

-- the word of the type stays, since it is the word that is written
pub reached_word : {row : FoundRow} {place : ℕ} {word text old : List ℕ} {behind : ℕ} (so : ReachedBefore row place word text behind place old)
    (default : TokenSpan) → place < length row.spans.now → (get_or row.spans.now place default).quoted ≡ false
    → (token_in row.text.now (get_or row.spans.now place default)).text ≡ word → (now : List ℕ)
    → now ≡ old ++ between row.place (end_in row.text.now (get_or row.spans.now place default)) row.text.now
    → Reached row place word text (end_in row.text.now (get_or row.spans.now place default)) (place + 1) old now
reached_word {row} {place} {word} {text} {old} {behind} so default less bare own now is =
    let span = get_or row.spans.now place default in
    let front = old ++ between row.place behind row.text.now in
    let there = reached_type so front refl in
    let at = here there default less in
    let gap = between behind (first_of span) row.text.now in
    let octets : token_octets at.over.token ≡ word =
    ap token_octets at.token_is ∙ ap (λ (b : Bool). if b then 34 ∷ ((token_in row.text.now span).text ++ 34 ∷ []) else (token_in row.text.now span).text) bare ∙ own in
    let more = between_more row.text.now row.place behind (end_in row.text.now span) gap (token_octets at.over.token) so.before.order
    (ends_behind at) at.over.whole in
    let whole : now ≡ front ++ (gap ++ word) =
    is ∙ ap (λ (l : List ℕ). old ++ l) (more ∙ ap (λ (l : List ℕ). between row.place behind row.text.now ++ (gap ++ l)) octets)
    ∙ sym (append_assoc old (between row.place behind row.text.now) (gap ++ word)) in
    reached_on there default less gap now refl (λ token. whole ∙ ap (λ (l : List ℕ). front ++ l) (sym (written_type place place word text gap token refl)))

-- the row begins before each place in it
pub place_order : (row : FoundRow) (index : ℕ) → IsFound row → TokenSpan → index ≤ length row.spans.now
    → row.place ≤ place_at row.text.now row.place row.spans.now index
place_order row index found default within =
    let so = reached_before row index [] [] [] found default index (omega arith) within in so.before.order

-- the first token that may be another one
module _ {place first : ℕ} {P : Type 0} (begins : (first ≡ place) ⊎ ((first ≡ place + 1) × P)) where
  pub first_behind : place ≤ first
  first_behind = elim begins [
    | inl at ↦ omega (arith, at)
    | inr behind ↦ (let at = behind.0 in omega (arith, at))
  ]

  pub first_within : (count : ℕ) → place < count → first ≤ count
  first_within count less = elim begins [
    | inl at ↦ omega (arith, at, less)
    | inr behind ↦ (let at = behind.0 in omega (arith, at, less))
  ]

-- where the row begins to be rewritten: at its type, or behind it if its word stays
pub reached_first : (row : FoundRow) (place first : ℕ) (word text old now : List ℕ) → IsFound row → TokenSpan → place < length row.spans.now
    → (first ≡ place) ⊎ ((first ≡ place + 1) × (slice_get (tokens_in row) place ≡ Some (unquoted word)))
    → now ≡ old ++ between row.place (place_at row.text.now row.place row.spans.now first) row.text.now
    → Reached row place word text (place_at row.text.now row.place row.spans.now first) first old now
reached_first row place first word text old now found default less begins is = elim begins [
  | inl at ↦
      let there = reached_before row place word text old found default place (omega arith) (omega (arith, less)) in
      let same : place ≡ first = sym at in
      subst (λ (n : ℕ). Reached row place word text (place_at row.text.now row.place row.spans.now n) n old now) same
      (reached_type there now
      (subst (λ (n : ℕ). now ≡ old ++ between row.place (place_at row.text.now row.place row.spans.now n) row.text.now) at is))
  | inr behind ↦
      let there = reached_before row place word text old found default place (omega arith) (omega (arith, less)) in
      let span = get_or row.spans.now place default in
      let token : Some (token_in row.text.now span) ≡ Some (unquoted word) = sym (token_at row.text.now row.spans.now place default less) ∙ behind.1 in
      let one : token_in row.text.now span ≡ unquoted word = cc in
      let next : suc place ≡ first = (let at = behind.0 in omega (arith, at)) in
      let plus : place + 1 ≡ first = sym behind.0 in
      let end : end_in row.text.now span ≡ place_at row.text.now row.place row.spans.now first =
      place_next row.text.now row.place row.spans.now place default less ∙ ap (place_at row.text.now row.place row.spans.now) next in
      subst (λ (n : ℕ). Reached row place word text n first old now) end
      (subst (λ (n : ℕ). Reached row place word text (end_in row.text.now span) n old now) plus
      (reached_word there default less (ap (λ (t : Token). t.quoted) one) (ap (λ (t : Token). t.text) one) now
      (is ∙ ap (λ (n : ℕ). old ++ between row.place n row.text.now) (sym end))))
]

-- at the end of the row
pub record Ending (row : FoundRow) (place : ℕ) (word text : List ℕ) (behind : ℕ) (old now : List ℕ) : Type 0 where
  pub order : behind ≤ row.next
  pub new : List ℕ
  pub is : RewritesAt row place word text new
  pub appended : (now ++ written_none (length row.spans.now) place text) ++ between behind row.next row.text.now ≡ old ++ new

pub ending : {row : FoundRow} {place : ℕ} {word text : List ℕ} {inside : Bool} {behind index : ℕ} {old now : List ℕ} → IsFound row
    → (going : Going row place word text inside behind index old now) → place < length row.spans.now → length row.spans.now ≤ index
    → Ending row place word text behind old now
ending {row} {place} {word} {text} {behind = behind} {index} {old} {now} found going within whole =
    let all = gone_all going.gone (omega (arith, within, count going)) (omega (arith, whole, count going)) in
    let last = last_at row.text.now all.last behind row.next going.within found.within all.left_is in
    let is = all.is in record {
      order = last.0;
      new = all.new;
      is = record {
        front_parts = is.front_parts;
        type_part = is.type_part;
        data_parts = is.data_parts;
        last = is.last;
        are = is.are;
        place_is = is.place_is;
        tokens = is.tokens_are;
        written = is.written;
        rewritten = is.rewritten;
      };
      appended =
          ap (λ l. (now ++ written_none (length row.spans.now) place text) ++ l) last.1
          ∙ ap (λ n. (now ++ written_none n place text) ++ all.last) (sym (all.whole ∙ count going)) ∙ all.appended;
    }
