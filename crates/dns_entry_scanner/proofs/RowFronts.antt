-- The fronts of rows, found by the mask of 64 octets.
use Rattle.std.proofs.Common.{◌≡◌, ◌==◌, ◌||◌, ◌+◌, ◌-◌, ◌*◌, ◌/◌, ◌^◌, ◌<◌, ◌≤◌, ℕ, suc, Bool, true, false, not, cond, nat_lt, List, [], ◌∷◌, ◌++◌, Some, length, map, take, drop, get_or, refl, sym, ◌∙◌, ap, subst, arith, length-drop}
use native.Mathlib.Nat.{pow-suc, mul_comm, mul_assoc}
use lib.Count.{count_trailing_zeros}
use lib.Lanes.{chunk, mask_l}
use Rattle.std.specs.List.{prefix_len}
use Rattle.std.proofs.Math.Seq.{drop-append-le, take-add}
use Rattle.std.proofs.lemmas.Bool.{eqb-false, le-ltb, ltb-false, ne_eqb, not-true, or_from, or_parts}
use Rattle.std.proofs.lemmas.List.{drop-drop, drop_more, get_or-drop, length-map, take_all}
use Rattle.std.proofs.lemmas.List.Sums.{prefix_len_is, prefix_len_passes}
use Rattle.std.proofs.lemmas.Simd.{chunk-drop, length-chunk, mask_l-lt, trailing_mask_l}
use Rattle.dns_label.proofs.OctetRuns.{last_mask}
use Rattle.dns_text.specs.Rows.{is_led}
use Rattle.dns_text.specs.Tokens.{Next, from_feed, head_of}
use Rattle.dns_text.specs.Tokens.Head.{Comment, Feed, Go, Word}
use Rattle.dns_entry_scanner.specs.BegunRow.{BegunRow}
use Rattle.dns_entry_scanner.specs.Gap.{end_in}
use Rattle.dns_entry_scanner.specs.Octets.{ends_word, is_in_word, is_plain_in, may_end_word}
use Rattle.dns_entry_scanner.specs.RowFound.{IsRowAt}
use Rattle.dns_entry_scanner.specs.TokenEnd.{NoEscape, RunsTo, between}
use Rattle.dns_entry_scanner.specs.TokenSpan.{has_backslash, token_in}
use Rattle.dns_entry_scanner.specs.declared.token_end.TokenEnd.{TokenEnd}
use Rattle.dns_entry_scanner.specs.declared.token_span.TokenSpan.{TokenSpan}
use Rattle.dns_entry_scanner.proofs.Rows.{held_last, held_more, held_over}
use Rattle.dns_entry_scanner.proofs.Steps.{SameNext, next_feed, next_word, same_comment, same_go}
use Rattle.dns_entry_scanner.proofs.TokenRuns.{over_to, runs_to, taken_to}

-- the mask of the octets that may end a word
abbrev ends_of : List ℕ → ℕ
ends_of octets = mask_l (map may_end_word octets)

-- the octets that do not
abbrev goes_on : ℕ → Bool
goes_on octet = not (may_end_word octet)

-- a run that ends among the octets
stops_case : (b : Bool) (mask run len : ℕ) → 0 < cond b 1 0 + 2 * mask → (0 < mask → run < len) → cond (not b) (1 + run) 0 < suc len
stops_case true mask run len some less = omega arith
stops_case false mask run len some less = omega (arith, less (omega arith))

stops_within : (octets : List ℕ) → 0 < ends_of octets → prefix_len goes_on octets < length octets
stops_within [] some = absurd (omega (arith, some))
stops_within (octet ∷ octets) some =
    stops_case (may_end_word octet) (ends_of octets) (prefix_len goes_on octets) (length octets) some (stops_within octets)

front_case : (b : Bool) (whole run len : ℕ) → cond b (1 + run) 0 < suc len → (run < len → whole ≡ run)
    → cond b (1 + whole) 0 ≡ cond b (1 + run) 0
front_case true whole run len less same = ap (λ n. 1 + n) (same (omega (arith, less)))
front_case false whole run len less same = refl

prefix_front : (front rest : List ℕ) → prefix_len goes_on front < length front
    → prefix_len goes_on (front ++ rest) ≡ prefix_len goes_on front
prefix_front [] rest less = absurd (omega (arith, less))
prefix_front (octet ∷ front) rest less =
    front_case (goes_on octet) (prefix_len goes_on (front ++ rest)) (prefix_len goes_on front) (length front) less (prefix_front front rest)

-- the mask after an index
not-not : (b : Bool) → not (not b) ≡ b
not-not true = refl
not-not false = refl

pub twice_not : may_end_word ≡ (λ octet. not (goes_on octet))
twice_not = λ i octet. sym (not-not (may_end_word octet)) i

mask_from : (octets : List ℕ) (at : ℕ) → length octets ≡ 64 → ends_of octets / 2 ^ at ≡ ends_of (drop at octets)
mask_from octets at size =
    let all : chunk 0 64 octets ≡ octets = take_all 64 octets (omega (arith, size)) in
    let same : at ≡ at - 0 = omega arith in
    ap (λ l. ends_of l / 2 ^ at) (sym all) ∙ ap (λ n. ends_of (chunk 0 64 octets) / 2 ^ n) same
    ∙ ap (λ (ends : ℕ → Bool). mask_l (map ends (chunk 0 64 octets)) / 2 ^ (at - 0)) twice_not
    ∙ last_mask goes_on octets 0 at 64 (omega (arith, size)) (omega arith)
    ∙ ap (λ (ends : ℕ → Bool). mask_l (map ends (drop at octets))) (sym twice_not)

pub record WordAt (octets : List ℕ) (at len : ℕ) : Type 0 where
  pub len_is : len ≡ prefix_len goes_on (drop at octets)
  pub within : at + len < 64

pub word_at : (octets : List ℕ) (at ends : ℕ) → at < 64 → length octets ≡ 64 → ends ≡ ends_of octets → 0 < ends / 2 ^ at
    → WordAt octets at (count_trailing_zeros 64 (ends / 2 ^ at))
word_at octets at ends less size is some =
    let mask : ends / 2 ^ at ≡ ends_of (drop at octets) = ap (λ n. n / 2 ^ at) is ∙ mask_from octets at size in
    let left : length (drop at octets) ≡ 64 - at = length-drop at octets ∙ ap (λ n. n - at) size in
    let more : 0 < ends_of (drop at octets) = omega (arith, some, mask) in
    let same : count_trailing_zeros 64 (ends / 2 ^ at) ≡ prefix_len goes_on (drop at octets) =
    ap (count_trailing_zeros 64) mask ∙ trailing_mask_l may_end_word 64 (drop at octets) (omega (arith, left)) more in record {
      len_is = same;
      within = omega (arith, same, left, stops_within (drop at octets) more, less);
    }

-- four masks of sixteen octets as one
ends_append : (front rest : List ℕ) → ends_of (front ++ rest) ≡ ends_of front + 2 ^ length front * ends_of rest
ends_append [] rest = omega arith
ends_append (octet ∷ front) rest =
    let more = ends_append front rest in
    let power : 2 ^ suc (length front) * ends_of rest ≡ 2 * (2 ^ length front * ends_of rest) =
    ap (λ n. n * ends_of rest) (pow-suc 2 (length front) ∙ mul_comm (2 ^ length front) 2) ∙ mul_assoc 2 (2 ^ length front) (ends_of rest) in
    omega (arith, more, power)

chunk_add : (place n m : ℕ) (text : List ℕ) → chunk place (n + m) text ≡ chunk place n text ++ chunk (place + n) m text
chunk_add place n m text =
    take-add n m (drop place text) ∙ ap (λ l. take n (drop place text) ++ take m l) (drop-drop n place text)

ends_add : (place m : ℕ) (text : List ℕ) → place + 16 ≤ length text
    → ends_of (chunk place (16 + m) text) ≡ ends_of (chunk place 16 text) + 65536 * ends_of (chunk (place + 16) m text)
ends_add place m text room =
    ap ends_of (chunk_add place 16 m text) ∙ ends_append (chunk place 16 text) (chunk (place + 16) m text)
    ∙ ap (λ n. ends_of (chunk place 16 text) + 2 ^ n * ends_of (chunk (place + 16) m text)) (length-chunk place 16 text room)

pub mask_less : (text : List ℕ) (place : ℕ) → place + 16 ≤ length text → ends_of (chunk place 16 text) < 65536
mask_less text place room =
    let bits = map may_end_word (chunk place 16 text) in
    let size : length bits ≡ 16 = length-map (chunk place 16 text) may_end_word ∙ length-chunk place 16 text room in
    subst (λ n. mask_l bits < 2 ^ n) size (mask_l-lt bits)

pub four_masks : (text : List ℕ) (place : ℕ) → place + 64 ≤ length text
    → ends_of (chunk place 64 text) ≡ ends_of (chunk place 16 text) + ends_of (chunk (place + 16) 16 text) * 65536
    + ends_of (chunk (place + 32) 16 text) * 4294967296 + ends_of (chunk (place + 48) 16 text) * 281474976710656
four_masks text place room =
    let two : (place + 16) + 16 ≡ place + 32 = omega arith in
    let three : (place + 32) + 16 ≡ place + 48 = omega arith in
    omega (
      arith,
      ends_add place 48 text (omega (arith, room)),
      ends_add (place + 16) 32 text (omega (arith, room)),
      ap (λ n. ends_of (chunk n 32 text)) two,
      ends_add (place + 32) 16 text (omega (arith, room)),
      ap (λ n. ends_of (chunk n 16 text)) three,
    )

-- an octet of a word begins one
word_head : (inside : Bool) (octet : ℕ) → is_in_word octet ≡ true → head_of inside octet ≡ Word
word_head inside octet is =
    let all = or_parts (((nat_lt octet 33 || nat_lt 126 octet) || ((octet == 40) || (octet == 41))) || ((octet == 34) || (octet == 59))) (octet == 92) (not-true _ is) in
    let three = or_parts ((nat_lt octet 33 || nat_lt 126 octet) || ((octet == 40) || (octet == 41))) ((octet == 34) || (octet == 59)) all.0 in
    let two = or_parts (nat_lt octet 33 || nat_lt 126 octet) ((octet == 40) || (octet == 41)) three.0 in
    let range = or_parts (nat_lt octet 33) (nat_lt 126 octet) two.0 in
    let parentheses = or_parts (octet == 40) (octet == 41) two.1 in
    let marks = or_parts (octet == 34) (octet == 59) three.1 in
    let low : 33 ≤ octet = ltb-false octet 33 range.0 in
    rw (
      ne_eqb octet 32 (λ same. omega (arith, same, low)),
      ne_eqb octet 9 (λ same. omega (arith, same, low)),
      ne_eqb octet 13 (λ same. omega (arith, same, low)),
      ne_eqb octet 10 (λ same. omega (arith, same, low)),
      parentheses.0,
      parentheses.1,
      marks.1,
      marks.0,
    ) refl

-- an octet that may not end a word is in one
in_word : (octet : ℕ) → goes_on octet ≡ true → is_in_word octet ≡ true
in_word octet is =
    let both = or_parts (nat_lt octet 42 || nat_lt 126 octet) ((octet == 59) || (octet == 92)) (not-true _ is) in
    let range = or_parts (nat_lt octet 42) (nat_lt 126 octet) both.0 in
    let others = or_parts (octet == 59) (octet == 92) both.1 in
    let low : 42 ≤ octet = ltb-false octet 42 range.0 in
    let outside = or_from (nat_lt octet 33) (nat_lt 126 octet) (le-ltb octet 33 (omega (arith, low))) range.1 in
    let opening = ne_eqb octet 40 (λ same. omega (arith, same, low)) in
    let closing = ne_eqb octet 41 (λ same. omega (arith, same, low)) in
    let marks = or_from (octet == 34) (octet == 59) (ne_eqb octet 34 (λ same. omega (arith, same, low))) others.0 in
    ap not (or_from _ _ (or_from _ _ (or_from _ _ outside (or_from (octet == 40) (octet == 41) opening closing)) marks) others.1)

-- a run of such octets is a word, if the octet after it is in none
whole_word : (octets : List ℕ) (len : ℕ) → len ≡ prefix_len goes_on octets → len < length octets → is_in_word (get_or octets len 0) ≡ false
    → len ≡ prefix_len is_in_word octets
whole_word octets len is within end =
    sym (prefix_len_is is_in_word octets len 0 (omega (arith, within))
    (λ k below. in_word (get_or octets k 0) (prefix_len_passes goes_on octets k 0 (omega (arith, below, is)))) (λ less. end))

no_word : (b : Bool) → (b ≡ true → ⊥) → b ≡ false
no_word true none = absurd (none refl)
no_word false none = refl

-- a space or a tab ends a word
space_ends : (octet : ℕ) → head_of false octet ≡ Go false → ends_word octet ≡ true
space_ends octet head =
    let word : is_in_word octet ≡ true → ⊥ = λ is. let clash : Word ≡ Go false = sym (word_head false octet is) ∙ head in cc in
    let backslash : octet ≡ 92 → ⊥ = λ same. let clash : Word ≡ Go false = ap (head_of false) (sym same) ∙ head in cc in
    ap not (or_from (is_in_word octet) (octet == 92) (no_word (is_in_word octet) word) (ne_eqb octet 92 backslash))

first_case : (b : Bool) (run : ℕ) → 0 < cond b (1 + run) 0 → b ≡ true
first_case true run some = refl
first_case false run some = absurd (omega (arith, some))

-- a word at a place of the text
no_escape : (text : List ℕ) (place : ℕ) → place < length text → (get_or text place 0 ≡ 92 → ⊥) → NoEscape (drop place text)
no_escape text place within other rest has =
    let same : get_or text place 0 ∷ drop (place + 1) text ≡ 92 ∷ (has.octets ++ rest) =
    sym (drop_more text place 0 within) ∙ has.whole ∙ ap (λ l. l ++ rest) has.escape in
    let octet : get_or text place 0 ≡ 92 = cc in other octet

refl_same : (inside : Bool) (text : List ℕ) → SameNext inside text inside text
refl_same inside text = record { on = λ found out rest next. next; back = λ found out rest next. next }

pub front_gap : {text : List ℕ} {start : ℕ} {spans : List TokenSpan} {inside : Bool} (behind : Bool) (from at : ℕ) → from + at < length text
    → head_of inside (get_or text (from + at) 0) ≡ Go behind → BegunRow text start spans inside (from + at)
    → BegunRow text start spans behind (from + (at + 1))
front_gap {text} {start} {spans} {inside} behind from at within head held =
    let place_is : (from + at) + 1 ≡ from + (at + 1) = omega arith in
    subst (λ n. BegunRow text start spans behind n) place_is
    (held_over held (same_go text (from + at) within (refl_same inside (drop (from + at) text)) behind head))

pub front_feed : {text : List ℕ} {start : ℕ} {spans : List TokenSpan} {inside : Bool} (at : ℕ) → at < length text
    → head_of inside (get_or text at 0) ≡ Feed → BegunRow text start spans inside at → IsRowAt text start spans (at + 1) (is_led (drop start text))
front_feed {text} {inside = inside} at within head held =
    held_last held (next_feed text at within (refl_same inside (drop at text)) head) (omega (arith, within)) refl

pub feed_head : (inside : Bool) (octet : ℕ) → octet ≡ 10 → inside ≡ false → head_of inside octet ≡ Feed
feed_head inside octet is out = ap (head_of inside) is ∙ ap (λ (b : Bool). head_of b 10) out

pub front_comment : {text : List ℕ} {start : ℕ} {spans : List TokenSpan} {inside : Bool} (from at end : ℕ) → from + at < length text
    → head_of inside (get_or text (from + at) 0) ≡ Comment → drop end text ≡ from_feed (drop (from + at + 1) text) → from + at + 1 ≤ end
    → BegunRow text start spans inside (from + at) → BegunRow text start spans inside (from + (end - from))
front_comment {text} {start} {spans} {inside} from at end within head feed behind held =
    let place_is : end ≡ from + (end - from) = omega (arith, behind) in
    subst (λ n. BegunRow text start spans inside n) place_is
    (held_over held (same_comment text (from + at) within (refl_same inside (drop (from + at) text)) end head feed))

pub front_word : {text : List ℕ} {start : ℕ} {spans all : List TokenSpan} {inside : Bool} (from at len : ℕ) → from + 64 ≤ length text
    → WordAt (chunk from 64 text) at len → 0 < len → ends_word (get_or text (from + at + len) 0) ≡ true
    → BegunRow text start spans inside (from + at)
    → all ≡ spans ++ (record { start = from + at; len = len; quoted = false; has_escape = false }) ∷ []
    → BegunRow text start all inside (from + (at + len))
front_word {text} {start} {spans} {all} {inside} window_start at len room word some behind held is =
    let window = chunk window_start 64 text in
    let rest = drop (window_start + 64) text in
    let from = window_start + at in
    let end : TokenEnd = record { place = from + len; has_escape = false } in
    let size : length window ≡ 64 = length-chunk window_start 64 text room in
    let split : drop from text ≡ drop at window ++ rest =
    sym (drop-drop at window_start text) ∙ ap (drop {A = ℕ} at) (chunk-drop window_start 64 text)
    ∙ drop-append-le at window rest (omega (arith, size, word.within)) in
    let left : length (drop at window) ≡ 64 - at = length-drop at window ∙ ap (λ n. n - at) size in
    let goes : len ≡ prefix_len goes_on (drop from text) =
    word.len_is ∙ sym (prefix_front (drop at window) rest (omega (arith, sym word.len_is, left, word.within))) ∙ ap (prefix_len goes_on) (sym split) in
    let within : from < length text = omega (arith, room, word.within) in
    let other = or_parts (is_in_word (get_or text (from + len) 0)) (get_or text (from + len) 0 == 92) (not-true _ behind) in
    let run : len ≡ prefix_len is_in_word (drop from text) =
    whole_word (drop from text) len goes (omega (arith, room, word.within, length-drop from text))
    (ap is_in_word (get_or-drop from text len 0) ∙ other.0) in
    let here = drop_more text from 0 within in
    let first : is_in_word (get_or text from 0) ≡ true =
    first_case (is_in_word (get_or text from 0)) (prefix_len is_in_word (drop (from + 1) text))
    (omega (arith, some, run, ap (prefix_len is_in_word) here)) in
    let none = no_escape text (from + len) (omega (arith, room, word.within)) (eqb-false (get_or text (from + len) 0) 92 other.1) in
    let end_is : from + len ≡ from + prefix_len (is_plain_in false) (drop from text) = ap (λ n. from + n) run in
    let to : RunsTo false text from end =
    runs_to false text from end (omega arith) (omega (arith, room, word.within)) (taken_to false text from (from + len) end_is)
    (over_to false text from (from + len) end_is) none in
    let span : TokenSpan = record { start = from; len = len; quoted = false; has_escape = false } in
    let long : (from + len) - from ≡ len = omega arith in
    let text_is : between from (from + len) text ≡ take len (drop from text) = ap (λ n. take n (drop from text)) long in
    let next : Next inside (drop from text) (Some (token_in text span)) inside (drop (from + len) text) =
    subst (λ l. Next inside (drop from text) (Some (record { quoted = false; text = l })) inside (drop (from + len) text)) text_is
    (next_word inside text from end within (omega arith) (omega (arith, room, word.within)) (word_head inside (get_or text from 0) first) to (λ none. omega (arith, none, some))) in
    let end_at : from + len ≡ end_in text span = omega (arith, length-chunk from len text (omega (arith, room, word.within)), within) in
    let place_is : from + len ≡ window_start + (at + len) = omega arith in
    subst (λ n. BegunRow text start all inside n) place_is
    (held_more span held next end_at (subst (λ l. false ≡ has_backslash l) text_is to.marked) is)

pub front_spaced : {text : List ℕ} {start : ℕ} {spans all : List TokenSpan} {inside : Bool} (from at len : ℕ) → from + 64 ≤ length text
    → WordAt (chunk from 64 text) at len → 0 < len → ((out : Bool) → head_of out (get_or text (from + at + len) 0) ≡ Go out)
    → BegunRow text start spans inside (from + at)
    → all ≡ spans ++ (record { start = from + at; len = len; quoted = false; has_escape = false }) ∷ []
    → BegunRow text start all inside (from + (at + (len + 1)))
front_spaced {text} {start} {spans} {all} {inside} from at len room word some space held is =
    let here : from + (at + len) ≡ from + at + len = omega arith in
    let place_is : from + (at + len + 1) ≡ from + (at + (len + 1)) = omega arith in
    subst (λ n. BegunRow text start all inside n) place_is
    (front_gap inside from (at + len) (omega (arith, room, word.within)) (ap (λ n. head_of inside (get_or text n 0)) here ∙ space inside)
    (front_word from at len room word some (space_ends (get_or text (from + at + len) 0) (space false)) held is))

pub front_none : {text : List ℕ} {start : ℕ} {spans : List TokenSpan} {inside : Bool} (place : ℕ) → BegunRow text start spans inside place
    → BegunRow text start spans inside (place + 0)
front_none {text} {start} {spans} {inside} place held =
    let here : place ≡ place + 0 = omega arith in subst (λ n. BegunRow text start spans inside n) here held

pub window : (text : List ℕ) (place at len ends : ℕ) → place + 64 ≤ length text → ends ≡ ends_of (chunk place 64 text) → 0 < len
    → ((octets : List ℕ) → length octets ≡ 64 → ends ≡ ends_of octets → 0 < len → len ≡ prefix_len goes_on (drop at octets))
    → ((octets : List ℕ) → length octets ≡ 64 → ends ≡ ends_of octets → at + len < 64) → WordAt (chunk place 64 text) at len
window text place at len ends room is some word within =
    let size = length-chunk place 64 text room in
    record { len_is = word (chunk place 64 text) size is some; within = within (chunk place 64 text) size is }
