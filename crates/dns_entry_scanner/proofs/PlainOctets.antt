-- Octets that stand for themselves in a token: each is a symbol of it, and no other character is.
use Rattle.std.proofs.Common.{◌≡◌, ◌==◌, ◌||◌, ℕ, ◌+◌, ◌≤◌, Bool, true, false, not, nat_lt, cond, if◌then◌else◌, suc, List, [], ◌∷◌, take, drop, refl, sym, ◌∙◌, ap, subst, arith}
use Rattle.std.proofs.lemmas.Bool.{or_parts, or_from, not-true, le-ltb, ltb-false, eqb-false, ne_eqb, cond-false}
use Rattle.std.proofs.lemmas.List.{drop-drop}
use Rattle.std.specs.List.{AllByRecursion, prefix_len}
use Rattle.dns_label.specs.declared.symbol.Symbol.TheVariants.{Char}
use Rattle.dns_text.specs.Tokens.{IsIn, from_feed}
use Rattle.dns_entry_scanner.specs.Octets.{is_in_comment, is_in_quotes, is_in_word, is_plain_in}
use Rattle.dns_entry_scanner.specs.TokenSpan.{has_backslash}

word_sound : (octet : ℕ) → is_in_word octet ≡ true → IsIn false (Char octet)
word_sound octet is =
    let all = or_parts (((nat_lt octet 33 || nat_lt 126 octet) || ((octet == 40) || (octet == 41))) || ((octet == 34) || (octet == 59))) (octet == 92) (not-true _ is) in
    let three = or_parts ((nat_lt octet 33 || nat_lt 126 octet) || ((octet == 40) || (octet == 41))) ((octet == 34) || (octet == 59)) all.0 in
    let two = or_parts (nat_lt octet 33 || nat_lt 126 octet) ((octet == 40) || (octet == 41)) three.0 in
    let range = or_parts (nat_lt octet 33) (nat_lt 126 octet) two.0 in
    let parentheses = or_parts (octet == 40) (octet == 41) two.1 in
    let marks = or_parts (octet == 34) (octet == 59) three.1 in
    let low : 33 ≤ octet = ltb-false octet 33 range.0 in
    let high : octet ≤ 126 = ltb-false 126 octet range.1 in
    let space : (octet == 32) ≡ false = ne_eqb octet 32 (λ same. omega (arith, same, low)) in
    let none = or_from _ _ space (or_from _ _ marks.0 (or_from _ _ parentheses.0 (or_from _ _ parentheses.1 marks.1))) in
    (((omega (arith, low), high), eqb-false octet 92 all.1), cond-false _ false true none)

quotes_sound : (octet : ℕ) → is_in_quotes octet ≡ true → IsIn true (Char octet)
quotes_sound octet is =
    let both = or_parts (nat_lt octet 32 || nat_lt 126 octet) ((octet == 34) || (octet == 92)) (not-true _ is) in
    let range = or_parts (nat_lt octet 32) (nat_lt 126 octet) both.0 in
    let marks = or_parts (octet == 34) (octet == 92) both.1 in
    (((ltb-false octet 32 range.0, ltb-false 126 octet range.1), eqb-false octet 92 marks.1), cond-false _ false true marks.0)

plain_sound : (quoted : Bool) (octet : ℕ) → is_plain_in quoted octet ≡ true → IsIn quoted (Char octet)
plain_sound true octet is = quotes_sound octet is
plain_sound false octet is = word_sound octet is

-- an octet that passes is not refused
not_refused : (refused : Bool) → (if refused then false else true) ≡ true → refused ≡ false
not_refused true is = sym is
not_refused false is = refl

word_complete : (octet : ℕ) → IsIn false (Char octet) → is_in_word octet ≡ true
word_complete octet is =
    let none = not_refused ((octet == 32) || ((octet == 34) || ((octet == 40) || ((octet == 41) || (octet == 59))))) is.1 in
    let space = or_parts (octet == 32) ((octet == 34) || ((octet == 40) || ((octet == 41) || (octet == 59)))) none in
    let quote = or_parts (octet == 34) ((octet == 40) || ((octet == 41) || (octet == 59))) space.1 in
    let open' = or_parts (octet == 40) ((octet == 41) || (octet == 59)) quote.1 in
    let close = or_parts (octet == 41) (octet == 59) open'.1 in
    let other : octet ≡ 32 → ⊥ = eqb-false octet 32 space.0 in
    let low : 33 ≤ octet = omega (arith, is.0.0.0, other) in
    let range = or_from _ _ (le-ltb octet 33 low) (le-ltb 126 octet is.0.0.1) in
    let all = or_from _ _ (or_from _ _ (or_from _ _ range (or_from _ _ open'.0 close.0)) (or_from _ _ quote.0 close.1)) (ne_eqb octet 92 is.0.1) in
    ap not all

quotes_complete : (octet : ℕ) → IsIn true (Char octet) → is_in_quotes octet ≡ true
quotes_complete octet is =
    let quote = not_refused (octet == 34) is.1 in
    let range = or_from _ _ (le-ltb octet 32 is.0.0.0) (le-ltb 126 octet is.0.0.1) in
    ap not (or_from _ _ range (or_from _ _ quote (ne_eqb octet 92 is.0.1)))

pub plain_complete : (quoted : Bool) (octet : ℕ) → IsIn quoted (Char octet) → is_plain_in quoted octet ≡ true
plain_complete true octet is = quotes_complete octet is
plain_complete false octet is = word_complete octet is

-- a longest run of them
abbrev pub ArePlain : Bool → List ℕ → Type 0
ArePlain quoted octets = AllByRecursion (λ octet. IsIn quoted (Char octet)) octets

run_next : (quoted : Bool) (octet : ℕ) (text : List ℕ) (test : Bool) → is_plain_in quoted octet ≡ test
    → ArePlain quoted (take (prefix_len (is_plain_in quoted) text) text)
    → ArePlain quoted (take (cond test (1 + prefix_len (is_plain_in quoted) text) 0) (octet ∷ text))
run_next quoted octet text true is each =
    let P : ℕ → Type 0 = λ n. ArePlain quoted (take n (octet ∷ text)) in
    let more : suc (prefix_len (is_plain_in quoted) text) ≡ 1 + prefix_len (is_plain_in quoted) text = omega arith in
    subst P more (plain_sound quoted octet is, each)
run_next quoted octet text false is each = tt

pub run_plain : (quoted : Bool) (text : List ℕ) → ArePlain quoted (take (prefix_len (is_plain_in quoted) text) text)
run_plain quoted [] = tt
run_plain quoted (octet ∷ text) = run_next quoted octet text (is_plain_in quoted octet) refl (run_plain quoted text)

-- none of them follows
over_next : (p : ℕ → Bool) (octet : ℕ) (text : List ℕ) (test : Bool) → p octet ≡ test → prefix_len p (drop (prefix_len p text) text) ≡ 0
    → prefix_len p (drop (cond test (1 + prefix_len p text) 0) (octet ∷ text)) ≡ 0
over_next p octet text true is behind =
    let more : suc (prefix_len p text) ≡ 1 + prefix_len p text = omega arith in
    subst (λ n. prefix_len p (drop n (octet ∷ text)) ≡ 0) more behind
over_next p octet text false is behind = ap (λ test. cond test (1 + prefix_len p text) 0) is

pub run_over : (p : ℕ → Bool) (text : List ℕ) → prefix_len p (drop (prefix_len p text) text) ≡ 0
run_over p [] = refl
run_over p (octet ∷ text) = over_next p octet text (p octet) refl (run_over p text)

-- none of them is a backslash
pub plain_unmarked : (quoted : Bool) (octets : List ℕ) → ArePlain quoted octets → has_backslash octets ≡ false
plain_unmarked quoted [] each = refl
plain_unmarked quoted (octet ∷ octets) each = or_from _ _ (ne_eqb octet 92 each.0.0.1) (plain_unmarked quoted octets each.1)

-- a comment up to its line feed
feed_next : (octet : ℕ) (text : List ℕ) (feed : Bool) → (octet == 10) ≡ feed → drop (prefix_len is_in_comment text) text ≡ from_feed text
    → drop (cond (not feed) (1 + prefix_len is_in_comment text) 0) (octet ∷ text) ≡ (if feed then octet ∷ text else from_feed text)
feed_next octet text true is behind = refl
feed_next octet text false is behind =
    let more : suc (prefix_len is_in_comment text) ≡ 1 + prefix_len is_in_comment text = omega arith in
    subst (λ n. drop n (octet ∷ text) ≡ from_feed text) more behind

pub feed_found : (text : List ℕ) → drop (prefix_len is_in_comment text) text ≡ from_feed text
feed_found [] = refl
feed_found (octet ∷ text) = feed_next octet text (octet == 10) refl (feed_found text)

pub feed_to : (text : List ℕ) (place end : ℕ) → end ≡ place + prefix_len is_in_comment (drop place text)
    → drop end text ≡ from_feed (drop place text)
feed_to text place end is =
    ap (λ n. drop n text) is ∙ sym (drop-drop (prefix_len is_in_comment (drop place text)) place text) ∙ feed_found (drop place text)
