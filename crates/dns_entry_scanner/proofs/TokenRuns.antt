-- Symbols of a token, taken from the start of a text.
use Rattle.std.proofs.Common.{◌≡◌, ◌==◌, ◌||◌, ℕ, ◌+◌, ◌-◌, ◌<◌, ◌≤◌, Bool, true, false, cond, List, [], ◌∷◌, ◌++◌, length, map, take, drop, refl, sym, ◌∙◌, ap, subst, arith, append_assoc, length-append}
use Rattle.std.proofs.Math.Seq.{take-append_seam, drop-append_seam}
use Rattle.std.proofs.lemmas.List.{append-nil, drop-drop, length-drop, take-append-drop}
use Rattle.std.proofs.lemmas.List.Concat.{flat_map-append}
use Rattle.std.proofs.lemmas.List.Folds.{list_any-append}
use Rattle.std.specs.List.{AllByRecursion, flat_map, prefix_len}
use Rattle.dns_label.specs.declared.symbol.Symbol.{Symbol}
use Rattle.dns_label.specs.declared.symbol.Symbol.TheVariants.{Char, SimpleEscape, DecimalEscape}
use Rattle.dns_label.specs.Symbol.{IsSymbol, spelled, three_digits}
use Rattle.dns_text.specs.Tokens.{EndsToken, IsIn, Stands}
use Rattle.dns_entry_scanner.specs.Octets.{is_plain_in}
use Rattle.dns_entry_scanner.specs.TokenEnd.{HasEscape, NoEscape, RunsTo, between}
use Rattle.dns_entry_scanner.specs.TokenSpan.{has_backslash}
use Rattle.dns_entry_scanner.specs.declared.token_end.TokenEnd.{TokenEnd}
use Rattle.dns_entry_scanner.proofs.PlainOctets.{ArePlain, plain_complete, plain_unmarked, run_over, run_plain}

-- symbols of a token before the rest, and whether they have a backslash
pub record Taken (quoted : Bool) (text rest : List ℕ) (marked : Bool) : Type 0 where
  pub symbols : List Symbol
  pub each : AllByRecursion (IsIn quoted) symbols
  pub whole : text ≡ flat_map spelled symbols ++ rest
  pub is_marked : has_backslash (flat_map spelled symbols) ≡ marked

chars_written : (text : List ℕ) → text ≡ flat_map spelled (map Char text)
chars_written [] = refl
chars_written (c ∷ text) = ap (λ l. c ∷ l) (chars_written text)

each_char : (quoted : Bool) (octets : List ℕ) → ArePlain quoted octets → AllByRecursion (IsIn quoted) (map Char octets)
each_char quoted [] each = tt
each_char quoted (octet ∷ octets) each = (each.0, each_char quoted octets each.1)

-- plain octets are symbols
pub taken_plain : (quoted : Bool) (text : List ℕ) → Taken quoted text (drop (prefix_len (is_plain_in quoted) text) text) false
taken_plain quoted text =
    let len = prefix_len (is_plain_in quoted) text in
    let front = take len text in
    let each = run_plain quoted text in
    record {
      symbols = map Char front;
      each = each_char quoted front each;
      whole = sym (take-append-drop len text) ∙ ap (λ l. l ++ drop len text) (chars_written front);
      is_marked = ap has_backslash (sym (chars_written front)) ∙ plain_unmarked quoted front each;
    }

-- an escape is a symbol of either token
escape_stands : (quoted : Bool) (symbol : Symbol) (octets : List ℕ) → IsSymbol symbol → spelled symbol ≡ 92 ∷ octets → Stands quoted symbol
escape_stands quoted (Char c) octets is written = let e : c ≡ 92 = cc in absurd (is.1 e)
escape_stands quoted (SimpleEscape c) octets is written = tt
escape_stands quoted (DecimalEscape n) octets is written = tt

pub taken_escape : (quoted : Bool) (text rest : List ℕ) → HasEscape text rest → Taken quoted text rest true
taken_escape quoted text rest has =
    let alone : flat_map spelled (has.symbol ∷ []) ≡ spelled has.symbol = append-nil (spelled has.symbol) in
    let marked : has_backslash (92 ∷ has.octets) ≡ true = refl in
    record {
      symbols = has.symbol ∷ [];
      each = ((has.is_symbol, escape_stands quoted has.symbol has.octets has.is_symbol has.escape), tt);
      whole = has.whole ∙ ap (λ l. l ++ rest) (sym alone);
      is_marked = ap has_backslash (alone ∙ has.escape) ∙ marked;
    }

all_append : (P : Symbol → Type 0) (xs ys : List Symbol) → AllByRecursion P xs → AllByRecursion P ys → AllByRecursion P (xs ++ ys)
all_append P [] ys each each' = each'
all_append P (x ∷ xs) ys each each' = (each.0, all_append P xs ys each.1 each')

-- further symbols
pub taken_more : {quoted : Bool} {text rest behind : List ℕ} {marked marked' : Bool} → Taken quoted text rest marked
    → Taken quoted rest behind marked' → Taken quoted text behind (marked || marked')
taken_more {quoted} {text} {rest} {behind} {marked} {marked'} taken more =
    let fronts : flat_map spelled (taken.symbols ++ more.symbols) ≡ flat_map spelled taken.symbols ++ flat_map spelled more.symbols =
    flat_map-append spelled taken.symbols more.symbols in
    record {
      symbols = taken.symbols ++ more.symbols;
      each = all_append (IsIn quoted) taken.symbols more.symbols taken.each more.each;
      whole =
          taken.whole ∙ ap (λ l. flat_map spelled taken.symbols ++ l) more.whole
          ∙ sym (append_assoc (flat_map spelled taken.symbols) (flat_map spelled more.symbols) behind) ∙ ap (λ l. l ++ behind) (sym fronts);
      is_marked =
          ap has_backslash fronts
          ∙ list_any-append (λ octet. octet == 92) (flat_map spelled taken.symbols) (flat_map spelled more.symbols)
          ∙ ap (λ b. b || has_backslash (flat_map spelled more.symbols)) taken.is_marked ∙ ap (λ b. marked || b) more.is_marked;
    }

-- so is an escape with the plain octets after it
marked_then : (marked : Bool) → ((marked || true) || false) ≡ true
marked_then true = refl
marked_then false = refl

pub taken_on : {quoted : Bool} {text rest behind : List ℕ} {marked : Bool} → Taken quoted text rest marked → HasEscape rest behind
    → Taken quoted text (drop (prefix_len (is_plain_in quoted) behind) behind) true
taken_on {quoted} {text} {rest} {behind} {marked} taken has =
    let end = drop (prefix_len (is_plain_in quoted) behind) behind in
    subst (λ (b : Bool). Taken quoted text end b) (marked_then marked)
    (taken_more (taken_more taken (taken_escape quoted rest behind has)) (taken_plain quoted behind))

-- so the rest is shorter
pub escape_shorter : {text rest : List ℕ} → HasEscape text rest → length rest < length text
escape_shorter {rest = rest} has =
    omega (arith, ap (length {A = ℕ}) has.whole, length-append (spelled has.symbol) rest, ap (length {A = ℕ}) has.escape)

-- the run ends if neither a plain octet follows nor an escape
pub ends_run : (quoted : Bool) (text : List ℕ) → prefix_len (is_plain_in quoted) text ≡ 0 → NoEscape text → EndsToken quoted text
ends_run quoted text none no_escape (Char c) rest is at =
    let plain : cond (is_plain_in quoted c) (1 + prefix_len (is_plain_in quoted) rest) 0 ≡ 0 = sym (ap (prefix_len (is_plain_in quoted)) at) ∙ none in
    let some : 1 + prefix_len (is_plain_in quoted) rest ≡ 0 =
    sym (ap (λ test. cond test (1 + prefix_len (is_plain_in quoted) rest) 0) (plain_complete quoted c is)) ∙ plain in
    absurd (omega (arith, some))
ends_run quoted text none no_escape (SimpleEscape c) rest is at =
    no_escape rest (record { symbol = SimpleEscape c; octets = c ∷ []; is_symbol = is.0; escape = refl; whole = at })
ends_run quoted text none no_escape (DecimalEscape n) rest is at =
    no_escape rest (record { symbol = DecimalEscape n; octets = three_digits n; is_symbol = is.0; escape = refl; whole = at })

-- the end of a run in a text
pub runs_to : (quoted : Bool) (text : List ℕ) (place : ℕ) (end : TokenEnd) → place ≤ end.place → end.place ≤ length text
    → Taken quoted (drop place text) (drop end.place text) end.has_escape → prefix_len (is_plain_in quoted) (drop end.place text) ≡ 0
    → NoEscape (drop end.place text) → RunsTo quoted text place end
runs_to quoted text place end behind within taken none no_escape =
    let here = drop place text in
    let rest = drop end.place text in
    let front = flat_map spelled taken.symbols in
    let len : end.place - place ≡ length front =
    omega (arith, ap (length {A = ℕ}) taken.whole, length-append front rest, length-drop place text, length-drop end.place text) in
    let first : between place end.place text ≡ front =
    ap (λ n. take n here) len ∙ ap (take (length front)) taken.whole ∙ take-append_seam front rest in
    record {
      run = record {
        symbols = taken.symbols;
        each = taken.each;
        written = first;
        whole = taken.whole ∙ ap (λ l. l ++ rest) (sym first);
        longest = ends_run quoted rest none no_escape;
      };
      marked = sym taken.is_marked ∙ ap has_backslash (sym first);
    }

escaped : (symbol : Symbol) (text rest : List ℕ) → IsSymbol symbol → 92 ∷ text ≡ spelled symbol ++ rest
    → (octets : List ℕ) × (spelled symbol ≡ 92 ∷ octets)
escaped (Char c) text rest is at = let e : c ≡ 92 = cc in absurd (is.1 e)
escaped (SimpleEscape c) text rest is at = (c ∷ [], refl)
escaped (DecimalEscape n) text rest is at = (three_digits n, refl)

pub escape_at : (text here rest behind : List ℕ) (place octet : ℕ) (symbol : Symbol) → place ≤ length text → here ≡ drop place text
    → here ≡ octet ∷ behind → octet ≡ 92 → IsSymbol symbol → here ≡ spelled symbol ++ rest
    → HasEscape (drop place text) (drop (length text - length rest) text)
escape_at text here rest behind place octet symbol within at first is is_symbol whole =
    let begins : 92 ∷ behind ≡ spelled symbol ++ rest = ap (λ n. n ∷ behind) (sym is) ∙ sym first ∙ whole in
    let written = escaped symbol behind rest is_symbol begins in
    let front = spelled symbol in
    let len : length text - length rest ≡ place + length front =
    omega (arith, ap (length {A = ℕ}) whole, length-append front rest, ap (length {A = ℕ}) at, length-drop place text) in
    let left : drop (length text - length rest) text ≡ rest =
    ap (λ n. drop n text) len ∙ sym (drop-drop (length front) place text) ∙ ap (drop (length front)) (sym at ∙ whole)
    ∙ drop-append_seam front rest in
    record {
      symbol = symbol;
      octets = written.0;
      is_symbol = is_symbol;
      escape = written.1;
      whole = sym at ∙ whole ∙ ap (λ l. front ++ l) (sym left);
    }

-- the same at places of a text
plain_rest : (quoted : Bool) (text : List ℕ) (place end : ℕ) → end ≡ place + prefix_len (is_plain_in quoted) (drop place text)
    → drop (prefix_len (is_plain_in quoted) (drop place text)) (drop place text) ≡ drop end text
plain_rest quoted text place end is =
    drop-drop (prefix_len (is_plain_in quoted) (drop place text)) place text ∙ ap (λ n. drop n text) (sym is)

pub taken_to : (quoted : Bool) (text : List ℕ) (place end : ℕ) → end ≡ place + prefix_len (is_plain_in quoted) (drop place text)
    → Taken quoted (drop place text) (drop end text) false
taken_to quoted text place end is =
    subst (λ (l : List ℕ). Taken quoted (drop place text) l false) (plain_rest quoted text place end is) (taken_plain quoted (drop place text))

pub over_to : (quoted : Bool) (text : List ℕ) (place end : ℕ) → end ≡ place + prefix_len (is_plain_in quoted) (drop place text)
    → prefix_len (is_plain_in quoted) (drop end text) ≡ 0
over_to quoted text place end is =
    subst (λ (l : List ℕ). prefix_len (is_plain_in quoted) l ≡ 0) (plain_rest quoted text place end is)
    (run_over (is_plain_in quoted) (drop place text))

pub taken_past : (quoted : Bool) (text : List ℕ) (place end behind next : ℕ) (marked : Bool) → Taken quoted (drop place text) (drop end text) marked
    → HasEscape (drop end text) (drop behind text) → next ≡ behind + prefix_len (is_plain_in quoted) (drop behind text)
    → Taken quoted (drop place text) (drop next text) true
taken_past quoted text place end behind next marked taken has is =
    subst (λ (l : List ℕ). Taken quoted (drop place text) l true) (plain_rest quoted text behind next is) (taken_on taken has)

-- an escape leads on
pub escape_leads : (text : List ℕ) (place behind : ℕ) → behind ≤ length text → HasEscape (drop place text) (drop behind text)
    → (place < behind) × (place < length text)
escape_leads text place behind within has =
    let less = escape_shorter has in
    (omega (arith, less, length-drop place text, length-drop behind text), omega (arith, less, length-drop place text, length-drop behind text))
