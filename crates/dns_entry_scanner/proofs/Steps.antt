-- At most one token follows at a place: what the first octet decides, and how white space, comments and parentheses are
-- passed.
use Rattle.std.proofs.Common.{◌≡◌, ℕ, ◌+◌, ◌-◌, ◌<◌, ◌≤◌, Bool, true, false, List, [], ◌∷◌, ◌++◌, length, min, take, drop, get_or, Option, Some, None, refl, sym, ◌∙◌, ap, subst, arith}
use Rattle.std.proofs.lemmas.List.{drop_all, drop_more, length-drop, length-take-le}
use Rattle.std.proofs.lemmas.Bool.{false≢true}
use Rattle.std.specs.List.{flat_map}
use Rattle.std.specs.Option.{IfNone}
use Rattle.dns_label.specs.Symbol.{spelled}
use Rattle.dns_scan.specs.Token.{Token}
use Rattle.dns_text.specs.Tokens.{Head, IsRun, Next, from_feed, head_of}
use Rattle.dns_text.specs.Tokens.Head.{Go, Comment, Feed, Quote, Word, Refused}
use Rattle.dns_text.specs.Tokens.Next.{ended, goes, comment, quoted, unquoted}
use Rattle.dns_text.proofs.TokenSymbols.{one_run}
use Rattle.dns_entry_scanner.specs.TokenSpan.{NoNext}
use Rattle.dns_entry_scanner.specs.TokenEnd.{RunsTo, between}
use Rattle.dns_entry_scanner.specs.declared.token_end.TokenEnd.{TokenEnd}

-- a token whose text is the longest run of symbols
record Reads (is_quoted : Bool) (text : List ℕ) (behind : List ℕ → List ℕ) (inside : Bool) (found : Option Token) (out : Bool) (rest : List ℕ) : Type 0 where
  pub front : List ℕ
  pub run : IsRun is_quoted text front (behind rest)
  pub some : (is_quoted ≡ false) → 0 < length front
  pub found_is : found ≡ Some (record { quoted = is_quoted; text = front })
  pub out_is : out ≡ inside

-- what the first octet says of what follows
abbrev After : Bool → ℕ → Head → List ℕ → Option Token → Bool → List ℕ → Type 0
After inside octet (Go behind) text found out rest = Next behind text found out rest
After inside octet Comment text found out rest = Next inside (from_feed text) found out rest
After inside octet Feed text found out rest = (found ≡ None) × (out ≡ false) × (rest ≡ text)
After inside octet Quote text found out rest = Reads true text (λ l. 34 ∷ l) inside found out rest
After inside octet Word text found out rest = Reads false (octet ∷ text) (λ l. l) inside found out rest
After inside octet Refused text found out rest = ⊥

along : (inside : Bool) (octet : ℕ) (text rest : List ℕ) (found : Option Token) (out : Bool) (a b : Head) → a ≡ b
    → After inside octet a text found out rest → After inside octet b text found out rest
along inside octet text rest found out a b same after = subst (λ (h : Head). After inside octet h text found out rest) same after

after_of : (inside : Bool) (octet : ℕ) (text rest : List ℕ) (found : Option Token) (out : Bool) → Next inside (octet ∷ text) found out rest
    → After inside octet (head_of inside octet) text found out rest
after_of inside octet text rest found out (ended c head) = along inside octet text rest found out Feed _ (sym head) (refl, refl, refl)
after_of inside octet text rest found out (goes c behind head next) = along inside octet text rest found out (Go behind) _ (sym head) next
after_of inside octet text rest found out (comment c head next) = along inside octet text rest found out Comment _ (sym head) next
after_of inside octet text rest found out (quoted {front = front} c head run) =
    along inside octet text rest found out Quote _ (sym head)
    (record { front = front; run = run; some = λ e. absurd (false≢true (sym e)); found_is = refl; out_is = refl })
after_of inside octet text rest found out (unquoted {front = front} c head run some) =
    along inside octet text rest found out Word _ (sym head)
    (record { front = front; run = run; some = λ _. some; found_is = refl; out_is = refl })

after_at : (inside : Bool) (octet : ℕ) (text rest : List ℕ) (found : Option Token) (out : Bool) (head : Head) → head_of inside octet ≡ head
    → Next inside (octet ∷ text) found out rest → After inside octet head text found out rest
after_at inside octet text rest found out head is next = along inside octet text rest found out _ head is (after_of inside octet text rest found out next)

nothing_next : {inside : Bool} {found : Option Token} {out : Bool} {rest : List ℕ} → Next inside [] found out rest → ⊥
nothing_next next = elim next [ ]

-- there is at most one longest run of symbols
same_run : (is_quoted : Bool) (text front front' rest rest' : List ℕ) → IsRun is_quoted text front rest → IsRun is_quoted text front' rest'
    → (front ≡ front') × (rest ≡ rest')
same_run is_quoted text front front' rest rest' run run' =
    let found = one_run is_quoted run.symbols run'.symbols rest rest' run.each run'.each run.longest run'.longest
    (sym (ap (λ l. l ++ rest) run.written) ∙ sym run.whole ∙ run'.whole ∙ ap (λ l. l ++ rest') run'.written) in
    (run.written ∙ ap (flat_map spelled) found.0 ∙ sym run'.written, found.1)

-- at most one token follows at a place
pub record Same (found found' : Option Token) (out out' : Bool) (rest rest' : List ℕ) : Type 0 where
  pub founds : found ≡ found'
  pub outs : out ≡ out'
  pub rests : rest ≡ rest'

pub one_next : {inside : Bool} {text : List ℕ} {found : Option Token} {out : Bool} {rest : List ℕ} → Next inside text found out rest
    → (found' : Option Token) (out' : Bool) (rest' : List ℕ) → Next inside text found' out' rest' → Same found found' out out' rest rest'
one_next {inside = inside} (ended {rest = text} octet head) found' out' rest' other =
    let after = after_at inside octet text rest' found' out' Feed head other in
    record { founds = sym after.0; outs = sym after.1; rests = sym after.2 }
one_next {inside = inside} (goes {text = text} octet behind head next) found' out' rest' other =
    one_next next found' out' rest' (after_at inside octet text rest' found' out' (Go behind) head other)
one_next {inside = inside} (comment {text = text} octet head next) found' out' rest' other =
    one_next next found' out' rest' (after_at inside octet text rest' found' out' Comment head other)
one_next {inside = inside} (quoted {text = text} {front = front} {rest = rest} octet head run) found' out' rest' other =
    let after = after_at inside octet text rest' found' out' Quote head other in
    let same = same_run true text front after.front (34 ∷ rest) (34 ∷ rest') run after.run in
    let rests = same.1 in
    record {
      founds = ap (λ l. Some (record { quoted = true; text = l })) same.0 ∙ sym after.found_is;
      outs = sym after.out_is;
      rests = cc;
    }
one_next {inside = inside} (unquoted {text = text} {front = front} {rest = rest} octet head run some) found' out' rest' other =
    let after = after_at inside octet text rest' found' out' Word head other in
    let same = same_run false (octet ∷ text) front after.front rest rest' run after.run in
    record {
      founds = ap (λ l. Some (record { quoted = false; text = l })) same.0 ∙ sym after.found_is;
      outs = sym after.out_is;
      rests = same.1;
    }

-- the same tokens and ends follow at both places
pub record SameNext (inside : Bool) (text : List ℕ) (inside' : Bool) (text' : List ℕ) : Type 0 where
  pub on : (found : Option Token) (out : Bool) (rest : List ℕ) → Next inside' text' found out rest → Next inside text found out rest
  pub back : (found : Option Token) (out : Bool) (rest : List ℕ) → Next inside text found out rest → Next inside' text' found out rest

module _ {start : Bool} {first : List ℕ} (text : List ℕ) (place : ℕ) (within : place < length text) {inside : Bool} (same : SameNext start first inside (drop place text)) where
  here : drop place text ≡ get_or text place 0 ∷ drop (place + 1) text
  here = drop_more text place 0 within

  back_to : (found : Option Token) (out : Bool) (rest : List ℕ) → Next start first found out rest
      → Next inside (get_or text place 0 ∷ drop (place + 1) text) found out rest
  back_to found out rest next = subst (λ (l : List ℕ). Next inside l found out rest) here (same.back found out rest next)

  on_to : (found : Option Token) (out : Bool) (rest : List ℕ) → Next inside (get_or text place 0 ∷ drop (place + 1) text) found out rest
      → Next start first found out rest
  on_to found out rest next = same.on found out rest (subst (λ (l : List ℕ). Next inside l found out rest) (sym here) next)

  -- white space and parentheses
  pub same_go : (behind : Bool) → head_of inside (get_or text place 0) ≡ Go behind → SameNext start first behind (drop (place + 1) text)
  same_go behind head = record {
    on = λ found out rest next. on_to found out rest (goes _ behind head next);
    back = λ found out rest next. after_at inside _ _ rest found out (Go behind) head (back_to found out rest next);
  }

  -- a comment
  pub same_comment : (end : ℕ) → head_of inside (get_or text place 0) ≡ Comment → drop end text ≡ from_feed (drop (place + 1) text)
      → SameNext start first inside (drop end text)
  same_comment end head feed = record {
    on = λ found out rest next. on_to found out rest (comment _ head (subst (λ (l : List ℕ). Next inside l found out rest) feed next));
    back = λ found out rest next. subst (λ (l : List ℕ). Next inside l found out rest) (sym feed) (after_at inside _ _ rest found out Comment head (back_to found out rest next));
  }

  -- the end of a row
  pub next_feed : head_of inside (get_or text place 0) ≡ Feed → Next start first None false (drop (place + 1) text)
  next_feed head = on_to None false (drop (place + 1) text) (ended _ head)

  -- a parenthesis that is not allowed there
  pub none_refused : head_of inside (get_or text place 0) ≡ Refused → NoNext start first
  none_refused head = λ found out rest next. after_at inside _ _ rest found out Refused head (back_to found out rest next)

-- the end of the text
pub none_at_end : {start inside : Bool} {first : List ℕ} (text : List ℕ) (place : ℕ) → length text ≤ place
    → SameNext start first inside (drop place text) → NoNext start first
none_at_end {inside = inside} text place over same found out rest next =
    nothing_next (subst (λ (l : List ℕ). Next inside l found out rest) (drop_all place text over) (same.back found out rest next))

-- a quoted token at a place
pub next_quoted : (inside : Bool) (text : List ℕ) (place : ℕ) (end : TokenEnd) (mark : ℕ) (behind : List ℕ) → place < length text
    → head_of inside (get_or text place 0) ≡ Quote → RunsTo true text (place + 1) end → drop end.place text ≡ mark ∷ behind → mark ≡ 34
    → Next inside (drop place text) (Some (record { quoted = true; text = between (place + 1) end.place text })) inside (drop (end.place + 1) text)
next_quoted inside text place end mark behind within head to closed is =
    let token : Option Token = Some (record { quoted = true; text = between (place + 1) end.place text }) in
    let there : end.place < length text = omega (arith, ap (length {A = ℕ}) closed, length-drop end.place text) in
    let split = drop_more text end.place 0 there in
    let quote : get_or text end.place 0 ≡ 34 = let both = sym split ∙ closed in let e : get_or text end.place 0 ≡ mark = cc in e ∙ is in
    let rest_is : drop end.place text ≡ 34 ∷ drop (end.place + 1) text = split ∙ ap (λ n. n ∷ drop (end.place + 1) text) quote in
    let run = subst (λ (l : List ℕ). IsRun true (drop (place + 1) text) (between (place + 1) end.place text) l) rest_is to.run in
    subst (λ (l : List ℕ). Next inside l token inside (drop (end.place + 1) text)) (sym (drop_more text place 0 within)) (quoted _ head run)

not_closed : (inside : Bool) (text : List ℕ) (place : ℕ) (end : TokenEnd) → place < length text → head_of inside (get_or text place 0) ≡ Quote
    → RunsTo true text (place + 1) end → ((rest : List ℕ) → drop end.place text ≡ 34 ∷ rest → ⊥) → NoNext inside (drop place text)
not_closed inside text place end within head to none found out rest next =
    let at_head = subst (λ (l : List ℕ). Next inside l found out rest) (drop_more text place 0 within) next in
    let after = after_at inside _ _ rest found out Quote head at_head in
    none rest (same_run true _ _ _ _ _ to.run after.run).1

pub none_open : (inside : Bool) (text : List ℕ) (place : ℕ) (end : TokenEnd) → place < length text → head_of inside (get_or text place 0) ≡ Quote
    → RunsTo true text (place + 1) end → length (drop end.place text) ≡ 0 → NoNext inside (drop place text)
none_open inside text place end within head to over =
    not_closed inside text place end within head to (λ rest is. absurd (omega (arith, over, ap (length {A = ℕ}) is)))

pub none_cut : (inside : Bool) (text : List ℕ) (place : ℕ) (end : TokenEnd) (mark : ℕ) (behind : List ℕ) → place < length text
    → head_of inside (get_or text place 0) ≡ Quote → RunsTo true text (place + 1) end → drop end.place text ≡ mark ∷ behind → (mark ≡ 34 → ⊥)
    → NoNext inside (drop place text)
none_cut inside text place end mark behind within head to at_mark other =
    not_closed inside text place end within head to (λ rest is. let both = sym at_mark ∙ is in other (cc))

-- an unquoted token at a place
pub next_word : (inside : Bool) (text : List ℕ) (place : ℕ) (end : TokenEnd) → place < length text → place ≤ end.place → end.place ≤ length text
    → head_of inside (get_or text place 0) ≡ Word → RunsTo false text place end → (end.place ≡ place → ⊥)
    → Next inside (drop place text) (Some (record { quoted = false; text = between place end.place text })) inside (drop end.place text)
next_word inside text place end within behind most head to some =
    let token : Option Token = Some (record { quoted = false; text = between place end.place text }) in
    let here = drop_more text place 0 within in
    let len : length (between place end.place text) ≡ end.place - place =
    length-take-le (end.place - place) (drop place text) (omega (arith, length-drop place text)) in
    let run = subst (λ (l : List ℕ). IsRun false l (between place end.place text) (drop end.place text)) here to.run in
    subst (λ (l : List ℕ). Next inside l token inside (drop end.place text)) (sym here)
    (unquoted _ head run (omega (arith, len)))

pub none_word : (inside : Bool) (text : List ℕ) (place : ℕ) (end : TokenEnd) → place < length text
    → head_of inside (get_or text place 0) ≡ Word → RunsTo false text place end → end.place ≡ place → NoNext inside (drop place text)
none_word inside text place end within head to none found out rest next =
    let here = drop_more text place 0 within in
    let at_head = subst (λ (l : List ℕ). Next inside l found out rest) here next in
    let after = after_at inside _ _ rest found out Word head at_head in
    let run = subst (λ (l : List ℕ). IsRun false l (between place end.place text) (drop end.place text)) here to.run in
    let fronts = (same_run false _ _ _ _ _ run after.run).0 in
    let len : length (between place end.place text) ≡ end.place - place =
    length-take-le (end.place - place) (drop place text) (omega (arith, none)) in
    omega (arith, len, none, ap (length {A = ℕ}) fronts, after.some refl)

-- if `?` returns early, what holds of None holds
pub none_given : {X : Type 0} {r : Option X} {P : Type 0} → r ≡ None → P → IfNone r P
none_given {X} {r} {P} is p = subst (λ (o : Option X). IfNone o P) (sym is) p

-- where a token ends that is at a place of the text
pub step_end : (text : List ℕ) (start end : ℕ) → start ≤ end → end ≤ length text
    → end ≡ min start (length text) + length (take (end - start) (drop start text))
step_end text start end behind within =
    let left = length-drop start text in
    omega (arith, length-take-le (end - start) (drop start text) (omega (arith, left, within)))
