-- A text has one row at a place, none at its end, and splits into rows of tokens in one way only.
use Rattle.std.proofs.Common.{◌≡◌, ℕ, Bool, true, false, List, [], ◌∷◌, ◌++◌, Option, Some, None, ◌==◌, if◌then◌else◌, not, refl, sym, ◌∙◌, ap, subst}
use Rattle.std.specs.List.{flat_map}
use Rattle.std.proofs.lemmas.Bool.Decides.{Decides-eqb}
use Rattle.dns_label.specs.Symbol.{spelled}
use Rattle.dns_scan.specs.Token.{Token}
use Rattle.dns_text.specs.Tokens.{Head, IsRun, Next, Row, from_feed, has_feed, head_of, is_end, is_gap}
use Rattle.dns_text.specs.Tokens.Head.{Go, Comment, Feed, Quote, Word, Refused}
use Rattle.dns_text.specs.Tokens.Next.{ended, goes, comment, quoted, unquoted}
use Rattle.dns_text.specs.Tokens.Row.{end, token}
use Rattle.dns_text.specs.Rows.{BeginsWithRows, IsText, TokenRow, is_led}
use Rattle.dns_text.specs.Rows.BeginsWithRows.{none, more}
use Rattle.dns_text.proofs.TokenSymbols.{one_run}

-- a token whose text is the longest run of symbols
record Reads (is_quoted : Bool) (text : List ℕ) (behind : List ℕ → List ℕ) (inside : Bool) (found : Option Token) (out : Bool) (rest : List ℕ) : Type 0 where
  pub front : List ℕ
  pub run : IsRun is_quoted text front (behind rest)
  pub found_is : found ≡ Some (record { quoted = is_quoted; text = front })
  pub out_is : out ≡ inside

-- what the next token is after the first octet
abbrev After : Bool → ℕ → Head → List ℕ → Option Token → Bool → List ℕ → Type 0
After inside octet (Go behind) text found out rest = Next behind text found out rest
After inside octet Comment text found out rest = Next inside (from_feed text) found out rest
After inside octet Feed text found out rest = (found ≡ None) × (out ≡ false) × (rest ≡ text)
After inside octet Quote text found out rest = Reads true text (λ l. 34 ∷ l) inside found out rest
After inside octet Word text found out rest = Reads false (octet ∷ text) (λ l. l) inside found out rest
After inside octet Refused text found out rest = ⊥

along : (inside : Bool) (octet : ℕ) (text rest : List ℕ) (found : Option Token) (out : Bool) (a b : Head) → a ≡ b
    → After inside octet a text found out rest → After inside octet b text found out rest
along inside octet text rest found out a b same after = subst (λ (h : Head). After inside octet h text found out rest) same after

after_of : (inside : Bool) (octet : ℕ) (text rest : List ℕ) (found : Option Token) (out : Bool) → Next inside (octet ∷ text) found out rest
    → After inside octet (head_of inside octet) text found out rest
after_of inside octet text rest found out (ended c head) = along inside octet text rest found out Feed _ (sym head) (refl, refl, refl)
after_of inside octet text rest found out (goes c behind head next) = along inside octet text rest found out (Go behind) _ (sym head) next
after_of inside octet text rest found out (comment c head next) = along inside octet text rest found out Comment _ (sym head) next
after_of inside octet text rest found out (quoted {front = front} c head run) =
    along inside octet text rest found out Quote _ (sym head) (record { front = front; run = run; found_is = refl; out_is = refl })
after_of inside octet text rest found out (unquoted {front = front} c head run some) =
    along inside octet text rest found out Word _ (sym head) (record { front = front; run = run; found_is = refl; out_is = refl })

after_at : (inside : Bool) (octet : ℕ) (text rest : List ℕ) (found : Option Token) (out : Bool) (head : Head) → head_of inside octet ≡ head
    → Next inside (octet ∷ text) found out rest → After inside octet head text found out rest
after_at inside octet text rest found out head is next = along inside octet text rest found out _ head is (after_of inside octet text rest found out next)

record Same (found found' : Option Token) (out out' : Bool) (rest rest' : List ℕ) : Type 0 where
  pub founds : found ≡ found'
  pub outs : out ≡ out'
  pub rests : rest ≡ rest'

same_run : (is_quoted : Bool) (text front front' rest rest' : List ℕ) → IsRun is_quoted text front rest → IsRun is_quoted text front' rest'
    → (front ≡ front') × (rest ≡ rest')
same_run is_quoted text front front' rest rest' run run' =
    let found = one_run is_quoted run.symbols run'.symbols rest rest' run.each run'.each run.longest run'.longest
    (sym (ap (λ l. l ++ rest) run.written) ∙ sym run.whole ∙ run'.whole ∙ ap (λ l. l ++ rest') run'.written) in
    (run.written ∙ ap (flat_map spelled) found.0 ∙ sym run'.written, found.1)

one_next : {inside : Bool} {text : List ℕ} {found : Option Token} {out : Bool} {rest : List ℕ} → Next inside text found out rest
    → (found' : Option Token) (out' : Bool) (rest' : List ℕ) → Next inside text found' out' rest' → Same found found' out out' rest rest'
one_next {inside = inside} (ended {rest = text} octet head) found' out' rest' other =
    let after = after_at inside octet text rest' found' out' Feed head other in
    record { founds = sym after.0; outs = sym after.1; rests = sym after.2 }
one_next {inside = inside} (goes {text = text} octet behind head next) found' out' rest' other =
    one_next next found' out' rest' (after_at inside octet text rest' found' out' (Go behind) head other)
one_next {inside = inside} (comment {text = text} octet head next) found' out' rest' other =
    one_next next found' out' rest' (after_at inside octet text rest' found' out' Comment head other)
one_next {inside = inside} (quoted {text = text} {front = front} {rest = rest} octet head run) found' out' rest' other =
    let after = after_at inside octet text rest' found' out' Quote head other in
    let same = same_run true text front after.front (34 ∷ rest) (34 ∷ rest') run after.run in
    let rests = same.1 in
    record {
      founds = ap (λ l. Some (record { quoted = true; text = l })) same.0 ∙ sym after.found_is;
      outs = sym after.out_is;
      rests = cc;
    }
one_next {inside = inside} (unquoted {text = text} {front = front} {rest = rest} octet head run some) found' out' rest' other =
    let after = after_at inside octet text rest' found' out' Word head other in
    let same = same_run false (octet ∷ text) front after.front rest rest' run after.run in
    record {
      founds = ap (λ l. Some (record { quoted = false; text = l })) same.0 ∙ sym after.found_is;
      outs = sym after.out_is;
      rests = same.1;
    }

pub one_row : {inside : Bool} {text rest : List ℕ} {row : List Token} → Row inside text row rest → (row' : List Token) (rest' : List ℕ)
    → Row inside text row' rest' → (row ≡ row') × (rest ≡ rest')
one_row (end next) row' rest' (end next') = (refl, (one_next next None false rest' next').rests)
one_row (end next) row' rest' (token {found = found'} out' left' next' others') =
    let bad = (one_next next (Some found') out' left' next').founds in cc
one_row (token out left next others) row' rest' (end next') =
    let bad = (one_next next None false rest' next').founds in cc
one_row (token {found = found} out left next others) row' rest' (token {found = found'} {others = tokens'} out' left' next' others') =
    let same = one_next next (Some found') out' left' next' in
    let there : Row out left tokens' rest' =
    subst (λ b. Row b left tokens' rest') (sym same.outs) (subst (λ l. Row out' l tokens' rest') (sym same.rests) others') in
    let behind = one_row others tokens' rest' there in
    let founds = same.founds in
    let tokens = behind.0 in
    (cc, behind.1)

no_next : {inside : Bool} {found : Option Token} {out : Bool} {rest : List ℕ} → Next inside [] found out rest → ⊥
no_next next = elim next [ ]

no_row : {inside : Bool} {row : List Token} {rest : List ℕ} → Row inside [] row rest → ⊥
no_row (end next) = no_next next
no_row (token out left next others) = no_next next

none_after : (octet : ℕ) (text : List ℕ) (feed : Bool) → (octet == 10) ≡ feed → has_feed (octet ∷ text) ≡ false
    → (has_feed text ≡ false → from_feed text ≡ []) → from_feed (octet ∷ text) ≡ []
none_after octet text true is none' behind =
    let bad : true ≡ false = sym (ap (λ (b : Bool). if b then true else has_feed text) is) ∙ none' in cc
none_after octet text false is none' behind =
    ap (λ (b : Bool). if b then octet ∷ text else from_feed text) is
    ∙ behind (sym (ap (λ (b : Bool). if b then true else has_feed text) is) ∙ none')

-- what is left after its comment of a text without a line feed
none_from_feed : (text : List ℕ) → has_feed text ≡ false → from_feed text ≡ []
none_from_feed [] none' = refl
none_from_feed (octet ∷ text) none' = none_after octet text (octet == 10) refl none' (none_from_feed text)

-- at the end of a text there is no token, and no row
abbrev head_if_no_gap : Bool → ℕ → Head
head_if_no_gap inside octet =
    if octet == 10 then (if inside then Go true else Feed)
    else (if octet == 40 then (if inside then Refused else Go true)
    else (if octet == 41 then (if inside then Go false else Refused)
    else (if octet == 59 then Comment else (if octet == 34 then Quote else Word))))

end_after_feed : (text : List ℕ) {found : Option Token} {out : Bool} {rest : List ℕ} (feed : Bool) → has_feed text ≡ feed
    → not (has_feed text) ≡ true → Next false (from_feed text) found out rest → ⊥
end_after_feed text true is none' behind = let bad : false ≡ true = sym (ap not is) ∙ none' in cc
end_after_feed text {found} {out} {rest} false is none' behind =
    no_next (subst (λ (l : List ℕ). Next false l found out rest) (none_from_feed text is) behind)

end_at_mark : (octet : ℕ) (text : List ℕ) {found : Option Token} {out : Bool} {rest : List ℕ} (mark : Bool) → (octet == 59) ≡ mark
    → is_gap octet ≡ false → is_end (octet ∷ text) ≡ true → Next false (octet ∷ text) found out rest → ⊥
end_at_mark octet text {found} {out} {rest} true is gap ends next =
    let at : octet ≡ 59 = (Decides-eqb octet 59).0 is in
    let ended : not (has_feed text) ≡ true = subst (λ (n : ℕ). is_end (n ∷ text) ≡ true) at ends in
    end_after_feed text (has_feed text) refl ended (after_at false octet text rest found out Comment (ap (head_of false) at) next)
end_at_mark octet text false is gap ends next =
    let bad : false ≡ true =
    sym (ap (λ (b : Bool). if b then is_end text else (if octet == 59 then not (has_feed text) else false)) gap
    ∙ ap (λ (b : Bool). if b then not (has_feed text) else false) is) ∙ ends in cc

at_end : (octet : ℕ) (text : List ℕ) {found : Option Token} {out : Bool} {rest : List ℕ} (gap : Bool) → is_gap octet ≡ gap
    → is_end (octet ∷ text) ≡ true → Next false (octet ∷ text) found out rest
    → (is_end text ≡ true → Next false text found out rest → ⊥) → ⊥
at_end octet text {found} {out} {rest} true is ends next behind =
    behind (sym (ap (λ (b : Bool). if b then is_end text else (if octet == 59 then not (has_feed text) else false)) is) ∙ ends)
    (after_at false octet text rest found out (Go false) (ap (λ (b : Bool). if b then Go false else head_if_no_gap false octet) is) next)
at_end octet text false is ends next behind = end_at_mark octet text (octet == 59) refl is ends next

no_next_at_end : (text : List ℕ) {found : Option Token} {out : Bool} {rest : List ℕ} → is_end text ≡ true
    → Next false text found out rest → ⊥
no_next_at_end [] ends next = no_next next
no_next_at_end (octet ∷ text) {found} {out} {rest} ends next =
    at_end octet text (is_gap octet) refl ends next (λ behind next'. no_next_at_end text behind next')

pub no_row_at_end : {text : List ℕ} {row : List Token} {rest : List ℕ} → is_end text ≡ true → Row false text row rest → ⊥
no_row_at_end {text} ends (end next) = no_next_at_end text ends next
no_row_at_end {text} ends (token out left next others) = no_next_at_end text ends next

abbrev row_of : List ℕ → List Token → TokenRow
row_of text tokens = record { blank_led = is_led text; tokens = tokens }

one_begin : {text rest rest' : List ℕ} {rows rows' : List TokenRow} → BeginsWithRows text rows rest → is_end rest ≡ true
    → BeginsWithRows text rows' rest' → is_end rest' ≡ true → rows' ≡ rows
one_begin none ends none ends' = refl
one_begin none ends (more first behind) ends' = absurd (no_row_at_end ends first)
one_begin (more first behind) ends none ends' = absurd (no_row_at_end ends' first)
one_begin {text} (more {tokens = row} {rows = rows} first behind) ends
    (more {rest = rest'} {tokens = row'} {rows = rows'} first' behind') ends' =
    let same = one_row first row' _ first' in
    let there = one_begin behind ends (subst (λ (l : List ℕ). BeginsWithRows l rows' rest') (sym same.1) behind') ends' in
    let row_is : row_of text row ≡ row_of text row' = ap (row_of text) same.0 in
    cc

pub one_text : {text : List ℕ} {rows : List TokenRow} → IsText text rows → (others : List TokenRow) → IsText text others
    → others ≡ rows
one_text is others other = one_begin is.begins is.ends other.begins other.ends
