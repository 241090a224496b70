-- The type of a row: the first word for a type behind the owner.
use mir.Val.{bool_byte}
use Rattle.std.proofs.Common.{◌≡◌, ◌+◌, ◌<◌, ◌≤◌, ◌∷◌, ◌++◌, ◌∙◌, ℕ, zero, suc, Bool, true, false, not, List, [], Some, length, drop, get_or, is_some, map, take, add-one, length-append, ap, sym, refl, subst, arith}
use Rattle.std.specs.Prelude.{slice_get}
use Rattle.std.specs.List.{AllByRecursion}
use Rattle.std.proofs.lemmas.List.{append_cancel_right, take_all, take_at, length-map}
use Rattle.dns_values.specs.Mnemonic.{type_read}
use Rattle.dns_field_texts.specs.TypeWords.{type_word_read}
use Rattle.dns_scan.specs.Token.{Token}
use Rattle.dns_text.specs.Rows.{TokenRow}
use Rattle.dns_entry_scanner.specs.TokenSpan.{token_in}
use Rattle.dns_entry_scanner.specs.declared.token_span.TokenSpan.{TokenSpan}
use Rattle.dns_zonefile.specs.Statement.{IsDirective}
use Rattle.zone_general.specs.LongerRow.{HasFront, HasType, IsNoTypeWord, IsTypeWord}
use Rattle.zone_general.specs.LongerRow.HasFront.{last, own}
use Rattle.zone_general.specs.Seen.{HasTypeAt, HasNoType, row_in, tokens_in}
use Rattle.zone_general.specs.declared.found_row.FoundRow.{FoundRow}
use Rattle.zone_general.specs.declared.stated_type.RowType.{RowType}

-- where the tokens behind the owner begin
abbrev pub start_of : Bool → ℕ
start_of true = 0
start_of false = 1

-- the tokens from one place to another are words for no type
abbrev pub AreNoTypes : ℕ → ℕ → List Token → Type 0
AreNoTypes start index tokens = AllByRecursion IsNoTypeWord (drop start (take index tokens))

-- one more token is
pub one_more : (start index : ℕ) (tokens : List Token) (token : Token) → start ≤ index → slice_get tokens index ≡ Some token
    → IsNoTypeWord token → AreNoTypes start index tokens → AreNoTypes start (suc index) tokens
one_more start index [] token from is none' each = absurd cc
one_more zero zero (first ∷ tokens) token from is none' each = let same : first ≡ token = cc in (subst IsNoTypeWord (sym same) none', tt)
one_more zero (suc index) (first ∷ tokens) token from is none' each = (each.0, one_more zero index tokens token (omega arith) is none' each.1)
one_more (suc start) zero (first ∷ tokens) token from is none' each = absurd (omega (arith, from))
one_more (suc start) (suc index) (first ∷ tokens) token from is none' each = one_more start index tokens token (omega (arith, from)) is none' each

-- the tokens before one, it, and those behind it
pub parted : (index : ℕ) (tokens : List Token) (token : Token) → slice_get tokens index ≡ Some token
    → tokens ≡ take index tokens ++ token ∷ drop (suc index) tokens
parted index [] token is = absurd cc
parted zero (first ∷ tokens) token is = let same : first ≡ token = cc in ap (λ (t : Token). t ∷ tokens) same
parted (suc index) (first ∷ tokens) token is = ap (λ (l : List Token). first ∷ l) (parted index tokens token is)

pub place_of : (index : ℕ) (tokens : List Token) (token : Token) → slice_get tokens index ≡ Some token → index ≡ length (take index tokens)
place_of index [] token is = absurd cc
place_of zero (first ∷ tokens) token is = refl
place_of (suc index) (first ∷ tokens) token is = let behind = place_of index tokens token is in omega (arith, behind)

pub front_of : (blank_led : Bool) (index : ℕ) (tokens : List Token) (token : Token) → slice_get tokens index ≡ Some token → start_of blank_led ≤ index
    → HasFront blank_led (take index tokens) (drop (start_of blank_led) (take index tokens))
front_of blank_led index [] token is from = absurd cc
front_of true index (first ∷ tokens) token is from = last
front_of false zero (first ∷ tokens) token is from = absurd (omega (arith, from))
front_of false (suc index) (first ∷ tokens) token is from = own

-- no word for a type is among words for none
pub no_type_among : (others : List Token) (word : Token) (rtype : ℕ) (data' : List Token) → AllByRecursion IsNoTypeWord (others ++ word ∷ data')
    → IsTypeWord rtype word → ⊥
no_type_among [] word rtype data' each is = each.0 rtype is
no_type_among (other ∷ others) word rtype data' each is = no_type_among others word rtype data' each.1 is

pub behind_front : (blank_led : Bool) (front others : List Token) (word : Token) (data' : List Token) → HasFront blank_led front others
    → drop (start_of blank_led) (front ++ word ∷ data') ≡ others ++ word ∷ data'
behind_front blank_led front others word data' last = refl
behind_front blank_led front others word data' own = refl

-- a row of such tokens has no type
pub no_type : {row : TokenRow} {front : List Token} {word : Token} {rtype : ℕ} {data' : List Token}
    → AllByRecursion IsNoTypeWord (drop (start_of row.blank_led) row.tokens) → HasType row front word rtype data' → ⊥
no_type {row} {front} {word} {rtype} {data'} each has =
    no_type_among has.others word rtype data'
    (subst (AllByRecursion IsNoTypeWord)
    (ap (drop (start_of row.blank_led)) has.is ∙ behind_front row.blank_led front has.others word data' has.has_front) each) has.type

-- the token of the span at a place
pub token_at : (text : List ℕ) (spans : List TokenSpan) (index : ℕ) (default : TokenSpan) → index < length spans
    → slice_get (map (λ span. token_in text span) spans) index ≡ Some (token_in text (get_or spans index default))
token_at text [] index default within = absurd (omega (arith, within))
token_at text (span ∷ spans) zero default within = refl
token_at text (span ∷ spans) (suc index) default within = token_at text spans index default (omega (arith, within))

pub start_is : (blank_led : Bool) (start : ℕ) → start ≡ bool_byte (not blank_led) → start ≡ start_of blank_led
start_is true start is = is
start_is false start is = is

-- the words behind the owner up to a place are for no type
module _ (row : FoundRow) (start : ℕ) (begins : start ≡ bool_byte (not row.blank_led)) (index : ℕ) (from : start ≤ index)
    (each : AreNoTypes start index (tokens_in row)) where
  from_start : start_of row.blank_led ≤ index
  from_start = let is = start_is row.blank_led start begins in omega (arith, is, from)

  -- and so is the one there
  pub goes_on : (default : TokenSpan) → index < length row.spans.now
      → ((rtype : ℕ) → IsTypeWord rtype (token_in row.text.now (get_or row.spans.now index default)) → ⊥)
      → AreNoTypes start (index + 1) (tokens_in row)
  goes_on default within none' =
      rw add-one (one_more start index (tokens_in row) _ from (token_at row.text.now row.spans.now index default within) none' each)

  -- but that at the place is for one
  pub type_found : {number rtype : ℕ} {known : Bool} (default : TokenSpan) → index < length row.spans.now → (IsDirective (row_in row) → ⊥)
      → IsTypeWord number (token_in row.text.now (get_or row.spans.now index default)) → rtype ≡ number
      → known ≡ is_some (type_read (token_in row.text.now (get_or row.spans.now index default)).text)
      → HasTypeAt (row_in row) (record { index = index; rtype = rtype; known = known })
  type_found {known = known} default within no_directive is same known_is =
      let at = token_at row.text.now row.spans.now index default within in record {
        front = take index (tokens_in row);
        word = token_in row.text.now (get_or row.spans.now index default);
        data' = drop (suc index) (tokens_in row);
        has = record {
          no_directive = no_directive;
          is = parted index (tokens_in row) _ at;
          others = drop (start_of row.blank_led) (take index (tokens_in row));
          has_front = front_of row.blank_led index (tokens_in row) _ at from_start;
          first = subst (λ n. AreNoTypes n index (tokens_in row)) (start_is row.blank_led start begins) each;
          type = subst (λ n. IsTypeWord n (token_in row.text.now (get_or row.spans.now index default))) (sym same) is;
        };
        place = place_of index (tokens_in row) _ at;
        known = known_is;
      }

  -- and there are no more
  pub none_found : length row.spans.now ≤ index → HasNoType (row_in row)
  none_found all front word rtype data' has =
      let long : length (tokens_in row) ≤ index = (let same = length-map row.spans.now (λ span. token_in row.text.now span) in omega (arith, same, all)) in
      let every : AreNoTypes start index (tokens_in row) = each in
      no_type
      (subst (λ (l : List Token). AllByRecursion IsNoTypeWord (drop (start_of row.blank_led) l)) (take_all index (tokens_in row) long)
      (subst (λ n. AreNoTypes n index (tokens_in row)) (start_is row.blank_led start begins) every)) has

-- a row has one type
pub record OneType (front front' : List Token) (word word' : Token) (rtype rtype' : ℕ) (behind behind' : List Token) : Type 0 where
  pub fronts : front ≡ front'
  pub words : word ≡ word'
  pub types : rtype ≡ rtype'
  pub datas : behind ≡ behind'

one_word : (others others' : List Token) {word word' : Token} {rtype rtype' : ℕ} {behind behind' : List Token}
    → AllByRecursion IsNoTypeWord others → AllByRecursion IsNoTypeWord others' → IsTypeWord rtype word → IsTypeWord rtype' word'
    → others ++ word ∷ behind ≡ others' ++ word' ∷ behind' → (word ≡ word') × (behind ≡ behind')
one_word [] [] each each' is is' same = (cc, cc)
one_word [] (other ∷ others') {word} {rtype = rtype} each each' is is' same =
    let first : word ≡ other = cc in absurd (each'.0 rtype (subst (IsTypeWord rtype) first is))
one_word (other ∷ others) [] {word' = word'} {rtype' = rtype'} each each' is is' same =
    let first : word' ≡ other = cc in absurd (each.0 rtype' (subst (IsTypeWord rtype') first is'))
one_word (other ∷ others) (other' ∷ others') each each' is is' same = one_word others others' each.1 each'.1 is is' (cc)

pub one_type : {row : TokenRow} {front front' : List Token} {word word' : Token} {rtype rtype' : ℕ} {behind behind' : List Token}
    → HasType row front word rtype behind → HasType row front' word' rtype' behind' → OneType front front' word word' rtype rtype' behind behind'
one_type {row} {front} {front'} {word} {word'} {rtype} {rtype'} {behind} {behind'} has has' =
    let same : has.others ++ word ∷ behind ≡ has'.others ++ word' ∷ behind' =
    sym (behind_front row.blank_led front has.others word behind has.has_front)
    ∙ ap (drop (start_of row.blank_led)) (sym has.is ∙ has'.is) ∙ behind_front row.blank_led front' has'.others word' behind' has'.has_front in
    let one = one_word has.others has'.others has.first has'.first has.type has'.type same in
    let both : Some rtype ≡ Some rtype' = sym has.type.reads ∙ ap (λ (t : Token). type_word_read t.text) one.0 ∙ has'.type.reads in record {
      fronts = append_cancel_right front front' (word ∷ behind)
          (sym has.is ∙ has'.is ∙ ap (λ (l : List Token). front' ++ l) (λ i. sym one.0 i ∷ sym one.1 i));
      words = one.0;
      types = cc;
      datas = one.1;
    }

-- the word for a type, by its place
pub word_at : (index : ℕ) (front : List Token) (word : Token) (behind tokens : List Token) → tokens ≡ front ++ word ∷ behind → index ≡ length front
    → slice_get tokens index ≡ Some word
word_at index front word behind tokens is at =
    ap (λ (l : List Token). slice_get l index) is ∙ ap (λ (n : ℕ). slice_get (front ++ word ∷ behind) n) at ∙ there front
  where
    there : (before : List Token) → slice_get (before ++ word ∷ behind) (length before) ≡ Some word
    there [] = refl
    there (token ∷ before) = there before

pub data_from : (index : ℕ) (front : List Token) (word : Token) (behind tokens : List Token) → tokens ≡ front ++ word ∷ behind → index ≡ length front
    → drop (index + 1) tokens ≡ behind
data_from index front word behind tokens is at =
    rw add-one
    (ap (λ (l : List Token). drop (suc index) l) is ∙ ap (λ (n : ℕ). drop (suc n) (front ++ word ∷ behind)) at ∙ there front)
  where
    there : (before : List Token) → drop (suc (length before)) (before ++ word ∷ behind) ≡ behind
    there [] = refl
    there (token ∷ before) = there before

pub type_within : (row : FoundRow) {kind : RowType} → HasTypeAt (row_in row) kind → kind.index < length row.spans.now
type_within row has =
    let place = has.place in
    let whole : length (tokens_in row) ≡ length (has.front ++ has.word ∷ has.data') = ap (λ (l : List Token). length l) has.has.is in
    let parts = length-append has.front (has.word ∷ has.data') in
    let all = length-map row.spans.now (λ span. token_in row.text.now span) in
    omega (arith, place, whole, parts, all)

pub data_at : (row : FoundRow) {kind : RowType} (has : HasTypeAt (row_in row) kind) → drop (kind.index + 1) (tokens_in row) ≡ has.data'
data_at row {kind} has = data_from kind.index has.front has.word has.data' (tokens_in row) has.has.is has.place

pub front_at : (row : FoundRow) {kind : RowType} (has : HasTypeAt (row_in row) kind) → take kind.index (tokens_in row) ≡ has.front
front_at row {kind} has = ap (take kind.index) has.has.is ∙ take_at has.front (has.word ∷ has.data') kind.index (sym has.place)
