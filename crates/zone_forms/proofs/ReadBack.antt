-- A row that was printed, read again.
use Rattle.std.proofs.Common.{◌≡◌, ◌+◌, ◌-◌, ◌<◌, ◌++◌, ◌∙◌, ℕ, zero, suc, Bool, true, false, not, nat_eq, List, [], ◌∷◌, Some, length, take, drop, get_or, is_some, refl, sym, ap, subst, arith, add-one, length-drop}
use Rattle.std.specs.Prelude.{IsTrue, slice_get}
use Rattle.std.specs.Cmp.Lexicographic.{pointwise}
use Rattle.std.proofs.lemmas.List.{length-map, length-take-le, take_all}
use Rattle.std.proofs.lemmas.Slice.Eq.{bytes_eq-Decides}
use Rattle.dns_label.specs.Octets.{AreOctets}
use Rattle.dns_values.specs.Mnemonic.{type_read}
use Rattle.dns_scan.specs.Token.{Token}
use Rattle.dns_entry_scanner.specs.TokenSpan.{is_quoted, token_in}
use Rattle.dns_entry_scanner.specs.declared.token_span.TokenSpan.{TokenSpan}
use Rattle.dns_zonefile.specs.Statement.{Names}
use Rattle.dns_text.specs.Rows.{TokenRow}
use Rattle.dns_text.proofs.OneRow.{one_row}
use Rattle.dns_entry_scanner.specs.RowFound.{IsRowAt}
use Rattle.zone_general.specs.LongerRow.{HasType, IsMarked, ScansLonger}
use Rattle.zone_forms.specs.Presenting.{HasSameFront, ReadsBack}
use Rattle.zone_general.specs.Rewritten.{AreRow}
use Rattle.zone_general.specs.Seen.{HasTypeAt, IsFound, octets_in, row_in, tokens_in}
use Rattle.zone_general.specs.declared.found_row.FoundRow.{FoundRow}
use Rattle.zone_general.specs.declared.stated_type.RowType.{RowType}
use Rattle.zone_general.proofs.FoundRows.{found_row}
use Rattle.zone_general.proofs.GeneralRows.{row_found}
use Rattle.zone_general.proofs.RowTypes.{data_from, one_type, token_at, type_within}

-- one more token is the same
take_more : (index : ℕ) (tokens others : List Token) (token : Token) → slice_get tokens index ≡ Some token → slice_get others index ≡ Some token
    → take index tokens ≡ take index others → take (suc index) tokens ≡ take (suc index) others
take_more index [] others token is also same = absurd cc
take_more index (first ∷ tokens) [] token is also same = absurd cc
take_more zero (first ∷ tokens) (first' ∷ others) token is also same =
    let firsts : first ≡ first' = cc in ap (λ (t : Token). t ∷ []) firsts
take_more (suc index) (first ∷ tokens) (first' ∷ others) token is also same =
    let firsts : first ≡ first' = cc in
    let behind : take index tokens ≡ take index others = cc in
    let rest = take_more index tokens others token is also behind in
    (λ i. firsts i ∷ rest i)

pub same_more : (row other : FoundRow) (index : ℕ) (default default' : TokenSpan) {text text' : List ℕ} → index < length row.spans.now
    → index < length other.spans.now
    → is_quoted (get_or row.spans.now index default) ≡ is_quoted (get_or other.spans.now index default')
    → ((token : Token) → slice_get (tokens_in row) index ≡ Some token → text ≡ token.text)
    → ((token : Token) → slice_get (tokens_in other) index ≡ Some token → text' ≡ token.text) → text ≡ text'
    → take index (tokens_in other) ≡ take index (tokens_in row) → take (index + 1) (tokens_in other) ≡ take (index + 1) (tokens_in row)
same_more row other index default default' within within' quoted is also texts same =
    let here = token_at row.text.now row.spans.now index default within in
    let there = token_at other.text.now other.spans.now index default' within' in
    let text_is = is _ here in
    let text_also = also _ there in
    let alike = sym text_is ∙ texts ∙ text_also in
    let token : token_in row.text.now (get_or row.spans.now index default) ≡ token_in other.text.now (get_or other.spans.now index default') =
    (λ i. record { quoted = quoted i; text = alike i }) in
    rw add-one (take_more index (tokens_in other) (tokens_in row) _ there (here ∙ ap (λ (t : Token). Some t) token) same)

some_at : (index : ℕ) (tokens : List Token) → index < length tokens → (token : Token) × (slice_get tokens index ≡ Some token)
some_at index [] within = absurd (omega (arith, within))
some_at zero (token ∷ tokens) within = (token, refl)
some_at (suc index) (token ∷ tokens) within = some_at index tokens (omega (arith, within))

-- tokens that are the same up to a place are the same at each place before it
get_taken : (count index : ℕ) (tokens : List Token) → index < count → slice_get (take count tokens) index ≡ slice_get tokens index
get_taken zero index tokens less = absurd (omega (arith, less))
get_taken (suc count) index [] less = refl
get_taken (suc count) zero (token ∷ tokens) less = refl
get_taken (suc count) (suc index) (token ∷ tokens) less = get_taken count index tokens (omega (arith, less))

-- one token is at the place in both
record SameAt (index : ℕ) (tokens others : List Token) : Type 0 where
  token : Token
  here : slice_get tokens index ≡ Some token
  there : slice_get others index ≡ Some token

same_at : (count index : ℕ) (tokens others : List Token) → index < count → index < length tokens → take count others ≡ take count tokens
    → SameAt index tokens others
same_at count index tokens others less within same =
    let is = some_at index tokens within in
    record {
      token = is.0;
      here = is.1;
      there = sym (get_taken count index others less) ∙ ap (λ (l : List Token). slice_get l index) same ∙ get_taken count index tokens less ∙ is.1;
    }

module _ (row other : FoundRow) {count index : ℕ} (less : index < count) (within : index < length row.spans.now)
    (same : take count (tokens_in other) ≡ take count (tokens_in row)) where
  at_both : SameAt index (tokens_in row) (tokens_in other)
  at_both =
      let all = length-map row.spans.now (λ span. token_in row.text.now span) in
      same_at count index (tokens_in row) (tokens_in other) less (omega (arith, within, all)) same

  pub quotes_alike : (default default' : TokenSpan) {quoted quoted' : Bool} → index < length other.spans.now
      → quoted ≡ is_quoted (get_or row.spans.now index default) → quoted' ≡ is_quoted (get_or other.spans.now index default') → quoted ≡ quoted'
  quotes_alike default default' within' is also =
      let both = at_both in
      let first : Some (token_in row.text.now (get_or row.spans.now index default)) ≡ Some both.token =
      sym (token_at row.text.now row.spans.now index default within) ∙ both.here in
      let second : Some (token_in other.text.now (get_or other.spans.now index default')) ≡ Some both.token =
      sym (token_at other.text.now other.spans.now index default' within') ∙ both.there in
      let tokens : token_in row.text.now (get_or row.spans.now index default) ≡ token_in other.text.now (get_or other.spans.now index default') = cc in
      is ∙ ap (λ (t : Token). t.quoted) tokens ∙ sym also

  pub texts_alike : {text text' : List ℕ} → ((token : Token) → slice_get (tokens_in row) index ≡ Some token → text ≡ token.text)
      → ((token : Token) → slice_get (tokens_in other) index ≡ Some token → text' ≡ token.text) → text ≡ text'
  texts_alike is also = let both = at_both in is both.token both.here ∙ sym (also both.token both.there)

taken_front : (front behind : List Token) → take (length front) (front ++ behind) ≡ front
taken_front [] behind = refl
taken_front (token ∷ front) behind = ap (λ (l : List Token). token ∷ l) (taken_front front behind)

pub front_taken : {row : TokenRow} {front data' : List Token} {word : Token} {rtype index : ℕ} → HasType row front word rtype data' → index ≡ length front
    → take index row.tokens ≡ front
front_taken {front = front} {data' = data'} {word = word} {index = index} has place =
    ap (take index) has.is ∙ ap (λ (n : ℕ). take n (front ++ word ∷ data')) place ∙ taken_front front (word ∷ data')

-- octets by their places
pub octets_by_place : (text : List ℕ) → ((i : ℕ) → get_or text i 0 < 256) → AreOctets text
octets_by_place [] small = tt
octets_by_place (octet ∷ text) small = (small 0, octets_by_place text (λ i. small (suc i)))

-- octets that compare as equal
not_false : true ≡ false → ⊥
not_false told = cc

alike_is : (alike : Bool) → not alike ≡ false → alike ≡ true
alike_is true told = refl
alike_is false told = absurd (not_false told)

not_true : false ≡ true → ⊥
not_true told = cc

pub no_truth : IsTrue false → ⊥
no_truth told = cc

pub differ : (octets others : List ℕ) (told : Bool) → told ≡ not (pointwise nat_eq octets others) → told ≡ true → octets ≡ others → ⊥
differ octets others told is holds same =
    not_true (ap not (sym ((bytes_eq-Decides octets others).1 same)) ∙ sym is ∙ holds)

pub no_other : (octets others : List ℕ) (told : Bool) → told ≡ not (pointwise nat_eq octets others) → told ≡ false → octets ≡ others
no_other octets others told is none = (bytes_eq-Decides octets others).0 (alike_is (pointwise nat_eq octets others) (sym is ∙ none))

pub one_content : {old items content slice data' : List ℕ} (told : Bool) → old ≡ [] → items ≡ old ++ content → slice ≡ items
    → told ≡ pointwise nat_eq slice data' → told ≡ true → content ≡ data'
one_content {items = items} {content = content} {slice = slice} {data' = data'} told empty is same compares holds =
    let all : items ≡ content = is ∙ ap (λ (l : List ℕ). l ++ content) empty in
    sym all ∙ sym same ∙ (bytes_eq-Decides slice data').0 (sym compares ∙ holds)

-- all octets of a text that is one row
pub all_octets : (row : FoundRow) → row.place ≡ 0 → row.next ≡ length row.text.now → octets_in row ≡ row.text.now
all_octets row place next =
    ap (λ (n : ℕ). take (row.next - n) (drop n row.text.now)) place ∙ take_all (row.next - 0) row.text.now (omega (arith, next))

pub same_content : {names : Names} {rtype : ℕ} {tokens : List Token} {content data' : List ℕ} → content ≡ data' → ScansLonger names rtype tokens content
    → ScansLonger names rtype tokens data'
same_content {names} {rtype} {tokens} same scans = subst (ScansLonger names rtype tokens) same scans

-- the other row has its type at the same place
module _ (row other : FoundRow) {kind : RowType} where
  pub front_found : HasSameFront (row_in row) (row_in other) kind → {found : RowType} → HasTypeAt (row_in other) found
      → (found.index ≡ kind.index) × (found.rtype ≡ kind.rtype)
  front_found is has =
      let one = one_type has.has is.has in (has.place ∙ ap (length {A = Token}) one.fronts ∙ sym is.place, one.types)

  pub front_unmarked : HasSameFront (row_in row) (row_in other) kind → IsMarked (drop (kind.index + 1) (tokens_in other)) → ⊥
  front_unmarked is marks =
      is.unmarked (subst IsMarked (data_from kind.index is.front is.word is.data' (tokens_in other) is.has.is is.place) marks)

  pub front_same : HasSameFront (row_in row) (row_in other) kind → take kind.index (tokens_in other) ≡ take kind.index (tokens_in row)
  front_same is = front_taken is.has is.place ∙ is.same

  pub same_front : {found : RowType} → HasTypeAt (row_in other) found → found.index ≡ kind.index → found.rtype ≡ kind.rtype
      → (IsMarked (drop (kind.index + 1) (tokens_in other)) → ⊥) → take kind.index (tokens_in other) ≡ take kind.index (tokens_in row)
      → HasSameFront (row_in row) (row_in other) kind
  same_front {found} has index rtype unmarked same =
      let place = sym index ∙ has.place in record {
        front = has.front;
        word = has.word;
        data' = has.data';
        has = subst (λ (n : ℕ). HasType (row_in other) has.front has.word n has.data') rtype has.has;
        place = place;
        same = sym (front_taken has.has place) ∙ same;
        unmarked = λ marks. unmarked (subst IsMarked (sym (data_from kind.index has.front has.word has.data' (tokens_in other) has.has.is place)) marks);
      }

  pub front_within : HasSameFront (row_in row) (row_in other) kind → kind.index < length other.spans.now
  front_within is =
      type_within other {kind = record { index = kind.index; rtype = kind.rtype; known = is_some (type_read is.word.text) }}
      (record { front = is.front; word = is.word; data' = is.data'; has = is.has; place = is.place; known = refl })

  pub read_back : {names : Names} {content : List ℕ} → IsFound other → octets_in other ≡ other.text.now → other.blank_led ≡ row.blank_led
      → HasSameFront (row_in row) (row_in other) kind → ScansLonger names kind.rtype (drop (kind.index + 1) (tokens_in other)) content
      → ReadsBack names (row_in row) kind content other.text.now
  read_back {names} {content} found octets led is scans = record {
    printed = row_in other;
    are = subst (λ (l : List ℕ). AreRow l (row_in other)) octets (found_row other found).are;
    led = led;
    front = is.front;
    word = is.word;
    data' = is.data';
    has = is.has;
    same = is.same;
    unmarked = is.unmarked;
    scans = subst (λ (l : List Token). ScansLonger names kind.rtype l content)
        (data_from kind.index is.front is.word is.data' (tokens_in other) is.has.is is.place) scans;
  }

-- A row that was printed and reads back is the row that is found in its octets.
pub whole_row : {octets : List ℕ} {row : TokenRow} {spans : List TokenSpan} {next : ℕ} {blank_led : Bool} → AreRow octets row
    → IsRowAt octets 0 spans next blank_led → next ≡ length octets
whole_row {octets} {next = next} are at =
    let none : drop next octets ≡ [] = (one_row at.row _ _ are.is).1 in
    let within = at.within in
    omega (arith, ap (length {A = ℕ}) none, length-drop next octets, within)

module _ (row other : FoundRow) {kind : RowType} {names : Names} {content : List ℕ} (at : IsRowAt other.text.now 0 other.spans.now other.next other.blank_led)
    (back : ReadsBack names (row_in row) kind content other.text.now) where
  pub printed_is : back.printed ≡ row_in other
  printed_is =
      let found = row_found back.are at in λ i. record { blank_led = sym found.1 i; tokens = sym found.0 i }

  pub led_back : other.blank_led ≡ row.blank_led
  led_back = (row_found back.are at).1 ∙ back.led

  pub front_back : kind.index < length row.spans.now → HasSameFront (row_in row) (row_in other) kind
  front_back within =
      let all = length-map row.spans.now (λ span. token_in row.text.now span) in
      record {
        front = back.front;
        word = back.word;
        data' = back.data';
        has = subst (λ (r : TokenRow). HasType r back.front back.word kind.rtype back.data') printed_is back.has;
        place = sym (ap (length {A = Token}) back.same ∙ length-take-le kind.index (tokens_in row) (omega (arith, within, all)));
        same = back.same;
        unmarked = back.unmarked;
      }

  pub data_back : kind.index < length row.spans.now → ScansLonger names kind.rtype (drop (kind.index + 1) (tokens_in other)) content
  unfolding front_back
  data_back within =
      let is = front_back within in
      subst (λ (l : List Token). ScansLonger names kind.rtype l content)
      (sym (data_from kind.index is.front is.word is.data' (tokens_in other) is.has.is is.place)) back.scans
