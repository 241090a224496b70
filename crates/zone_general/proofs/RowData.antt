-- The data of a row.
use Rattle.std.proofs.Common.{◌≡◌, ◌≢◌, ◌-◌, ◌≤◌, ◌∷◌, ◌++◌, ◌∙◌, ◌↔◌, ℕ, zero, suc, Bool, List, [], drop, take, length, map, ap, sym, subst, refl, append-nil, IsTrue, Ok, Err}
use Rattle.std.specs.Prelude.{Option, Result, OnOk, IfErr}
use Rattle.std.proofs.lemmas.List.{drop-map, take_rest}
use Rattle.dns_scan.specs.Token.{SameNames, Token, marker}
use Rattle.dns_scan.specs.UnknownData.{IsUnknownData}
use Rattle.dns_entry_scanner.specs.NameInText.{SpellsUnder}
use Rattle.dns_entry_scanner.specs.TokenSpan.{token_in}
use Rattle.dns_entry_scanner.specs.declared.token_span.TokenSpan.{TokenSpan}
use Rattle.dns_field_texts.specs.Appended.{GoesOn}
use Rattle.dns_fields.specs.Fields.{Field}
use Rattle.dns_fields.specs.Fields.{octets as octets_of}
use Rattle.dns_fields_more.specs.Text.{AppendsFurther, NoFurtherScans, ScansFurther}
use Rattle.dns_fields_more.proofs.ScanRows.{further_there, swap}
use Rattle.dns_zonefile.proofs.OneEntry.{under_once}
use Rattle.dns_zonefile.specs.Statement.{Names}
use Rattle.zone_general.specs.LongerRow.{IsMarked, ScansLonger}
use Rattle.zone_general.specs.LongerRow.ScansLonger.{marked, fields}
use Rattle.zone_general.specs.RowFields.{HasFields, HasNoFields}
use Rattle.zone_general.proofs.ScannedOnce.{not_long, one_left}

-- the token of the first span, before those of the others
pub first_token : (text : List ℕ) (spans : List TokenSpan) (index : ℕ) (first : TokenSpan) (others : List TokenSpan) → drop index spans ≡ first ∷ others
    → drop index (map (λ span. token_in text span) spans) ≡ token_in text first ∷ map (λ span. token_in text span) others
first_token text spans index first others is =
    drop-map (λ span. token_in text span) index spans ∙ ap (λ (l : List TokenSpan). map (λ span. token_in text span) l) is

pub first_marked : {tokens : List Token} {first : Token} {others : List Token} {marked : Bool} → tokens ≡ first ∷ others
    → (IsTrue marked ↔ (first ≡ marker)) → (IsTrue marked ↔ IsMarked tokens)
first_marked {others = others} is marks = (
  λ yes. record { words = others; is = is ∙ ap (λ (token : Token). token ∷ others) (marks.0 yes) },
  λ marked. marks.1 (let both = sym is ∙ marked.is in cc),
)

-- the tokens of the spans from a place on
pub tokens_from : (text : List ℕ) (spans : List TokenSpan) (index : ℕ) (left : List Token)
    → left ≡ map (λ span. token_in text span) (take (length spans - index) (drop index spans))
    → left ≡ drop index (map (λ span. token_in text span) spans)
tokens_from text spans index left is =
    is ∙ ap (λ (l : List TokenSpan). map (λ span. token_in text span) l) (take_rest spans index) ∙ sym (drop-map (λ span. token_in text span) index spans)

-- the tokens behind the marker
drop_more : (index : ℕ) (tokens : List Token) (first : Token) (others : List Token) → drop index tokens ≡ first ∷ others
    → drop (suc index) tokens ≡ others
drop_more zero [] first others is = absurd cc
drop_more (suc index) [] first others is = absurd cc
drop_more zero (token ∷ tokens) first others is = cc
drop_more (suc index) (token ∷ tokens) first others is = drop_more index tokens first others is

words_from : (index next : ℕ) (tokens : List Token) → next ≡ suc index → (marks : IsMarked (drop index tokens))
    → drop index tokens ≡ marker ∷ drop next tokens
words_from index next tokens is marks =
    marks.is ∙ ap (λ (l : List Token). marker ∷ l) (sym (drop_more index tokens marker marks.words marks.is) ∙ ap (λ (n : ℕ). drop n tokens) (sym is))

-- what a result holds or fails with
pub on_ok : {T E P Q : Type 0} → (P → Q) → (result : Result T E) → OnOk result P → OnOk result Q
on_ok to (Ok value) holds = to holds
on_ok to (Err error) holds = tt

pub if_err : {T E : Type 0} {P Q : E → Type 0} → ((error : E) → P error → Q error) → (result : Result T E) → IfErr result P → IfErr result Q
if_err to (Ok value) holds = tt
if_err to (Err error) holds = to error holds

-- what is scanned, and follows the old octets
abbrev pub HasContent : (List ℕ → Type 0) → List ℕ → List ℕ → Type 0
HasContent Is old new = (content : List ℕ) × Is content × (length content ≤ 65535) × (new ≡ old ++ content)

-- data in general form
module _ {names : Names} {rtype : ℕ} where
  general_is : {tokens words : List Token} {content : List ℕ} → tokens ≡ marker ∷ words → IsUnknownData words content
      → ScansLonger names rtype tokens content
  general_is {content = content} is data' = subst (λ (l : List Token). ScansLonger names rtype l content) (sym is) (marked data')

  pub is_general : {tokens words : List Token} {content : List ℕ} → tokens ≡ marker ∷ words → ScansLonger names rtype tokens content
      → IsUnknownData words content
  is_general {words = words} {content} is (marked {words = others} data') =
      let same : others ≡ words = cc in subst (λ (l : List Token). IsUnknownData l content) same data'
  is_general {words = words} is (fields unmarked scans) = absurd (unmarked (record { words = words; is = is }))

  module _ (index next : ℕ) (tokens : List Token) (behind : next ≡ suc index) (marks : IsMarked (drop index tokens)) where
    pub general_scanned : (old new : List ℕ) → HasContent (IsUnknownData (drop next tokens)) old new
        → HasContent (ScansLonger names rtype (drop index tokens)) old new
    general_scanned old new has = (has.0, general_is (words_from index next tokens behind marks) has.1, has.2, has.3)

    pub no_general : ((content : List ℕ) → IsUnknownData (drop next tokens) content → ⊥) → (content : List ℕ)
        → ScansLonger names rtype (drop index tokens) content → ⊥
    no_general none' content scans = none' content (is_general (words_from index next tokens behind marks) scans)

  -- fields
  pub fields_scanned : {tokens : List Token} (old new : List ℕ) → (IsMarked tokens → ⊥)
      → HasFields names rtype tokens old new → HasContent (ScansLonger names rtype tokens) old new
  fields_scanned old new unmarked has = (octets_of has.0, fields unmarked has.1, has.1.short, has.2)

  pub no_fields : {tokens : List Token} → (IsMarked tokens → ⊥) → HasNoFields names rtype tokens → (content : List ℕ) → ScansLonger names rtype tokens content → ⊥
  no_fields unmarked none' content (marked {words = words} data') = unmarked (record { words = words; is = refl })
  no_fields unmarked none' content (fields {row = row} still scans) = none' row scans

-- what was scanned, of a type with this number
module _ {number rtype : ℕ} {origin : Option (List (List ℕ))} {tokens : List Token} (number_is : number ≡ rtype) where
  here : {row : List Field} {left : List Token} → ScansFurther (SpellsUnder origin) rtype row tokens left
      → ScansFurther (SpellsUnder origin) number row tokens left
  here {row} {left} scans = subst (λ (n : ℕ). ScansFurther (SpellsUnder origin) n row tokens left) (sym number_is) scans

  pub none_scanned : NoFurtherScans (SpellsUnder origin) number tokens → HasNoFields (SpellsUnder origin) rtype tokens
  none_scanned none' row scans = none' (not_long (under_once origin) (here scans)) row [] (here scans)

  pub none_left : {left : List Token} {old new : List ℕ} → AppendsFurther (SpellsUnder origin) number tokens left old new → left ≢ []
      → HasNoFields (SpellsUnder origin) rtype tokens
  none_left appends some row scans = some (one_left (under_once origin) appends.scans (here scans))

  pub all_scanned : {left : List Token} {old new : List ℕ} → AppendsFurther (SpellsUnder origin) number tokens left old new → left ≡ []
      → HasFields (SpellsUnder origin) rtype tokens old new
  all_scanned appends ends = (
    appends.row,
    subst (λ (n : ℕ). ScansFurther (SpellsUnder origin) n appends.row tokens []) number_is
        (subst (λ (l : List Token). ScansFurther (SpellsUnder origin) number appends.row tokens l) ends appends.scans),
    appends.behind,
  )

-- a scanner's names are those under its origin
pub same_under : {known origin : Option (List (List ℕ))} → known ≡ origin → SameNames (SpellsUnder origin) (SpellsUnder known)
same_under {known} is =
    subst (λ (o : Option (List (List ℕ))). SameNames (SpellsUnder o) (SpellsUnder known)) is (λ text name. ((λ spells. spells), (λ spells. spells)))

-- fields of a scanner's tokens, by other names for the same texts
module _ {names others : Names} {rtype : ℕ} {given tokens : List Token} (same : SameNames names others) (tokens_are : given ≡ tokens) where
  pub fields_there : (old new : List ℕ) → HasFields others rtype given old new → HasFields names rtype tokens old new
  fields_there old new has =
      (has.0, subst (λ (l : List Token). ScansFurther names rtype has.0 l []) tokens_are (further_there same has.1), has.2)

  pub no_fields_there : HasNoFields others rtype given → HasNoFields names rtype tokens
  no_fields_there none' row scans =
      none' row (further_there (swap same) (subst (λ (l : List Token). ScansFurther names rtype row l []) (sym tokens_are) scans))

-- nothing was appended
pub goes_kept : {old new : List ℕ} → new ≡ old → GoesOn old new
goes_kept {old} same = record { more = []; is = same ∙ sym (append-nil old) }
