-- Rows with data in general form: what they say, and that each reads as its row does.
use Rattle.std.proofs.Common.{◌≡◌, ◌⊎◌, ◌+◌, ◌≤◌, ◌^◌, ◌++◌, ◌∙◌, ℕ, Bool, true, false, not, List, [], ◌∷◌, length, drop, map, codes, decimal, is_some, Option, Some, None, inl, inr, refl, sym, ap, subst, arith, append-nil}
use Rattle.std.specs.Prelude.{◌↔◌, if◌then◌else◌, IfNone, IfSome, IsTrue}
use Rattle.dns_label.specs.Octets.{AreOctets}
use Rattle.dns_values.specs.Mnemonic.{type_read}
use Rattle.dns_name.specs.UnknownText.{hex_of, hex_words}
use Rattle.dns_scan.specs.Encodings.{encoded_16}
use Rattle.dns_scan.specs.Token.{Token, IsWord, unquoted}
use Rattle.dns_scan.specs.Token.{IsEntry as AreJoined}
use Rattle.dns_scan.specs.UnknownData.{IsUnknownData}
use Rattle.dns_scan.specs.declared.encoding.base.Base.TheVariants.{Sixteen}
use Rattle.dns_scan.proofs.Encodings.{text_decodes_only}
use Rattle.dns_scan.proofs.HexWords.{hex_encoded}
use Rattle.dns_text.specs.Rows.{TokenRow}
use Rattle.dns_fields.proofs.PrintedRows.{safe_16}
use Rattle.dns_fields.proofs.PrintedTexts.{number_back, safe_decimal, safe_plain}
use Rattle.dns_fields_more.specs.Forms.{forms_of}
use Rattle.dns_fields_more.specs.declared.form.Form.{Form}
use Rattle.dns_entry_scanner.specs.NameInText.{SpellsUnder}
use Rattle.dns_zonefile.specs.Entry.{Context, Entry}
use Rattle.dns_zonefile.specs.Statement.{IsDirective}
use Rattle.zone_general.specs.LongerEntries.{IsLongerEntry}
use Rattle.zone_general.specs.LongerRow.{HasFront, HasType, IsGeneralRow, IsMarked, ScansLonger, Stands, general_tokens, known_word, with_tokens}
use Rattle.zone_general.specs.LongerRow.HasFront.{last, own}
use Rattle.zone_general.specs.LongerRow.IsGeneralRow.{same, further}
use Rattle.zone_general.specs.Seen.{HasTypeAt, row_in, tokens_in}
use Rattle.zone_general.specs.declared.found_row.FoundRow.{FoundRow}
use Rattle.zone_general.specs.declared.stated_type.RowType.{RowType}
use Rattle.zone_general.proofs.RowTypes.{data_at, one_type}

-- the word for the type of a general row, from that of the row
module _ {row : TokenRow} {kind : RowType} (has : HasTypeAt row kind) {text : List ℕ} where
  the_word : text ≡ known_word has.word kind.rtype → (front : List Token) (word : Token) (rtype : ℕ) (others : List Token)
      → HasType row front word rtype others → text ≡ known_word word rtype
  the_word is front word rtype others also =
      let one = one_type has.has also in
      is ∙ ap (λ (t : Token). known_word t kind.rtype) one.words ∙ ap (known_word word) one.types

  pub is_known_word : kind.known ≡ true → text ≡ has.word.text → (front : List Token) (word : Token) (rtype : ℕ) (others : List Token)
      → HasType row front word rtype others → text ≡ known_word word rtype
  is_known_word known is =
      the_word
      (is ∙ ap (λ (b : Bool). if b then has.word.text else codes "TYPE" ++ decimal kind.rtype) (sym known ∙ has.known))

  pub is_numbered_word : kind.known ≡ false → text ≡ codes "TYPE" ++ decimal kind.rtype → (front : List Token) (word : Token) (rtype : ℕ)
      (others : List Token) → HasType row front word rtype others → text ≡ known_word word rtype
  is_numbered_word known is =
      the_word
      (is ∙ ap (λ (b : Bool). if b then has.word.text else codes "TYPE" ++ decimal kind.rtype) (sym known ∙ has.known))

-- whether a row stands, by its type
module _ (row : FoundRow) {kind : RowType} (has : HasTypeAt (row_in row) kind) where
  pub stands_by : kind.known ≡ true → IsMarked (drop (kind.index + 1) (tokens_in row)) ⊎ (forms_of kind.rtype ≡ None) → Stands (row_in row)
  stands_by known data' front word rtype others also =
      let one = one_type has.has also in (
        ap (λ (t : Token). is_some (type_read t.text)) (sym one.words) ∙ sym has.known ∙ known,
        elim data' [
          | inl marked ↦ inl (subst IsMarked (data_at row has ∙ one.datas) marked)
          | inr none ↦ inr (ap forms_of (sym one.types) ∙ none)
        ],
      )

  pub known_if : Stands (row_in row) → kind.known ≡ true
  known_if stands = has.known ∙ (stands has.front has.word kind.rtype has.data' has.has).0

  pub data_if : Stands (row_in row) → IsMarked (drop (kind.index + 1) (tokens_in row)) ⊎ (forms_of kind.rtype ≡ None)
  data_if stands =
      elim ((stands has.front has.word kind.rtype has.data' has.has).1) [
        | inl marked ↦ inl (subst IsMarked (sym (data_at row has)) marked)
        | inr none ↦ inr none
      ]

-- a test for forms
pub forms_tested : {T : Type 0} (now : T → List Form) (found : Option T) (tested : Bool) (number rtype : ℕ) → number ≡ rtype → is_some found ≡ not tested
    → IfSome found (λ forms. forms_of number ≡ Some (now forms)) → IfNone found (forms_of number ≡ None) → IsTrue tested ↔ (forms_of rtype ≡ None)
forms_tested now (Some forms) tested number rtype at is some none =
    (λ yes. absurd (by tested yes is), λ nothing. let bad : Some (now forms) ≡ None = sym some ∙ ap forms_of at ∙ nothing in absurd cc)
  where
    by : (b : Bool) → b ≡ true → true ≡ not b → ⊥
    by true on bad = cc
    by false on bad = cc
forms_tested now None tested number rtype at is some none = (λ yes. ap forms_of (sym at) ∙ none, λ nothing. by tested is)
  where
    by : (b : Bool) → false ≡ not b → b ≡ true
    by true is' = refl
    by false is' = absurd cc

pub if_none : {T P : Type 0} (found : Option T) → P → IfNone found P
if_none (Some value) holds = tt
if_none None holds = holds

-- general data reads as unknown data
hex_joined : (octets : List ℕ) → AreOctets octets → AreJoined IsWord (map unquoted (hex_words octets)) (encoded_16 octets)
hex_joined [] are = refl
hex_joined (octet ∷ octets) are =
    let text = encoded_16 (octet ∷ octets) in
    let word : text ≡ hex_of (octet ∷ octets) = hex_encoded (octet ∷ octets) are in
    (text, [], ((λ i. unquoted (sym word i)), safe_plain text (safe_16 (octet ∷ octets) are)), refl, sym (append-nil text))

pub unknown_is : (octets : List ℕ) → AreOctets octets → length octets ≤ 65535
    → IsUnknownData (unquoted (decimal (length octets)) ∷ map unquoted (hex_words octets)) octets
unknown_is octets are short = record {
  words = map unquoted (hex_words octets);
  number = record {
    text = decimal (length octets);
    takes = record {
      token = unquoted (decimal (length octets));
      is = refl;
      fits = (refl, safe_plain (decimal (length octets)) (safe_decimal (length octets) (omega (arith, short))));
    };
    reads_as = number_back (2 ^ 16) (length octets) (omega (arith, short)) (omega (arith, short));
  };
  text = encoded_16 octets;
  joined = hex_joined octets are;
  decodes = (text_decodes_only Sixteen octets are).decodes;
}

-- the general row of a row with a type, for data of these octets
abbrev pub general_of : TokenRow → List Token → Token → ℕ → List ℕ → TokenRow
general_of row front word rtype content = with_tokens row (front ++ unquoted (known_word word rtype) ∷ general_tokens content)

-- no row is a directive that begins as one that is none
pub still_none : {row : TokenRow} {front others : List Token} (word : Token) (behind : List Token) (other : Token) (again : List Token)
    → (IsDirective row → ⊥) → row.tokens ≡ front ++ word ∷ behind → HasFront row.blank_led front others
    → IsDirective (with_tokens row (front ++ other ∷ again)) → ⊥
still_none {row} word behind other again none is front directs = by front is directs.is directs.unled
  where
    by : {led : Bool} {front others : List Token} → HasFront led front others → row.tokens ≡ front ++ word ∷ behind
        → front ++ other ∷ again ≡ unquoted (36 ∷ directs.text) ∷ directs.others → led ≡ false → ⊥
    by last whole begins unled = absurd cc
    by (own {owner = first} {others = others}) whole begins unled =
        let same : first ≡ unquoted (36 ∷ directs.text) = cc in
        none (record {
          unled = directs.unled;
          text = directs.text;
          others = others ++ word ∷ behind;
          is = whole ∙ ap (λ (t : Token). t ∷ (others ++ word ∷ behind)) same;
        })

-- a row whose data does not read is no entry
pub none_scanned : {context : Context} {row : TokenRow} {front : List Token} {word : Token} {rtype : ℕ} {data' : List Token}
    → HasType row front word rtype data' → (Stands row → ⊥) → ((content : List ℕ) → ScansLonger (SpellsUnder context.origin) rtype data' content → ⊥)
    → (entry : Entry) (after : Context) → IsLongerEntry context row entry after → ⊥
none_scanned {context} {row} {rtype = rtype} {data'} has not none entry after is = by is.is
  where
    by : {general : TokenRow} → IsGeneralRow (SpellsUnder context.origin) row general → ⊥
    by (same stands) = not stands
    by (further {rtype = rtype'} {octets = octets} still has' scans) =
        let one = one_type has' has in
        none octets
        (subst (λ (n : ℕ). ScansLonger (SpellsUnder context.origin) n data' octets) one.types
        (subst (λ (l : List Token). ScansLonger (SpellsUnder context.origin) rtype' l octets) one.datas scans))
