-- A row is at most one entry by the longer table.
use Rattle.std.proofs.Common.{◌≡◌, ◌∙◌, ◌++◌, ℕ, List, [], ◌∷◌, decimal, length, map, Some, refl, sym, ap, subst}
use Rattle.dns_values.specs.Mnemonic.{type_read}
use Rattle.dns_name.specs.UnknownText.{hex_words}
use Rattle.dns_scan.specs.Token.{Token, marker, unquoted}
use Rattle.dns_scan.specs.UnknownData.{IsUnknownData}
use Rattle.dns_text.specs.Rows.{TokenRow}
use Rattle.dns_fields.specs.Fields.{Field, octets}
use Rattle.dns_fields.specs.SpelledNames.{SpellOne}
use Rattle.dns_rdata.specs.Data.{Data, ScansAnyData, typed, unknown_data, number_of}
use Rattle.dns_field_texts.specs.TypeWords.{type_word_read}
use Rattle.dns_fields_more.specs.Forms.{forms_of}
use Rattle.dns_fields_more.specs.Text.{ScansForms, ScansFurther}
use Rattle.dns_fields_more.specs.declared.form.Form.{Form}
use Rattle.dns_entry_scanner.specs.NameInText.{SpellsUnder}
use Rattle.dns_zonefile.specs.Entry.{Context, Entry, IsEntry}
use Rattle.dns_zonefile.specs.Statement.{Names, Says, Statement}
use Rattle.dns_zonefile.specs.Statement.Says.{directive, resource}
use Rattle.dns_zonefile.proofs.OneEntry.{entry_has_tokens, one_entry, under_once}
use Rattle.zone_general.specs.LongerEntries.{IsLongerEntry}
use Rattle.zone_general.specs.LongerRow.{HasType, IsGeneralRow, IsTypeWord, ScansLonger, general_tokens, known_word}
use Rattle.zone_general.specs.LongerRow.IsGeneralRow.{same, further}
use Rattle.zone_general.specs.LongerRow.ScansLonger.{marked, fields}
use Rattle.zone_forms.proofs.HexedNumbers.{AreHexed, all_low, reads_hexed}
use Rattle.zone_general.proofs.KnownWords.{known_reads}
use Rattle.zone_general.proofs.LongerRows.{general_of, still_none}
use Rattle.zone_forms.proofs.LowFields.{rows_low}
use Rattle.zone_general.proofs.RowTypes.{one_type}
use Rattle.zone_general.proofs.SameRecords.{IsKnownWord, one_unknown, same_record}
use Rattle.zone_forms.proofs.StandingRows.{stated_type}

-- the words for these numbers as unknown data
abbrev words_of : List ℕ → List Token
words_of content = unquoted (decimal (length content)) ∷ map unquoted (hex_words content)

known_type : {rtype : ℕ} {word : Token} → IsTypeWord rtype word → IsTypeWord rtype (unquoted (known_word word rtype))
unfolding type_word_read
known_type {rtype} {word} is = let known = known_reads is in record { bare = refl; reads = read (known_word word rtype) known }
  where
    read : (text : List ℕ) → type_read text ≡ Some rtype → type_word_read text ≡ Some rtype
    read text reads = rw reads refl

-- the data of a general row
module _ {row : TokenRow} {front : List Token} {word : Token} {rtype : ℕ} {data' : List Token} (has : HasType row front word rtype data') where
  general_type : (content : List ℕ)
      → HasType (general_of row front word rtype content) front (unquoted (known_word word rtype)) rtype (general_tokens content)
  general_type content = record {
    no_directive = still_none word data' (unquoted (known_word word rtype)) (general_tokens content) has.no_directive has.is has.has_front;
    is = refl;
    others = has.others;
    has_front = has.has_front;
    first = has.first;
    type = known_type has.type;
  }

  scanned_unknown : (names : Names) (content : List ℕ) (number : ℕ) (rdata : Data) (tokens : List Token) → general_tokens content ≡ tokens
      → ScansAnyData names number rdata tokens [] → (read : List ℕ) × IsUnknownData (words_of content) read
  scanned_unknown names content number (typed n held) tokens is scans = absurd (scans.0 (words_of content) (sym is))
  scanned_unknown names content number (unknown_data unknown) tokens is scans =
      let both : marker ∷ words_of content ≡ marker ∷ scans.1 = is ∙ scans.2 in
      let words : scans.1 ≡ words_of content = cc in (unknown.octets, subst (λ (l : List Token). IsUnknownData l unknown.octets) words scans.3)

  general_data : {context after : Context} {entry : Entry} (content : List ℕ) → IsEntry context (general_of row front word rtype content) entry after
      → (read : List ℕ) × IsUnknownData (words_of content) read
  general_data {context} content is = by is.says
    where
      by : {statement : Statement} → Says (SpellsUnder context.origin) (general_of row front word rtype content) statement
          → (read : List ℕ) × IsUnknownData (words_of content) read
      by (directive is_one directs) = absurd ((general_type content).no_directive is_one)
      by (resource {stated = stated} states) =
          let one = one_type (general_type content) (stated_type states).1 in
          scanned_unknown (SpellsUnder context.origin) content (number_of stated.rdata) stated.rdata states.data_tokens one.datas states.scans

  -- rows for the same low bits are the same entry
  same_entry : {context after : Context} {entry : Entry} (content other read again : List ℕ) → all_low content ≡ all_low other
      → IsUnknownData (words_of content) read → IsUnknownData (words_of other) again
      → IsEntry context (general_of row front word rtype content) entry after → IsEntry context (general_of row front word rtype other) entry after
  same_entry content other read again lows is also so =
      let known : IsKnownWord rtype (unquoted (known_word word rtype)) = record { bare = refl; reads = known_reads has.type } in
      let equal : again ≡ read = (reads_hexed other again also).same ∙ sym lows ∙ sym (reads_hexed content read is).same in
      same_record has.has_front has.first known known is (subst (IsUnknownData (words_of other)) equal also) (general_type content).no_directive so

-- data of a type is numbers with the same low bits
its_forms : (rtype : ℕ) (forms others : List Form) → forms_of rtype ≡ Some forms → forms_of rtype ≡ Some others → others ≡ forms
its_forms rtype forms others is also = let both : Some others ≡ Some forms = sym also ∙ is in cc

rows_one : {names : Names} {rtype : ℕ} {row other : List Field} {tokens : List Token} → SpellOne names → ScansFurther names rtype row tokens []
    → ScansFurther names rtype other tokens [] → AreHexed (octets row) → AreHexed (octets other) → all_low (octets row) ≡ all_low (octets other)
rows_one {names} {rtype} {row} {other} {tokens} once scans also are also_are =
    rows_low names scans.forms row other tokens [] [] once scans.scans
    (subst (λ (l : List Form). ScansForms names l other tokens []) (its_forms rtype scans.forms also.forms scans.its also.its) also.scans) are also_are

one_content : {names : Names} {rtype : ℕ} {tokens tokens' : List Token} {content other : List ℕ} → SpellOne names → tokens ≡ tokens'
    → ScansLonger names rtype tokens content → ScansLonger names rtype tokens' other → AreHexed content → AreHexed other → all_low content ≡ all_low other
one_content {other = other} once equal (marked {words = words} is) (marked {words = words'} also) are also_are =
    let its : words' ≡ words = cc in ap all_low (one_unknown is (subst (λ (l : List Token). IsUnknownData l other) its also))
one_content once equal (marked {words = words} is) (fields not also) are also_are = absurd (not (record { words = words; is = sym equal }))
one_content once equal (fields not is) (marked {words = words} also) are also_are = absurd (not (record { words = words; is = equal }))
one_content {names} {rtype} once equal (fields {row = row} not is) (fields {row = other} not' also) are also_are =
    rows_one once is (subst (λ (l : List Token). ScansFurther names rtype other l []) (sym equal) also) are also_are

-- a row is one entry
module _ {context : Context} {row : TokenRow} where
  one_general : {entry entry' : Entry} {after after' : Context} {front : List Token} {word : Token} {rtype : ℕ} {data' : List Token}
      {content other : List ℕ} → HasType row front word rtype data' → ScansLonger (SpellsUnder context.origin) rtype data' content
      → ScansLonger (SpellsUnder context.origin) rtype data' other → IsEntry context (general_of row front word rtype content) entry after
      → IsEntry context (general_of row front word rtype other) entry' after' → (entry ≡ entry') × (after ≡ after')
  one_general {content = content} {other = other} has scans also so so' =
      let read = general_data has content so in
      let again = general_data has other so' in
      let hexed = reads_hexed content read.0 read.1 in
      let hexed' = reads_hexed other again.0 again.1 in
      let lows = one_content (under_once context.origin) refl scans also hexed.hexed hexed'.hexed in
      one_entry (same_entry has content other read.0 again.0 lows read.1 again.1 so) so'

  pub one_longer : {entry entry' : Entry} {after after' : Context} → IsLongerEntry context row entry after → IsLongerEntry context row entry' after'
      → (entry ≡ entry') × (after ≡ after')
  one_longer {entry} {entry'} {after} {after'} is also = by is.is is.so also.is also.so
    where
      by : {general general' : TokenRow} → IsGeneralRow (SpellsUnder context.origin) row general → IsEntry context general entry after
          → IsGeneralRow (SpellsUnder context.origin) row general' → IsEntry context general' entry' after' → (entry ≡ entry') × (after ≡ after')
      by (same stands) so (same still) so' = one_entry so so'
      by (same stands) so (further not has scans) so' = absurd (not stands)
      by (further not has scans) so (same stands) so' = absurd (not stands)
      by (further {front = front} {data' = data'} {word = word} {rtype = rtype} {octets = content} not has scans) so
          (further {rtype = rtype'} {octets = other} not' has' scans') so' =
          let one = one_type has' has in
          let names = SpellsUnder context.origin in
          one_general has scans
          (subst (λ (n : ℕ). ScansLonger names n data' other) one.types (subst (λ (l : List Token). ScansLonger names rtype' l other) one.datas scans')) so
          (subst (λ (r : TokenRow). IsEntry context r entry' after') (λ i. general_of row (one.fronts i) (one.words i) (one.types i) other) so')

  pub longer_has_tokens : {entry : Entry} {after : Context} → IsLongerEntry context row entry after → row.tokens ≡ [] → ⊥
  longer_has_tokens {entry} {after} is none = by is.is is.so
    where
      behind : (front : List Token) (word : Token) (data' : List Token) → [] ≡ front ++ word ∷ data' → ⊥
      behind [] word data' whole = cc
      behind (token ∷ front) word data' whole = cc

      by : {general : TokenRow} → IsGeneralRow (SpellsUnder context.origin) row general → IsEntry context general entry after → ⊥
      by (same stands) so = entry_has_tokens so none
      by (further {front = front} {data' = data'} {word = word} not has scans) so = behind front word data' (sym none ∙ has.is)
