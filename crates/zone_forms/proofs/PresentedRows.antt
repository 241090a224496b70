-- A row that is printed with its data in presentation form is the entry of the row that it was printed for.
use Rattle.std.proofs.Common.{◌≡◌, ◌≤◌, ◌+◌, ◌++◌, ◌∙◌, ℕ, Bool, true, List, ◌∷◌, length, drop, take, map, codes, decimal, is_some, None, inl, inr, refl, sym, ap, subst, arith}
use Rattle.std.proofs.Math.Seq.{take-append_seam}
use Rattle.std.specs.Prelude.{if◌then◌else◌, Option, Result, Ok, Err, Some, IfErr, IfNone, IfOk}
use Rattle.std.specs.Result.{IsErrAnd}
use Rattle.dns_values.specs.Mnemonic.{type_read}
use Rattle.dns_name.specs.UnknownText.{hex_words}
use Rattle.dns_scan.specs.Token.{Token, marker, unquoted}
use Rattle.dns_scan.specs.UnknownData.{IsUnknownData}
use Rattle.dns_fields_more.specs.Forms.{IsFurtherData, forms_of}
use Rattle.dns_entry_scanner.specs.NameInText.{SpellsUnder}
use Rattle.dns_text.specs.Document.{Layout}
use Rattle.dns_text.specs.Rows.{TokenRow}
use Rattle.dns_zonefile.specs.Entry.{Context, Entry, IsEntry}
use Rattle.dns_zonefile.specs.Statement.{IsDirective, Names}
use Rattle.zone_general.specs.LongerEntries.{IsLongerEntry}
use Rattle.zone_general.specs.LongerRow.{HasType, IsGeneralRow, IsMarked, ScansLonger, Stands, general_tokens, known_word, with_tokens}
use Rattle.zone_general.specs.LongerRow.IsGeneralRow.{same, further}
use Rattle.zone_forms.specs.Presented.{GoesPresented, HasFieldsText, HasPresentation}
use Rattle.zone_forms.specs.Presented.GoesPresented.{presented}
use Rattle.zone_forms.specs.Presenting.{PrintsRow}
use Rattle.zone_general.specs.Rewritten.{GoesGeneral}
use Rattle.zone_general.specs.Seen.{HasTypeAt, IsFound, octets_in, row_in, tokens_in}
use Rattle.zone_general.specs.declared.found_row.FoundRow.{FoundRow}
use Rattle.zone_general.specs.declared.stated_type.RowType.{RowType}
use Rattle.zone_general.proofs.GeneralRows.{rewrites_row}
use Rattle.zone_general.proofs.KnownWords.{known_reads}
use Rattle.zone_general.proofs.LongerRows.{unknown_is}
use Rattle.zone_forms.proofs.ReadBack.{front_taken}
use Rattle.zone_general.proofs.RowData.{is_general}
use Rattle.zone_general.proofs.RowTypes.{data_at, one_type}
use Rattle.zone_general.proofs.SameRecords.{IsKnownWord, marked_row, one_unknown, same_record, still_none, unknown_octets}

-- the words behind the marker
abbrev words_of : List ℕ → List Token
words_of octets = unquoted (decimal (length octets)) ∷ map unquoted (hex_words octets)

-- the general row's word for the type is known
general_word : {row : TokenRow} {front data' : List Token} {word : Token} {rtype : ℕ} → HasType row front word rtype data'
    → IsKnownWord rtype (unquoted (known_word word rtype))
general_word has = record { bare = refl; reads = known_reads has.type }

own_word : {row : TokenRow} {front data' : List Token} {word : Token} {rtype : ℕ} → HasType row front word rtype data' → is_some (type_read word.text) ≡ true
    → IsKnownWord rtype word
own_word {word = word} {rtype = rtype} has known =
    let own : known_word word rtype ≡ word.text = ap (λ (b : Bool). if b then word.text else codes "TYPE" ++ decimal rtype) known in
    record { bare = has.type.bare; reads = ap type_read (sym own) ∙ known_reads has.type }

-- the general row of a row whose data is in general form
record GeneralOf (context : Context) (row : TokenRow) (front : List Token) (rtype : ℕ) (content : List ℕ) (entry : Entry) (after : Context) : Type 0 where
  pub word : Token
  pub words : List Token
  pub known : IsKnownWord rtype word
  pub is : IsUnknownData words content
  pub none : IsDirective (marked_row row.blank_led front word words) → ⊥
  pub so : IsEntry context (marked_row row.blank_led front word words) entry after

row_is : {row : TokenRow} {front data' words : List Token} {word : Token} {rtype : ℕ} → HasType row front word rtype data' → data' ≡ marker ∷ words
    → row ≡ marked_row row.blank_led front word words
row_is {row} {front} {words = words} {word = word} has marks =
    let tokens : row.tokens ≡ front ++ word ∷ marker ∷ words = has.is ∙ ap (λ (l : List Token). front ++ word ∷ l) marks in
    λ i. record { blank_led = row.blank_led; tokens = tokens i }

not_directive : {row : TokenRow} {front data' words : List Token} {word : Token} {rtype : ℕ} → HasType row front word rtype data'
    → data' ≡ marker ∷ words → IsDirective (marked_row row.blank_led front word words) → ⊥
not_directive has marks = subst (λ (r : TokenRow). IsDirective r → ⊥) (row_is has marks) has.no_directive

module _ {context after : Context} {entry : Entry} {row : TokenRow} {front data' words : List Token} {word : Token} {rtype : ℕ} {content : List ℕ}
    (has : HasType row front word rtype data') (marks : data' ≡ marker ∷ words) (is : IsUnknownData words content) (short : length content ≤ 65535) where
  general_of : {general : TokenRow} → IsGeneralRow (SpellsUnder context.origin) row general → IsEntry context general entry after
      → GeneralOf context row front rtype content entry after
  general_of (same stands) so = record {
    word = word;
    words = words;
    known = own_word has (stands front word rtype data' has).0;
    is = is;
    none = not_directive has marks;
    so = subst (λ (r : TokenRow). IsEntry context r entry after) (row_is has marks) so;
  }
  general_of (further {front = front'} {data' = data''} {word = word'} {rtype = rtype'} {octets = octets} not has' scans) so =
      let one = one_type has' has in
      let unknown : IsUnknownData words octets = is_general (one.datas ∙ marks) scans in
      let octets_are : octets ≡ content = one_unknown unknown is in
      let known = unquoted (known_word word rtype) in
      let ours : with_tokens row (front' ++ unquoted (known_word word' rtype') ∷ general_tokens octets)
      ≡ marked_row row.blank_led front known (words_of content) =
      λ i. with_tokens row (one.fronts i ++ unquoted (known_word (one.words i) (one.types i)) ∷ general_tokens (octets_are i)) in record {
        word = known;
        words = words_of content;
        known = general_word has;
        is = unknown_is content (unknown_octets is) short;
        none = still_none has.has_front word known words (words_of content) (not_directive has marks);
        so = subst (λ (r : TokenRow). IsEntry context r entry after) ours so;
      }

  -- what is printed is the same entry
  pub printed_longer : {printed : TokenRow} {front' data'' : List Token} {word' : Token} → IsLongerEntry context row entry after
      → IsFurtherData rtype content → printed.blank_led ≡ row.blank_led → HasType printed front' word' rtype data'' → front ≡ front'
      → (IsMarked data'' → ⊥) → ScansLonger (SpellsUnder context.origin) rtype data'' content → IsLongerEntry context printed entry after
  printed_longer {printed} {front'} {data''} {word'} longer are led has' fronts unmarked scans =
      let found = general_of longer.is longer.so in
      let known = unquoted (known_word word' rtype) in
      let so = same_record has.has_front has.first found.known (general_word has') found.is (unknown_is content (unknown_octets is) short) found.none found.so in
      let ours : marked_row row.blank_led front known (words_of content) ≡ with_tokens printed (front' ++ known ∷ general_tokens content) =
      λ i. marked_row (sym led i) (fronts i) known (words_of content) in record {
        general = with_tokens printed (front' ++ known ∷ general_tokens content);
        is = further not has' scans;
        so = subst (λ (r : TokenRow). IsEntry context r entry after) ours so;
      }
    where
      no_further : forms_of rtype ≡ None → ⊥
      no_further missing = let its = are.is_row.its in let bad = sym its ∙ missing in cc

      not : Stands printed → ⊥
      not stands = elim (stands front' word' rtype data'' has').1 [
        | inl marks ↦ unmarked marks
        | inr missing ↦ no_further missing
      ]

-- So a row that was found goes to what is printed for it.
goes_printed : {row : FoundRow} {layout : Layout} {context after : Context} {entry : Entry} {new : List ℕ} → IsFound row
    → PrintsRow (SpellsUnder context.origin) row layout new → IsLongerEntry context (row_in row) entry after
    → GoesPresented layout context (row_in row) (octets_in row) new entry after
goes_printed {row} {layout} {context} {after} {entry} {new} found prints longer =
    let names = SpellsUnder context.origin in
    let rtype = prints.kind.rtype in
    let has = prints.has.has in
    let data_is = data_at row prints.has in
    let marks : IsMarked prints.has.data' = subst IsMarked data_is prints.marked in
    let scans = subst (λ (l : List Token). ScansLonger names rtype l prints.content) data_is prints.scans in
    let back = prints.prints.back in
    let furthers = prints.prints.are in
    let short : length prints.content ≤ 65535 =
    (let written = ap (length {A = ℕ}) furthers.written in let small = furthers.is_row.short in omega (arith, written, small)) in
    presented prints.shown longer prints.layouts has marks scans furthers (rewrites_row found has prints.has.place prints.prints.so) back.are
    (printed_longer has marks.is (is_general marks.is scans) short longer furthers back.led back.has (sym (back.same ∙ front_taken has prints.has.place)) back.unmarked back.scans)

-- A row with data that has a presentation: its type and data are those that were found.
module _ {names : Names} (row : FoundRow) {kind : RowType} (has : HasTypeAt (row_in row) kind) (presents : HasPresentation names (row_in row)) where
  data_found : presents.data' ≡ drop (kind.index + 1) (tokens_in row)
  data_found = (one_type presents.has has.has).datas ∙ sym (data_at row has)

  pub presents_marked : IsMarked (drop (kind.index + 1) (tokens_in row))
  presents_marked = subst IsMarked data_found presents.marked

  pub presents_scans : ScansLonger names kind.rtype (drop (kind.index + 1) (tokens_in row)) presents.content
  presents_scans =
      subst (λ (n : ℕ). ScansLonger names n (drop (kind.index + 1) (tokens_in row)) presents.content) (one_type presents.has has.has).types
      (subst (λ (l : List Token). ScansLonger names presents.rtype l presents.content) data_found presents.scans)

  pub presents_text : {content : List ℕ} → ScansLonger names kind.rtype (drop (kind.index + 1) (tokens_in row)) content
      → HasFieldsText kind.rtype content
  presents_text {content} scans =
      let marks = presents_marked in
      let same : presents.content ≡ content = one_unknown (is_general marks.is presents_scans) (is_general marks.is scans) in
      subst (HasFieldsText kind.rtype) same
      (subst (λ (n : ℕ). HasFieldsText n presents.content) (one_type presents.has has.has).types presents.text)

pub none_weaker : {T E : Type 0} {P Q : Type 0} (result : Result (Option T) E) → (P → Q) → IfOk result (λ found. IfNone found P) → IfOk result (λ found. IfNone found Q)
none_weaker (Ok (Some value)) to holds = tt
none_weaker (Ok None) to holds = to holds
none_weaker (Err error) to holds = tt

-- an error is handed on
pub handed_on : {A E : Type 0} (result : Result A E) (error : E) (Holds : E → Type 0) → IsErrAnd result (λ e. e ≡ error) → Holds error
    → IfErr result Holds
handed_on (Ok value) error Holds is holds = absurd is
handed_on (Err other) error Holds is holds = subst Holds (sym is) holds

-- what a row with its entry goes to
abbrev pub Goes : FoundRow → Layout → Context → Context → List ℕ → List ℕ → Type 0
Goes row layout context after old out =
    (entry : Entry) × (new : List ℕ) × IsLongerEntry context (row_in row) entry after
    × GoesPresented layout context (row_in row) (octets_in row) new entry after × (out ≡ old ++ new)

longer_is : {context after : Context} {row : TokenRow} {octets new : List ℕ} {entry : Entry} → GoesGeneral context row octets new entry after
    → IsLongerEntry context row entry after
longer_is told = record { general = told.general; is = told.is; so = told.so }

pub goes_so : (row : FoundRow) (old : List ℕ) {layout : Layout} {context after : Context} {entry : Entry} {new general out : List ℕ} → IsFound row
    → PrintsRow (SpellsUnder context.origin) row layout new → GoesGeneral context (row_in row) (octets_in row) general entry after → out ≡ old ++ new
    → Goes row layout context after old out
goes_so row old {entry = entry} {new = new} found prints told is =
    let longer = longer_is told in (entry, new, longer, goes_printed found prints longer, is)

pub goes_as_is : (row : FoundRow) (old : List ℕ) {layout : Layout} {context after : Context} {entry : Entry} {general out : List ℕ}
    → GoesGeneral context (row_in row) (octets_in row) general entry after → (HasPresentation (SpellsUnder context.origin) (row_in row) → ⊥)
    → out ≡ old ++ octets_in row → Goes row layout context after old out
goes_as_is row old {entry = entry} told none is = let longer = longer_is told in (entry, octets_in row, longer, GoesPresented.same longer none, is)

-- what was appended is cut off again
pub cut_back : (old added : List ℕ) {whole cut : List ℕ} {len : ℕ} → len ≡ length old → whole ≡ old ++ added → cut ≡ take len whole → cut ≡ old
cut_back old added size is cuts = cuts ∙ (λ i. take (size i) (is i)) ∙ take-append_seam old added
