-- A row that is printed on one line reads as the row that it was printed for, if the fields of its data have a text.
use Rattle.std.proofs.Common.{◌≡◌, ◌++◌, ◌∙◌, ℕ, List, ◌∷◌, [], Option, map, refl, sym, ap, subst}
use Rattle.std.specs.List.{AllByRecursion, AllZip, join_with_byte}
use Rattle.dns_label.specs.Octets.{AreOctets}
use Rattle.dns_scan.specs.Token.{Token, marker, unquoted}
use Rattle.dns_scan.specs.UnknownData.{IsUnknownData}
use Rattle.dns_text.specs.Document.{document_text}
use Rattle.dns_text.specs.Document.Layout.{Simple}
use Rattle.dns_text.specs.DocumentRows.{WritesToken}
use Rattle.dns_field_texts.specs.TypeWords.{type_word_written}
use Rattle.dns_field_texts.proofs.TypeWords.{type_word_reads_back}
use Rattle.dns_fields_more.specs.Text.{AppendsFurther, ScansFurther}
use Rattle.dns_fields_more.proofs.SafeWords.{type_safe}
use Rattle.dns_rdata_more.specs.Shown.{further_document, further_tokens}
use Rattle.dns_entry_scanner.specs.NameInText.{SpellsUnder}
use Rattle.dns_zonefile.proofs.OneEntry.{under_once}
use Rattle.dns_zonefile.specs.Statement.{Names}
use Rattle.zone_general.specs.LongerRow.{IsMarked, ScansLonger, with_tokens}
use Rattle.zone_general.specs.LongerRow.ScansLonger.{marked, fields}
use Rattle.zone_general.specs.Parts.{IsToken, token_octets}
use Rattle.zone_forms.specs.Presented.{HasFieldsText}
use Rattle.zone_forms.specs.Presenting.{ReadsBack}
use Rattle.zone_general.specs.Seen.{HasTypeAt, IsFound, RewritesAt, row_in}
use Rattle.zone_general.specs.declared.found_row.FoundRow.{FoundRow}
use Rattle.zone_general.specs.declared.stated_type.RowType.{RowType}
use Rattle.zone_forms.proofs.FurtherTexts.{are_tokens, begins_plain, simple_text, tokens_texts}
use Rattle.zone_general.proofs.GeneralRows.{front_begins, rewrites_row}
use Rattle.zone_general.proofs.KnownWords.{type_word_below}
use Rattle.zone_general.proofs.LongerRows.{still_none}
use Rattle.zone_forms.proofs.ReadBack.{front_taken}
use Rattle.zone_general.proofs.RewrittenParts.{safe_token, spaced_text, tokens_row}
use Rattle.zone_general.proofs.ScannedOnce.{one_octets}
use Rattle.zone_general.proofs.SameRecords.{one_unknown}

no_marks : {first : Token} {others : List Token} → (first ≡ marker → ⊥) → IsMarked (first ∷ others) → ⊥
no_marks plain marks = plain (let both = marks.is in cc)

fields_scan : {names : Names} {rtype : ℕ} {tokens : List Token} {content : List ℕ} → (IsMarked tokens → ⊥) → AppendsFurther names rtype tokens [] [] content
    → ScansLonger names rtype tokens content
fields_scan {names} {rtype} {tokens} unmarked appends =
    subst (ScansLonger names rtype tokens) (sym appends.behind) (fields unmarked appends.scans)

-- The row with its mnemonic and the fields on one line reads back.
pub simple_back : {row : FoundRow} {kind : RowType} {content new : List ℕ} (names : Names) → IsFound row → HasTypeAt (row_in row) kind
    → HasFieldsText kind.rtype content → (written : (tokens : List Token) × AllZip WritesToken tokens (further_tokens kind.rtype content))
    → AppendsFurther names kind.rtype written.0 [] [] content
    → RewritesAt row kind.index (type_word_written kind.rtype) (document_text Simple (further_document kind.rtype content)) new
    → ReadsBack names (row_in row) kind content new
simple_back {row} {kind} {content} {new} names found has text written back so =
    let rtype = kind.rtype in
    let below = type_word_below has.word.text rtype has.has.type.reads in
    let tokens = written.0 in
    let texts = further_tokens rtype content in
    let begins = begins_plain text.are tokens written.1 back in
    let all = begins.first ∷ begins.others in
    let each : AllByRecursion IsToken all = subst (AllByRecursion IsToken) begins.is (are_tokens tokens texts written.1) in
    let spaced : document_text Simple (further_document rtype content) ≡ spaced_text all =
    simple_text rtype content
    ∙ ap (join_with_byte 32) (sym (tokens_texts tokens texts written.1) ∙ ap (λ (l : List Token). map token_octets l) begins.is) in
    let safe = type_safe rtype below in
    let word = unquoted (type_word_written rtype) in
    let unmarked = no_marks {others = begins.others} begins.plain in
    record {
      printed = with_tokens (row_in row) (has.front ++ word ∷ all);
      are = tokens_row begins.first begins.others (rewrites_row found has.has has.place so) spaced has.has.type.bare (front_begins has.has.has_front)
          (safe_token (type_word_written rtype) safe.each safe.some) each.0 each.1;
      led = refl;
      front = has.front;
      word = word;
      data' = all;
      has = record {
        no_directive = still_none has.word has.data' word all has.has.no_directive has.has.is has.has.has_front;
        is = refl;
        others = has.has.others;
        has_front = has.has.has_front;
        first = has.has.first;
        type = record { bare = refl; reads = type_word_reads_back rtype below };
      };
      same = sym (front_taken has.has has.place);
      unmarked = unmarked;
      scans = fields_scan unmarked (subst (λ (l : List Token). AppendsFurther names rtype l [] [] content) begins.is back);
    }

-- Tokens are data with one list of octets at most.
pub one_scanned : (known : Option (List (List ℕ))) {rtype : ℕ} {tokens : List Token} {content other : List ℕ} → ScansLonger (SpellsUnder known) rtype tokens content
    → ScansLonger (SpellsUnder known) rtype tokens other → AreOctets content → AreOctets other → content ≡ other
one_scanned known {rtype} scans also small small' = by refl scans also small small'
  where
    by : {tokens tokens' : List Token} {content other : List ℕ} → tokens ≡ tokens' → ScansLonger (SpellsUnder known) rtype tokens content
        → ScansLonger (SpellsUnder known) rtype tokens' other → AreOctets content → AreOctets other → content ≡ other
    by {other = other} same (marked {words = words} is) (marked {words = words'} also) small small' =
        let alike : words' ≡ words = cc in one_unknown is (subst (λ (l : List Token). IsUnknownData l other) alike also)
    by same (marked {words = words} is) (fields unmarked also) small small' = absurd (unmarked (record { words = words; is = sym same }))
    by same (fields unmarked is) (marked {words = words} also) small small' = absurd (unmarked (record { words = words; is = same }))
    by same (fields {row = row} unmarked is) (fields {row = row'} unmarked' also) small small' =
        one_octets (under_once known) is (subst (λ (l : List Token). ScansFurther (SpellsUnder known) rtype row' l []) (sym same) also) small small'
