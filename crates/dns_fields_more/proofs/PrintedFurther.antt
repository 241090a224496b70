-- The tokens that a row of a further type is printed as are scanned as this row, and there are such tokens.
use Rattle.std.proofs.Common.{◌≡◌, ℕ, true, List, [], ◌∷◌, ◌++◌, map, refl, sym, ◌∙◌, ap, subst, arith, append-nil}
use Rattle.std.specs.Prelude.{Some}
use Rattle.std.specs.List.{AllByRecursion, AllZip}
use Rattle.std.proofs.lemmas.List.{map-append}
use Rattle.dns_label.specs.Octets.{AreOctets}
use Rattle.dns_scan.specs.StringText.{SpellsOnly, between_quotes, unquoted_text}
use Rattle.dns_scan.specs.Token.{Token}
use Rattle.dns_text.specs.Document.{Piece}
use Rattle.dns_text.specs.Document.Piece.{Token as printed}
use Rattle.dns_text.specs.DocumentRows.{WritesToken}
use Rattle.dns_fields.specs.Fields as kinds
use Rattle.dns_fields.specs.Fields.{Field, IsField, Kind, field_octets, kind_of, octets, tag}
use Rattle.dns_fields.specs.Shown.{field_tokens}
use Rattle.dns_fields.specs.SpelledNames.{SpellOne, SpellPrinted}
use Rattle.dns_fields.proofs.FieldKinds.{of_number16, of_number32, of_rest16, of_string}
use Rattle.dns_fields.proofs.PrintedTokens.{collected, row_has_tokens}
use Rattle.dns_field_texts.specs.Hardware.{hardware_written}
use Rattle.dns_field_texts.specs.HashWords.{hash_written, salt_written}
use Rattle.dns_field_texts.specs.LocationText.{location_words}
use Rattle.dns_field_texts.specs.Time.{time_written}
use Rattle.dns_field_texts.specs.TypeBitmap.{types_in}
use Rattle.dns_field_texts.specs.TypeWords.{type_word_written}
use Rattle.dns_service_parameters.specs.Service.{AreParameters, Parameter, octets_of}
use Rattle.dns_service_parameters.specs.ServiceText.{ScansParameters, parameter_text}
use Rattle.dns_fields_more.specs.declared.form.Form.{Form}
use Rattle.dns_fields_more.specs.declared.form.Form.TheVariants.{Number8, Number16, Number32, Name, CasedName, String, RestText, Rest16, Rest64, Rtype as RtypeForm, Algorithm, CertificateType, Time, Salt, Hash, Types, Parameters, Location as LocationForm, Eui48, Eui64}
use Rattle.dns_fields_more.specs.Forms.{AreFieldsOf, IsFieldOf, IsFurtherRow, is_last}
use Rattle.dns_fields_more.specs.Printed.{HasNoEmptyRest, HaveRests, IsPrintedAs}
use Rattle.dns_fields_more.specs.Rows.{EndWell}
use Rattle.dns_fields_more.specs.Text.{PrintsForm, PrintsForms, ScansForms, ScansFurther, SpellsForm}
use Rattle.dns_fields_more.proofs.OneRow.{octets_apart}
use Rattle.dns_fields_more.proofs.PrintedForms.{WritesPiece, bitmap_safe, bitmap_texts, form_back, hash_some, pieces_of}
use Rattle.dns_fields_more.proofs.OneScan.{one_left, one_octets}
use Rattle.dns_fields_more.proofs.Rows.{others_well, table_well}
use Rattle.dns_fields_more.proofs.SafeWords.{IsSafeWord, hardware_safe, hash_safe, location_safe, salt_safe, time_safe, type_safe, words_written}

-- There are tokens with these texts.
abbrev pub AreTexts : List (List ℕ) → Type 0
AreTexts texts = (tokens : List Token) × AllZip WritesToken tokens texts

zip_append : (tokens others : List Token) (texts behind : List (List ℕ)) → AllZip WritesToken tokens texts → AllZip WritesToken others behind
    → AllZip WritesToken (tokens ++ others) (texts ++ behind)
zip_append [] others [] behind these those = those
zip_append [] others (text ∷ texts) behind these those = absurd these
zip_append (token ∷ tokens) others [] behind these those = absurd these
zip_append (token ∷ tokens) others (text ∷ texts) behind these those = (these.0, zip_append tokens others texts behind these.1 those)

words : (texts : List (List ℕ)) → AllByRecursion IsSafeWord texts → AreTexts texts
words texts each = collected texts (words_written texts each)

-- how a field is printed
record IsShown (form : Form) (field : Field) : Type 0 where
  texts : List (List ℕ)
  prints : PrintsForm form field (map printed texts)
  are : AreTexts texts

-- how fields are printed
record AreShown (forms : List Form) (row : List Field) : Type 0 where
  texts : List (List ℕ)
  prints : PrintsForms forms row (map printed texts)
  are : AreTexts texts

-- a field of a kind that is there
plain : (field : Field) (kind : Kind) → kind_of field ≡ kind → (kinds.Tag ≡ kind → ⊥) → IsField field → AreOctets (field_octets field)
    → AreTexts (field_tokens field)
plain field kind its other is are =
    subst AreTexts (append-nil (field_tokens field))
    (row_has_tokens (field ∷ []) (is, tt) ((λ same. other (ap kind_of (sym same) ∙ its)), tt)
    (subst AreOctets (sym (append-nil (field_octets field))) are))

-- There are tokens of service parameters.
module _ (parameters_written : (parameters : List Parameter) → AreParameters parameters → AreOctets (octets_of parameters)
    → AreTexts (map parameter_text parameters)) where
  shown : (form : Form) (field : Field) → IsFieldOf form field → AreOctets (field_octets field) → IsShown form field
  shown Number8 field is are = record { texts = field_tokens field; prints = refl; are = plain field kinds.Number8 is.kind (λ same. cc) is.is_field are }
  shown Number16 field is are = record { texts = field_tokens field; prints = refl; are = plain field kinds.Number16 is.kind (λ same. cc) is.is_field are }
  shown Number32 field is are = record { texts = field_tokens field; prints = refl; are = plain field kinds.Number32 is.kind (λ same. cc) is.is_field are }
  shown Name field is are = record { texts = field_tokens field; prints = refl; are = plain field kinds.Uncompressed is.kind (λ same. cc) is.is_field are }
  shown CasedName field is are = record { texts = field_tokens field; prints = refl; are = plain field kinds.Uncompressed is.kind (λ same. cc) is.is_field are }
  shown String field is are = record { texts = field_tokens field; prints = refl; are = plain field kinds.String is.kind (λ same. cc) is.is_field are }
  shown RestText field is are = record { texts = field_tokens field; prints = refl; are = plain field kinds.RestText is.kind (λ same. cc) is.is_field are }
  shown Rest16 field is are = record { texts = field_tokens field; prints = refl; are = plain field kinds.Rest16 is.kind (λ same. cc) is.is_field are }
  shown Rest64 field is are = record { texts = field_tokens field; prints = refl; are = plain field kinds.Rest64 is.kind (λ same. cc) is.is_field are }
  shown RtypeForm field is are =
      of_number16 (λ f. IsFieldOf RtypeForm f → IsShown RtypeForm f) field
      (λ n is. let small = is.is_field in
      record { texts = type_word_written n ∷ []; prints = refl; are = words (type_word_written n ∷ []) (type_safe n (omega arith), tt) }) is.kind is
  shown Algorithm field is are = record { texts = field_tokens field; prints = refl; are = plain field kinds.Number8 is.kind (λ same. cc) is.is_field are }
  shown CertificateType field is are = record { texts = field_tokens field; prints = refl; are = plain field kinds.Number16 is.kind (λ same. cc) is.is_field are }
  shown Time field is are =
      of_number32 (λ f. IsFieldOf Time f → IsShown Time f) field
      (λ n is. record { texts = time_written n ∷ []; prints = refl; are = words (time_written n ∷ []) (time_safe n is.is_field, tt) }) is.kind is
  shown Salt field is are =
      of_string (λ f. AreOctets (field_octets f) → IsShown Salt f) field
      (λ text are. record { texts = salt_written text ∷ []; prints = refl; are = words (salt_written text ∷ []) (salt_safe text are.1, tt) }) is.kind are
  shown Hash field is are =
      of_string (λ f. IsFieldOf Hash f → AreOctets (field_octets f) → IsShown Hash f) field
      (λ text is are.
      record { texts = hash_written text ∷ []; prints = refl; are = words (hash_written text ∷ []) (hash_safe text are.1 (hash_some text is.keeps), tt) })
      is.kind is are
  shown Types field is are =
      of_rest16 (λ f. IsFieldOf Types f → IsShown Types f) field
      (λ text is.
      let texts : List (List ℕ) = map type_word_written (types_in text) in
      record { texts = texts; prints = sym (bitmap_texts text); are = words texts (bitmap_safe text is.keeps) }) is.kind is
  shown Parameters field is are =
      of_rest16 (λ f. IsFieldOf Parameters f → AreOctets (field_octets f) → IsShown Parameters f) field
      (λ text is are.
      let holds = is.keeps in
      record {
        texts = map parameter_text holds.parameters;
        prints = (holds.parameters, holds.are, holds.written, refl);
        are = parameters_written holds.parameters holds.are (subst AreOctets holds.written are);
      }) is.kind is are
  shown LocationForm field is are =
      of_rest16 (λ f. IsFieldOf LocationForm f → IsShown LocationForm f) field
      (λ text is.
      let holds = is.keeps in
      record {
        texts = location_words holds.location;
        prints = (holds.location, holds.is, holds.written, refl);
        are = words (location_words holds.location) (location_safe holds.location holds.is);
      }) is.kind is
  shown Eui48 field is are =
      of_rest16 (λ f. IsFieldOf Eui48 f → AreOctets (field_octets f) → IsShown Eui48 f) field
      (λ text is are.
      let long = is.keeps in
      record {
        texts = hardware_written text ∷ [];
        prints = refl;
        are = words (hardware_written text ∷ []) (hardware_safe text are (omega arith), tt);
      }) is.kind is are
  shown Eui64 field is are =
      of_rest16 (λ f. IsFieldOf Eui64 f → AreOctets (field_octets f) → IsShown Eui64 f) field
      (λ text is are.
      let long = is.keeps in
      record {
        texts = hardware_written text ∷ [];
        prints = refl;
        are = words (hardware_written text ∷ []) (hardware_safe text are (omega arith), tt);
      }) is.kind is are

  all_shown : (forms : List Form) (row : List Field) → AreFieldsOf forms row → AreOctets (octets row) → AreShown forms row
  all_shown [] [] each are = record { texts = []; prints = refl; are = ([], tt) }
  all_shown [] (field ∷ row) each are = absurd each
  all_shown (form ∷ forms) [] each are = absurd each
  all_shown (form ∷ forms) (field ∷ row) each are =
      let both = octets_apart (field_octets field) (octets row) are in
      let first = shown form field each.0 both.0 in
      let others = all_shown forms row each.1 both.1 in
      record {
        texts = first.texts ++ others.texts;
        prints = (map printed first.texts, map printed others.texts, first.prints, others.prints, map-append printed first.texts others.texts);
        are = (
          first.are.0 ++ others.are.0,
          zip_append first.are.0 others.are.0 first.texts others.texts first.are.1 others.are.1,
        );
      }

  pub row_has_texts : (rtype : ℕ) (row : List Field) → IsFurtherRow rtype row → AreOctets (octets row) → (tokens : List Token) × IsPrintedAs rtype row tokens
  row_has_texts rtype row is are =
      let all = all_shown is.forms row is.each are in
      (all.are.0, record { forms = is.forms; its = is.its; texts = all.texts; prints = all.prints; writes = all.are.1 })

-- tokens of pieces, and of others after them
record Split (first others : List Piece) (tokens : List Token) : Type 0 where
  front : List Token
  back : List Token
  is : tokens ≡ front ++ back
  these : AllZip WritesPiece front first
  those : AllZip WritesPiece back others

split : (first others : List Piece) (tokens : List Token) → AllZip WritesPiece tokens (first ++ others) → Split first others tokens
split [] others tokens writes = record { front = []; back = tokens; is = refl; these = tt; those = writes }
split (piece ∷ first) others [] writes = absurd writes
split (piece ∷ first) others (token ∷ tokens) writes =
    let on = split first others tokens writes.1 in
    record { front = token ∷ on.front; back = on.back; is = ap (λ (l : List Token). token ∷ l) on.is; these = (writes.0, on.these); those = on.those }

-- no pieces are after the last field
none_after : (form : Form) (forms : List Form) (row : List Field) (pieces : List Piece) (tokens : List Token) → EndWell (form ∷ forms)
    → PrintsForms forms row pieces → AllZip WritesPiece tokens pieces → is_last form ≡ true → tokens ≡ []
none_after form [] [] pieces tokens well prints writes last = by tokens (subst (λ (l : List Piece). AllZip WritesPiece tokens l) prints writes)
  where
    by : (tokens : List Token) → AllZip WritesPiece tokens [] → tokens ≡ []
    by [] writes = refl
    by (token ∷ tokens) writes = absurd writes
none_after form [] (field ∷ row) pieces tokens well prints writes last = absurd prints
none_after form (other ∷ forms) row pieces tokens well prints writes last = absurd (let no = well.0 in cc)

-- What is printed is scanned: quotes and words read back (`dns_scan::laws`), and so do service parameters.
module _ (names : List ℕ → List (List ℕ) → Type 0) (in_quotes : (text : List ℕ) → AreOctets text → SpellsOnly (between_quotes text) text)
    (in_words : (text : List ℕ) → AreOctets text → SpellsOnly (unquoted_text text) text)
    (parameters_back : (parameters : List Parameter) (tokens : List Token) → AreParameters parameters → AreOctets (octets_of parameters)
    → AllZip WritesToken tokens (map parameter_text parameters) → ScansParameters parameters tokens)
    (spelled : SpellPrinted names) where
  forms_back : (forms : List Form) (row : List Field) (pieces : List Piece) (tokens : List Token) → EndWell forms → AreFieldsOf forms row
      → HaveRests forms row → AreOctets (octets row) → PrintsForms forms row pieces → AllZip WritesPiece tokens pieces → ScansForms names forms row tokens []
  forms_back [] [] pieces tokens well each some are prints writes = by tokens (subst (λ (l : List Piece). AllZip WritesPiece tokens l) prints writes)
    where
      by : (tokens : List Token) → AllZip WritesPiece tokens [] → [] ≡ tokens
      by [] writes = refl
      by (token ∷ tokens) writes = absurd writes
  forms_back [] (field ∷ row) pieces tokens well each some are prints writes = absurd each
  forms_back (form ∷ forms) [] pieces tokens well each some are prints writes = absurd each
  forms_back (form ∷ forms) (field ∷ row) pieces tokens well each some are prints writes =
      let both = octets_apart (field_octets field) (octets row) are in
      let parts = split prints.0 prints.1 tokens (subst (λ (l : List Piece). AllZip WritesPiece tokens l) prints.4 writes) in
      let first = form_back in_quotes in_words parameters_back names spelled form field each.0 some.0 prints.0 parts.front parts.back both.0 prints.2 parts.these
      (none_after form forms row prints.1 parts.back well prints.3 parts.those) in (
        parts.back,
        record { is = each.0; spelled = subst (λ (l : List Token). SpellsForm names form field l parts.back) (sym parts.is) first },
        forms_back forms row prints.1 parts.back (others_well form forms well) each.1 some.1 both.1 prints.3 parts.those,
      )

  pub row_back : (rtype : ℕ) (row : List Field) (tokens : List Token) → IsFurtherRow rtype row → HasNoEmptyRest rtype row → AreOctets (octets row)
      → IsPrintedAs rtype row tokens
      → ScansFurther names rtype row tokens []
  row_back rtype row tokens is some are shows =
      let mine : is.forms ≡ shows.forms = (let e : Some is.forms ≡ Some shows.forms = sym is.its ∙ shows.its in cc) in
      let each : AreFieldsOf shows.forms row = subst (λ (l : List Form). AreFieldsOf l row) mine is.each in
      let short = is.short in
      record {
        forms = shows.forms;
        its = shows.its;
        scans = forms_back shows.forms row (map printed shows.texts) tokens (table_well rtype shows.forms shows.its) each (some shows.forms shows.its) are shows.prints
            (pieces_of tokens shows.texts shows.writes);
        short = omega arith;
      }

-- and as nothing else
pub row_alone : {names : List ℕ → List (List ℕ) → Type 0} {rtype : ℕ} {row other : List Field} {tokens left : List Token}
    → ScansFurther names rtype other tokens left → ScansFurther names rtype row tokens [] → SpellOne names → AreOctets (octets row)
    → AreOctets (octets other) → (octets other ≡ octets row) × (left ≡ [])
row_alone scans back once are are_other = (one_octets once scans back are_other are, one_left once scans back)
