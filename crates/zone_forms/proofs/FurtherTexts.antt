-- Data of a further type on one line: its tokens, which scan back as the data, and begin with no marker of data in general form.
use Rattle.std.proofs.Common.{◌≡◌, ◌∙◌, ℕ, Bool, true, false, List, [], ◌∷◌, ◌++◌, length, map, refl, sym, ap, subst, arith, rules, append-nil, append_assoc, length-append}
use Rattle.std.specs.Prelude.{◌==◌, Option, Some, None, ⊤, get_or, if◌then◌else◌}
use Rattle.std.specs.List.{AllByRecursion, AllZip, flat_map, join_with_byte, list_all}
use Rattle.std.specs.Str.{chars}
use Rattle.std.proofs.lemmas.Str.{chars-IsAscii}
use Rattle.dns_label.specs.Printed.{printed_label, printed_labels, printed_name}
use Rattle.dns_label.specs.Symbol.{is_plain}
use Rattle.dns_name.proofs.PrintedTexts.{printed_absolute}
use Rattle.dns_scan.specs.Base.{Decodes}
use Rattle.dns_scan.specs.Token.{Token, IsWord, Takes, marker}
use Rattle.dns_scan.specs.Token.{IsEntry as AreJoined}
use Rattle.dns_scan.specs.declared.encoding.base.Base.TheVariants.{SixtyFour}
use Rattle.dns_scan.proofs.Encodings.{decodes_one, encoded_decodes, is_ascii}
use Rattle.dns_text.specs.Document.{Piece, document_text}
use Rattle.dns_text.specs.Document.Layout.{Simple}
use Rattle.dns_text.specs.Document.Piece.{Token as printed, Open, Close}
use Rattle.dns_text.specs.DocumentRows.{WritesToken}
use Rattle.dns_text.specs.DocumentRows.WritesToken.{quoted, unquoted as bare}
use Rattle.dns_text.specs.Lines.{Noted, line_pieces, line_text, noted_pieces, noted_text}
use Rattle.dns_text.specs.Lines.Part.{Block}
use Rattle.dns_text.proofs.DocumentTexts.{one_line}
use Rattle.dns_fields.specs.Fields.{Field}
use Rattle.dns_fields.specs.SpelledNames.{SpellPrinted}
use Rattle.dns_fields.proofs.FieldKinds.{of_number8, of_number16, of_number32, of_rest16, of_rest64, of_uncompressed}
use Rattle.dns_field_texts.specs.Location.{Location}
use Rattle.dns_field_texts.specs.LocationText.{ScansLocation, SpellsAngle}
use Rattle.dns_field_texts.proofs.LocationNumerals.{IsNear, numeral_near}
use Rattle.dns_fields_more.specs.Forms.{AreFieldsOf, IsFieldOf, IsFurtherData, forms_in, forms_of, further}
use Rattle.dns_fields_more.specs.Text.{AppendsFurther, ScansForm, ScansForms, SpellsForm}
use Rattle.dns_fields_more.specs.declared.form.Form.{Form}
use Rattle.dns_fields_more.specs.declared.form.Form.TheVariants.{Number8, Number16, Number32, Name, CasedName, String, RestText, Rest16, Rest64, Rtype as RtypeForm, Algorithm, CertificateType, Time, Salt, Hash, Types, Parameters, Location as LocationForm, Eui48, Eui64}
use Rattle.dns_rdata_more.specs.FurtherData.{row_read}
use Rattle.dns_rdata_more.specs.Shown.{form_tokens, forms_tokens, further_document, further_tokens}
use Rattle.dns_rdata_more.proofs.Rows.{forms_one}
use Rattle.dns_rdata_more.proofs.Rows.{row_back as row_read_back}
use Rattle.dns_entry_scanner.specs.NameInText.{SpellsUnder}
use Rattle.dns_entry_scanner.specs.NameInText.SpellsUnder.{absolute}
use Rattle.zone_general.specs.Parts.{IsToken, token_octets}

-- a name is spelled by the text that it is printed as, whatever the origin
pub names_spelled : (origin : Option (List (List ℕ))) → SpellPrinted (SpellsUnder origin)
names_spelled origin name is are = absolute (printed_absolute name is are)

-- tokens and their texts
token_text : {token : Token} {text : List ℕ} → WritesToken token text → token_octets token ≡ text
token_text (quoted are) = refl
token_text (bare are some) = refl

pub tokens_texts : (tokens : List Token) (texts : List (List ℕ)) → AllZip WritesToken tokens texts → map token_octets tokens ≡ texts
tokens_texts [] [] writes = refl
tokens_texts [] (text ∷ texts) writes = absurd writes
tokens_texts (token ∷ tokens) [] writes = absurd writes
tokens_texts (token ∷ tokens) (text ∷ texts) writes =
    let first = token_text writes.0 in
    let others = tokens_texts tokens texts writes.1 in
    λ i. first i ∷ others i

written_token : {token : Token} {text : List ℕ} → WritesToken token text → IsToken token
written_token (quoted are) = record { symbols = are; some = λ same. absurd cc }
written_token (bare are some) = record { symbols = are; some = λ same. some }

pub are_tokens : (tokens : List Token) (texts : List (List ℕ)) → AllZip WritesToken tokens texts → AllByRecursion IsToken tokens
are_tokens [] texts writes = tt
are_tokens (token ∷ tokens) [] writes = absurd writes
are_tokens (token ∷ tokens) (text ∷ texts) writes = (written_token writes.0, are_tokens tokens texts writes.1)

-- a block on one line is its tokens, with one space between any two
abbrev bare_note : List ℕ → Noted
bare_note text = record { token = text; comments = [] }

notes_pieces : (texts : List (List ℕ)) → flat_map noted_pieces (map bare_note texts) ≡ map printed texts
notes_pieces [] = refl
notes_pieces (text ∷ texts) = ap (λ (l : List Piece). printed text ∷ l) (notes_pieces texts)

notes_texts : (texts : List (List ℕ)) → map (noted_text Simple) (map bare_note texts) ≡ texts
notes_texts [] = refl
notes_texts (text ∷ texts) = ap (λ (l : List (List ℕ)). text ∷ l) (notes_texts texts)

pub simple_text : (rtype : ℕ) (content : List ℕ) → document_text Simple (further_document rtype content) ≡ join_with_byte 32 (further_tokens rtype content)
unfolding further_document
simple_text rtype content =
    let texts = further_tokens rtype content in
    let notes = map bare_note texts in
    let parts = Block notes ∷ [] in
    let pieces : line_pieces parts ≡ Open ∷ map printed texts ++ Close ∷ [] =
    append-nil (Open ∷ flat_map noted_pieces notes ++ Close ∷ []) ∙ ap (λ (l : List Piece). Open ∷ l ++ Close ∷ []) (notes_pieces texts) in
    let text : line_text Simple parts ≡ join_with_byte 32 texts =
    ap (join_with_byte 32) (append-nil (map (noted_text Simple) notes) ∙ notes_texts texts) in
    ap (document_text Simple) (sym pieces) ∙ one_line Simple parts ∙ text

-- The first of the tokens is no marker.
pub record BeginsPlain (tokens : List Token) : Type 0 where
  pub first : Token
  pub others : List Token
  pub is : tokens ≡ first ∷ others
  pub plain : first ≡ marker → ⊥

-- a word has no backslash
word_plain : {text : List ℕ} {token : Token} → IsWord text token → token ≡ marker → ⊥
word_plain {text} word is =
    let same : text ≡ 92 ∷ 35 ∷ [] = ap (λ (t : Token). t.text) (sym word.0 ∙ is) in
    let bad : false ≡ true = ap (list_all is_plain) (sym same) ∙ word.1 in
    cc

word_begins : {text : List ℕ} {tokens left : List Token} → Takes (IsWord text) tokens left → BeginsPlain tokens
word_begins {left = left} takes = record { first = takes.token; others = left; is = takes.is; plain = word_plain takes.fits }

-- the words of a rest in base 64 that is not empty
none_decodes : Decodes SixtyFour [] []
none_decodes = encoded_decodes SixtyFour [] tt

rest_begins : (tokens : List Token) (text rest : List ℕ) → AreJoined IsWord tokens text → Decodes SixtyFour (chars text) rest → (rest ≡ [] → ⊥)
    → BeginsPlain tokens
rest_begins [] text rest joined decodes some =
    let none : chars text ≡ [] = ap chars joined ∙ chars-IsAscii [] (is_ascii [] tt) in
    absurd (some (decodes_one SixtyFour [] [] rest none_decodes (subst (λ (l : List ℕ). Decodes SixtyFour l rest) none decodes)))
rest_begins (token ∷ tokens) text rest joined decodes some =
    record { first = token; others = tokens; is = refl; plain = word_plain joined.2 }

-- the first word of a location is a number
near_no : (word : List ℕ) → AllByRecursion IsNear word → word ≡ 92 ∷ 35 ∷ [] → ⊥
near_no word near same =
    let both : AllByRecursion IsNear (92 ∷ 35 ∷ []) = subst (AllByRecursion IsNear) same near in
    let high = both.0.1 in
    omega (arith, high)

front_plain : (front rest : List (List ℕ)) (angle : ℕ) (first : List ℕ) (others : List (List ℕ)) → SpellsAngle front angle
    → first ∷ others ≡ front ++ rest → first ≡ 92 ∷ 35 ∷ [] → ⊥
front_plain [] rest angle first others is at same = absurd is
front_plain (degree ∷ []) rest angle first others is at same =
    let its : degree ≡ first = cc in near_no degree (numeral_near is.spelled.0) (its ∙ same)
front_plain (degree ∷ minute ∷ []) rest angle first others is at same =
    let its : degree ≡ first = cc in near_no degree (numeral_near is.spelled.0) (its ∙ same)
front_plain (degree ∷ minute ∷ second ∷ []) rest angle first others is at same =
    let its : degree ≡ first = cc in near_no degree (numeral_near is.spelled.0) (its ∙ same)
front_plain (degree ∷ minute ∷ second ∷ more ∷ front) rest angle first others is at same = absurd is

location_begins : {location : Location} (tokens : List Token) → ScansLocation location tokens → BeginsPlain tokens
location_begins [] scans =
    let front = scans.latitude ++ scans.longitude in
    let behind = scans.altitude ∷ scans.sizes in
    absurd (omega (arith, ap (length {A = List ℕ}) scans.written, length-append front behind))
location_begins (token ∷ tokens) scans =
    let north = scans.north in
    let behind = scans.longitude ++ (scans.altitude ∷ scans.sizes) in
    let texts : token.text ∷ map (λ t. t.text) tokens ≡ north.front ++ (north.direction ∷ behind) =
    scans.written ∙ append_assoc scans.latitude scans.longitude (scans.altitude ∷ scans.sizes)
    ∙ ap (λ (l : List (List ℕ)). l ++ behind) north.written ∙ append_assoc north.front (north.direction ∷ []) behind in
    record {
      first = token;
      others = tokens;
      is = refl;
      plain = λ same. front_plain north.front (north.direction ∷ behind) north.angle token.text (map (λ t. t.text) tokens) north.spelled texts
          (ap (λ (t : Token). t.text) same);
    }

-- a name is printed with a dot
dot_in : (front rest : List ℕ) → front ++ 46 ∷ rest ≡ 92 ∷ 35 ∷ [] → ⊥
dot_in [] rest same = let bad : 46 ≡ 92 = ap (λ (l : List ℕ). get_or l 0 0) same in omega (arith, bad)
dot_in (octet ∷ []) rest same = let bad : 46 ≡ 35 = ap (λ (l : List ℕ). get_or l 1 0) same in omega (arith, bad)
dot_in (octet ∷ next ∷ front) rest same = omega (arith, ap (length {A = ℕ}) same, length-append front (46 ∷ rest))

name_no_marker : (name : List (List ℕ)) → printed_name name ≡ 92 ∷ 35 ∷ [] → ⊥
name_no_marker [] same = dot_in [] [] same
name_no_marker (label ∷ parent) same = dot_in (printed_label label) (printed_labels parent) same

first_named : (name : List (List ℕ)) (tokens : List Token) (behind : List (List ℕ)) → AllZip WritesToken tokens (printed_name name ∷ behind)
    → BeginsPlain tokens
first_named name [] behind writes = absurd writes
first_named name (token ∷ tokens) behind writes = record {
  first = token;
  others = tokens;
  is = refl;
  plain = λ same. name_no_marker name (sym (token_text writes.0) ∙ ap token_octets same);
}

name_begins : (field : Field) (tokens : List Token) (behind : List (List ℕ)) → IsFieldOf CasedName field
    → AllZip WritesToken tokens (form_tokens CasedName field ++ behind) → BeginsPlain tokens
name_begins field tokens behind is =
    of_uncompressed (λ f. AllZip WritesToken tokens (form_tokens CasedName f ++ behind) → BeginsPlain tokens) field
    (λ name writes. first_named name tokens behind writes) is.kind

-- the forms that data begins with
abbrev starts : Form → Bool
starts Number8 = true
starts Number16 = true
starts Number32 = true
starts CasedName = true
starts Rest64 = true
starts RtypeForm = true
starts CertificateType = true
starts LocationForm = true
starts Eui48 = true
starts Eui64 = true
starts form = false

abbrev BeginsSo : List Form → Type 0
BeginsSo [] = ⊥
BeginsSo (form ∷ forms) = starts form ≡ true

abbrev Fit : Option (List Form) → Type 0
Fit None = ⊤
Fit (Some forms) = BeginsSo forms

either : (b : Bool) (x y : Option (List Form)) → Fit x → Fit y → Fit (if b then x else y)
either true x y this that = this
either false x y this that = that

fits_in : (rows : List (ℕ × List Form)) → AllByRecursion (λ (row : ℕ × List Form). BeginsSo row.1) rows → (rtype : ℕ)
    → Fit (forms_in rows rtype)
fits_in [] each rtype = tt
fits_in (row ∷ rows) each rtype = either (rtype == row.0) _ _ each.0 (fits_in rows each.1 rtype)

fits : (rtype : ℕ) → Fit (forms_of rtype)
fits = fits_in further (search rules)

table_begins : (rtype : ℕ) (forms : List Form) → forms_of rtype ≡ Some forms → BeginsSo forms
table_begins rtype forms is = subst Fit is (fits rtype)

-- a field of such a form begins with a word, or is a name
field_begins : {names : List ℕ → List (List ℕ) → Type 0} {tokens left : List Token} (form : Form) (field : Field) → starts form ≡ true → (form ≡ CasedName → BeginsPlain tokens)
    → ScansForm names form field tokens left → BeginsPlain tokens
field_begins {names} {tokens} {left} Number8 field so named scans =
    of_number8 (λ f. SpellsForm names Number8 f tokens left → BeginsPlain tokens) field (λ n is. word_begins is.takes) scans.is.kind scans.spelled
field_begins {names} {tokens} {left} Number16 field so named scans =
    of_number16 (λ f. SpellsForm names Number16 f tokens left → BeginsPlain tokens) field (λ n is. word_begins is.takes) scans.is.kind scans.spelled
field_begins {names} {tokens} {left} Number32 field so named scans =
    of_number32 (λ f. SpellsForm names Number32 f tokens left → BeginsPlain tokens) field (λ n is. word_begins is.takes) scans.is.kind scans.spelled
field_begins Name field so named scans = absurd cc
field_begins CasedName field so named scans = named refl
field_begins String field so named scans = absurd cc
field_begins RestText field so named scans = absurd cc
field_begins Rest16 field so named scans = absurd cc
field_begins {names} {tokens} {left} Rest64 field so named scans =
    of_rest64 (λ f. SpellsForm names Rest64 f tokens left → BeginsPlain tokens) field (λ rest is. rest_begins tokens is.0.0 rest is.0.1 is.0.2 is.1)
    scans.is.kind scans.spelled
field_begins {names} {tokens} {left} RtypeForm field so named scans =
    of_number16 (λ f. SpellsForm names RtypeForm f tokens left → BeginsPlain tokens) field (λ n is. word_begins is.takes) scans.is.kind scans.spelled
field_begins Algorithm field so named scans = absurd cc
field_begins {names} {tokens} {left} CertificateType field so named scans =
    of_number16 (λ f. SpellsForm names CertificateType f tokens left → BeginsPlain tokens) field (λ n is. word_begins is.takes) scans.is.kind
    scans.spelled
field_begins Time field so named scans = absurd cc
field_begins Salt field so named scans = absurd cc
field_begins Hash field so named scans = absurd cc
field_begins Types field so named scans = absurd cc
field_begins Parameters field so named scans = absurd cc
field_begins {names} {tokens} {left} LocationForm field so named scans =
    of_rest16 (λ f. SpellsForm names LocationForm f tokens left → BeginsPlain tokens) field (λ rest is. location_begins tokens is.1) scans.is.kind
    scans.spelled
field_begins {names} {tokens} {left} Eui48 field so named scans =
    of_rest16 (λ f. SpellsForm names Eui48 f tokens left → BeginsPlain tokens) field (λ rest is. word_begins is.1) scans.is.kind scans.spelled
field_begins {names} {tokens} {left} Eui64 field so named scans =
    of_rest16 (λ f. SpellsForm names Eui64 f tokens left → BeginsPlain tokens) field (λ rest is. word_begins is.1) scans.is.kind scans.spelled

forms_begin : (names : List ℕ → List (List ℕ) → Type 0) (tokens left : List Token) (forms : List Form) (row other : List Field) → BeginsSo forms
    → AreFieldsOf forms row → AllZip WritesToken tokens (forms_tokens forms row) → ScansForms names forms other tokens left → BeginsPlain tokens
forms_begin names tokens left [] row other so each writes scans = absurd so
forms_begin names tokens left (form ∷ forms) [] other so each writes scans = absurd each
forms_begin names tokens left (form ∷ forms) (field ∷ row) [] so each writes scans = absurd scans
forms_begin names tokens left (form ∷ forms) (field ∷ row) (other ∷ others) so each writes scans =
    let behind = forms_tokens forms row in
    field_begins form other so
    (λ same. name_begins field tokens behind (subst (λ (f : Form). IsFieldOf f field) same each.0)
    (subst (λ (f : Form). AllZip WritesToken tokens (form_tokens f field ++ behind)) same writes))
    scans.1

-- Data of a further type begins with no marker.
module _ {rtype : ℕ} {content : List ℕ} (are : IsFurtherData rtype content) where
  texts_are : further_tokens rtype content ≡ forms_tokens are.is_row.forms are.row
  unfolding further_tokens
  texts_are =
      let forms = forms_one rtype are.is_row.forms are.is_row.its in
      let row : row_read rtype content ≡ are.row = ap (row_read rtype) are.written ∙ row_read_back rtype are.row are.is_row in
      λ i. forms_tokens (forms i) (row i)

  pub begins_plain : {names : List ℕ → List (List ℕ) → Type 0} (tokens : List Token) → AllZip WritesToken tokens (further_tokens rtype content)
      → AppendsFurther names rtype tokens [] [] content → BeginsPlain tokens
  begins_plain {names} tokens writes appends =
      let scans = appends.scans in
      let forms : scans.forms ≡ are.is_row.forms = (let both : Some scans.forms ≡ Some are.is_row.forms = sym scans.its ∙ are.is_row.its in cc) in
      forms_begin names tokens [] are.is_row.forms are.row appends.row (table_begins rtype are.is_row.forms are.is_row.its) are.is_row.each
      (subst (λ (l : List (List ℕ)). AllZip WritesToken tokens l) texts_are writes)
      (subst (λ (l : List Form). ScansForms names l appends.row tokens []) forms scans.scans)
