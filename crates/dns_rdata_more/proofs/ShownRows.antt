-- Data of further types that is printed: the pieces are those of its row.
use Rattle.std.proofs.Common.{◌≡◌, ◌++◌, ℕ, List, [], ◌∷◌, ◌∙◌, map, refl, ap, sym, subst}
use Rattle.std.specs.Prelude.{Some, Result, Ok, Err, OnOk}
use Rattle.std.proofs.lemmas.List.{map-append}
use Rattle.dns_text.specs.Document.{Piece}
use Rattle.dns_text.specs.Document.Piece.{Token as printed}
use Rattle.dns_text.specs.Documents.{block_of}
use Rattle.dns_text.specs.Writing.{Adds}
use Rattle.dns_fields.specs.Fields.{Field}
use Rattle.dns_fields.proofs.FieldKinds.{of_number16, of_number32, of_string, of_rest16}
use Rattle.dns_fields_more.specs.Forms.{AreFieldsOf, IsFieldOf}
use Rattle.dns_fields_more.specs.Text.{PrintsForm, PrintsForms, ShowsFurther}
use Rattle.dns_service_parameters.specs.ServiceText.{parameter_text}
use Rattle.dns_field_texts.specs.LocationText.{location_words}
use Rattle.dns_field_texts.specs.TypeBitmap.{type_pieces, types_in}
use Rattle.dns_field_texts.specs.TypeWords.{type_word_written}
use Rattle.dns_fields_more.specs.declared.form.Form.{Form}
use Rattle.dns_fields_more.specs.declared.form.Form.TheVariants.{Number8, Number16, Number32, Name, CasedName, String, RestText, Rest16, Rest64, Rtype as RtypeForm, Algorithm, CertificateType, Time, Salt, Hash, Types, Parameters, Location as LocationForm, Eui48, Eui64}
use Rattle.dns_rdata_more.specs.FurtherData.{forms_or_none, row_read}
use Rattle.dns_rdata_more.specs.Shown.{form_tokens, forms_tokens, further_document, further_tokens, location_read, parameters_read}
use Rattle.dns_rdata_more.proofs.Rows.{forms_one, row_back}
use Rattle.dns_rdata_more.proofs.ShownParts.{location_back, parameters_back}

abbrev One : Form → Field → Type 0
One form field = (pieces : List Piece) → PrintsForm form field pieces → pieces ≡ map printed (form_tokens form field)

type_texts : (types : List ℕ) → type_pieces types ≡ map printed (map type_word_written types)
type_texts [] = refl
type_texts (type ∷ types) = ap (λ (l : List Piece). printed (type_word_written type) ∷ l) (type_texts types)

prints_one : (form : Form) (field : Field) → IsFieldOf form field → One form field
prints_one Number8 field is = λ pieces prints. prints
prints_one Number16 field is = λ pieces prints. prints
prints_one Number32 field is = λ pieces prints. prints
prints_one Name field is = λ pieces prints. prints
prints_one CasedName field is = λ pieces prints. prints
prints_one String field is = λ pieces prints. prints
prints_one RestText field is = λ pieces prints. prints
prints_one Rest16 field is = λ pieces prints. prints
prints_one Rest64 field is = λ pieces prints. prints
prints_one RtypeForm field is = of_number16 (One RtypeForm) field (λ n pieces prints. prints) is.kind
prints_one Algorithm field is = λ pieces prints. prints
prints_one CertificateType field is = λ pieces prints. prints
prints_one Time field is = of_number32 (One Time) field (λ n pieces prints. prints) is.kind
prints_one Salt field is = of_string (One Salt) field (λ text pieces prints. prints) is.kind
prints_one Hash field is = of_string (One Hash) field (λ text pieces prints. prints) is.kind
prints_one Types field is = of_rest16 (One Types) field (λ text pieces prints. prints ∙ type_texts (types_in text)) is.kind
prints_one Parameters field is =
    of_rest16 (One Parameters) field
    (λ text pieces prints. prints.3 ∙ ap (λ l. map printed (map parameter_text l)) (sym (ap parameters_read prints.2 ∙ parameters_back prints.0 prints.1.each))) is.kind
prints_one LocationForm field is =
    of_rest16 (One LocationForm) field
    (λ text pieces prints. prints.3 ∙ ap (λ l. map printed (location_words l)) (sym (ap location_read prints.2 ∙ location_back prints.0 prints.1))) is.kind
prints_one Eui48 field is = of_rest16 (One Eui48) field (λ text pieces prints. prints) is.kind
prints_one Eui64 field is = of_rest16 (One Eui64) field (λ text pieces prints. prints) is.kind

pub all_one : (forms : List Form) (row : List Field) (pieces : List Piece) → AreFieldsOf forms row → PrintsForms forms row pieces
    → pieces ≡ map printed (forms_tokens forms row)
all_one [] [] pieces each prints = prints
all_one [] (field ∷ row) pieces each prints = absurd each
all_one (form ∷ forms) [] pieces each prints = absurd each
all_one (form ∷ forms) (field ∷ row) pieces each prints =
    let first = prints_one form field each.0 prints.0 prints.2 in
    let others = all_one forms row prints.1 each.1 prints.3 in
    prints.4 ∙ (λ i. first i ++ others i) ∙ sym (map-append printed (form_tokens form field) (forms_tokens forms row))

-- data that was printed is printed as its document
pub document_shown : {T E F : Type 0} (writes : F → List Piece → F → Type 0) (rtype n : ℕ) (whole given : List ℕ) (old new : F) (result : Result T E)
    → n ≡ rtype → given ≡ whole → OnOk result (ShowsFurther writes n given old new) → OnOk result (Adds writes old (further_document rtype whole) new)
unfolding further_document further_tokens
document_shown writes rtype n whole given old new (Ok value) same_type same shows =
    let forms : forms_or_none rtype ≡ shows.forms = ap forms_or_none (sym same_type) ∙ forms_one n shows.forms shows.its in
    let row : row_read rtype whole ≡ shows.row =
    (λ i. row_read (sym same_type i) (sym same i)) ∙ ap (row_read n) shows.written ∙ row_back n shows.row shows.is_row in
    let mine : shows.is_row.forms ≡ shows.forms = (let e : Some shows.is_row.forms ≡ Some shows.forms = sym shows.is_row.its ∙ shows.its in cc) in
    let each : AreFieldsOf shows.forms shows.row = subst (λ (l : List Form). AreFieldsOf l shows.row) mine shows.is_row.each in
    let pieces : shows.pieces ≡ map printed (forms_tokens (forms_or_none rtype) (row_read rtype whole)) =
    all_one shows.forms shows.row shows.pieces each shows.prints ∙ sym (λ i. map printed (forms_tokens (forms i) (row i))) in
    subst (λ (l : List Piece). Adds writes old (block_of l) new) pieces shows.adds
document_shown writes rtype n whole given old new (Err error) same_type same shows = tt
