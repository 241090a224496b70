use Rattle.std.proofs.Common.{refl, ap, subst, sym, ◌∙◌, ◌∷◌, []}
use Rattle.dns_label.specs.Printed.{printed_name}
use Rattle.dns_text.specs.Document.Piece.{Token as printed}
use Rattle.dns_fields.specs.Fields.{uncompressed}
use Rattle.dns_fields_more.specs.Text.{PrintsForm}
use Rattle.dns_field_texts.specs.TypeWords.{type_word_written}
use Rattle.dns_field_texts.specs.HashWords.{hash_written, salt_written}
use Rattle.dns_fields_more.proofs.Shown.{at_form, plain8, plain16, plain32, plain_name, plain_string, value_shown}
use Rattle.dns_fields_more.proofs.show.show_value.Goals as goal

pub returns-in-Number8 : goal.returns-in-Number8
returns-in-Number8 g c =
    value_shown _ _ c.args.form _ _ c.in-Number8.is c.requires.kind (plain8 _ _) c.show_field.result c.show_field.ensures

pub returns-in-Rtype : goal.returns-in-Rtype
returns-in-Rtype g c =
    value_shown _ _ c.args.form _ _ c.in-Number16.is c.requires.kind (λ kind. at_form _ _ c.in-Rtype.is (ap (λ n. printed (type_word_written n) ∷ []) c.from_int.ensures)) c.write_token.result c.write_token.ensures

pub returns-in_default : goal.returns-in_default
returns-in_default g c =
    value_shown _ _ c.args.form _ _ c.in-Number16.is c.requires.kind (λ kind. plain16 _ _ kind c.in_default.not-Rtype) c.show_field-in_default.result c.show_field-in_default.ensures

pub returns-in-Time : goal.returns-in-Time
returns-in-Time g c =
    value_shown _ _ c.args.form _ _ c.in-Number32.is c.requires.kind (λ kind. at_form _ _ c.in-Time.is refl) c.write_token-in-Time.result c.write_token-in-Time.ensures

pub returns-in_default-form : goal.returns-in_default-form
returns-in_default-form g c =
    value_shown _ _ c.args.form _ _ c.in-Number32.is c.requires.kind (λ kind. plain32 _ _ kind c.in_default-form.not-Time) c.show_field-in_default-form.result c.show_field-in_default-form.ensures

pub returns-in-Name : goal.returns-in-Name
returns-in-Name g c =
    value_shown _ _ c.args.form _ _ c.in-Name.is c.requires.kind (λ kind. subst (PrintsForm c.args.form (uncompressed c.in-Name.name)) (ap (λ n. printed (printed_name n) ∷ []) (sym c.fmt_with_dot.ensures)) (plain_name _ _ kind)) c.write_token-in-Name.result c.write_token-in-Name.ensures

pub returns-in-Salt : goal.returns-in-Salt
returns-in-Salt g c =
    value_shown _ _ c.args.form _ _ c.in-String.is c.requires.kind (λ kind. at_form _ _ c.in-Salt.is (ap (λ o. printed (salt_written o) ∷ []) c.as_slice.ensures.octets)) c.write_token-in-Salt.result c.write_token-in-Salt.ensures

pub returns-in-Hash : goal.returns-in-Hash
returns-in-Hash g c =
    value_shown _ _ c.args.form _ _ c.in-String.is c.requires.kind (λ kind. at_form _ _ c.in-Hash.is (ap (λ t. printed t ∷ []) c.display.ensures ∙ ap (λ o. printed (hash_written o) ∷ []) c.as_slice-in-Hash.ensures.octets)) c.write_token-in-Hash.result c.write_token-in-Hash.ensures

pub returns-in_default-form-2 : goal.returns-in_default-form-2
returns-in_default-form-2 g c =
    value_shown _ _ c.args.form _ _ c.in-String.is c.requires.kind (λ kind. plain_string _ _ kind c.in_default-form-2.not-Salt c.in_default-form-2.not-Hash) c.show_field-in_default-form-2.result c.show_field-in_default-form-2.ensures
