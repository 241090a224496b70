use Rattle.std.proofs.Common.{refl, subst}
use Rattle.dns_fields.specs.Fields.{field_octets}
use Rattle.dns_fields_more.specs.Forms.{Keeps}
use Rattle.dns_fields_more.specs.Values.{rest_field}
use Rattle.dns_fields_more.proofs.Shown.{plain_rest, rest_shown, shown}
use Rattle.dns_fields_more.proofs.show.show_rest.Goals as goal

pub returns-in-Types : goal.returns-in-Types
returns-in-Types g c = rest_shown _ _ _ _ _ c.in-Types.is refl c.show_types.result c.show_types.ensures

pub returns-in-Eui48 : goal.returns-in-Eui48
returns-in-Eui48 g c = rest_shown _ _ _ _ _ c.in-Eui48.is refl c.write_token.result c.write_token.ensures

pub returns-in-Eui64 : goal.returns-in-Eui64
returns-in-Eui64 g c = rest_shown _ _ _ _ _ c.in-Eui64.is refl c.write_token-in-Eui64.result c.write_token-in-Eui64.ensures

pub returns-in-RestText : goal.returns-in-RestText
returns-in-RestText g c = rest_shown _ _ _ _ _ c.in-RestText.is refl c.show_last.result c.show_last.ensures

pub returns-in-Rest64 : goal.returns-in-Rest64
returns-in-Rest64 g c = rest_shown _ _ _ _ _ c.in-Rest64.is refl c.show_last-in-Rest64.result c.show_last-in-Rest64.ensures

pub returns-in_default : goal.returns-in_default
returns-in_default g c =
    shown _ _ _ _ _ _
    (plain_rest _ _ c.requires.kind c.in_default.not-Types c.in_default.not-Parameters c.in_default.not-Location c.in_default.not-Eui48 c.in_default.not-Eui64
    c.in_default.not-RestText c.in_default.not-Rest64)
    c.show_last-in_default.result c.show_last-in_default.ensures

pub returns-in-Parameters : goal.returns-in-Parameters
returns-in-Parameters g c =
    let holds = subst (λ form. Keeps form (field_octets (rest_field form c.args.octets.now))) c.in-Parameters.is c.requires.keeps in
    rest_shown _ _ _ _ _ c.in-Parameters.is (holds.parameters, holds.are, holds.written, refl) c.show_parameters.result
    (c.show_parameters.ensures holds.parameters holds.are holds.written)

pub returns-in-Location : goal.returns-in-Location
returns-in-Location g c =
    let holds = subst (λ form. Keeps form (field_octets (rest_field form c.args.octets.now))) c.in-Location.is c.requires.keeps in
    rest_shown _ _ _ _ _ c.in-Location.is (holds.location, holds.is, holds.written, refl) c.show_location.result
    (c.show_location.ensures holds.location holds.is holds.written)
