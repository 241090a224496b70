use Rattle.std.proofs.Common.{[], ◌∷◌, ◌++◌, ◌∙◌, ap, sym}
use Rattle.dns_fields.specs.Fields.{strings}
use Rattle.dns_fields.proofs.StringsOf.{strings_one}
use Rattle.dns_fields.proofs.convert.strings.LastStringsConvertRow.convert_fields.Goals as goal

pub returns-clause-ok : goal.returns-clause-ok
returns-clause-ok g c =
    ap (λ each. strings each ∷ [])
    (strings_one c.of_strings.result c.args.self.now.0
    (sym c.of_strings.ensures ∙ c.from_builder.ensures ∙ c.in_ok-append_slice.ensures.ok ∙ ap (λ before. before ++ c.as_slice-octets.result.now) c.in_ok-builder.ensures.octets ∙ c.as_slice-octets.ensures.octets))
