use Rattle.std.proofs.Common.{◌≡◌, ℕ, List, sym, ◌∙◌, subst}
use Rattle.std.specs.Str.{chars}
use Rattle.std.specs.Prelude.{string_bytes}
use Rattle.dns_name.proofs.Flat.{always_on_err}
use Rattle.dns_scan.specs.Base.{Decodes}
use Rattle.dns_scan.proofs.Entries.{nothing_left, words_one}
use Rattle.dns_scan.proofs.Decoded.{refused_for_itself}
use Rattle.dns_scan.proofs.encoding.entry.scan_entry.Goals as goal

pub returns-in_err-builder-clause-left : goal.returns-in_err-builder-clause-left
returns-in_err-builder-clause-left g c =
    always_on_err c.from_residual-in_err-builder.result
    (nothing_left _ _ (c.octets_builder.ensures.stays ∙ c.in_ok-text.ensures.ok.1))

pub returns-clause-left : goal.returns-clause-left
returns-clause-left g c = nothing_left _ _ (c.octets_builder.ensures.stays ∙ c.in_ok-text.ensures.ok.1)

pub returns-clause-err : goal.returns-clause-err
returns-clause-err g c = λ short text octets entry decodes.
    let same : text ≡ c.as_str.result.now =
    words_one _ text (string_bytes c.in_ok-text.text) entry c.in_ok-text.ensures.ok.0 ∙ sym c.as_str.ensures.value in
    let P : List ℕ → Type 0 = λ l. Decodes g.E.Encoding.BASE (chars l) octets in
    refused_for_itself g.E.Encoding.BASE (chars c.as_str.result.now) c.in-Err.error c.in-Err.ensures.why (sym c.scan_error.ensures.short ∙ short)
    octets (subst P same decodes)
