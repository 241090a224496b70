use Rattle.std.proofs.Common.{◌≡◌, ℕ, length, subst, sym, ◌∙◌, ap, [], ◌∷◌, ◌++◌, rules}
use Rattle.std.specs.Prelude.{Err}
use Rattle.dns_octets.specs.Builder.{IsPast}
use Rattle.dns_octets.specs.declared.error.AppendError.TheVariants.{ShortBuf}
use Rattle.dns_wire.proofs.Case.{wire_one}
use Rattle.dns_wire.proofs.Flat.{flat-written}
use Rattle.dns_wire.proofs.Wire.{wire_is}
use Rattle.dns_flat.proofs.relative.RelativeName.into_absolute.Goals as goal

pub from_octets_unchecked-requires : goal.from_octets_unchecked-requires
from_octets_unchecked-requires g c =
    flat-written _ c.args.self c.into_octets-octets.ensures.name
    (c.in_ok-append_slice.ensures.ok ∙ ap (λ l. l ++ 0 ∷ []) c.into_octets-octets.ensures.octets ∙ sym (wire_is c.args.self))

pub returns-in_err-append_slice-clause-short : goal.returns-in_err-append_slice-clause-short
returns-in_err-append_slice-clause-short g c is =
    let refused : c.append_slice.result ≡ Err ShortBuf = search rules in
    let whole = ap (λ l. l ++ 0 ∷ []) c.into_octets-octets.ensures.octets ∙ sym (wire_is c.args.self) in
    let P : ℕ → Type 0 = λ n. IsPast (g.Octs.OctetsBuilder.bound c.into_octets-octets.result) n in
    (c.into_octets-octets.result, c.into_octets-octets.ensures.octets, subst P (ap (length {A = ℕ}) whole) (c.append_slice.ensures.short refused))

pub returns-clause-ok : goal.returns-clause-ok
returns-clause-ok g c =
    wire_one _ c.args.self
    (sym c.from_octets_unchecked.ensures ∙ c.in_ok-append_slice.ensures.ok ∙ ap (λ l. l ++ 0 ∷ []) c.into_octets-octets.ensures.octets ∙ sym (wire_is c.args.self))
