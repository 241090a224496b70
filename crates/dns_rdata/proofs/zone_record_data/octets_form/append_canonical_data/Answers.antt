use Rattle.std.proofs.Common.{◌≡◌, ◌+◌, ℕ, List, ◌++◌, length, take, drop, ap, sym, subst, ◌∙◌, arith, append-nil, length-append}
use Rattle.std.proofs.Math.Seq.{drop-append_seam, take-append_seam}
use Rattle.std.proofs.lemmas.List.{take_all, drop_all}
use Rattle.dns_fields.specs.OctetsForm.{IsCanonicalData}
use Rattle.dns_rdata.proofs.zone_record_data.octets_form.append_canonical_data.Goals as goal

-- what is behind the old octets becomes the canonical form
appended : (start len : ℕ) (old octets items slice made canonical : List ℕ) → start + length octets ≡ len → items ≡ old ++ octets
    → slice ≡ items → length slice ≡ len → length made ≡ length slice → (drop start slice ≡ octets → made ≡ take start slice ++ canonical)
    → take len (made ++ drop (length made) items) ≡ old ++ canonical
appended start len old octets items slice made canonical long items_are slice_is all same made_is =
    let at : start ≡ length old = omega (arith, long, all, ap (length {A = ℕ}) (slice_is ∙ items_are), length-append old octets) in
    let front : take start slice ≡ old = (λ i. take (at i) ((slice_is ∙ items_are) i)) ∙ take-append_seam old octets in
    let back : drop start slice ≡ octets = (λ i. drop (at i) ((slice_is ∙ items_are) i)) ∙ drop-append_seam old octets in
    ap (λ l. take len (made ++ l)) (drop_all (length made) items (omega (arith, same, ap (length {A = ℕ}) slice_is)))
    ∙ ap (take len) (append-nil made) ∙ take_all len made (omega (arith, same, all))
    ∙ made_is back ∙ ap (λ l. l ++ canonical) front

pub returns : goal.returns
returns c canonical is =
    appended c.len-start.result _ c.args.target.now.items c.args.octets.now c.extend_from_slice.new.self.items c.as_mut_slice.result.now
    c.make_canonical_from.new.octets canonical (omega (arith, c.len-start.ensures, c.in_ok-extend_from_slice.ensures.len))
    c.in_ok-extend_from_slice.ensures.items c.as_mut_slice.ensures.value c.as_mut_slice.ensures.len (omega (arith, c.make_canonical_from.auto.octets))
    (λ behind. c.make_canonical_from.ensures canonical (subst (λ l. IsCanonicalData c.args.rtype l canonical) (sym behind) is))
