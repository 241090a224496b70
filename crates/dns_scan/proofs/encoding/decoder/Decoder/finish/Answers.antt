use Rattle.std.proofs.Common.{◌≡◌, ℕ, List, length, refl, sym, ap, subst}
use Rattle.dns_scan.specs.Base.{Decodes}
use Rattle.dns_scan.specs.Decoding.{IsWhole}
use Rattle.dns_scan.specs.declared.encoding.base.Base.{Base}
use Rattle.dns_scan.proofs.Decoded.{whole_decodes, not_whole}
use Rattle.dns_scan.proofs.encoding.decoder.Decoder.finish.Goals as goal

whole_at : (base : Base) (pads here bits there : ℕ) → pads ≡ here → bits ≡ there → IsWhole base pads bits → IsWhole base here there
whole_at base pads here bits there same also whole =
    let P : ℕ → Type 0 = λ n. IsWhole base n bits in
    let Q : ℕ → Type 0 = λ n. IsWhole base here n in
    subst Q also (subst P same whole)

pub returns-then-not-is_whole-clause-short : goal.returns-then-not-is_whole-clause-short
returns-then-not-is_whole-clause-short g c = λ sound. (
  refl,
  λ text read octets decodes.
      not_whole g.E.Encoding.BASE c.args.self text read
      (λ whole.
      let Q : Base → Type 0 = λ b. IsWhole b c.self.inside.group.pads (length c.self.inside.group.waiting) in
      let bad = c.if-not-is_whole.ensures.1
      (subst Q (sym c.BASE.ensures) (whole_at g.E.Encoding.BASE _ _ _ _ (sym (ap (λ p. p.pads) c.self.view_is))
      (sym (ap (λ p. length p.waiting) c.self.view_is)) whole)) in cc) octets decodes,
)

pub returns-clause-ok : goal.returns-clause-ok
returns-clause-ok g c = λ text read.
    let P : List ℕ → Type 0 = λ l. Decodes g.E.Encoding.BASE text l in
    let Q : Base → Type 0 = λ b. IsWhole b c.self.inside.group.pads (length c.self.inside.group.waiting) in
    subst P (sym (ap (λ p. p.octets) c.self.view_is))
    (whole_decodes g.E.Encoding.BASE c.args.self text read
    (whole_at g.E.Encoding.BASE _ _ _ _ (ap (λ p. p.pads) c.self.view_is)
    (ap (λ p. length p.waiting) c.self.view_is) (subst Q c.BASE.ensures (c.if-not-is_whole.ensures.0 refl))))
