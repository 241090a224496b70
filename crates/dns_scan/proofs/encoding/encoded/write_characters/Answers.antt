use Rattle.std.proofs.Common.{◌≡◌, ℕ, ◌<◌, List, [], ◌∷◌, ◌++◌, refl, sym, ◌∙◌, ap, subst, arith, rules, append_assoc, length-append}
use Rattle.std.specs.List.{AllByRecursion}
use Rattle.std.specs.Fmt.{HasWritten}
use Rattle.std.proofs.Output.{has_written_append}
use Rattle.std.proofs.lemmas.List.{map_push}
use Rattle.std.proofs.lemmas.Str.{encode_ascii}
use Rattle.std.specs.Prelude.{encode_utf8}
use Rattle.dns_scan.specs.Bits.{all_bits, numbers_of}
use Rattle.dns_scan.specs.Base.{width, size, character}
use Rattle.dns_scan.proofs.Numbers.{numbers_small}
use Rattle.dns_scan.proofs.encoding.encoded.write_characters.Goals as goal

pub loop-number-init : goal.loop-number-init
loop-number-init g c =
    let all : c.into_iter-number-iterator.result ≡ numbers_of (width c.args.base) (all_bits 8 c.args.octets.now) =
    c.into_iter-number-iterator.ensures.into_iter_gives ∙ c.of-number-items.ensures
    ∙ ap (λ n. numbers_of n (all_bits 8 c.args.octets.now)) c.width.ensures in
    let P : List ℕ → Type 0 = λ l. AllByRecursion (λ n. n < size c.args.base) l in
    ([], all, refl, subst P (sym all) (numbers_small c.args.base c.args.octets.now), λ plain. search rules)

pub loop-number-preserved : goal.loop-number-preserved
loop-number-preserved g c =
    let at = c.loop-number.invariant in
    let steps : c.loop-number.number-iterator ≡ c.in-Some.number ∷ c.next.new.self = c.in-Some.ensures.steps in
    let P : List ℕ → Type 0 = λ l. AllByRecursion (λ n. n < size c.args.base) l in
    let Q : List ℕ → Type 0 = λ l. HasWritten g.W.Write.write_str_gives c.args.f.now l c.write_char.new.self in
    let R : List ℕ → Type 0 = λ l. HasWritten g.W.Write.write_str_gives c.loop-number.f l c.write_char.new.self in
    let glyph : encode_utf8 c.character.result ≡ character c.args.base c.in-Some.number ∷ [] =
    encode_ascii c.character.result c.character.ensures.ascii ∙ ap (λ n. n ∷ []) c.character.ensures.is in
    let counted = at.2 in (
      at.0 ++ c.in-Some.number ∷ [],
      append_assoc at.0 (c.in-Some.number ∷ []) c.next.new.self ∙ ap (λ l. at.0 ++ l) (sym steps) ∙ at.1,
      omega (arith, length-append at.0 (c.in-Some.number ∷ [])),
      (subst P steps at.3).1,
      λ plain.
          subst Q (sym (map_push (character c.args.base) at.0 c.in-Some.number)) (has_written_append _ _ _ _ _ _ (at.4 plain) (subst R glyph (let here = at.4 plain in search rules))),
    )
