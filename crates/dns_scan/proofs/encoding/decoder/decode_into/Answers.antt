use Rattle.std.proofs.Common.{◌≡◌, ℕ, List, [], ◌∷◌, ◌++◌, sym, ◌∙◌, ap, subst, append_assoc, append-nil}
use Rattle.std.specs.Str.{chars, IsUtf8}
use Rattle.std.specs.Str.Iter.{chars_rest}
use Rattle.std.proofs.lemmas.Str.{chars_past_char, IsUtf8-past_char, chars-nil}
use Rattle.std.proofs.lemmas.List.{nil_from_length}
use Rattle.std.proofs.lemmas.Result.{err_from_is_err_and, IfOk-weaker}
use Rattle.dns_scan.proofs.Tokens.{if_err_weaker}
use Rattle.dns_scan.specs.Base.{Decodes}
use Rattle.dns_scan.specs.Decoding.{Progress, HasRead, NoneIs}
use Rattle.dns_scan.proofs.Decoded.{refused_text}
use Rattle.dns_scan.proofs.encoding.decoder.decode_into.Goals as goal

pub loop-character-init : goal.loop-character-init
loop-character-init g c =
    let all : chars_rest c.into_iter-character-iterator.result ≡ c.args.text.now =
    ap chars_rest c.into_iter-character-iterator.ensures.into_iter_gives ∙ c.chars-character-items.ensures.rest in
    let P : List ℕ → Type 0 = λ l. IsUtf8 l in
    ([], c.from_builder-decoder.ensures, ap chars all, subst P (sym all) c.utf8.text)

pub loop-character-preserved : goal.loop-character-preserved
loop-character-preserved g c =
    let at = c.loop-character.invariant in
    let steps = c.in-Some.ensures.steps.0 in
    let next = chars_past_char (chars_rest c.loop-character.character-iterator) (chars_rest c.next.new.self) c.in-Some.character at.3 steps in (
      at.0 ++ c.in-Some.character ∷ [],
      c.in_ok-push.ensures.ok at.0 at.1,
      append_assoc at.0 (c.in-Some.character ∷ []) (chars (chars_rest c.next.new.self)) ∙ ap (λ l. at.0 ++ l) (sym next) ∙ at.2,
      IsUtf8-past_char (chars_rest c.loop-character.character-iterator) (chars_rest c.next.new.self) c.in-Some.character at.3 steps,
    )

pub returns-in_err-push-clause-why : goal.returns-in_err-push-clause-why
returns-in_err-push-clause-why g c =
    let at = c.loop-character.invariant in
    let steps = c.in-Some.ensures.steps.0 in
    let next = chars_past_char (chars_rest c.loop-character.character-iterator) (chars_rest c.next.new.self) c.in-Some.character at.3 steps in
    let p = err_from_is_err_and c.from_residual.result c.from_residual.ensures.1 in
    rw (p.1, p.2)
    (refused_text g.E.Encoding.BASE c.loop-character.decoder at.0 (chars (chars_rest c.next.new.self)) (chars c.args.text.now) c.in-Some.character _ at.1
    (ap (λ l. at.0 ++ l) (sym next) ∙ at.2) (c.in_err-push.ensures.why at.1.sound))

whole_text : (read rest text : List ℕ) → read ++ chars rest ≡ chars text → rest ≡ [] → read ≡ chars text
whole_text read rest text is none =
    sym (append-nil read) ∙ ap (λ l. read ++ l) (sym (ap chars none ∙ chars-nil)) ∙ is

pub returns-clause-why : goal.returns-clause-why
returns-clause-why g c =
    let at = c.loop-character.invariant in
    let whole = whole_text at.0 _ c.args.text.now at.2 (nil_from_length _ c.in-None.ensures.steps.0.0) in
    let P : List ℕ → Type 0 = λ l. (progress : Progress) × HasRead g.E.Encoding.BASE progress l × NoneIs g.E.Encoding.BASE l in
    if_err_weaker c.finish.result _ _
    (λ error short.
    let is = short at.1.sound in rw is.0 (subst P whole (c.loop-character.decoder, at.1, is.1 at.0 at.1))) c.finish.ensures.short

pub returns-clause-ok : goal.returns-clause-ok
returns-clause-ok g c =
    let at = c.loop-character.invariant in
    let whole = whole_text at.0 _ c.args.text.now at.2 (nil_from_length _ c.in-None.ensures.steps.0.0) in
    IfOk-weaker c.finish.result _ _
    (λ builder is.
    let P : List ℕ → Type 0 = λ l. Decodes g.E.Encoding.BASE l (g.Builder.Octets.list builder) in
    subst P whole (is at.0 at.1)) c.finish.ensures.ok
