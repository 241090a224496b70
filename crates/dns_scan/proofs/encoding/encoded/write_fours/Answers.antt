use Rattle.std.proofs.Common.{[], refl, ◌≡◌, ◌++◌, ◌∙◌, ◌*◌, ℕ, List, length, ap, subst, sym, arith, rules, append_assoc}
use Rattle.std.specs.Str.{IsUtf8}
use Rattle.std.specs.Fmt.{HasWritten}
use Rattle.std.proofs.Output.{has_written_append}
use Rattle.dns_label.specs.Octets.{AreOctets}
use Rattle.dns_scan.specs.Base.{characters_of, encoded}
use Rattle.dns_scan.specs.declared.encoding.base.Base.TheVariants.{SixtyFour}
use Rattle.dns_scan.proofs.Fours.{characters_utf8, encoded_join}
use Rattle.dns_scan.proofs.HexWords.{are_dropped, are_taken, octets_by_place}
use Rattle.dns_scan.proofs.encoding.encoded.write_fours.Goals as goal

pub from_utf8_unchecked-requires : goal.from_utf8_unchecked-requires
from_utf8_unchecked-requires g c =
    subst (λ (l : List ℕ). IsUtf8 l) (sym c.put_fours.ensures) (characters_utf8 c.split_at.result.0.now)

pub loop-left-init : goal.loop-left-init
loop-left-init g c = (
  octets_by_place c.args.octets.now (λ i. let fits = c.type_inv.octets i in omega (arith, fits)),
  λ plain. ([], search rules, refl),
)

pub loop-left-preserved : goal.loop-left-preserved
loop-left-preserved g c = (
  subst (λ (l : List ℕ). AreOctets l) (sym c.split_at.ensures.back) (are_dropped _ c.loop-left.left.now c.loop-left.invariant.0),
  λ plain.
      let so_far = c.loop-left.invariant.1 plain in
      let piece = c.split_at.result.0.now in
      let behind = c.split_at.result.1.now in
      let are : AreOctets piece = subst (λ (l : List ℕ). AreOctets l) (sym c.split_at.ensures.front) (are_taken _ c.loop-left.left.now c.loop-left.invariant.0) in
      let whole : c.loop-left.left.now ≡ piece ++ behind = search rules in
      let long : length piece ≡ 3 * c.min-count.result = search rules in
      let shown : c.from_utf8_unchecked.result.now ≡ characters_of SixtyFour piece = c.from_utf8_unchecked.ensures ∙ c.put_fours.ensures in (
        so_far.0 ++ characters_of SixtyFour piece,
        has_written_append _ _ _ _ _ _ so_far.1 (search rules),
        append_assoc so_far.0 (characters_of SixtyFour piece) (encoded SixtyFour behind)
            ∙ ap (λ l. so_far.0 ++ l) (encoded_join c.min-count.result piece behind long are ∙ ap (encoded SixtyFour) (sym whole)) ∙ so_far.2,
      ),
)

pub returns : goal.returns
returns g c = λ plain fine.
    let so_far = c.loop-left.invariant.1 plain in
    subst (λ (l : List ℕ). HasWritten g.W.Write.write_str_gives c.args.f.now l c.write_characters.new.f) so_far.2
    (has_written_append _ _ _ _ _ _ so_far.1 (c.write_characters.ensures so_far.1.plain fine))
