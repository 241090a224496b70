use Rattle.std.proofs.Common.{[], refl, ◌≡◌, ◌++◌, ◌∙◌, ℕ, List, ap, subst, sym, arith, rules, append_assoc}
use Rattle.std.specs.Str.{IsUtf8}
use Rattle.std.proofs.Output.{has_written_append}
use Rattle.dns_label.specs.Octets.{AreOctets}
use Rattle.dns_name.specs.UnknownText.{hex_of}
use Rattle.dns_scan.proofs.HexLanes.{hex_parts, hex_utf8}
use Rattle.dns_scan.proofs.HexWords.{are_dropped, are_taken, octets_by_place}
use Rattle.dns_scan.proofs.encoding.encoded.write_hex.Goals as goal

pub from_utf8_unchecked-requires : goal.from_utf8_unchecked-requires
from_utf8_unchecked-requires g c =
    let piece = c.split_at.result.0.now in
    let are : AreOctets piece = subst (λ (l : List ℕ). AreOctets l) (sym c.split_at.ensures.front) (are_taken _ c.loop-left.left.now c.loop-left.invariant.0) in
    subst (λ (l : List ℕ). IsUtf8 l) (sym c.write_digits.ensures) (hex_utf8 piece are)

pub loop-left-init : goal.loop-left-init
loop-left-init g c = (
  octets_by_place c.args.octets.now (λ i. let fits = c.type_inv.octets i in omega (arith, fits)),
  λ plain. ([], search rules, refl),
)

pub loop-left-preserved : goal.loop-left-preserved
loop-left-preserved g c = (
  subst (λ (l : List ℕ). AreOctets l) (sym c.split_at.ensures.back) (are_dropped _ c.loop-left.left.now c.loop-left.invariant.0),
  λ plain.
      let so_far = c.loop-left.invariant.1 plain in
      let piece = c.split_at.result.0.now in
      let behind = c.split_at.result.1.now in
      let whole : c.loop-left.left.now ≡ piece ++ behind = search rules in
      let shown : c.from_utf8_unchecked.result.now ≡ hex_of piece = c.from_utf8_unchecked.ensures ∙ c.write_digits.ensures in (
        so_far.0 ++ hex_of piece,
        has_written_append _ _ _ _ _ _ so_far.1 (search rules),
        append_assoc so_far.0 (hex_of piece) (hex_of behind) ∙ ap (λ l. so_far.0 ++ l) (sym (hex_parts piece behind) ∙ ap hex_of (sym whole)) ∙ so_far.2,
      ),
)
