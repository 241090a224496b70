use Rattle.std.proofs.Common.{◌≡◌, ◌++◌, ◌∙◌, [], ap, refl, sym, arith, rules, append_assoc, append-nil}
use Rattle.std.proofs.lemmas.Grind.{common_steps}
use Rattle.dns_name.specs.UnknownText.{hex_of}
use Rattle.dns_scan.proofs.HexLanes.{hex_parts}
use Rattle.dns_scan.proofs.HexWords.{hex_encoded, octets_by_place}
use Rattle.dns_scan.proofs.encoding.base16.append_digits.Goals as goal

pub loop-left-init : goal.loop-left-init
loop-left-init c = ([], sym (append-nil c.args.text.now.items), refl)

pub loop-left-preserved : goal.loop-left-preserved
loop-left-preserved c =
    let so_far = c.loop-left.invariant in
    let piece = c.split_at.result.0.now in
    let behind = c.split_at.result.1.now in
    let whole : c.loop-left.left.now ≡ piece ++ behind = search rules in
    let more : c.extend_from_slice.new.self.items ≡ c.loop-left.text.items ++ hex_of piece = search rules in (
      so_far.0 ++ hex_of piece,
      more ∙ ap (λ l. l ++ hex_of piece) so_far.1 ∙ append_assoc c.args.text.now.items so_far.0 (hex_of piece),
      append_assoc so_far.0 (hex_of piece) (hex_of behind) ∙ ap (λ l. so_far.0 ++ l) (sym (hex_parts piece behind) ∙ ap hex_of (sym whole)) ∙ so_far.2,
    )

pub returns-clause-ok : goal.returns-clause-ok
returns-clause-ok c =
    let octets = c.args.octets.now in
    let so_far = c.loop-left.invariant in
    let none : c.loop-left.left.now ≡ [] = grind (arith, common_steps) in
    let are = octets_by_place octets (λ i. let fits = c.type_inv.octets i in omega (arith, fits)) in
    let all : so_far.0 ≡ hex_of octets = sym (append-nil so_far.0) ∙ ap (λ l. so_far.0 ++ hex_of l) (sym none) ∙ so_far.2 in
    so_far.1 ∙ ap (λ l. c.args.text.now.items ++ l) (all ∙ sym (hex_encoded octets are))
