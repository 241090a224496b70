use Rattle.std.proofs.Common.{◌≡◌, ◌+◌, ◌∷◌, [], ◌++◌, drop, get_or, sym, ◌∙◌, ap, append_assoc, append-nil, rules, arith}
use Rattle.std.proofs.Output.{has_written_append}
use Rattle.std.proofs.lemmas.List.{drop_more}
use Rattle.dns_scan.specs.StringText.{unquoted_text}
use Rattle.dns_service_parameters.proofs.show.write_octets.Goals as goal

pub loop-octet-preserved : goal.loop-octet-preserved
loop-octet-preserved g c = λ plain.
    let so_far = c.loop-octet.invariant plain in
    let xs = c.args.octets.now in
    let i = c.loop-octet.octet-index in
    let first = unquoted_text (get_or xs i 0 ∷ []) in
    let here : drop i xs ≡ get_or xs i 0 ∷ drop (i + 1) xs = drop_more xs i 0 (omega arith) in
    let one : unquoted_text (drop i xs) ≡ first ++ unquoted_text (drop (i + 1) xs) =
    ap unquoted_text here ∙ ap (λ l. l ++ unquoted_text (drop (i + 1) xs)) (sym (append-nil _)) in (
      so_far.0 ++ first,
      has_written_append _ _ _ _ _ _ so_far.1 (search rules),
      append_assoc so_far.0 _ _ ∙ ap (λ l. so_far.0 ++ l) (sym one) ∙ so_far.2,
    )
