use Rattle.std.proofs.Common.{◌≡◌, ◌+◌, ◌∷◌, ◌++◌, drop, get_or, sym, ◌∙◌, ap, append_assoc, rules, arith}
use Rattle.std.proofs.Output.{has_written_append}
use Rattle.std.specs.List.{flat_map}
use Rattle.std.proofs.lemmas.List.{drop_more}
use Rattle.dns_scan.specs.StringText.{unquoted_text}
use Rattle.dns_service_parameters.specs.ServiceText.{item_octet}
use Rattle.dns_service_parameters.proofs.ServiceShown.{unquoted-append}
use Rattle.dns_service_parameters.proofs.show.write_string.Goals as goal

pub loop-octet-preserved : goal.loop-octet-preserved
loop-octet-preserved g c = λ plain.
    let so_far = c.loop-octet.invariant plain in
    let xs = c.args.octets.now in
    let i = c.loop-octet.octet-index in
    let first = unquoted_text (item_octet (get_or xs i 0)) in
    let behind = flat_map item_octet (drop (i + 1) xs) in
    let here : drop i xs ≡ get_or xs i 0 ∷ drop (i + 1) xs = drop_more xs i 0 (omega arith) in
    let one : unquoted_text (flat_map item_octet (drop i xs)) ≡ first ++ unquoted_text behind =
    ap (λ l. unquoted_text (flat_map item_octet l)) here ∙ unquoted-append (item_octet (get_or xs i 0)) behind in (
      so_far.0 ++ first,
      has_written_append _ _ _ _ _ _ so_far.1 (search rules),
      append_assoc so_far.0 _ _ ∙ ap (λ l. so_far.0 ++ l) (sym one) ∙ so_far.2,
    )
