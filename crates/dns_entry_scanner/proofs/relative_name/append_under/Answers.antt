use Rattle.std.proofs.Common.{◌≡◌, ◌+◌, ◌++◌, ◌∙◌, ℕ, List, length, take, refl, ap, arith, subst, length-append}
use Rattle.dns_label.specs.Name.{labels_wire}
use Rattle.dns_entry_scanner.specs.AppendedName.{HasBehind}
use Rattle.dns_entry_scanner.proofs.RelativeNames.{any_front, under_origin}
use Rattle.dns_entry_scanner.proofs.relative_name.append_under.Goals as goal

pub write_labels-requires-clause-space : goal.write_labels-requires-clause-space
write_labels-requires-clause-space c =
    let has = c.in-Ok.ensures.ok in
    let long = has.long in
    omega (arith, ap (length {A = ℕ}) has.is, length-append c.args.octets.now.items has.others)

pub returns-in_default-write_labels-clause-no : goal.returns-in_default-write_labels-clause-no
returns-in_default-write_labels-clause-no c = λ no.
    c.truncate.ensures.items ∙ c.write_labels.ensures.front
    ∙ any_front _ c.len-front.result c.args.octets.now.items c.append_any.new.octets.items c.in-Ok.ensures.ok (omega arith)

pub write_over-requires : goal.write_over-requires
write_over-requires c =
    let has = c.in-Ok.ensures.ok in
    let long = has.long in
    let written = c.in-Some.ensures.some in
    let short = written.5 in
    omega (arith, written.4, short, c.write_labels.ensures.counted, ap (length {A = ℕ}) has.is, length-append c.args.octets.now.items has.others)

pub returns-clause-yes : goal.returns-clause-yes
returns-clause-yes c = λ is.
    let old = c.args.octets.now.items in
    let any = c.in-Ok.ensures.ok in
    let long = any.long in
    let written = c.in-Some.ensures.some in
    let front = any_front _ c.len-front.result old c.append_any.new.octets.items any (omega arith) in
    let P : List ℕ → Type 0 = λ l. HasBehind written.1 (l ++ labels_wire written.0) c.write_labels.new.octets.items in
    let has = subst P front written.3 in
    let size = ap (length {A = ℕ}) has.is in
    let over = has.long in
    under_origin c.args.text.now written.0 c.args.origin.now old c.write_labels.new.octets.items c.write_over.new.octets.items _ c.as_slice-origin.result.now
    written.1 c.args.room c.in-Some.end _ c.requires.other written.2 written.5 c.as_slice-origin.ensures.name c.requires.fits has
    c.as_slice-origin.ensures.octets (omega (arith, written.4, c.len-front.ensures))
    (omega (
      arith,
      size,
      over,
      long,
      written.5,
      c.write_labels.ensures.counted,
      length-append old any.others,
      ap (length {A = ℕ}) any.is,
      length-append (old ++ labels_wire written.0) has.others,
      length-append old (labels_wire written.0),
    ))
    c.write_over.ensures refl c.truncate-2.ensures.items
