use Rattle.std.proofs.Common.{◌≡◌, ◌∙◌, sym, ap, length, ◌++◌, rules, arith}
use Rattle.dns_name_tests.specs.OneSuffix.{remembered}
use Rattle.dns_name_tests.proofs.OneSuffixLemmas.{at_near, at_order, at_ends, pointer_text, full_text, same_known, one_none_text, first_known, cut_back, appended_some}
use Rattle.dns_name_tests.proofs.one_suffix.append_name.Goals as goal

pub is_repeated-requires-clause-in_order : goal.is_repeated-requires-clause-in_order
is_repeated-requires-clause-in_order g c = at_order g.C.Comparison.folds c.in-Some.at c.in-Some.is c.requires

pub is_repeated-requires-clause-before : goal.is_repeated-requires-clause-before
is_repeated-requires-clause-before g c = omega (arith, at_ends g.C.Comparison.folds c.in-Some.at c.in-Some.is c.requires)

pub whole_name-requires : goal.whole_name-requires
whole_name-requires g c = omega (arith, appended_some c.args.octets.now.items c.compose.new.target.items _ c.in_ok-compose.ensures.ok)

pub pointer-requires : goal.pointer-requires
pointer-requires g c = at_near g.C.Comparison.folds c.in-Some.at c.in-Some.is c.requires

pub returns-in_ok-append_slice-in-Some-clause-ok : goal.returns-in_ok-append_slice-in-Some-clause-ok
returns-in_ok-append_slice-in-Some-clause-ok g c =
    let here : c.len-place.result ≡ length c.args.octets.now.items = omega arith in
    let whole = c.in_ok-compose.ensures.ok in
    c.in_ok-append_slice-in-Some.ensures.ok
    ∙ ap (λ l. l ++ c.pointer.result)
    (cut_back c.args.octets.now.items c.compose.new.target.items c.truncate.new.self.items _ c.len-place.result whole here (search rules))
    ∙ ap (λ l. c.args.octets.now.items ++ l)
    (c.pointer.ensures
    ∙ sym (pointer_text g.C.Comparison.folds c.in-Some.at c.in-Some.is c.requires c.compose.new.target.items c.len-place.result _ whole here (search rules)))

pub returns-in_ok-append_slice-in-Some-clause-known : goal.returns-in_ok-append_slice-in-Some-clause-known
returns-in_ok-append_slice-in-Some-clause-known g c =
    let here : c.len-place.result ≡ length c.args.octets.now.items = omega arith in
    let whole = c.in_ok-compose.ensures.ok in
    ap (remembered g.C.Comparison.folds c.append_slice.new.self.items) (sym c.in-Some.is)
    ∙ same_known g.C.Comparison.folds c.in-Some.at c.in-Some.is c.requires c.append_slice.new.self.items c.pointer.result _
    (c.in_ok-append_slice-in-Some.ensures.ok ∙ ap (λ l. l ++ c.pointer.result)
    (cut_back c.args.octets.now.items c.compose.new.target.items c.truncate.new.self.items _ c.len-place.result whole here (search rules)))

pub returns-else-is_repeated-clause-ok : goal.returns-else-is_repeated-clause-ok
returns-else-is_repeated-clause-ok g c =
    let here : c.len-place.result ≡ length c.args.octets.now.items = omega arith in
    let whole = c.in_ok-compose.ensures.ok in
    whole ∙ ap (λ l. c.args.octets.now.items ++ l)
    (sym (full_text g.C.Comparison.folds c.in-Some.at c.in-Some.is c.requires c.compose.new.target.items c.len-place.result _ whole here (search rules)))

pub returns-else-is_repeated-clause-known : goal.returns-else-is_repeated-clause-known
returns-else-is_repeated-clause-known g c =
    ap (remembered g.C.Comparison.folds c.compose.new.target.items) (sym c.in-Some.is)
    ∙ same_known g.C.Comparison.folds c.in-Some.at c.in-Some.is c.requires c.compose.new.target.items _ _ c.in_ok-compose.ensures.ok

pub returns-in-None-clause-ok : goal.returns-in-None-clause-ok
returns-in-None-clause-ok g c = rw (c.in-None.is, one_none_text g.C.Comparison.folds) c.in_ok-compose.ensures.ok

pub returns-in-None-clause-known : goal.returns-in-None-clause-known
returns-in-None-clause-known g c =
    let here : c.len-place.result ≡ length c.args.octets.now.items = omega arith in
    let there : c.len-stop.result ≡ length c.compose.new.target.items = omega arith in
    rw (c.in-None.is, c.whole_name.ensures, here, there)
    (first_known g.C.Comparison.folds c.args.octets.now.items c.compose.new.target.items _ c.as_flat_slice-flat.ensures.name c.in_ok-compose.ensures.ok)
