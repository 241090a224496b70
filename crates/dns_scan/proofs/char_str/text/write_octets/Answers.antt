use Rattle.std.proofs.Common.{◌≡◌, ◌++◌, ◌∷◌, ◌∙◌, [], ℕ, List, true, ap, subst, sym, rules, arith, append_assoc, append-nil}
use Rattle.std.specs.List.{list_all}
use Rattle.std.specs.Fmt.{HasWritten}
use Rattle.std.proofs.Output.{has_written_append}
use Rattle.std.proofs.lemmas.Grind.{common_steps}
use Rattle.dns_label.specs.Symbol.{spelled}
use Rattle.dns_scan.specs.StringText.{is_bare, symbol_of, text_of}
use Rattle.dns_scan.proofs.BareTexts.{bare_text, bare_utf8, run_and_symbol}
use Rattle.dns_scan.proofs.char_str.text.write_octets.Goals as goal

pub from_utf8_unchecked-requires : goal.from_utf8_unchecked-requires
from_utf8_unchecked-requires g c =
    bare_utf8 c.args.style c.split_at.result.0.now
    (subst (λ (l : List ℕ). list_all (is_bare c.args.style) l ≡ true) (sym c.split_at.ensures.front) c.bare_len.ensures.bare)

pub returns-in_default : goal.returns-in_default
returns-in_default g c = λ plain fine.
    let so_far = c.loop-octet.invariant plain in
    let run = c.split_at.result.0.now in
    let none : c.split_at.result.1.now ≡ [] = grind (arith, common_steps) in
    let parts : c.loop-octet.left.now ≡ run ++ c.split_at.result.1.now = search rules in
    let whole : c.loop-octet.left.now ≡ run = parts ∙ ap (λ l. run ++ l) none ∙ append-nil run in
    let all : list_all (is_bare c.args.style) run ≡ true =
    subst (λ (l : List ℕ). list_all (is_bare c.args.style) l ≡ true) (sym c.split_at.ensures.front) c.bare_len.ensures.bare in
    let ends : so_far.0 ++ run ≡ text_of c.args.style c.args.octets.now =
    ap (λ l. so_far.0 ++ l) (sym (ap (text_of c.args.style) whole ∙ bare_text c.args.style run all)) ∙ so_far.2 in
    let shown : c.from_utf8_unchecked.result.now ≡ run = c.from_utf8_unchecked.ensures in
    subst (λ (l : List ℕ). HasWritten g.W.Write.write_str_gives c.args.f.now l c.write_str.new.self) ends
    (has_written_append _ _ _ _ _ _ so_far.1 (search rules))

pub loop-octet-preserved : goal.loop-octet-preserved
loop-octet-preserved g c = λ plain.
    let so_far = c.loop-octet.invariant plain in
    let run = c.split_at.result.0.now in
    let octet = c.in-Some.octet in
    let others = c.in-Some.others.now in
    let found : c.split_at.result.1.now ≡ octet ∷ others = grind (arith, common_steps) in
    let parts : c.loop-octet.left.now ≡ run ++ c.split_at.result.1.now = search rules in
    let whole : c.loop-octet.left.now ≡ run ++ octet ∷ others = parts ∙ ap (λ l. run ++ l) found in
    let all : list_all (is_bare c.args.style) run ≡ true =
    subst (λ (l : List ℕ). list_all (is_bare c.args.style) l ≡ true) (sym c.split_at.ensures.front) c.bare_len.ensures.bare in
    let shown : c.from_utf8_unchecked.result.now ≡ run = c.from_utf8_unchecked.ensures in
    let symbol = spelled (symbol_of c.args.style octet) in
    let front : HasWritten g.W.Write.write_str_gives c.args.f.now (so_far.0 ++ run) c.write_str.new.self =
    has_written_append _ _ _ _ _ _ so_far.1 (search rules) in (
      (so_far.0 ++ run) ++ symbol,
      has_written_append _ _ _ _ _ _ front (search rules),
      append_assoc (so_far.0 ++ run) symbol (text_of c.args.style others) ∙ append_assoc so_far.0 run (symbol ++ text_of c.args.style others)
          ∙ ap (λ l. so_far.0 ++ l) (sym (ap (text_of c.args.style) whole ∙ run_and_symbol c.args.style run others octet all)) ∙ so_far.2,
    )
