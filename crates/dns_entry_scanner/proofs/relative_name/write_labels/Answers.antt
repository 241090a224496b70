use Rattle.std.proofs.Common.{◌≡◌, ◌+◌, ◌-◌, ◌++◌, ◌∷◌, ◌∙◌, ℕ, List, [], length, take, drop, refl, sym, ap, arith, length-append, length-set}
use Rattle.std.proofs.lemmas.List.{drop_all, length-drop, length-take-le, take_all}
use Rattle.dns_name.proofs.WrittenParts.{length-patched}
use Rattle.dns_entry_scanner.proofs.RelativeNames.{drop_here, ended_front, labels_begun, labels_dot, labels_ended, labels_escape, labels_run, part_front, written_front}
use Rattle.dns_entry_scanner.proofs.relative_name.write_labels.Goals as goal

pub loop-start-init : goal.loop-start-init
loop-start-init c = (
  omega arith,
  omega arith,
  omega arith,
  refl,
  labels_begun c.args.text.now c.args.octets.now.items c.args.front (omega (arith, c.requires.space)),
)

pub returns-then-not-end_label-clause-front : goal.returns-then-not-end_label-clause-front
returns-then-not-end_label-clause-front c =
    ap (take c.args.front) (c.end_label.ensures.no c.if-not-end_label.true)
    ∙ written_front c.args.text.now _ c.args.octets.now.items _ c.args.front _ _ c.loop-start.invariant.4 (omega (arith, c.requires.space))

pub loop-start-preserved-in-46 : goal.loop-start-preserved-in-46
loop-start-preserved-in-46 c =
    let text = c.args.text.now in
    let start = c.loop-start.start in
    let inv = c.loop-start.invariant in
    let ended = c.end_label.ensures.yes c.if-not-end_label.false in (
      omega arith,
      omega arith,
      omega (arith, inv.2),
      ap (length {A = ℕ}) ended.2 ∙ length-set c.loop-start.octets.items _ _ ∙ inv.3,
      labels_dot text (drop (start + 1) text) (take c.args.front c.args.octets.now.items) c.loop-start.octets.items _ c.loop-start.head
          c.loop-start.place (drop start text) inv.4 (drop_here start text (omega arith) ∙ ap (λ n. n ∷ drop (start + 1) text) c.in-46.is)
          ended.0 ended.1 ended.2 (omega (arith, c.requires.space, inv.2, inv.3)),
    )

pub escape_at-requires-clause-is : goal.escape_at-requires-clause-is
escape_at-requires-clause-is c =
    let text = c.args.text.now in
    let start = c.loop-start.start in
    (drop (start + 1) text, drop_here start text (omega arith) ∙ ap (λ n. n ∷ drop (start + 1) text) c.in-92.is)

pub loop-start-preserved-in-92 : goal.loop-start-preserved-in-92
loop-start-preserved-in-92 c =
    let text = c.args.text.now in
    let inv = c.loop-start.invariant in
    let found = c.in-Some.ensures in
    let behind = found.behind in
    let within = found.within in
    let octets = c.loop-start.octets.items in (
      omega (arith, within),
      omega arith,
      omega (arith, inv.2, behind),
      ap (length {A = ℕ}) c.patch.ensures.octets
          ∙ length-patched octets c.loop-start.place (c.in-Some.octet ∷ []) (omega (arith, c.requires.space, inv.2, inv.3)) ∙ inv.3,
      labels_escape text (take c.args.front c.args.octets.now.items) octets _ c.loop-start.head c.loop-start.place c.loop-start.start
          c.in-Some.octet c.in-Some.end inv.4 found (omega (arith, c.requires.space, inv.2, inv.3)) c.patch.ensures.octets,
    )

pub returns-in_default-escape_at-clause-front : goal.returns-in_default-escape_at-clause-front
returns-in_default-escape_at-clause-front c =
    written_front c.args.text.now _ c.args.octets.now.items _ c.args.front _ _ c.loop-start.invariant.4 (omega (arith, c.requires.space))

pub returns-in_default-run_at-clause-front : goal.returns-in_default-run_at-clause-front
returns-in_default-run_at-clause-front c =
    written_front c.args.text.now _ c.args.octets.now.items _ c.args.front _ _ c.loop-start.invariant.4 (omega (arith, c.requires.space))

pub write_run-requires-clause-begins : goal.write_run-requires-clause-begins
write_run-requires-clause-begins c =
    let text = c.args.text.now in
    let from = c.args.from.now in
    let start = c.loop-start.start in
    let end = c.in-Some-run_at.end in
    let long = length-take-le (end - start) (drop start text) (omega (arith, c.in-Some-run_at.ensures.whole, length-drop start text)) in
    part_front text from start (end - start) c.requires.begins (omega (arith, c.in-Some-run_at.ensures.some, c.in-Some-run_at.ensures.whole))
    ∙ ap (λ n. take n (drop start from)) (sym long)
    ∙ ap (take (length (take (end - start) (drop start text)))) (sym (take_all (length from - start) (drop start from) (omega (arith, length-drop start from))))

pub write_run-requires-clause-within : goal.write_run-requires-clause-within
write_run-requires-clause-within c =
    let text = c.args.text.now in
    let start = c.loop-start.start in
    let end = c.in-Some-run_at.end in
    let inv = c.loop-start.invariant in
    let long = length-take-le (end - start) (drop start text) (omega (arith, c.in-Some-run_at.ensures.whole, length-drop start text)) in
    omega (arith, long, c.requires.space, inv.2, inv.3, c.in-Some-run_at.ensures.some, c.in-Some-run_at.ensures.whole)

pub loop-start-preserved : goal.loop-start-preserved
loop-start-preserved c =
    let text = c.args.text.now in
    let start = c.loop-start.start in
    let end = c.in-Some-run_at.end in
    let inv = c.loop-start.invariant in
    let octets = c.loop-start.octets.items in
    let run : List ℕ = take (end - start) (drop start text) in
    let some = c.in-Some-run_at.ensures.some in
    let whole = c.in-Some-run_at.ensures.whole in
    let written = c.write_run.ensures in
    let more = written.0 in (
      omega (arith, whole),
      omega (arith, some),
      omega (arith, inv.2, some),
      ap (length {A = ℕ}) written.2
          ∙ length-patched octets c.loop-start.place (run ++ more) (omega (arith, written.1, length-append run more)) ∙ inv.3,
      labels_run text (take c.args.front c.args.octets.now.items) octets _ more c.loop-start.head c.loop-start.place start end inv.4
          c.in-Some-run_at.ensures.run (omega (arith, some)) whole written.1 written.2,
    )

pub returns-then-end_label-clause-some : goal.returns-then-end_label-clause-some
returns-then-end_label-clause-some c =
    let text = c.args.text.now in
    let entry = c.args.octets.now.items in
    let front = c.args.front in
    let inv = c.loop-start.invariant in
    let is = c.end_label-2.ensures.yes c.if-end_label.true in
    let ended = labels_ended text (take front entry) c.loop-start.octets.items _ c.loop-start.head c.loop-start.place (drop c.loop-start.start text) inv.4
    (drop_all c.loop-start.start text (omega arith)) is.0 is.1 is.2 in
    let long = length-take-le front entry (omega (arith, c.requires.space)) in (
      ended.labels,
      ended.more,
      ended.spells,
      ended.has,
      omega (arith, ended.at, long),
      omega (arith, ended.at, long, inv.0, inv.2),
    )

pub returns-then-end_label-clause-front : goal.returns-then-end_label-clause-front
returns-then-end_label-clause-front c =
    let text = c.args.text.now in
    let entry = c.args.octets.now.items in
    let front = c.args.front in
    let inv = c.loop-start.invariant in
    let is = c.end_label-2.ensures.yes c.if-end_label.true in
    ended_front text entry _ front _
    (labels_ended text (take front entry) c.loop-start.octets.items _ c.loop-start.head c.loop-start.place (drop c.loop-start.start text) inv.4
    (drop_all c.loop-start.start text (omega arith)) is.0 is.1 is.2)
    (omega (arith, c.requires.space))

pub returns-else-end_label-clause-front : goal.returns-else-end_label-clause-front
returns-else-end_label-clause-front c =
    ap (take c.args.front) (c.end_label-2.ensures.no c.if-end_label.false)
    ∙ written_front c.args.text.now _ c.args.octets.now.items _ c.args.front _ _ c.loop-start.invariant.4 (omega (arith, c.requires.space))
