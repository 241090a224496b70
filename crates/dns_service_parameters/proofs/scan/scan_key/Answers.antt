use Rattle.std.proofs.Common.{◌≡◌, ◌≢◌, ◌<◌, ◌++◌, ◌∙◌, ℕ, List, Bor, length, sym, ap, subst, arith}
use Rattle.std.proofs.lemmas.Bool.Decides.{nat_tests}
use Rattle.std.proofs.lemmas.List.{nil_from_length}
use Rattle.std.proofs.lemmas.Result.{err_from_is_err_and}
use Rattle.std.specs.Prelude.{Option, option_map}
use Rattle.dns_scan.specs.StringText.{Spells}
use Rattle.dns_scan.specs.Token.{Token}
use Rattle.dns_service_parameters.specs.ServiceText.{TakesQuoted}
use Rattle.dns_service_parameters.proofs.ServiceScans.{IsSplit, bad_text, bare_taken, key_alone, key_assigned, key_before, next_is, no_text, split_is, unknown_word, unmarked}
use Rattle.dns_service_parameters.proofs.scan.scan_key.Goals as goal
use Rattle.dns_service_parameters.proofs.scan.scan_key.Goals.{in-None, in-Some-written+then-is_empty+in_ok-scan_quoted-in-Some-written, in-Some-written+else-is_empty+in_ok-read_text-in-Some-written}

pub returns-in_default-clause-err : goal.returns-in_default-clause-err
returns-in_default-clause-err g c = λ short.
    let now : Bor (List ℕ) → List ℕ = λ b. b.now in
    let takes = c.in_ok-peek_text.ensures.ok in
    let bare = bare_taken (unmarked c.next_is_quoted.result c.if-next_is_quoted.false c.next_is_quoted.ensures) takes.1 in
    let split = split_is now c.in_ok-peek_text.field-0.now c.split_first.result.0.now c.split_first.result.1 bare
    c.split_first.ensures.front c.split_first.ensures.some c.split_first.ensures.none in
    unknown_word split c.in_default.ensures.none

pub returns-in_err-scan_quoted-in-Some-written-clause-err : goal.returns-in_err-scan_quoted-in-Some-written-clause-err
returns-in_err-scan_quoted-in-Some-written-clause-err g c =
    let p = err_from_is_err_and c.from_residual-in_err-scan_quoted-in-Some-written.result c.from_residual-in_err-scan_quoted-in-Some-written.ensures.1 in
    let now : Bor (List ℕ) → List ℕ = λ b. b.now in
    let takes = c.in_ok-peek_text.ensures.ok in
    let bare = bare_taken (unmarked c.next_is_quoted.result c.if-next_is_quoted.false c.next_is_quoted.ensures) takes.1 in
    let split = split_is now c.in_ok-peek_text.field-0.now c.split_first.result.0.now c.split_first.result.1 bare
    c.split_first.ensures.front c.split_first.ensures.some c.split_first.ensures.none in
    let whole = subst (λ (o : Option (List ℕ)). IsSplit (g.S.Scanner.tokens c.args.scanner.now) takes.0 c.split_first.result.0.now o) (ap (option_map now) c.in-Some-written.is) split in
    let zero : length c.in-Some-written.written.now ≡ 0 = grind (arith, nat_tests) in
    let same = next_is takes.1 c.skip_token-then-is_empty.ensures.taken in
    rw (p.1, p.2) (λ short.
    no_text whole (nil_from_length c.in-Some-written.written.now zero)
    (λ text left spells.
    c.in_err-scan_quoted-in-Some-written.ensures.err short text left (subst (λ (l : List Token). TakesQuoted text l left) (sym same) spells)))

pub returns-in_err-read_text-in-Some-written-clause-err : goal.returns-in_err-read_text-in-Some-written-clause-err
returns-in_err-read_text-in-Some-written-clause-err g c =
    let p = err_from_is_err_and c.from_residual-in_err-read_text-in-Some-written.result c.from_residual-in_err-read_text-in-Some-written.ensures.1 in
    let now : Bor (List ℕ) → List ℕ = λ b. b.now in
    let takes = c.in_ok-peek_text.ensures.ok in
    let bare = bare_taken (unmarked c.next_is_quoted.result c.if-next_is_quoted.false c.next_is_quoted.ensures) takes.1 in
    let split = split_is now c.in_ok-peek_text.field-0.now c.split_first.result.0.now c.split_first.result.1 bare
    c.split_first.ensures.front c.split_first.ensures.some c.split_first.ensures.none in
    let whole = subst (λ (o : Option (List ℕ)). IsSplit (g.S.Scanner.tokens c.args.scanner.now) takes.0 c.split_first.result.0.now o) (ap (option_map now) c.in-Some-written.is) split in
    let some : length c.in-Some-written.written.now ≢ 0 = grind (arith, nat_tests) in
    rw (p.1, p.2) (λ short.
    bad_text whole (λ none. some (ap (length {A = ℕ}) none)) (c.in_err-read_text-in-Some-written.ensures.err short))

pub returns-clause-ok : goal.returns-clause-ok
returns-clause-ok g c =
    let tokens = g.S.Scanner.tokens c.args.scanner.now in
    let word : List ℕ = c.split_first.result.0.now in
    let behind = g.S.Scanner.tokens c.match-written.scanner in
    let now : Bor (List ℕ) → List ℕ = λ b. b.now in
    let takes = c.in_ok-peek_text.ensures.ok in
    let bare = bare_taken (unmarked c.next_is_quoted.result c.if-next_is_quoted.false c.next_is_quoted.ensures) takes.1 in
    let split = split_is now c.in_ok-peek_text.field-0.now c.split_first.result.0.now c.split_first.result.1 bare
    c.split_first.ensures.front c.split_first.ensures.some c.split_first.ensures.none in
    elim c.match-written.branch [
      | in-None w ↦
          let whole = subst (λ (o : Option (List ℕ)). IsSplit tokens takes.0 word o) (ap (option_map now) w.in-None.is) split in
          key_alone whole c.in-Some.ensures.some (ap (λ text. text.items) w.text-is ∙ c.requires)
          (next_is takes.1 (ap g.S.Scanner.tokens w.scanner-is ∙ w.skip_token.ensures.taken))
      | in-Some-written+then-is_empty+in_ok-scan_quoted-in-Some-written w ↦
          let whole = subst (λ (o : Option (List ℕ)). IsSplit tokens takes.0 word o) (ap (option_map now) w.in-Some-written.is) split in
          let zero : length w.in-Some-written.written.now ≡ 0 = grind (arith, nat_tests) in
          let read = w.in_ok-scan_quoted-in-Some-written.ensures.ok in
          let text = ap (λ text. text.items) w.text-is ∙ read.2 ∙ ap (λ l. l ++ read.0) c.requires in
          let ends = subst (TakesQuoted read.0 (g.S.Scanner.tokens w.skip_token-then-is_empty.new.self)) (sym (ap g.S.Scanner.tokens w.scanner-is)) read.1 in
          let begins = subst (λ (l : List Token). TakesQuoted read.0 l behind) (next_is takes.1 w.skip_token-then-is_empty.ensures.taken) ends in
          key_before whole c.in-Some.ensures.some (nil_from_length w.in-Some-written.written.now zero)
          (subst (λ (t : List ℕ). TakesQuoted t takes.0 behind) (sym text) begins)
      | in-Some-written+else-is_empty+in_ok-read_text-in-Some-written w ↦
          let whole = subst (λ (o : Option (List ℕ)). IsSplit tokens takes.0 word o) (ap (option_map now) w.in-Some-written.is) split in
          let some : 0 < length w.in-Some-written.written.now = grind (arith, nat_tests) in
          let read = w.in_ok-read_text-in-Some-written.ensures.ok in
          let text = ap (λ text. text.items) w.text-is ∙ read.2 ∙ ap (λ l. l ++ read.0) c.requires in
          key_assigned whole c.in-Some.ensures.some some (subst (Spells w.in-Some-written.written.now) (sym text) read.1)
          (next_is takes.1 (ap g.S.Scanner.tokens w.scanner-is ∙ w.skip_token-else-is_empty.ensures.taken))
    ]
