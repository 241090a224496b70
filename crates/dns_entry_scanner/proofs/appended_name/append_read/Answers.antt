use Rattle.std.proofs.Common.{◌≡◌, ◌++◌, List, ℕ, [], ◌∙◌, ap, arith, append-nil, subst}
use Rattle.std.specs.Prelude.{Option, option_copied}
use Rattle.dns_entry_scanner.specs.AppendedName.{HasBehind}
use Rattle.dns_entry_scanner.specs.EndedName.{IsEndedBy}
use Rattle.dns_entry_scanner.proofs.ChainedNames.{front_octets, wire-append}
use Rattle.dns_entry_scanner.proofs.Refused.{if_err_each}
use Rattle.dns_entry_scanner.proofs.SpelledUnder.{root_behind}
use Rattle.dns_entry_scanner.proofs.appended_name.append_read.Goals as goal

pub returns-in_err-end_labels-clause-err : goal.returns-in_err-end_labels-clause-err
returns-in_err-end_labels-clause-err c =
    if_err_each c.from_residual.result _ (λ error short text name differs read spells. c.in_err-end_labels.ensures.err text name differs read spells)

pub finished_octets-requires-clause-labels : goal.finished_octets-requires-clause-labels
finished_octets-requires-clause-labels c =
    let P : Option (List (List ℕ)) → Type 0 = λ o. IsEndedBy (option_copied c.args.origin) c.requires.read.0 c.end_labels.new.draft o in
    let ended = subst P (ap option_copied c.in-None.is) (c.in_ok-end_labels.ensures.ok c.requires.read.0 c.requires.read.1 c.requires.read.2) in
    (ended.1, ended.2)

pub finished_octets-requires-clause-some : goal.finished_octets-requires-clause-some
finished_octets-requires-clause-some c =
    let P : Option (List (List ℕ)) → Type 0 = λ o. IsEndedBy (option_copied c.args.origin) c.requires.read.0 c.end_labels.new.draft o in
    let ended = subst P (ap option_copied c.in-None.is) (c.in_ok-end_labels.ensures.ok c.requires.read.0 c.requires.read.1 c.requires.read.2) in
    ended.0

pub returns-in_ok-append_both-in-None-clause-ok : goal.returns-in_ok-append_both-in-None-clause-ok
returns-in_ok-append_both-in-None-clause-ok c = λ text differs read.
    let P : Option (List (List ℕ)) → Type 0 = λ o. IsEndedBy (option_copied c.args.origin) text c.end_labels.new.draft o in
    let ended = subst P (ap option_copied c.in-None.is) (c.in_ok-end_labels.ensures.ok text differs read) in
    let made = c.finished_octets.ensures in
    let Q : List ℕ → Type 0 = λ l. HasBehind c.args.room (c.args.octets.now.items ++ l) c.append_both.new.octets.items in (
      made.0,
      root_behind c.end_labels.new.draft made.0 ended made.1,
      made.2,
      subst Q (append-nil c.finished_octets.result.now ∙ made.4) c.in_ok-append_both-in-None.ensures.ok,
    )

pub append_both-requires-clause-short : goal.append_both-requires-clause-short
append_both-requires-clause-short c = omega arith

pub returns-in_ok-append_both-in-Some-clause-ok : goal.returns-in_ok-append_both-in-Some-clause-ok
returns-in_ok-append_both-in-Some-clause-ok c = λ text differs read.
    let P : Option (List (List ℕ)) → Type 0 = λ o. IsEndedBy (option_copied c.args.origin) text c.end_labels.new.draft o in
    let ended = subst P (ap option_copied c.in-Some.is) (c.in_ok-end_labels.ensures.ok text differs read) in
    let Q : List ℕ → Type 0 = λ l. HasBehind c.args.room (c.args.octets.now.items ++ l) c.append_both-in-Some.new.octets.items in (
      ended.0 ++ c.in-Some.origin.now,
      ended.3,
      ended.2,
      subst Q (ap (λ l. l ++ c.as_slice.result.now) (c.labels.ensures ∙ front_octets c.end_labels.new.draft ended.0 ended.1)
          ∙ wire-append ended.0 c.in-Some.origin.now c.as_slice.ensures.octets) c.in_ok-append_both-in-Some.ensures.ok,
    )
