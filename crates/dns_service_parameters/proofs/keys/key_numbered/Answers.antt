use Rattle.std.proofs.Common.{◌≡◌, ◌^◌, ◌-◌, ◌∷◌, ◌∙◌, ap, length, drop, length-drop, arith, rules}
use Rattle.std.proofs.lemmas.List.{take_all}
use Rattle.dns_values.specs.Mnemonic.{number_spelled}
use Rattle.dns_service_parameters.proofs.ServiceNumbers.{keyed, leading_unread, number_read, number_unread}
use Rattle.dns_service_parameters.proofs.keys.key_numbered.Goals as goal

pub returns-then-has_leading_zero-clause-none : goal.returns-then-has_leading_zero-clause-none
returns-then-has_leading_zero-clause-none c =
    let word = c.args.word.now in
    let written : word ≡ 107 ∷ 101 ∷ 121 ∷ drop 3 word = keyed word (omega arith) (search rules) (search rules) (search rules) in
    leading_unread (drop 3 word) written (search rules)

pub returns-clause-some : goal.returns-clause-some
returns-clause-some c =
    let word = c.args.word.now in
    let written : word ≡ 107 ∷ 101 ∷ 121 ∷ drop 3 word = keyed word (omega arith) (search rules) (search rules) (search rules) in
    let read : c.read_number.result ≡ number_spelled (2 ^ 16) (drop 3 word) = c.read_number.ensures ∙ ap (number_spelled (2 ^ 16)) (take_all (length word - 3) (drop 3 word) (omega (arith, length-drop 3 word))) in
    number_read (drop 3 word) c.read_number.result written read (search rules)

pub returns-clause-none : goal.returns-clause-none
returns-clause-none c =
    let word = c.args.word.now in
    let written : word ≡ 107 ∷ 101 ∷ 121 ∷ drop 3 word = keyed word (omega arith) (search rules) (search rules) (search rules) in
    let read : c.read_number.result ≡ number_spelled (2 ^ 16) (drop 3 word) = c.read_number.ensures ∙ ap (number_spelled (2 ^ 16)) (take_all (length word - 3) (drop 3 word) (omega (arith, length-drop 3 word))) in
    number_unread (drop 3 word) c.read_number.result written read
