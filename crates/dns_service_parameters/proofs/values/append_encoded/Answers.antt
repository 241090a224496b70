use Rattle.std.proofs.Common.{◌≡◌, ◌≢◌, ◌∙◌, ◌++◌, ℕ, List, length, ap, sym, subst, arith, vec_len}
use Rattle.std.proofs.lemmas.Bool.Decides.{nat_tests}
use Rattle.std.proofs.lemmas.List.{nil_from_length}
use Rattle.std.proofs.lemmas.Result.{on_ok_weaker}
use Rattle.std.specs.Str.{chars}
use Rattle.std.proofs.lemmas.Str.{IsUtf8-from_ascii, chars-IsAscii}
use Rattle.dns_scan.specs.Encodings.{Decodes64}
use Rattle.dns_service_parameters.proofs.ServiceEncoded.{empty_encoded, encoded_appended, not_ascii, other_encoded, refused_encoded}
use Rattle.dns_service_parameters.proofs.values.append_encoded.Goals as goal

pub returns-then-not-is_ascii-clause-err : goal.returns-then-not-is_ascii-clause-err
returns-then-not-is_ascii-clause-err g c = λ short. other_encoded c.args.text.now (not_ascii c.args.text.now c.if-not-is_ascii.ensures.cases)

pub returns-in_default-clause-err : goal.returns-in_default-clause-err
returns-in_default-clause-err g c = λ short.
    absurd (c.in_default.ensures.cases.0 (IsUtf8-from_ascii c.args.text.now c.if-not-is_ascii.ensures.cases))

pub returns-in-Err-clause-err : goal.returns-in-Err-clause-err
returns-in-Err-clause-err g c = λ short.
    let same = c.in-Ok.ensures.cases.0 in
    refused_encoded c.in-Ok.text.now c.in-Err.error (ap chars same ∙ chars-IsAscii c.args.text.now c.if-not-is_ascii.ensures.cases) c.in-Err.ensures.err
    (sym c.encoding_error.ensures ∙ short)

pub returns-then-is_empty-clause-err : goal.returns-then-is_empty-clause-err
returns-then-is_empty-clause-err g c = λ short.
    let decodes = subst (λ (l : List ℕ). Decodes64 l c.in-Ok-decode.octets.items)
    (ap chars c.in-Ok.ensures.cases.0 ∙ chars-IsAscii c.args.text.now c.if-not-is_ascii.ensures.cases) c.in-Ok-decode.ensures.ok in
    let zero : vec_len c.in-Ok-decode.octets ≡ 0 = grind (arith, nat_tests) in
    let none : length c.in-Ok-decode.octets.items ≡ 0 = omega (arith, zero, c.in-Ok-decode.octets.ok.0) in
    empty_encoded decodes (nil_from_length c.in-Ok-decode.octets.items none)

pub returns-clause-ok : goal.returns-clause-ok
returns-clause-ok g c =
    let decodes = subst (λ (l : List ℕ). Decodes64 l c.in-Ok-decode.octets.items)
    (ap chars c.in-Ok.ensures.cases.0 ∙ chars-IsAscii c.args.text.now c.if-not-is_ascii.ensures.cases) c.in-Ok-decode.ensures.ok in
    let some : vec_len c.in-Ok-decode.octets ≢ 0 = grind (arith, nat_tests) in
    on_ok_weaker _ (λ (behind : c.append_octets.new.octets.items ≡ c.args.value.now.items ++ c.deref.result.now).
    encoded_appended decodes (λ none. some (let zero = ap (length {A = ℕ}) none in omega (arith, zero, c.in-Ok-decode.octets.ok.0)))
    (behind ∙ ap (λ (l : List ℕ). c.args.value.now.items ++ l) c.deref.ensures.value)) c.append_octets.ensures.ok
