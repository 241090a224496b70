use Rattle.std.proofs.Common.{◌≡◌, ◌++◌, ◌^◌, ◌<◌, ◌∙◌, [], ℕ, List, ap, refl, sym, append-nil, arith}
use Rattle.std.proofs.lemmas.Bool.Decides.{nat_tests}
use Rattle.std.proofs.lemmas.List.{nil_from_length}
use Rattle.std.proofs.lemmas.Result.{on_ok_weaker}
use Rattle.std.specs.Prelude.{Some, length}
use Rattle.std.specs.Int.{to_be_bytes, w16}
use Rattle.dns_values.specs.Mnemonic.{number_spelled}
use Rattle.dns_service_parameters.specs.declared.form.Form.{Form}
use Rattle.dns_service_parameters.specs.declared.form.Form.TheVariants.{Nothing, Number, Plain}
use Rattle.dns_service_parameters.specs.Service.Value.{nothing, number, plain}
use Rattle.dns_service_parameters.specs.ServiceRead.{AppendsValue}
use Rattle.dns_service_parameters.proofs.values.append_value.Goals as goal

nothing_appended : (form : Form) (text old : List ℕ) → form ≡ Nothing → text ≡ [] → AppendsValue form text old old
nothing_appended form text old is none =
    record { value = nothing; formed = sym is; fits = tt; spells = none; behind = sym (append-nil old) }

number_appended : (form : Form) (text old new : List ℕ) (n : ℕ) → form ≡ Number → n < 2 ^ 16 → number_spelled (2 ^ 16) text ≡ Some n
    → new ≡ old ++ to_be_bytes w16 n → AppendsValue form text old new
number_appended form text old new n is small spells behind =
    record { value = number n; formed = sym is; fits = small; spells = spells; behind = behind }

plain_appended : (form : Form) (text old new : List ℕ) → form ≡ Plain → new ≡ old ++ text → AppendsValue form text old new
plain_appended form text old new is behind =
    record { value = plain text; formed = sym is; fits = tt; spells = refl; behind = behind }

pub returns-then-is_empty-clause-ok : goal.returns-then-is_empty-clause-ok
returns-then-is_empty-clause-ok g c =
    let none : length c.args.text.now ≡ 0 = grind (arith, nat_tests) in
    nothing_appended c.args.form c.args.text.now c.args.value.now.items c.in-Nothing.is (nil_from_length c.args.text.now none)

pub returns-in-Some-clause-ok : goal.returns-in-Some-clause-ok
returns-in-Some-clause-ok g c =
    let small : c.in-Some.number < 2 ^ 16 = omega arith in
    let old = c.args.value.now.items in
    on_ok_weaker _ (λ (behind : c.append_octets.new.octets.items ≡ old ++ c.to_be_bytes.result).
    number_appended c.args.form c.args.text.now old c.append_octets.new.octets.items c.in-Some.number c.in-Number.is small (sym c.in-Some.ensures)
    (behind ∙ ap (λ (l : List ℕ). old ++ l) c.to_be_bytes.ensures)) c.append_octets.ensures.ok

pub returns-in-Plain-clause-ok : goal.returns-in-Plain-clause-ok
returns-in-Plain-clause-ok g c =
    on_ok_weaker _ (plain_appended c.args.form c.args.text.now c.args.value.now.items c.append_octets-in-Plain.new.octets.items c.in-Plain.is)
    c.append_octets-in-Plain.ensures.ok
