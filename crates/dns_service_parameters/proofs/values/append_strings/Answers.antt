use Rattle.std.proofs.Common.{◌≡◌, ◌∷◌, [], ◌++◌, ℕ, List, Bor, ap, subst, rules}
use Rattle.std.proofs.lemmas.Result.{err_from_is_err_and}
use Rattle.std.specs.Prelude.{Option, None, option_map}
use Rattle.dns_service_parameters.proofs.ServiceStrings.{ListingStrings, no_strings, strings_appended, strings_step, wire_more}
use Rattle.dns_service_parameters.proofs.values.append_strings.Goals as goal

pub returns-in_err-left-clause-err : goal.returns-in_err-left-clause-err
returns-in_err-left-clause-err g c =
    let p = err_from_is_err_and c.from_residual.result c.from_residual.ensures.1 in
    let so_far = c.loop-left.invariant in
    let now : Bor (List ℕ) → List ℕ = λ b. b.now in
    let listing = subst (λ (l : Option (List ℕ)). ListingStrings c.args.text.now l so_far.0) (ap (option_map now) c.in-Some.is) so_far.1 in
    rw (p.1, p.2) (λ short. no_strings listing (c.in_err-left.ensures.err short))

pub loop-left-preserved : goal.loop-left-preserved
loop-left-preserved g c =
    let so_far = c.loop-left.invariant in
    let now : Bor (List ℕ) → List ℕ = λ b. b.now in
    let read = c.in_ok-left.ensures.ok in
    let listing = subst (λ (l : Option (List ℕ)). ListingStrings c.args.text.now l so_far.0) (ap (option_map now) c.in-Some.is) so_far.1 in (
      so_far.0 ++ read.string ∷ [],
      strings_step listing read.starts,
      wire_more c.args.value.now.items c.loop-left.value.items c.append_string.new.value.items read.string so_far.0 so_far.2 read.behind,
    )

pub returns-clause-ok : goal.returns-clause-ok
returns-clause-ok g c =
    let so_far = c.loop-left.invariant in
    let none : c.loop-left.left ≡ None = search rules in
    let now : Bor (List ℕ) → List ℕ = λ b. b.now in
    let listing = subst (λ (l : Option (List ℕ)). ListingStrings c.args.text.now l so_far.0) (ap (option_map now) none) so_far.1 in
    strings_appended so_far.0 listing so_far.2
