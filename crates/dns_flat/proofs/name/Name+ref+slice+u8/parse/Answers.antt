use Rattle.std.proofs.Common.{◌-◌, ◌++◌, List, ℕ, length, take, refl, ap, ◌∙◌, sym, subst}
use Rattle.dns_octets.specs.Parser.{octets_of, place_of, rest_of, GoesOn}
use Rattle.dns_label.specs.Name.{wire}
use Rattle.dns_wire.specs.Flat.{StartsWithName}
use Rattle.dns_wire.proofs.Flat.{always_on_err}
use Rattle.dns_flat.proofs.Front.{Taken, front_back, front_taken, front_within, goes_rest}
use Rattle.dns_label.specs.Labels.{labels_at}
use Rattle.dns_flat.proofs.name.Name+ref+slice+u8.parse.Goals as goal
use Rattle.dns_flat.proofs.name.Name+ref+slice+u8.parse.Goals.{In_ok-octets}

taken_at : (c : In_ok-octets) → Taken (octets_of c.args.parser.now) c.in_ok-octets.octets.now (place_of c.args.parser.now) (length c.next_255-front.result.now - length c.in-Ok.behind.now)
taken_at c =
    front_taken (octets_of c.args.parser.now) c.next_255-front.result.now c.in-Ok.behind.now c.in_ok-octets.octets.now
    (place_of c.args.parser.now) (length c.next_255-front.result.now - length c.in-Ok.behind.now)
    c.in-Ok.ensures.ok.0 c.next_255-front.ensures c.in-Ok.ensures.ok.1 refl c.in_ok-octets.ensures.ok

pub invariant_of-result : goal.invariant_of-result
invariant_of-result c = (taken_at c).written

pub returns-clause-ok : goal.returns-clause-ok
returns-clause-ok c =
    let taken = taken_at c in
    let behind = goes_rest c.in_ok-octets.ensures.place in
    (taken.is_name, taken.whole ∙ ap (λ (l : List ℕ). wire (labels_at c.in_ok-octets.octets.now 0) ++ l) behind)

pub returns-clause-place : goal.returns-clause-place
returns-clause-place c =
    let P : ℕ → Type 0 = λ n. GoesOn c.args.parser.now c.parse_octets.new.self n in
    subst P (taken_at c).long c.in_ok-octets.ensures.place

pub returns-in-Err-clause-err : goal.returns-in-Err-clause-err
returns-in-Err-clause-err c = λ name rest is_name is.
    let P : List ℕ → Type 0 = λ l. StartsWithName l name (take (255 - length (wire name)) rest) in
    c.in-Err.ensures.err name (take (255 - length (wire name)) rest)
    (subst P (sym c.next_255-front.ensures) (front_back (rest_of c.args.parser.now) name rest is_name is))

pub returns-in_err-octets-clause-err : goal.returns-in_err-octets-clause-err
returns-in_err-octets-clause-err c =
    always_on_err c.from_residual.result
    (λ name rest is_name is.
    let within = front_within (octets_of c.args.parser.now) c.next_255-front.result.now c.in-Ok.behind.now
    (place_of c.args.parser.now) (length c.next_255-front.result.now - length c.in-Ok.behind.now)
    c.in-Ok.ensures.ok.0 c.next_255-front.ensures c.in-Ok.ensures.ok.1 refl c.args.parser.now.within in
    let bad = c.in_err-octets.ensures.enough.1 within in cc)

pub returns-in_err-octets-clause-short : goal.returns-in_err-octets-clause-short
returns-in_err-octets-clause-short c =
    let within = front_within (octets_of c.args.parser.now) c.next_255-front.result.now c.in-Ok.behind.now
    (place_of c.args.parser.now) (length c.next_255-front.result.now - length c.in-Ok.behind.now)
    c.in-Ok.ensures.ok.0 c.next_255-front.ensures c.in-Ok.ensures.ok.1 refl c.args.parser.now.within in
    let bad = c.in_err-octets.ensures.enough.1 within in cc
