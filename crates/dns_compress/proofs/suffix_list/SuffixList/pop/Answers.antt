use Rattle.std.proofs.Common.{◌≡◌, ◌-◌, ◌∙◌, ◌++◌, ◌∷◌, [], ℕ, List, length, take, ap, subst, arith}
use Rattle.std.proofs.lemmas.List.{length-take-le}
use Rattle.dns_compress.specs.declared.written.Written.{Written}
use Rattle.dns_compress.specs.Joined.{standings_in, AreBackToBack}
use Rattle.dns_compress.proofs.Joined.{total_front, popped, starts_pop, last_start}
use Rattle.dns_compress.proofs.suffix_list.SuffixList.pop.Goals as goal

pub invariant_of-self : goal.invariant_of-self
invariant_of-self c =
    let octets : List ℕ = c.args.self.now.octets.items in
    let front : List Written = c.pop.new.self.items in
    let starts : AreBackToBack (front ++ c.in-Some.last ∷ []) = subst AreBackToBack c.in-Some.ensures.items c.args.self.now.starts in
    let begins = last_start front c.in-Some.last starts in
    let long = total_front octets c.args.self.now.written.items front c.in-Some.last c.in-Some.ensures.items c.args.self.now.whole in
    record {
      whole = omega (
        arith,
        long,
        begins,
        ap (length {A = ℕ}) c.truncate.ensures.items,
        length-take-le c.in-Some.last.start octets (omega (arith, long, begins)),
      );
      starts = starts_pop front c.in-Some.last starts;
    }

pub returns-in-Some-clause-front : goal.returns-in-Some-clause-front
returns-in-Some-clause-front c =
    let octets : List ℕ = c.args.self.now.octets.items in
    let front : List Written = c.pop.new.self.items in
    let starts : AreBackToBack (front ++ c.in-Some.last ∷ []) = subst AreBackToBack c.in-Some.ensures.items c.args.self.now.starts in
    let long = total_front octets c.args.self.now.written.items front c.in-Some.last c.in-Some.ensures.items c.args.self.now.whole in
    let start : c.in-Some.last.start ≡ length octets - c.in-Some.last.len = omega (arith, long, last_start front c.in-Some.last starts) in
    ap (λ (l : List ℕ). standings_in l front) (c.truncate.ensures.items ∙ ap (λ n. take n octets) start)
    ∙ popped octets c.args.self.now.written.items front c.in-Some.last c.in-Some.ensures.items c.args.self.now.whole
