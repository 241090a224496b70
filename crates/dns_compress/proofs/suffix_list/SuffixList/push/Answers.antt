use Rattle.std.proofs.Common.{◌≡◌, ◌∙◌, ◌++◌, ◌∷◌, [], ℕ, List, length, ap, sym, subst, arith, rules, length-append}
use Rattle.dns_compress.specs.declared.written.Written.{Written}
use Rattle.dns_compress.specs.Joined.{total, standings_in, AreBackToBack}
use Rattle.dns_compress.proofs.Joined.{total-append, standings_in-push, starts_push}
use Rattle.dns_compress.proofs.suffix_list.SuffixList.push.Goals as goal

pub invariant_of-self : goal.invariant_of-self
invariant_of-self c =
    let written : List Written = c.args.self.now.written.items in
    let one : Written = record {
      start = c.len-start.result;
      len = length c.args.suffix.now;
      place = c.args.place;
      stop = c.args.stop;
      hash = c.args.hash;
      older = c.args.older;
    } in
    let start : c.len-start.result ≡ length c.args.self.now.octets.items = search rules in
    let octets : c.extend_from_slice.new.self.items ≡ c.args.self.now.octets.items ++ c.args.suffix.now = search rules in
    record {
      whole = omega (
        arith,
        c.args.self.now.whole,
        ap (length {A = ℕ}) octets,
        length-append c.args.self.now.octets.items c.args.suffix.now,
        ap total c.push_reserved.ensures.items,
        total-append written (one ∷ []),
      );
      starts = subst AreBackToBack (sym c.push_reserved.ensures.items) (starts_push written one c.args.self.now.starts (start ∙ sym c.args.self.now.whole));
    }

pub returns-clause-last : goal.returns-clause-last
returns-clause-last c =
    let one : Written = record {
      start = c.len-start.result;
      len = length c.args.suffix.now;
      place = c.args.place;
      stop = c.args.stop;
      hash = c.args.hash;
      older = c.args.older;
    } in
    let octets : c.extend_from_slice.new.self.items ≡ c.args.self.now.octets.items ++ c.args.suffix.now = search rules in
    ap (λ (l : List Written). standings_in c.extend_from_slice.new.self.items l) c.push_reserved.ensures.items
    ∙ ap (λ (l : List ℕ). standings_in l (c.args.self.now.written.items ++ one ∷ [])) octets
    ∙ standings_in-push c.args.self.now.octets.items c.args.suffix.now c.args.self.now.written.items one c.args.self.now.whole (omega arith)
