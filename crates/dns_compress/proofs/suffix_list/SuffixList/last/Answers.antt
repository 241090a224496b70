use Rattle.std.proofs.Common.{◌≡◌, ◌-◌, ◌∙◌, ◌++◌, ◌∷◌, [], ℕ, Option, Some, None, List, length, take, drop, refl, ap, sym, arith, Bor}
use Rattle.std.specs.Prelude.{slice_get, IfSome, IfNone, option_copied}
use Rattle.std.proofs.lemmas.Option.{slice_get_within}
use Rattle.dns_compress.specs.declared.written.Written.{Written}
use Rattle.dns_compress.specs.Joined.{total, standings_in}
use Rattle.dns_compress.proofs.Elements.{get_within}
use Rattle.dns_compress.proofs.Joined.{ends_in, last_is}
use Rattle.dns_compress.proofs.suffix_list.SuffixList.last.Goals as goal

ends : (all : List Written) (result : Option (Bor Written)) → option_copied result ≡ slice_get all (length all - 1)
    → IfSome result (λ last. all ≡ take (length all - 1) all ++ last.now ∷ [])
ends all None is = tt
ends all (Some last) is =
    ends_in (length all - 1) all last.now (let e = slice_get_within all (length all - 1) last.now (sym is) in omega (arith, e)) (sym is)

ends_known : (octets : List ℕ) (all : List Written) (result : Option (Bor Written)) → total all ≡ length octets
    → IfSome result (λ last. all ≡ take (length all - 1) all ++ last.now ∷ [])
    → IfSome result (λ last. standings_in octets all ≡ take (length (standings_in octets all) - 1) (standings_in octets all)
    ++ record { suffix = drop (length octets - last.now.len) octets; place = last.now.place; stop = last.now.stop } ∷ [])
ends_known octets all None whole is = tt
ends_known octets all (Some last) whole is = last_is octets all (take (length all - 1) all) last.now is whole

none_known : (octets : List ℕ) (all : List Written) (result : Option (Bor Written)) → option_copied result ≡ slice_get all (length all - 1)
    → IfNone result (standings_in octets all ≡ [])
none_known octets all (Some last) is = tt
none_known octets [] None is = refl
none_known octets (one ∷ all) None is =
    absurd (let some = get_within (one ∷ all) (length (one ∷ all) - 1) (omega arith) in let e : None ≡ Some some.0 = is ∙ some.1 in cc)

pub returns-clause-written : goal.returns-clause-written
returns-clause-written c = ends _ c.last.result (c.last.ensures.value ∙ ap (λ (l : List Written). slice_get l (length l - 1)) c.deref.ensures.value)

pub returns-clause-some : goal.returns-clause-some
returns-clause-some c =
    ends_known c.args.self.now.octets.items c.args.self.now.written.items c.last.result c.args.self.now.whole
    (ends _ c.last.result (c.last.ensures.value ∙ ap (λ (l : List Written). slice_get l (length l - 1)) c.deref.ensures.value))

pub returns-clause-none : goal.returns-clause-none
returns-clause-none c =
    none_known c.args.self.now.octets.items c.args.self.now.written.items c.last.result
    (c.last.ensures.value ∙ ap (λ (l : List Written). slice_get l (length l - 1)) c.deref.ensures.value)
