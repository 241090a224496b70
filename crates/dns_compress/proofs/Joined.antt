-- A list of suffixes whose octets are stored one after another.
use Rattle.std.proofs.Common.{◌≡◌, ◌≤◌, ◌+◌, ◌-◌, ℕ, zero, suc, Some, List, [], ◌∷◌, ◌++◌, length, take, drop, refl, sym, ◌∙◌, ap, arith, length-append}
use Rattle.std.specs.Prelude.{slice_get}
use Rattle.std.proofs.lemmas.Option.{slice_get_within}
use Rattle.std.proofs.lemmas.List.{length-drop, take-append-le, drop-drop, drop-take, take-take, take_all, take_at, drop_at}
use Rattle.dns_octets.specs.Builder.{Known}
use Rattle.dns_compress.specs.declared.written.Written.{Written}
use Rattle.dns_compress.specs.Joined.{total, standings_in, AreBackToBack}
use Rattle.dns_compress.proofs.Elements.{get_last, get_front, each_push}

pub total-append : (written more : List Written) → total (written ++ more) ≡ total written + total more
total-append [] more = omega arith
total-append (one ∷ written) more = let e = total-append written more in omega (arith, e)

-- octets after those of the suffixes change none of them
standings_in-take : (octets : List ℕ) (written : List Written) (n : ℕ) → total written ≤ n
    → standings_in (take n octets) written ≡ standings_in octets written
standings_in-take octets [] n within = refl
standings_in-take octets (one ∷ written) n within =
    let whole : one.len + (n - one.len) ≡ n = omega (arith, within) in
    let rest : drop one.len (take n octets) ≡ take (n - one.len) (drop one.len octets) =
    ap (λ m. drop one.len (take m octets)) (sym whole) ∙ drop-take one.len (n - one.len) octets in
    ap (λ (l : List ℕ). record { suffix = l; place = one.place; stop = one.stop } ∷ standings_in (drop one.len (take n octets)) written)
    (take-take one.len n octets (omega (arith, within)))
    ∙ ap (λ (l : Known). record { suffix = take one.len octets; place = one.place; stop = one.stop } ∷ l)
    (ap (λ (l : List ℕ). standings_in l written) rest ∙ standings_in-take (drop one.len octets) written (n - one.len) (omega (arith, within)))

-- the last suffix has the last octets
standings_in-last : (octets : List ℕ) (written : List Written) (one : Written) → total written + one.len ≡ length octets
    → standings_in octets (written ++ one ∷ [])
    ≡ standings_in octets written ++ record { suffix = drop (total written) octets; place = one.place; stop = one.stop } ∷ []
standings_in-last octets [] one whole =
    ap (λ (l : List ℕ). record { suffix = l; place = one.place; stop = one.stop } ∷ []) (take_all one.len octets (omega (arith, whole)))
standings_in-last octets (next ∷ written) one whole =
    ap (λ (l : Known). record { suffix = take next.len octets; place = next.place; stop = next.stop } ∷ l)
    (standings_in-last (drop next.len octets) written one (omega (arith, whole, length-drop next.len octets))
    ∙ ap (λ (l : List ℕ). standings_in (drop next.len octets) written ++ record { suffix = l; place = one.place; stop = one.stop } ∷ [])
    (drop-drop (total written) next.len octets))

-- one suffix more
pub standings_in-push : (octets suffix : List ℕ) (written : List Written) (one : Written) → total written ≡ length octets → one.len ≡ length suffix
    → standings_in (octets ++ suffix) (written ++ one ∷ [])
    ≡ standings_in octets written ++ record { suffix = suffix; place = one.place; stop = one.stop } ∷ []
standings_in-push octets suffix written one whole long =
    standings_in-last (octets ++ suffix) written one (omega (arith, whole, long, length-append octets suffix))
    ∙ ap (λ (l : List ℕ). standings_in (octets ++ suffix) written ++ record { suffix = l; place = one.place; stop = one.stop } ∷ [])
    (drop_at octets suffix (total written) (sym whole))
    ∙ ap (λ (l : Known). l ++ record { suffix = suffix; place = one.place; stop = one.stop } ∷ [])
    (sym (standings_in-take (octets ++ suffix) written (total written) (omega arith))
    ∙ ap (λ (l : List ℕ). standings_in l written) (take_at octets suffix (total written) (sym whole)))

take_front : {A : Type 0} (front : List A) (last : A) → take (length (front ++ last ∷ []) - 1) (front ++ last ∷ []) ≡ front
take_front front last = take_at front (last ∷ []) (length (front ++ last ∷ []) - 1) (omega (arith, length-append front (last ∷ [])))

-- the last suffix
module _ (octets : List ℕ) (all front : List Written) (last : Written) (is : all ≡ front ++ last ∷ []) (whole : total all ≡ length octets) where
  pub total_front : total front + last.len ≡ length octets
  total_front = omega (arith, sym whole, ap total is, total-append front (last ∷ []))

  known_is : standings_in octets all
      ≡ standings_in octets front ++ record { suffix = drop (length octets - last.len) octets; place = last.place; stop = last.stop } ∷ []
  known_is =
      ap (standings_in octets) is
      ∙ standings_in-last octets front last total_front
      ∙ ap (λ n. standings_in octets front ++ record { suffix = drop n octets; place = last.place; stop = last.stop } ∷ [])
      (let e : total front ≡ length octets - last.len = omega (arith, total_front) in e)

  front_is : take (length (standings_in octets all) - 1) (standings_in octets all) ≡ standings_in octets front
  front_is =
      ap (λ (l : Known). take (length l - 1) l) known_is
      ∙ take_front (standings_in octets front) (record { suffix = drop (length octets - last.len) octets; place = last.place; stop = last.stop })

  pub last_is : standings_in octets all
      ≡ take (length (standings_in octets all) - 1) (standings_in octets all)
      ++ record { suffix = drop (length octets - last.len) octets; place = last.place; stop = last.stop } ∷ []
  last_is =
      known_is
      ∙ ap (λ (l : Known). l ++ record { suffix = drop (length octets - last.len) octets; place = last.place; stop = last.stop } ∷ []) (sym front_is)

  pub popped : standings_in (take (length octets - last.len) octets) front
      ≡ take (length (standings_in octets all) - 1) (standings_in octets all)
  popped = standings_in-take octets front (length octets - last.len) (omega (arith, total_front)) ∙ sym front_is

-- a list that ends in its last element
pub ends_in : {A : Type 0} (n : ℕ) (all : List A) (last : A) → length all ≡ suc n → slice_get all n ≡ Some last → all ≡ take n all ++ last ∷ []
ends_in zero [] last long at = absurd (omega (arith, long))
ends_in zero (one ∷ []) last long at = ap (λ l. l ∷ []) (let e : one ≡ last = cc in e)
ends_in zero (one ∷ two ∷ all) last long at = absurd (omega (arith, long))
ends_in (suc n) [] last long at = absurd (omega (arith, long))
ends_in (suc n) (one ∷ all) last long at = ap (λ l. one ∷ l) (ends_in n all last (omega (arith, long)) at)

-- where suffixes begin

pub total_within : (written : List Written) (k : ℕ) (one : Written) → slice_get written k ≡ Some one
    → total (take k written) + one.len ≤ total written
total_within [] k one at = absurd (cc)
total_within (next ∷ written) zero one at =
    let e : next.len ≡ one.len = ap (λ (o : Written). o.len) (let f : next ≡ one = cc in f) in omega (arith, e)
total_within (next ∷ written) (suc k) one at = let e = total_within written k one at in omega (arith, e)

pub standing_at : (octets : List ℕ) (written : List Written) (k : ℕ) (one : Written) → slice_get written k ≡ Some one
    → slice_get (standings_in octets written) k
    ≡ Some (record { suffix = take one.len (drop (total (take k written)) octets); place = one.place; stop = one.stop })
standing_at octets [] k one at = absurd (cc)
standing_at octets (next ∷ written) zero one at =
    ap (λ (o : Written). Some (record { suffix = take o.len octets; place = o.place; stop = o.stop })) (let e : next ≡ one = cc in e)
standing_at octets (next ∷ written) (suc k) one at =
    standing_at (drop next.len octets) written k one at
    ∙ ap (λ (l : List ℕ). Some (record { suffix = take one.len l; place = one.place; stop = one.stop })) (drop-drop (total (take k written)) next.len octets)

pub standing_here : (octets found : List ℕ) (written : List Written) (k : ℕ) (here one : Written) → slice_get written k ≡ Some here
    → slice_get written k ≡ Some one → here.start ≡ total (take k written) → found ≡ octets
    → slice_get (standings_in octets written) k
    ≡ Some (record { suffix = take (here.start + here.len - here.start) (drop here.start found); place = one.place; stop = one.stop })
standing_here octets found written k here one at is begins same =
    let long : one.len ≡ here.start + here.len - here.start =
    omega (arith, ap (λ (o : Written). o.len) (let e : Some one ≡ Some here = sym is ∙ at in let f : one ≡ here = cc in f)) in
    let there : take one.len (drop (total (take k written)) octets) ≡ take (here.start + here.len - here.start) (drop here.start found) =
    ap (λ n. take n (drop (total (take k written)) octets)) long
    ∙ ap (take (here.start + here.len - here.start))
    (ap (λ n. drop n octets) (sym begins) ∙ ap (drop here.start) (sym same)) in
    standing_at octets written k one is
    ∙ ap (λ (l : List ℕ). Some (record { suffix = l; place = one.place; stop = one.stop })) there

pub starts_push : (written : List Written) (last : Written) → AreBackToBack written → last.start ≡ total written → AreBackToBack (written ++ last ∷ [])
starts_push written last starts begins =
    each_push (λ k (one : Written). one.start ≡ total (take k (written ++ last ∷ []))) written last
    (λ k one at. starts k one at ∙ ap total (sym (take-append-le k written (last ∷ []) (let e = slice_get_within written k one at in omega (arith, e)))))
    (begins ∙ ap total (sym (take_at written (last ∷ []) (length written) refl)))

pub starts_pop : (written : List Written) (last : Written) → AreBackToBack (written ++ last ∷ []) → AreBackToBack written
starts_pop written last starts k one at =
    starts k one (get_front written (last ∷ []) k one at)
    ∙ ap total (take-append-le k written (last ∷ []) (let e = slice_get_within written k one at in omega (arith, e)))

pub last_start : (written : List Written) (last : Written) → AreBackToBack (written ++ last ∷ []) → last.start ≡ total written
last_start written last starts =
    starts (length written) last (get_last written last) ∙ ap total (take_at written (last ∷ []) (length written) refl)
