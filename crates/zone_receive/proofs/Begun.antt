-- How a stream begins: with a whole frame, or with less than one.
use Rattle.std.proofs.Common.{◌≡◌, ℕ, zero, suc, ◌+◌, ◌<◌, ◌≤◌, ◌^◌, Some, None, List, [], ◌∷◌, ◌++◌, length, take, drop, get_or, refl, sym, ap, ◌∙◌, subst, arith, length-append, length-drop}
use Rattle.std.specs.Prelude.{slice_get}
use Rattle.std.specs.Int.{to_be_bytes, from_be_bytes, w16}
use Rattle.std.proofs.Math.Seq.{take-add, take-append-add}
use Rattle.std.proofs.lemmas.Nat.{be_bytes_2}
use Rattle.std.proofs.lemmas.List.{length-take-le}
use Rattle.std.proofs.lemmas.Option.{get_or_from_slice_get}
use Rattle.zone_core.specs.Frames.{IsPartial}
use Rattle.zone_receive.specs.FrameBuffer.{Completes}

-- octets without a length are less than a whole frame
pub without_first : (octets : List ℕ) → slice_get octets 0 ≡ None → IsPartial octets
without_first [] none = tt
without_first (high ∷ octets) none = absurd cc

pub without_second : (octets : List ℕ) → slice_get octets 1 ≡ None → IsPartial octets
without_second [] none = tt
without_second (high ∷ []) none = tt
without_second (high ∷ low ∷ octets) none = absurd cc

-- octets with a length begin with it
pub with_both : (octets : List ℕ) (high low : ℕ) → slice_get octets 0 ≡ Some high → slice_get octets 1 ≡ Some low
    → octets ≡ high ∷ low ∷ drop 2 octets
with_both [] high low first second = absurd cc
with_both (x ∷ []) high low first second = absurd cc
with_both (x ∷ y ∷ octets) high low first second =
    let one : x ≡ high = cc in
    let two : y ≡ low = cc in
    cc (one, two)

-- a frame that is cut off is less than a whole one
pub cut_is_partial : (octets behind : List ℕ) (high low : ℕ) → octets ≡ high ∷ low ∷ behind
    → length octets < from_be_bytes w16 (high ∷ low ∷ []) + 2 → IsPartial octets
cut_is_partial octets behind high low is cut =
    let short : IsPartial (high ∷ low ∷ behind) = omega (arith, cut, ap length is) in
    subst IsPartial (sym is) short

-- less than a whole frame is shorter than its length says
pub open_is_short : (open_frame octets behind : List ℕ) (high low : ℕ) → IsPartial open_frame → open_frame ++ octets ≡ high ∷ low ∷ behind
    → length open_frame < from_be_bytes w16 (high ∷ low ∷ []) + 2
open_is_short [] octets behind high low partial is = omega arith
open_is_short (x ∷ []) octets behind high low partial is = omega arith
open_is_short (x ∷ y ∷ more) octets behind high low partial is =
    let mark : x ∷ y ∷ [] ≡ high ∷ low ∷ [] = cc in
    omega (arith, partial, ap (from_be_bytes w16) mark)

two_small : (high low : ℕ) → high < 256 → low < 256 → (i : ℕ) → get_or (high ∷ low ∷ []) i 0 < 256
two_small high low first second zero = first
two_small high low first second (suc zero) = second
two_small high low first second (suc (suc i)) = omega arith

-- the octets of two lists, the second after the first
pub small_at : (front back : List ℕ) → ((i : ℕ) → get_or front i 0 < 256) → ((i : ℕ) → get_or back i 0 < 256)
    → (i x : ℕ) → slice_get (front ++ back) i ≡ Some x → x < 256
small_at [] back first second i x at = omega (arith, second i, get_or_from_slice_get back i x 0 at)
small_at (y ∷ front) back first second zero x at =
    let same : y ≡ x = cc in
    let small : y < 256 = first 0 in
    omega (arith, small, same)
small_at (y ∷ front) back first second (suc i) x at = small_at front back (λ k. first (suc k)) second i x at

-- the octets that make the open frame whole
pub completes : (open_frame octets behind : List ℕ) (high low len : ℕ) → high < 256 → low < 256 → IsPartial open_frame
    → open_frame ++ octets ≡ high ∷ low ∷ behind → length open_frame + len ≡ from_be_bytes w16 (high ∷ low ∷ []) + 2
    → len ≤ length octets → Completes open_frame octets len
completes open_frame octets behind high low len first second partial is all within =
    let mark : List ℕ = high ∷ low ∷ [] in
    let said : ℕ = from_be_bytes w16 mark in
    let stream : List ℕ = open_frame ++ octets in
    let message : List ℕ = take said behind in
    let long : length message ≡ said = length-take-le said behind (omega (arith, ap length is, length-append open_frame octets)) in
    let front : take 2 stream ≡ mark = ap (take 2) is in
    let back : drop 2 stream ≡ behind = ap (drop 2) is in
    let counted : to_be_bytes w16 (length message) ≡ mark = be_bytes_2 mark (length message) refl (two_small high low first second) long in
    let count : length open_frame + len ≡ 2 + said = omega (arith, all) in
    record {
      some = omega (arith, all, open_is_short open_frame octets behind high low partial is);
      within = within;
      framed = record {
        message = message;
        fits = omega (arith, long);
        whole = sym (take-append-add open_frame octets len) ∙ ap (λ n. take n stream) count ∙ take-add 2 said stream
            ∙ ap (λ l. l ++ take said (drop 2 stream)) front ∙ ap (λ l. mark ++ take said l) back ∙ ap (λ l. l ++ message) (sym counted);
      };
    }
