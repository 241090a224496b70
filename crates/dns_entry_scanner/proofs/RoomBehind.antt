-- Octets with others of any value behind them, which are written over.
use Rattle.std.proofs.Common.{◌≡◌, ◌+◌, ◌-◌, ◌≤◌, ℕ, suc, List, [], ◌∷◌, ◌++◌, length, take, drop, refl, sym, ◌∙◌, ap, arith, length-append, append_assoc, append-nil}
use Rattle.std.proofs.Math.ListN.{replicate}
use Rattle.std.proofs.Math.Seq.{drop-append-add, take-add, take-append_seam}
use Rattle.std.proofs.lemmas.List.{length-drop, length-replicate, length-take-le, take_all}
use Rattle.dns_name.specs.Remembered.{patched}
use Rattle.dns_entry_scanner.specs.AppendedName.{HasBehind}

-- a text that a longer one begins with
pub longer_text : (text from : List ℕ) (n : ℕ) → text ≡ take (length text) from → length text ≤ n
    → take n from ≡ text ++ take (n - length text) (drop (length text) from)
longer_text text from n begins long =
    let parts : n ≡ length text + (n - length text) = omega (arith, long) in
    ap (λ k. take k from) parts ∙ take-add (length text) (n - length text) from
    ∙ ap (λ l. l ++ take (n - length text) (drop (length text) from)) (sym begins)

-- a text and what a longer one has behind it
pub has_longer : (old text from new : List ℕ) (whole room : ℕ) → text ≡ take (length text) from → whole ≡ length text + room → whole ≤ length from
    → new ≡ old ++ take whole from → HasBehind room (old ++ text) new
has_longer old text from new whole room begins is within all =
    let more : List ℕ = take (whole - length text) (drop (length text) from) in
    let parts = longer_text text from whole begins (omega (arith, is)) in record {
      others = more;
      long = omega (arith, ap (length {A = ℕ}) parts, length-append text more, length-take-le whole from within, is);
      is = all ∙ ap (λ l. old ++ l) parts ∙ sym (append_assoc old text more);
    }

-- octets and zeros behind them
pub has_zeros : (front middle new : List ℕ) (most count room : ℕ) → middle ≡ front → length middle ≤ most → count ≡ room
    → new ≡ take most middle ++ replicate count 0 → HasBehind room front new
has_zeros front middle new most count room whole is counted all = record {
  others = replicate count 0;
  long = length-replicate count 0 ∙ counted;
  is = all ∙ ap (λ l. l ++ replicate count 0) (take_all most middle is ∙ whole);
}

zero_first : (room : ℕ) → replicate {A = ℕ} (1 + room) 0 ≡ 0 ∷ replicate room 0
zero_first room = let one : 1 + room ≡ suc room = omega arith in ap (λ n. replicate {A = ℕ} n 0) one

pub has_root : (old new : List ℕ) (most count room : ℕ) → length old ≤ most → count ≡ 1 + room → new ≡ take most old ++ replicate count 0
    → HasBehind room (old ++ 0 ∷ []) new
has_root old new most count room is counted all = record {
  others = replicate room 0;
  long = length-replicate room 0;
  is = all ∙ ap (λ l. l ++ replicate count 0) (take_all most old is) ∙ ap (λ n. old ++ replicate n 0) counted
      ∙ ap (λ l. old ++ l) (zero_first room) ∙ sym (append_assoc old (0 ∷ []) (replicate room 0));
}

-- others are written over, all or the first of them
pub has_over : (front over middle new : List ℕ) (more room place : ℕ) → HasBehind more front middle → more ≡ length over + room
    → place ≡ length front → new ≡ patched middle place over → HasBehind room (front ++ over) new
has_over front over middle new more room place has enough at written =
    let rest : List ℕ = drop (length over) has.others in
    let before : take place middle ≡ front =
    ap (take place) has.is ∙ ap (λ n. take n (front ++ has.others)) at ∙ take-append_seam front has.others in
    let behind : drop (place + length over) middle ≡ rest =
    ap (drop (place + length over)) has.is ∙ ap (λ n. drop (n + length over) (front ++ has.others)) at
    ∙ drop-append-add front has.others (length over) in record {
      others = rest;
      long = omega (arith, length-drop (length over) has.others, has.long, enough);
      is = written ∙ (λ i. before i ++ (over ++ behind i)) ∙ sym (append_assoc front over rest);
    }

none_left : (octets : List ℕ) → length octets ≡ 0 → octets ≡ []
none_left [] none = refl
none_left (octet ∷ octets) none = absurd (omega (arith, none))

-- none is left
pub has_none : (octets all : List ℕ) → HasBehind 0 octets all → all ≡ octets
has_none octets all has = has.is ∙ ap (λ l. octets ++ l) (none_left has.others has.long) ∙ append-nil octets

pub behind_front : (room : ℕ) (old more new : List ℕ) → HasBehind room (old ++ more) new → take (length old) new ≡ old
behind_front room old more new has =
    ap (take (length old)) (has.is ∙ append_assoc old more has.others) ∙ take-append_seam old (more ++ has.others)
