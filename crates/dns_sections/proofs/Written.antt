-- Octets of a header that are overwritten.
use Rattle.std.proofs.Common.{◌≡◌, ◌∙◌, ◌+◌, ◌<◌, ◌≤◌, ◌^◌, ℕ, suc, List, [], ◌∷◌, ◌++◌, length, get_or, set, take, drop, ap, sym, arith, append_assoc, add-one, drop-cons}
use Rattle.std.proofs.Math.Seq.{take-suc, drop-append_seam, drop-append-add}
use Rattle.std.proofs.lemmas.List.{set-append_right, take-append-le, drop-take, take-take, length-take-le, take_all}
use Rattle.std.proofs.lemmas.Nat.{from_be_bytes-to_be_bytes_2}
use Rattle.std.specs.Int.{to_be_bytes, from_be_bytes, w16}
use Rattle.dns_name.specs.Remembered.{patched}
use Rattle.dns_octets.specs.Numbers.{number_at}
use Rattle.dns_header.specs.HeaderCounts.{counts_in}

-- one octet more
pub written-more : (old over now : List ℕ) (place i : ℕ) → now ≡ take place old ++ (take i over ++ drop (place + i) old)
    → place + i < length old → i < length over
    → set now (place + i) (get_or over i 0) ≡ take place old ++ (take (i + 1) over ++ drop (place + (i + 1)) old)
written-more old over now place i is within more =
    let octet = get_or over i 0 in
    let behind = drop (place + (i + 1)) old in
    let front : length (take place old) ≡ place = length-take-le place old (omega arith) in
    let first : length (take i over) ≡ i = length-take-le i over (omega arith) in
    let one : suc (place + i) ≡ place + (i + 1) = omega arith in
    let next : drop (place + i) old ≡ get_or old (place + i) 0 ∷ behind =
    drop-cons old (place + i) 0 within ∙ ap (λ n. get_or old (place + i) 0 ∷ drop n old) one in
    let taken : take (i + 1) over ≡ take i over ++ (octet ∷ []) = ap (λ n. take n over) (add-one i) ∙ take-suc over i 0 more in
    let inner : set (take i over ++ drop (place + i) old) i octet ≡ take (i + 1) over ++ behind =
    set-append_right (take i over) (drop (place + i) old) i i octet first (omega arith)
    ∙ ap (λ k. take i over ++ set (drop (place + i) old) k octet) {y = 0} (omega arith)
    ∙ ap (λ l. take i over ++ set l 0 octet) next ∙ sym (append_assoc (take i over) (octet ∷ []) behind) ∙ ap (λ l. l ++ behind) (sym taken) in
    ap (λ l. set l (place + i) octet) is
    ∙ set-append_right (take place old) (take i over ++ drop (place + i) old) place (place + i) octet front (omega arith)
    ∙ ap (λ k. take place old ++ set (take i over ++ drop (place + i) old) k octet) {y = i} (omega arith)
    ∙ ap (λ l. take place old ++ l) inner

-- all octets
pub written-all : (old over : List ℕ) (place i : ℕ) → i ≡ length over
    → take place old ++ (take i over ++ drop (place + i) old) ≡ patched old place over
written-all old over place i all =
    ap (λ l. take place old ++ (l ++ drop (place + i) old)) (take_all i over (omega arith))
    ∙ ap (λ n. take place old ++ (over ++ drop (place + n) old)) all

-- octets that are written at place 10, after the first three counts
module _ (old over : List ℕ) (enough : 10 ≤ length old) where
  number-before : (place : ℕ) → place + 2 ≤ 10 → number_at (take 10 old ++ over) place ≡ number_at old place
  number-before place before =
      let ten : length (take 10 old) ≡ 10 = length-take-le 10 old enough in
      let same : take (place + 2) (take 10 old ++ over) ≡ take (place + 2) old =
      take-append-le (place + 2) (take 10 old) over (omega arith) ∙ take-take (place + 2) 10 old before in
      ap (from_be_bytes w16) (sym (drop-take place 2 (take 10 old ++ over)) ∙ ap (drop place) same ∙ drop-take place 2 old)

  drop-front : drop 10 (take 10 old ++ over) ≡ over
  drop-front = ap (λ n. drop n (take 10 old ++ over)) (sym (length-take-le 10 old enough)) ∙ drop-append_seam (take 10 old) over

pub counts-patched : (old : List ℕ) (count : ℕ) → 12 ≤ length old → count < 2 ^ 16
    → counts_in (patched old 10 (to_be_bytes w16 count)) ≡ record (counts_in old) { ar = count }
counts-patched old count enough few =
    let over = to_be_bytes w16 count ++ drop 12 old in
    let ten : 10 ≤ length old = omega arith in
    let last : number_at (patched old 10 (to_be_bytes w16 count)) 10 ≡ count =
    ap (λ l. from_be_bytes w16 (take 2 l)) (drop-front old over ten) ∙ from_be_bytes-to_be_bytes_2 count few in
    λ i. record {
      qd = number-before old over ten 4 (omega arith) i;
      an = number-before old over ten 6 (omega arith) i;
      ns = number-before old over ten 8 (omega arith) i;
      ar = last i;
    }

pub drop-patched : (old : List ℕ) (count : ℕ) → 12 ≤ length old → drop 12 (patched old 10 (to_be_bytes w16 count)) ≡ drop 12 old
drop-patched old count enough =
    let over = to_be_bytes w16 count ++ drop 12 old in
    ap (λ n. drop (n + 2) (take 10 old ++ over)) (sym (length-take-le 10 old (omega arith))) ∙ drop-append-add (take 10 old) over 2
