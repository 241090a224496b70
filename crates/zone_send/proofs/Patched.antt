-- A message whose length and whose count of answers are overwritten.
use Rattle.std.proofs.Common.{◌≡◌, ℕ, ◌+◌, ◌-◌, List, ◌++◌, length, sym, ap, ◌∙◌, arith, append_assoc, length-append}

-- its octets, if others were appended before
pub written_over : (front mark head count tail records added length_octets count_octets : List ℕ) (old longer once twice : List ℕ) (start : ℕ)
    → start ≡ length front + 2 → length head ≡ 6 → length mark ≡ 2 → length count ≡ 2 → length length_octets ≡ 2
    → old ≡ front ++ (mark ++ (head ++ (count ++ (tail ++ records)))) → longer ≡ old ++ added
    → ((a b c : List ℕ) → longer ≡ a ++ (b ++ c) → length a ≡ start - 2 → length b ≡ 2 → once ≡ a ++ (length_octets ++ c))
    → ((a b c : List ℕ) → once ≡ a ++ (b ++ c) → length a ≡ start + 6 → length b ≡ 2 → twice ≡ a ++ (count_octets ++ c))
    → twice ≡ front ++ (length_octets ++ (head ++ (count_octets ++ (tail ++ (records ++ added)))))
written_over front mark head count tail records added length_octets count_octets old longer once twice start at six two two' two'' is grows first second =
    let whole : longer ≡ front ++ (mark ++ (head ++ (count ++ (tail ++ (records ++ added))))) = grows ∙ ap (λ l. l ++ added) is ∙ simp append_assoc in
    let marked : once ≡ front ++ (length_octets ++ (head ++ (count ++ (tail ++ (records ++ added))))) = first front mark (head ++ (count ++ (tail ++ (records ++ added)))) whole (omega arith) two in
    let parted : once ≡ (front ++ (length_octets ++ head)) ++ (count ++ (tail ++ (records ++ added))) = marked ∙ sym (simp append_assoc) in
    let place : length (front ++ (length_octets ++ head)) ≡ start + 6 = omega (arith, length-append front (length_octets ++ head), length-append length_octets head) in
    second (front ++ (length_octets ++ head)) count (tail ++ (records ++ added)) parted place two' ∙ simp append_assoc
