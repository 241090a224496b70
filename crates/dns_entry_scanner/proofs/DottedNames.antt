-- Names in text with their last dot: the labels are found among the octets of the text and some behind it.
use Rattle.std.proofs.Common.{◌≡◌, ◌==◌, ◌&&◌, ◌+◌, ◌-◌, ◌<◌, ◌≤◌, ℕ, zero, suc, Bool, true, false, not, cond, List, [], ◌∷◌, ◌++◌, length, take, drop, refl, sym, ◌∙◌, ap, arith}
use Rattle.std.proofs.Math.Seq.{drop-append-le}
use Rattle.std.proofs.lemmas.Bool.{and_parts, eqb-true, not-false}
use Rattle.std.proofs.lemmas.List.{drop-drop, length-drop}
use Rattle.std.specs.List.{list_all, prefix_len}
use Rattle.dns_label.specs.Symbol.{is_plain}
use Rattle.dns_wire.specs.Unescaped.{StartsWithUnescapedLabel, is_unescaped}
use Rattle.dns_wire.proofs.UnescapedTexts.{label_found}
use Rattle.dns_entry_scanner.specs.AppendedName.{is_no_dot}
use Rattle.dns_entry_scanner.proofs.RoomBehind.{longer_text}

-- in plain text, an octet other than the dot stands for itself
same_test : (octet : ℕ) → is_plain octet ≡ true → is_unescaped octet ≡ is_no_dot octet
same_test octet plain = ap (λ (b : Bool). b && is_no_dot octet) plain

run_more : (b : Bool) (one other len : ℕ) → cond b (1 + other) 0 < suc len → (other < len → one ≡ other)
    → cond b (1 + one) 0 ≡ cond b (1 + other) 0
run_more true one other len less same = ap (λ n. 1 + n) (same (omega (arith, less)))
run_more false one other len less same = refl

-- a run that ends within the text, whatever is behind it
dotted_run : (text more : List ℕ) → list_all is_plain text ≡ true → prefix_len is_no_dot (text ++ more) < length text
    → prefix_len is_unescaped text ≡ prefix_len is_no_dot (text ++ more)
dotted_run [] more plain less = absurd (omega (arith, less))
dotted_run (octet ∷ text) more plain less =
    let both = and_parts (is_plain octet) (list_all is_plain text) plain in
    ap (λ (b : Bool). cond b (1 + prefix_len is_unescaped text) 0) (same_test octet both.0)
    ∙ run_more (is_no_dot octet) (prefix_len is_unescaped text) (prefix_len is_no_dot (text ++ more)) (length text) less (dotted_run text more both.1)

-- and a dot is there
stop_case : (octet run : ℕ) (text : List ℕ) (b : Bool) → is_no_dot octet ≡ b → cond b (1 + run) 0 < suc (length text)
    → (run < length text → drop run text ≡ 46 ∷ drop (run + 1) text)
    → drop (cond b (1 + run) 0) (octet ∷ text) ≡ 46 ∷ drop (cond b (1 + run) 0 + 1) (octet ∷ text)
stop_case octet run text true is less there =
    let one : 1 + run ≡ suc run = omega arith in
    let two : (1 + run) + 1 ≡ suc (run + 1) = omega arith in
    ap (λ k. drop k (octet ∷ text)) one ∙ there (omega (arith, less)) ∙ ap (λ k. 46 ∷ drop k (octet ∷ text)) (sym two)
stop_case octet run text false is less there = ap (λ o. o ∷ text) (eqb-true octet 46 (not-false (octet == 46) is))

dotted_stop : (text more : List ℕ) → prefix_len is_no_dot (text ++ more) < length text
    → drop (prefix_len is_no_dot (text ++ more)) text ≡ 46 ∷ drop (prefix_len is_no_dot (text ++ more) + 1) text
dotted_stop [] more less = absurd (omega (arith, less))
dotted_stop (octet ∷ text) more less =
    stop_case octet (prefix_len is_no_dot (text ++ more)) text (is_no_dot octet) refl less (dotted_stop text more)

plain_rest : (n : ℕ) (text : List ℕ) → list_all is_plain text ≡ true → list_all is_plain (drop n text) ≡ true
plain_rest zero text plain = plain
plain_rest (suc n) [] plain = refl
plain_rest (suc n) (octet ∷ text) plain = plain_rest n text (and_parts (is_plain octet) (list_all is_plain text) plain).1

pub near_label : (text from label : List ℕ) (n start end : ℕ) → text ≡ take (length text) from → list_all is_plain text ≡ true
    → start ≤ length text → length text ≤ n → end ≡ start + prefix_len is_no_dot (drop start (take n from)) → end < length text
    → 0 < end - start → end - start ≤ 63 → label ≡ take (end - start) (drop start text) → length label ≡ end - start
    → StartsWithUnescapedLabel (drop start text) label (drop (start + length label + 1) text)
near_label text from label n start end begins plain within long is_end less some short is counted =
    let rest : List ℕ = drop start text in
    let more : List ℕ = take (n - length text) (drop (length text) from) in
    let near : drop start (take n from) ≡ rest ++ more =
    ap (drop start) (longer_text text from n begins long) ∙ drop-append-le start text more within in
    let run : prefix_len is_no_dot (rest ++ more) ≡ end - start = omega (arith, is_end, ap (prefix_len is_no_dot) near) in
    let inside : prefix_len is_no_dot (rest ++ more) < length rest = omega (arith, run, less, length-drop start text, within) in
    let there = dotted_stop rest more inside in
    let at : start + prefix_len is_no_dot (rest ++ more) ≡ end = omega (arith, run, some) in
    label_found text label (drop (prefix_len is_no_dot (rest ++ more) + 1) rest) start end
    (omega (arith, at, dotted_run rest more (plain_rest start text plain) inside)) within is
    (ap (λ k. drop k text) (sym at) ∙ sym (drop-drop (prefix_len is_no_dot (rest ++ more)) start text) ∙ there)
    (omega (arith, counted, some)) (omega (arith, counted, short))
