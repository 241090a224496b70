-- Groups of hexadecimal digits that are read from the front of a text.
use Rattle.std.proofs.Common.{◌≡◌, ◌+◌, ◌-◌, ◌*◌, ◌<◌, ◌≤◌, ℕ, true, false, List, [], ◌∷◌, ◌++◌, length, take, drop, replicate, refl, sym, ◌∙◌, ap, subst, arith, inl, inr, append_assoc, append-nil, get_or, take_all, take-add, length-take-le, codes}
use borrow.Rule.Slice.PartMut.{put_mid}
use Rattle.std.proofs.lemmas.List.{drop-replicate, drop_all, take-replicate}
use Rattle.std.proofs.lemmas.Slice.{put_mid-paste}
use Rattle.std.proofs.lemmas.Bool.{false≢true}
use Rattle.std.specs.Net.Grammar.{IsColonHex, IsGroup, IsGroups, IsGroupsAfter}
use Rattle.dns_scan_data.specs.ColonHex.{BeginsWithGroup, BeginsWithGroups, BeginsWithHexDigit}

-- one digit to four are a group
pub group_one : {text left : List ℕ} {a : ℕ} → BeginsWithHexDigit text a left → BeginsWithGroup text a left
group_one first = record {
  digits = first.digit ∷ [];
  is = first.is;
  group = (((omega arith, (omega arith, tt)), omega arith), omega arith);
}

pub group_two : {text left behind : List ℕ} {a b : ℕ} → BeginsWithHexDigit text a left → BeginsWithHexDigit left b behind
    → BeginsWithGroup text (16 * a + b) behind
group_two first second = record {
  digits = first.digit ∷ second.digit ∷ [];
  is = first.is ∙ ap (λ (l : List ℕ). first.digit ∷ l) second.is;
  group = (((omega arith, (omega arith, (omega arith, tt))), omega arith), omega arith);
}

pub group_three : {text left behind last : List ℕ} {a b c : ℕ} → BeginsWithHexDigit text a left → BeginsWithHexDigit left b behind
    → BeginsWithHexDigit behind c last → BeginsWithGroup text (16 * (16 * a + b) + c) last
group_three first second third = record {
  digits = first.digit ∷ second.digit ∷ third.digit ∷ [];
  is = first.is ∙ ap (λ (l : List ℕ). first.digit ∷ l) (second.is ∙ ap (λ (l : List ℕ). second.digit ∷ l) third.is);
  group = (((omega arith, (omega arith, (omega arith, (omega arith, tt)))), omega arith), omega arith);
}

pub group_four : {text left behind last end : List ℕ} {a b c d : ℕ} → BeginsWithHexDigit text a left → BeginsWithHexDigit left b behind
    → BeginsWithHexDigit behind c last → BeginsWithHexDigit last d end → BeginsWithGroup text (16 * (16 * (16 * a + b) + c) + d) end
group_four first second third fourth = record {
  digits = first.digit ∷ second.digit ∷ third.digit ∷ fourth.digit ∷ [];
  is =
      first.is
      ∙ ap (λ (l : List ℕ). first.digit ∷ l)
      (second.is ∙ ap (λ (l : List ℕ). second.digit ∷ l) (third.is ∙ ap (λ (l : List ℕ). third.digit ∷ l) fourth.is));
  group = (((omega arith, (omega arith, (omega arith, (omega arith, (omega arith, tt))))), omega arith), omega arith);
}

-- another group after groups
after_colon : (text segments digits : List ℕ) (segment : ℕ) → IsGroupsAfter false (58 ∷ []) text segments → IsGroup digits segment
    → IsGroupsAfter false (58 ∷ []) (text ++ 58 ∷ digits) (segments ++ segment ∷ [])
after_colon text [] digits segment are is =
    inl (digits, [], ap (λ (l : List ℕ). l ++ 58 ∷ digits) are ∙ ap (λ (l : List ℕ). 58 ∷ l) (sym (append-nil digits)), is, refl)
after_colon text (_ ∷ segments) digits segment (inl are) is =
    inl (
      are.0,
      are.1 ++ 58 ∷ digits,
      ap (λ (l : List ℕ). l ++ 58 ∷ digits) are.2 ∙ append_assoc (58 ∷ are.0) are.1 (58 ∷ digits),
      are.3,
      after_colon are.1 segments digits segment are.4 is,
    )
after_colon text (_ ∷ segments) digits segment (inr are) is = absurd (false≢true are.2)

one_more : (text segments digits : List ℕ) (segment : ℕ) → 0 < length segments → IsGroups false text segments → IsGroup digits segment
    → IsGroups false (text ++ 58 ∷ digits) (segments ++ segment ∷ [])
one_more text [] digits segment some are is = absurd (omega arith)
one_more text (_ ∷ segments) digits segment some (inl are) is =
    inl (
      are.0,
      are.1 ++ 58 ∷ digits,
      ap (λ (l : List ℕ). l ++ 58 ∷ digits) are.2 ∙ append_assoc are.0 are.1 (58 ∷ digits),
      are.3,
      after_colon are.1 segments digits segment are.4 is,
    )
one_more text (_ ∷ segments) digits segment some (inr are) is = absurd (false≢true are.2)

-- the first group, and one after a colon
pub first_group : {text left behind : List ℕ} {segment : ℕ} (segments : List ℕ) → length segments ≡ 0 → BeginsWithGroups text segments left
    → BeginsWithGroup left segment behind → BeginsWithGroups text (segments ++ segment ∷ []) behind
first_group [] none so one = record {
  front = one.digits;
  is = so.is ∙ ap (λ (l : List ℕ). l ++ _) so.groups ∙ one.is;
  groups = inl (one.digits, [], sym (append-nil one.digits), one.group, refl);
}
first_group (_ ∷ segments) none so one = absurd (omega arith)

pub next_group : {text left group behind : List ℕ} {segment : ℕ} (segments : List ℕ) → 0 < length segments → BeginsWithGroups text segments left
    → left ≡ 58 ∷ group → BeginsWithGroup group segment behind → BeginsWithGroups text (segments ++ segment ∷ []) behind
next_group {segment = segment} segments some so colon one = record {
  front = so.front ++ 58 ∷ one.digits;
  is =
      so.is ∙ ap (λ (l : List ℕ). so.front ++ l) (colon ∙ ap (λ (l : List ℕ). 58 ∷ l) one.is) ∙ sym (append_assoc so.front (58 ∷ one.digits) _);
  groups = one_more so.front segments one.digits segment some so.groups one.group;
}

-- groups of digits alone are groups of which the last may be an address of version 4
may_end : (lead text segments : List ℕ) → IsGroupsAfter false lead text segments → IsGroupsAfter true lead text segments
may_end lead text [] are = are
may_end lead text (_ ∷ segments) (inl are) = inl (are.0, are.1, are.2, are.3, may_end (58 ∷ []) are.1 segments are.4)
may_end lead text (_ ∷ segments) (inr are) = absurd (false≢true are.2)

ended : {text left front : List ℕ} → text ≡ front ++ left → left ≡ [] → text ≡ front
ended {front = front} is none = is ∙ ap (λ (l : List ℕ). front ++ l) none ∙ append-nil front

-- all eight groups, and some on each side of two colons
pub all_groups : {text left : List ℕ} (segments : List ℕ) → BeginsWithGroups text segments left → left ≡ [] → length segments ≡ 8
    → IsColonHex text segments
all_groups segments so none eight =
    let groups = may_end [] so.front segments so.groups in
    inl (subst (λ (l : List ℕ). IsGroups true l segments) (sym (ended so.is none)) groups, eight)

pub elided_groups : {text left behind last : List ℕ} (head tail : List ℕ) → BeginsWithGroups text head left → left ≡ 58 ∷ 58 ∷ behind
    → BeginsWithGroups behind tail last → last ≡ [] → length head + length tail < 8
    → IsColonHex text (head ++ replicate (8 - length head - length tail) 0 ++ tail)
elided_groups {left = left} head tail so colons others none room =
    let spelled : left ≡ codes "::" ++ others.front = colons ∙ ap (λ (l : List ℕ). 58 ∷ 58 ∷ l) (ended others.is none) in
    inr (record {
      head_text = so.front;
      tail_text = others.front;
      head = head;
      tail = tail;
      spelled = so.is ∙ ap (λ (l : List ℕ). so.front ++ l) spelled ∙ sym (append_assoc so.front (codes "::") others.front);
      head_groups = so.groups;
      tail_groups = may_end [] others.front tail others.groups;
      room = room;
      value = refl;
    })

-- the octets that a text begins with, and the others
pub one_colon : (left : List ℕ) → 1 ≤ length left → get_or left 0 0 ≡ 58 → left ≡ 58 ∷ take (length left - 1) (drop 1 left)
one_colon [] some is = absurd (omega arith)
one_colon (first ∷ left) some is =
    ap (λ (n : ℕ). n ∷ left) is ∙ ap (λ (l : List ℕ). 58 ∷ l) (sym (take_all (length (first ∷ left) - 1) left (omega arith)))

pub two_colons : (left : List ℕ) → 2 ≤ length left → get_or left 0 0 ≡ 58 → get_or left 1 0 ≡ 58
    → left ≡ 58 ∷ 58 ∷ take (length left - 2) (drop 2 left)
two_colons [] some is also = absurd (omega arith)
two_colons (_ ∷ []) some is also = absurd (omega arith)
two_colons (first ∷ second ∷ left) some is also =
    ap (λ (n : ℕ). n ∷ second ∷ left) is ∙ ap (λ (n : ℕ). 58 ∷ n ∷ left) also
    ∙ ap (λ (l : List ℕ). 58 ∷ 58 ∷ l) (sym (take_all (length (first ∷ second ∷ left) - 2) left (omega arith)))

-- segments of which the last are written over, and zeros before those are kept
pub placed : (head tail copy : List ℕ) (h t : ℕ) → length head ≡ 8 → h + t ≤ 7 → drop h head ≡ drop h (replicate 8 0) → copy ≡ tail → length tail ≡ t
    → put_mid (8 - t) (8 - (8 - t)) head copy ≡ take h head ++ replicate (8 - length (take h head) - length tail) 0 ++ tail
placed head tail copy h t eight room zeros same many =
    let gap = 8 - h - t in
    let front : 8 - t ≡ h + gap = omega arith in
    let kept : take gap (drop h head) ≡ replicate gap 0 =
    rw (zeros, drop-replicate {X = ℕ} h 8 0) (take-replicate gap (8 - h) 0 (omega arith)) in
    let pasted = put_mid-paste (8 - t) (8 - (8 - t)) head copy tail t same (omega arith) (sym many) in
    let nothing = drop_all (8 - t + t) head (omega arith) in
    pasted ∙ rw (nothing, append-nil, take_all t tail (omega arith), length-take-le h head (omega arith), many, front, take-add h gap head, kept)
