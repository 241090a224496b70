-- What a decoder has taken of a text, and what can go on from there.
use Rattle.std.proofs.Common.{◌≡◌, ℕ, ◌+◌, ◌*◌, ◌<◌, ◌≤◌, zero, suc, false, List, [], ◌∷◌, ◌++◌, length, map, replicate, refl, sym, ◌∙◌, ap, subst, arith, append_assoc, append-nil, length-append, inl, inr}
use Rattle.std.specs.Prelude.{None, ◌⊎◌}
use Rattle.std.specs.List.{AllByRecursion}
use Rattle.std.proofs.Math.Nat.{suc-mul}
use Rattle.std.proofs.lemmas.List.{map_push, length-replicate, length-map}
use Rattle.dns_scan.specs.declared.encoding.base.Base.{Base}
use Rattle.dns_scan.specs.declared.encoding.base.Base.TheVariants.{Sixteen, ThirtyTwoHex, SixtyFour}
use Rattle.dns_scan.specs.Bits.{bits, all_bits}
use Rattle.dns_label.specs.Octets.{IsOctet}
use Rattle.dns_scan.specs.Base.{width, size, digit, IsCharacter, Groups, Decodes}
use Rattle.dns_scan.specs.declared.encoding.decode_error.DecodeError.{DecodeError}
use Rattle.dns_scan.specs.declared.encoding.decode_error.DecodeError.TheVariants.{IllegalChar, TrailingInput, ShortInput, ShortBuf}
use Rattle.dns_scan.specs.ScanError.{is_want_of_room}
use Rattle.dns_scan.specs.Decoding.{Progress, HasRead, IsWhole, MayBePadded, NoneGoesOn, NoneIs, WhyRefused, WhyNoText}
use Rattle.dns_scan.proofs.BitLists.{length-bits}

pub all_bits-append : (count : ℕ) (xs ys : List ℕ) → all_bits count (xs ++ ys) ≡ all_bits count xs ++ all_bits count ys
all_bits-append count [] ys = refl
all_bits-append count (x ∷ xs) ys =
    ap (λ l. bits count x ++ l) (all_bits-append count xs ys) ∙ sym (append_assoc (bits count x) (all_bits count xs) (all_bits count ys))

pub length-all_bits : (count : ℕ) (xs : List ℕ) → length (all_bits count xs) ≡ length xs * count
length-all_bits count [] = omega arith
length-all_bits count (x ∷ xs) =
    let more = length-all_bits count xs in
    let product : suc (length xs) * count ≡ length xs * count + count = suc-mul (length xs) count in
    omega (arith, more, product, length-append (bits count x) (all_bits count xs), length-bits count x)

pub each_append : (P : ℕ → Type 0) (front rest : List ℕ) → AllByRecursion P front → AllByRecursion P rest → AllByRecursion P (front ++ rest)
each_append P [] rest each more = more
each_append P (first ∷ front) rest each more = (each.0, each_append P front rest each.1 more)

-- one more character
pub read_more : (base : Base) (old new : Progress) (text : List ℕ) (c number : ℕ) (more : List ℕ) → HasRead base old text
    → old.pads ≡ 0 → new.pads ≡ 0 → new.error ≡ None → number ≡ digit base c → number < size base
    → new.octets ≡ old.octets ++ more → old.waiting ++ bits (width base) number ≡ all_bits 8 more ++ new.waiting
    → length new.waiting < 8 → AllByRecursion IsOctet more → HasRead base new (text ++ c ∷ [])
read_more base old new text c number more read none still sound is small octets cut little are = record {
  sound = sound;
  characters = read.characters ++ c ∷ [];
  written =
      ap (λ l. l ++ c ∷ []) (read.written ∙ ap (λ n. read.characters ++ replicate n 61) none ∙ append-nil read.characters)
      ∙ sym (append-nil (read.characters ++ c ∷ [])) ∙ ap (λ n. (read.characters ++ c ∷ []) ++ replicate n 61) (sym still);
  each = each_append (IsCharacter base) read.characters (c ∷ []) read.each (subst (λ n. n < size base) is small, tt);
  are_octets =
      subst (λ l. AllByRecursion IsOctet l) (sym octets) (each_append IsOctet old.octets more read.are_octets are);
  cut =
      ap (all_bits (width base)) (map_push (digit base) read.characters c)
      ∙ all_bits-append (width base) (map (digit base) read.characters) (digit base c ∷ [])
      ∙ ap (λ l. all_bits (width base) (map (digit base) read.characters) ++ l) (append-nil (bits (width base) (digit base c)))
      ∙ ap (λ l. l ++ bits (width base) (digit base c)) read.cut
      ∙ ap (λ n. (all_bits 8 old.octets ++ old.waiting) ++ bits (width base) n) (sym is)
      ∙ append_assoc (all_bits 8 old.octets) old.waiting (bits (width base) number)
      ∙ ap (λ l. all_bits 8 old.octets ++ l) cut
      ∙ sym (append_assoc (all_bits 8 old.octets) (all_bits 8 more) new.waiting)
      ∙ ap (λ l. l ++ new.waiting) (sym (all_bits-append 8 old.octets more) ∙ ap (all_bits 8) (sym octets));
  little = little;
  padded = inl still;
}

-- the pad is no character
pub no_pad : IsCharacter SixtyFour 61 → ⊥
no_pad is = omega (arith, is)

abbrev pub PadOrEnd : List ℕ → Type 0
PadOrEnd [] = Unit {0}
PadOrEnd (c ∷ rest) = c ≡ 61

pad_is : (c : ℕ) → IsCharacter SixtyFour c → c ≡ 61 → ⊥
pad_is c is same = no_pad (subst (λ n. IsCharacter SixtyFour n) same is)

-- the characters end where the pads begin
pub same_split : (xs ys rest : List ℕ) (pads : ℕ) → AllByRecursion (IsCharacter SixtyFour) xs → AllByRecursion (IsCharacter SixtyFour) ys
    → xs ++ replicate pads 61 ≡ ys ++ rest → PadOrEnd rest → (xs ≡ ys) × (replicate pads 61 ≡ rest)
same_split [] [] rest pads each also same ends = (refl, same)
same_split [] (y ∷ ys) rest zero each also same ends = cc
same_split [] (y ∷ ys) rest (suc pads) each also same ends = let is : 61 ≡ y = cc in absurd (pad_is y also.0 (sym is))
same_split (x ∷ xs) [] [] pads each also same ends = cc
same_split (x ∷ xs) [] (c ∷ rest) pads each also same ends = let is : x ≡ c = cc in absurd (pad_is x each.0 (is ∙ ends))
same_split (x ∷ xs) (y ∷ ys) rest pads each also same ends =
    let first : x ≡ y = cc in
    let others : xs ++ replicate pads 61 ≡ ys ++ rest = cc in
    let more = same_split xs ys rest pads each.1 also.1 others ends in
    (ap (λ n. n ∷ xs) first ∙ ap (λ l. y ∷ l) more.0, more.1)

pub pads_or_end : (pads : ℕ) (rest : List ℕ) → PadOrEnd rest → PadOrEnd (replicate pads 61 ++ rest)
pads_or_end zero rest ends = ends
pads_or_end (suc pads) rest ends = refl

pads_first : (pads : ℕ) (rest : List ℕ) → 0 < pads → PadOrEnd (replicate pads 61 ++ rest)
pads_first zero rest some = absurd (omega arith)
pads_first (suc pads) rest some = refl

-- a pad is refused only at a place where none may be
pub no_more_pads : (old : Progress) → ((length old.waiting < 6) × (2 * (old.pads + 1) ≤ length old.waiting) → ⊥) → NoneGoesOn SixtyFour old 61
no_more_pads old full text more octets read decodes =
    let at = decodes.text_of in
    let groups = decodes.groups in
    let split = same_split decodes.characters read.characters (replicate old.pads 61 ++ 61 ∷ more) at.pads groups.each read.each
    (sym at.written ∙ ap (λ l. l ++ 61 ∷ more) read.written ∙ append_assoc read.characters (replicate old.pads 61) (61 ∷ more))
    (pads_or_end old.pads (61 ∷ more) refl) in
    let pads : at.pads ≡ old.pads + suc (length more) =
    sym (length-replicate at.pads 61) ∙ ap (length {A = ℕ}) split.1 ∙ length-append (replicate old.pads 61) (61 ∷ more)
    ∙ ap (λ n. n + suc (length more)) (length-replicate old.pads 61) in
    let whole = sym (length-all_bits 6 (map (digit SixtyFour) decodes.characters)) ∙ ap (length {A = ℕ}) groups.cut ∙ length-append (all_bits 8 octets) groups.rest in
    let here = sym (length-all_bits 6 (map (digit SixtyFour) read.characters)) ∙ ap (length {A = ℕ}) read.cut ∙ length-append (all_bits 8 old.octets) old.waiting in
    let count = length-map decodes.characters (digit SixtyFour) in
    let counts = length-map read.characters (digit SixtyFour) in
    let same = ap (length {A = ℕ}) split.0 in
    let size = ap (length {A = ℕ}) at.written ∙ length-append decodes.characters (replicate at.pads 61) ∙ ap (λ n. length decodes.characters + n) (length-replicate at.pads 61) in
    let eights = length-all_bits 8 octets in
    let olds = length-all_bits 8 old.octets in
    let fours = at.fours in
    let few = at.few in
    let little = groups.little in
    let short = read.little in
    full (omega arith, omega arith)

in_middle : (P : ℕ → Type 0) (xs ys : List ℕ) (c : ℕ) → AllByRecursion P (xs ++ c ∷ ys) → P c
in_middle P [] ys c each = each.0
in_middle P (x ∷ xs) ys c each = in_middle P xs ys c each.1

pub replicated : (P : ℕ → Type 0) (count c : ℕ) → P c → AllByRecursion P (replicate count c)
replicated P zero c is = tt
replicated P (suc count) c is = (is, replicated P count c is)

pub each_weaker : (P Q : ℕ → Type 0) (xs : List ℕ) → ((x : ℕ) → P x → Q x) → AllByRecursion P xs → AllByRecursion Q xs
each_weaker P Q [] more each = tt
each_weaker P Q (x ∷ xs) more each = (more x each.0, each_weaker P Q xs more each.1)

-- only base 64 has pads
no_pads : (base : Base) (pads count : ℕ) → MayBePadded base pads count → (base ≡ SixtyFour → ⊥) → pads ≡ 0
no_pads base pads count (inl none) other = none
no_pads base pads count (inr some) other = absurd (other some.0)

unpadded : (base : Base) (progress : Progress) (text : List ℕ) → (base ≡ SixtyFour → ⊥) → (read : HasRead base progress text) → text ≡ read.characters
unpadded base progress text other read =
    read.written
    ∙ ap (λ n. read.characters ++ replicate n 61) (no_pads base progress.pads (length progress.waiting) read.padded other)
    ∙ append-nil read.characters

-- only pads may follow a pad
pub nothing_behind_pads : (base : Base) (old : Progress) (c : ℕ) → 0 < old.pads → (base ≡ SixtyFour → c ≡ 61 → ⊥) → NoneGoesOn base old c
nothing_behind_pads Sixteen old c some other text more octets read decodes =
    let none = no_pads Sixteen old.pads (length old.waiting) read.padded (λ same. cc) in absurd (omega arith)
nothing_behind_pads ThirtyTwoHex old c some other text more octets read decodes =
    let none = no_pads ThirtyTwoHex old.pads (length old.waiting) read.padded (λ same. cc) in absurd (omega arith)
nothing_behind_pads SixtyFour old c some other text more octets read decodes =
    let at = decodes.text_of in
    let split = same_split decodes.characters read.characters (replicate old.pads 61 ++ c ∷ more) at.pads decodes.groups.each read.each
    (sym at.written ∙ ap (λ l. l ++ c ∷ more) read.written ∙ append_assoc read.characters (replicate old.pads 61) (c ∷ more))
    (pads_first old.pads (c ∷ more) some) in
    let P : ℕ → Type 0 = λ n. n ≡ 61 in
    other refl
    (in_middle P (replicate old.pads 61) more c (subst (λ l. AllByRecursion P l) split.1 (replicated P at.pads 61 refl)))

-- what is no character may be nowhere
pub no_character : (base : Base) (old : Progress) (c : ℕ) → (IsCharacter base c → ⊥) → (base ≡ SixtyFour → c ≡ 61 → ⊥) → NoneGoesOn base old c
no_character Sixteen old c none other text more octets read decodes =
    none (in_middle (IsCharacter Sixteen) text more c (subst (λ l. AllByRecursion (IsCharacter Sixteen) l) (sym decodes.text_of) decodes.groups.each))
no_character ThirtyTwoHex old c none other text more octets read decodes =
    none (in_middle (IsCharacter ThirtyTwoHex) text more c (subst (λ l. AllByRecursion (IsCharacter ThirtyTwoHex) l) (sym decodes.text_of) decodes.groups.each))
no_character SixtyFour old c none other text more octets read decodes =
    let at = decodes.text_of in
    let P : ℕ → Type 0 = λ n. IsCharacter SixtyFour n ⊎ (n ≡ 61) in
    let all : AllByRecursion P (decodes.characters ++ replicate at.pads 61) =
    each_append P decodes.characters (replicate at.pads 61)
    (each_weaker (IsCharacter SixtyFour) P decodes.characters (λ n is. inl is) decodes.groups.each)
    (replicated P at.pads 61 (inr refl)) in
    neither (in_middle P text more c (subst (λ l. AllByRecursion P l) (sym at.written) all))
  where
    neither : IsCharacter SixtyFour c ⊎ (c ≡ 61) → ⊥
    neither (inl is) = none is
    neither (inr pad) = other refl pad

-- two cuts into octets leave rests of one length
pub same_rest : (xs ys rest left : List ℕ) → all_bits 8 xs ++ rest ≡ all_bits 8 ys ++ left → length rest < 8 → length left < 8
    → length rest ≡ length left
same_rest xs ys rest left same few little =
    omega (
      arith,
      ap (length {A = ℕ}) same,
      length-append (all_bits 8 xs) rest,
      length-append (all_bits 8 ys) left,
      length-all_bits 8 xs,
      length-all_bits 8 ys,
    )

grouped_so : (base : Base) (progress : Progress) (text : List ℕ) (read : HasRead base progress text) → length progress.waiting < width base
    → Groups base read.characters progress.octets
grouped_so base progress text read little = record {
  each = read.each;
  are_octets = read.are_octets;
  rest = progress.waiting;
  cut = read.cut;
  little = little;
}

-- if no more is waited for, the text is one of the octets
pub whole_decodes : (base : Base) (progress : Progress) (text : List ℕ) → HasRead base progress text
    → IsWhole base progress.pads (length progress.waiting) → Decodes base text progress.octets
whole_decodes Sixteen progress text read whole = record {
  characters = read.characters;
  text_of = unpadded Sixteen progress text (λ same. cc) read;
  groups = grouped_so Sixteen progress text read whole;
}
whole_decodes ThirtyTwoHex progress text read whole = record {
  characters = read.characters;
  text_of = unpadded ThirtyTwoHex progress text (λ same. cc) read;
  groups = grouped_so ThirtyTwoHex progress text read whole;
}
whole_decodes SixtyFour progress text read whole =
    let here = sym (length-all_bits 6 (map (digit SixtyFour) read.characters)) ∙ ap (length {A = ℕ}) read.cut ∙ length-append (all_bits 8 progress.octets) progress.waiting in
    let counts = length-map read.characters (digit SixtyFour) in
    let olds = length-all_bits 8 progress.octets in
    let size = ap (length {A = ℕ}) read.written ∙ length-append read.characters (replicate progress.pads 61)
    ∙ ap (λ n. length read.characters + n) (length-replicate progress.pads 61) in
    let few = whole.0 in
    let pads = whole.1 in
    record {
      characters = read.characters;
      text_of = record { pads = progress.pads; few = omega arith; written = read.written; fours = omega arith };
      groups = grouped_so SixtyFour progress text read whole.0;
    }

-- if more is waited for, it is none
waits : (base : Base) (progress : Progress) (text octets : List ℕ) (read : HasRead base progress text) (decodes : Decodes base text octets)
    → decodes.characters ≡ read.characters → width base ≤ 8 → length progress.waiting ≡ length decodes.groups.rest
waits base progress text octets read decodes same wide =
    let little = decodes.groups.little in
    same_rest progress.octets octets progress.waiting decodes.groups.rest
    (sym read.cut ∙ ap (λ l. all_bits (width base) (map (digit base) l)) (sym same) ∙ decodes.groups.cut) read.little (omega arith)

pub not_whole : (base : Base) (progress : Progress) (text : List ℕ) → HasRead base progress text
    → (IsWhole base progress.pads (length progress.waiting) → ⊥) → NoneIs base text
not_whole Sixteen progress text read short octets decodes =
    let same = waits Sixteen progress text octets read decodes (sym decodes.text_of ∙ unpadded Sixteen progress text (λ same. cc) read) (omega arith) in
    let little = decodes.groups.little in short (omega arith)
not_whole ThirtyTwoHex progress text read short octets decodes =
    let same = waits ThirtyTwoHex progress text octets read decodes (sym decodes.text_of ∙ unpadded ThirtyTwoHex progress text (λ same. cc) read) (omega arith) in
    let little = decodes.groups.little in short (omega arith)
not_whole SixtyFour progress text read short octets decodes =
    let at = decodes.text_of in
    let pads_end : PadOrEnd (replicate progress.pads 61) =
    subst (λ l. PadOrEnd l) (append-nil (replicate progress.pads 61)) (pads_or_end progress.pads [] tt) in
    let split = same_split decodes.characters read.characters (replicate progress.pads 61) at.pads decodes.groups.each read.each
    (sym at.written ∙ read.written) pads_end in
    let same = waits SixtyFour progress text octets read decodes split.0 (omega arith) in
    let pads : at.pads ≡ progress.pads =
    sym (length-replicate at.pads 61) ∙ ap (length {A = ℕ}) split.1 ∙ length-replicate progress.pads 61 in
    let whole = sym (length-all_bits 6 (map (digit SixtyFour) decodes.characters)) ∙ ap (length {A = ℕ}) decodes.groups.cut
    ∙ length-append (all_bits 8 octets) decodes.groups.rest in
    let count = length-map decodes.characters (digit SixtyFour) in
    let size = ap (length {A = ℕ}) at.written ∙ length-append decodes.characters (replicate at.pads 61)
    ∙ ap (λ n. length decodes.characters + n) (length-replicate at.pads 61) in
    let eights = length-all_bits 8 octets in
    let fours = at.fours in
    let few = at.few in
    let little = decodes.groups.little in
    short (omega arith, omega arith)

-- before a text
pub read_none : (base : Base) (progress : Progress) → progress ≡ record { octets = []; waiting = []; pads = 0; error = None } → HasRead base progress []
read_none base progress is = subst (λ p. HasRead base p []) (sym is) none
  where
    none : HasRead base (record { octets = []; waiting = []; pads = 0; error = None }) []
    none = record { sound = refl; characters = []; written = refl; each = tt; are_octets = tt; cut = refl; little = omega arith; padded = inl refl }

-- a character that is refused is a fault of the whole text
pub refused_text : (base : Base) (progress : Progress) (read rest text : List ℕ) (c : ℕ) (error : DecodeError) → HasRead base progress read
    → read ++ c ∷ rest ≡ text → WhyRefused base progress c error → WhyNoText base text error
refused_text base progress read rest text c (IllegalChar other) taken whole why = (
  record { front = read; refused = c; behind = rest; written = sym whole; progress = progress; taken = taken; why = why },
  λ octets decodes. why.3 read rest octets taken (subst (λ l. Decodes base l octets) (sym whole) decodes),
)
refused_text base progress read rest text c TrailingInput taken whole why = (
  record { front = read; refused = c; behind = rest; written = sym whole; progress = progress; taken = taken; why = why },
  λ octets decodes. why.1 read rest octets taken (subst (λ l. Decodes base l octets) (sym whole) decodes),
)
refused_text base progress read rest text c ShortInput taken whole why = absurd why
refused_text base progress read rest text c ShortBuf taken whole why = record {
  front = read;
  refused = c;
  behind = rest;
  written = sym whole;
  progress = progress;
  taken = taken;
  why = why;
}

-- a text that is refused, not for lack of room or memory, is none
pub refused_for_itself : (base : Base) (text : List ℕ) (error : DecodeError) → WhyNoText base text error → is_want_of_room error ≡ false
    → NoneIs base text
refused_for_itself base text (IllegalChar c) why itself = why.1
refused_for_itself base text TrailingInput why itself = why.1
refused_for_itself base text ShortInput why itself = why.2
refused_for_itself base text ShortBuf why itself = cc
