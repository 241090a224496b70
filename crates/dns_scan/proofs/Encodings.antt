-- What was encoded decodes back, and a text decodes to one list of octets only.
use Rattle.std.proofs.Common.{◌≡◌, ℕ, ◌+◌, ◌-◌, ◌%◌, ◌<◌, ◌≤◌, ◌==◌, zero, suc, Bool, true, false, List, [], ◌∷◌, ◌++◌, length, map, replicate, refl, sym, ◌∙◌, ap, subst, arith, append_assoc, append-nil, length-append}
use Rattle.std.specs.Prelude.{if◌then◌else◌}
use Rattle.std.specs.List.{AllByRecursion}
use Rattle.std.proofs.lemmas.Bool.Decides.{nat_tests}
use Rattle.std.proofs.lemmas.Str.{chars-IsAscii}
use Rattle.std.specs.Str.{chars, IsAscii}
use Rattle.std.proofs.lemmas.List.{length-replicate}
use Rattle.dns_scan.specs.declared.encoding.base.Base.{Base}
use Rattle.dns_scan.specs.declared.encoding.base.Base.TheVariants.{Sixteen, ThirtyTwoHex, SixtyFour}
use Rattle.dns_scan.specs.Bits.{bits, all_bits, grouped, padded_number, numbers_of, number_of}
use Rattle.dns_label.specs.Octets.{IsOctet}
use Rattle.dns_scan.specs.Base.{width, size, character, digit, hex_character, character_64, digit_64, IsCharacter, Groups, IsTextOf, Decodes, DecodesOnly, characters_of, encoded, padding}
use Rattle.dns_name.proofs.Flat.{same_front}
use Rattle.dns_scan.proofs.BitLists.{IsBit, bits-number, length-bits, number-bits}
use Rattle.dns_scan.proofs.Groups.{eq_same, eq_differs}
use Rattle.dns_scan.proofs.Numbers.{numbers_small, all_bits_are, zeros}
use Rattle.dns_scan.proofs.Decoded.{length-all_bits, each_append, same_split, PadOrEnd, pads_or_end, replicated}

-- a character stands for its number
hex_back : (number : ℕ) → number < 32 → digit Sixteen (hex_character number) ≡ number
hex_back number small = grind (arith, nat_tests)

back_64 : (number : ℕ) → number < 64 → digit_64 (character_64 number) ≡ number
back_64 number small = grind (arith, nat_tests)

pub digit-character : (base : Base) (number : ℕ) → number < size base → digit base (character base number) ≡ number
digit-character Sixteen number small = hex_back number (omega arith)
digit-character ThirtyTwoHex number small = hex_back number small
digit-character SixtyFour number small = back_64 number small

digits-characters : (base : Base) (numbers : List ℕ) → AllByRecursion (λ n. n < size base) numbers
    → map (digit base) (map (character base) numbers) ≡ numbers
digits-characters base [] small = refl
digits-characters base (number ∷ numbers) small =
    ap (λ n. n ∷ map (digit base) (map (character base) numbers)) (digit-character base number small.0)
    ∙ ap (λ l. number ∷ l) (digits-characters base numbers small.1)

are_characters : (base : Base) (numbers : List ℕ) → AllByRecursion (λ n. n < size base) numbers
    → AllByRecursion (IsCharacter base) (map (character base) numbers)
are_characters base [] small = tt
are_characters base (number ∷ numbers) small =
    (subst (λ n. n < size base) (sym (digit-character base number small.0)) small.0, are_characters base numbers small.1)

-- the bits of the groups' numbers are the bits, and zeros that fill up the last group
pub record FilledUp (count : ℕ) (bits filled : List ℕ) : Type 0 where
  pub more : List ℕ
  pub few : length more < count
  pub is : filled ≡ bits ++ more

group_bits : (count : ℕ) (group : List ℕ) → length group ≤ count → AllByRecursion IsBit group
    → bits count (padded_number count group) ≡ group ++ replicate (count - length group) 0
group_bits count group few each =
    let whole : length (group ++ replicate (count - length group) 0) ≡ count =
    omega (arith, length-append group (replicate (count - length group) 0), length-replicate {A = ℕ} (count - length group) 0) in
    let P : ℕ → Type 0 = λ n. bits n (number_of (group ++ replicate (count - length group) 0)) ≡ group ++ replicate (count - length group) 0 in
    subst P whole (bits-number (group ++ replicate (count - length group) 0)
    (each_append IsBit group (replicate (count - length group) 0) each (zeros (count - length group))))

filled_end : (count : ℕ) (held : List ℕ) (none : Bool) → (length held == 0) ≡ none → length held < count → AllByRecursion IsBit held
    → FilledUp count (held ++ []) (all_bits count (map (padded_number count) (if none then [] else held ∷ [])))
filled_end count [] true is few each = record { more = []; few = few; is = refl }
filled_end count (bit ∷ held) true is few each =
    let bad : false ≡ true = sym (eq_differs (suc (length held)) 0 (λ e. omega (arith, e))) ∙ is in cc
filled_end count [] false is few each = let bad : true ≡ false = sym (eq_same 0 0 refl) ∙ is in cc
filled_end count (bit ∷ held) false is few each = record {
  more = replicate (count - length (bit ∷ held)) 0;
  few = omega (arith, length-replicate {A = ℕ} (count - length (bit ∷ held)) 0);
  is =
      append-nil (bits count (padded_number count (bit ∷ held)))
      ∙ group_bits count (bit ∷ held) (omega arith) each
      ∙ ap (λ l. l ++ replicate (count - length (bit ∷ held)) 0) (sym (append-nil (bit ∷ held)));
}

filled_whole : (count : ℕ) (group others filled : List ℕ) → length group ≡ count → AllByRecursion IsBit group → FilledUp count others filled
    → FilledUp count (group ++ others) (bits count (padded_number count group) ++ filled)
filled_whole count group others filled whole each up = record {
  more = up.more;
  few = up.few;
  is =
      ap (λ l. l ++ filled)
      (group_bits count group (omega arith) each
      ∙ (let none : count - length group ≡ 0 = omega arith in ap (λ n. group ++ replicate n 0) none) ∙ append-nil group)
      ∙ ap (λ l. group ++ l) up.is ∙ sym (append_assoc group others up.more);
}

filled_next : (count : ℕ) (held others : List ℕ) (bit : ℕ) (whole : Bool) → (length held + 1 == count) ≡ whole → length held < count
    → AllByRecursion IsBit (held ++ bit ∷ [])
    → FilledUp count others (all_bits count (map (padded_number count) (grouped count [] others)))
    → (length (held ++ bit ∷ []) < count
    → FilledUp count ((held ++ bit ∷ []) ++ others) (all_bits count (map (padded_number count) (grouped count (held ++ bit ∷ []) others))))
    → FilledUp count (held ++ bit ∷ others) (all_bits count (map (padded_number count) (grouped count held (bit ∷ others))))
filled_next count held others bit true is few each fresh more =
    let P : List ℕ → Type 0 = λ l. FilledUp count l (bits count (padded_number count (held ++ bit ∷ [])) ++ all_bits count (map (padded_number count) (grouped count [] others))) in
    rw is (subst P (append_assoc held (bit ∷ []) others) (filled_whole count (held ++ bit ∷ []) others _ whole each fresh))
  where
    whole : length (held ++ bit ∷ []) ≡ count
    whole = length-append held (bit ∷ []) ∙ same (length held + 1 == count) refl
      where
        same : (test : Bool) → (length held + 1 == count) ≡ test → length held + 1 ≡ count
        same test at = grind (arith, nat_tests)
filled_next count held others bit false is few each fresh more =
    let P : List ℕ → Type 0 = λ l. FilledUp count l (all_bits count (map (padded_number count) (grouped count (held ++ bit ∷ []) others))) in
    rw is (subst P (append_assoc held (bit ∷ []) others) (more (omega (arith, length-append held (bit ∷ []), differs))))
  where
    differs : length held + 1 ≡ count → ⊥
    differs same = let bad : true ≡ false = sym (eq_same (length held + 1) count same) ∙ is in cc

filled_up : (count : ℕ) (held others : List ℕ) → length held < count → AllByRecursion IsBit held → AllByRecursion IsBit others
    → FilledUp count (held ++ others) (all_bits count (map (padded_number count) (grouped count held others)))
filled_up count held [] few each more = filled_end count held (length held == 0) refl few each
filled_up count held (bit ∷ others) few each more =
    filled_next count held others bit (length held + 1 == count) refl few (each_append IsBit held (bit ∷ []) each (more.0, tt))
    (filled_up count [] others (omega arith) tt more.1)
    (λ less. filled_up count (held ++ bit ∷ []) others less (each_append IsBit held (bit ∷ []) each (more.0, tt)) more.1)

wide : (base : Base) → 0 < width base
wide Sixteen = omega arith
wide ThirtyTwoHex = omega arith
wide SixtyFour = omega arith

encoded_groups : (base : Base) (octets : List ℕ) → AllByRecursion IsOctet octets → Groups base (characters_of base octets) octets
encoded_groups base octets are =
    let small = numbers_small base octets in
    let up = filled_up (width base) [] (all_bits 8 octets) (wide base) tt (all_bits_are 8 octets) in
    record {
      each = are_characters base (numbers_of (width base) (all_bits 8 octets)) small;
      are_octets = are;
      rest = up.more;
      cut = ap (all_bits (width base)) (digits-characters base (numbers_of (width base) (all_bits 8 octets)) small) ∙ up.is;
      little = up.few;
    }

encoded_text : (base : Base) (octets : List ℕ) → IsTextOf base (encoded base octets) (characters_of base octets)
encoded_text Sixteen octets = append-nil (characters_of Sixteen octets)
encoded_text ThirtyTwoHex octets = append-nil (characters_of ThirtyTwoHex octets)
encoded_text SixtyFour octets =
    let count = length (characters_of SixtyFour octets) in
    let size = length-append (characters_of SixtyFour octets) (replicate ((4 - count % 4) % 4) 61)
    ∙ ap (λ n. count + n) (length-replicate ((4 - count % 4) % 4) 61) in
    record { pads = (4 - count % 4) % 4; few = omega arith; written = refl; fours = omega (arith, size) }

pub encoded_decodes : (base : Base) (octets : List ℕ) → AllByRecursion IsOctet octets → Decodes base (encoded base octets) octets
encoded_decodes base octets are =
    record { characters = characters_of base octets; text_of = encoded_text base octets; groups = encoded_groups base octets are }

-- two cuts into octets are one
octets_one : (xs ys rest left : List ℕ) → AllByRecursion IsOctet xs → AllByRecursion IsOctet ys → all_bits 8 xs ++ rest ≡ all_bits 8 ys ++ left
    → length rest < 8 → length left < 8 → xs ≡ ys
octets_one [] [] rest left are also same few little = refl
octets_one [] (y ∷ ys) rest left are also same few little =
    absurd (omega (arith, ap (length {A = ℕ}) same, length-append (all_bits 8 (y ∷ ys)) left, length-all_bits 8 (y ∷ ys)))
octets_one (x ∷ xs) [] rest left are also same few little =
    absurd (omega (arith, ap (length {A = ℕ}) same, length-append (all_bits 8 (x ∷ xs)) rest, length-all_bits 8 (x ∷ xs)))
octets_one (x ∷ xs) (y ∷ ys) rest left are also same few little =
    let split = same_front (bits 8 x) (bits 8 y) (all_bits 8 xs ++ rest) (all_bits 8 ys ++ left)
    (sym (append_assoc (bits 8 x) (all_bits 8 xs) rest) ∙ same ∙ append_assoc (bits 8 y) (all_bits 8 ys) left)
    (length-bits 8 x ∙ sym (length-bits 8 y)) in
    let first : x ≡ y = sym (number-bits 8 x are.0) ∙ ap number_of split.0 ∙ number-bits 8 y also.0 in
    ap (λ n. n ∷ xs) first ∙ ap (λ l. y ∷ l) (octets_one xs ys rest left are.1 also.1 split.1 few little)

narrow : (base : Base) → width base ≤ 8
narrow Sixteen = omega arith
narrow ThirtyTwoHex = omega arith
narrow SixtyFour = omega arith

characters_one : (base : Base) (text xs ys : List ℕ) → IsTextOf base text xs → IsTextOf base text ys
    → AllByRecursion (IsCharacter base) xs → AllByRecursion (IsCharacter base) ys → xs ≡ ys
characters_one Sixteen text xs ys is also each other = sym is ∙ also
characters_one ThirtyTwoHex text xs ys is also each other = sym is ∙ also
characters_one SixtyFour text xs ys is also each other =
    let ends : PadOrEnd (replicate also.pads 61) =
    subst (λ l. PadOrEnd l) (append-nil (replicate also.pads 61)) (pads_or_end also.pads [] tt) in
    (same_split xs ys (replicate also.pads 61) is.pads each other (sym is.written ∙ also.written) ends).0

pub decodes_one : (base : Base) (text octets others : List ℕ) → Decodes base text octets → Decodes base text others → others ≡ octets
decodes_one base text octets others is also =
    let same = characters_one base text also.characters is.characters also.text_of is.text_of also.groups.each is.groups.each in
    let little = is.groups.little in
    let less = also.groups.little in
    let few = narrow base in
    octets_one others octets also.groups.rest is.groups.rest also.groups.are_octets is.groups.are_octets
    (sym also.groups.cut ∙ ap (λ l. all_bits (width base) (map (digit base) l)) same ∙ is.groups.cut) (omega arith) (omega arith)

pub encoded_only : (base : Base) (octets : List ℕ) → AllByRecursion IsOctet octets → DecodesOnly base (encoded base octets) octets
encoded_only base octets are =
    record { decodes = encoded_decodes base octets are; only = λ others also. decodes_one base _ octets others (encoded_decodes base octets are) also }

-- a text is of ASCII
abbrev pub Ascii : ℕ → Type 0
Ascii c = c < 128

ascii_hex : (number : ℕ) → number < 32 → hex_character number < 128
ascii_hex number small = grind (arith, nat_tests)

ascii_64 : (number : ℕ) → number < 64 → character_64 number < 128
ascii_64 number small = grind (arith, nat_tests)

ascii_character : (base : Base) (number : ℕ) → number < size base → character base number < 128
ascii_character Sixteen number small = ascii_hex number (omega arith)
ascii_character ThirtyTwoHex number small = ascii_hex number small
ascii_character SixtyFour number small = ascii_64 number small

ascii_characters : (base : Base) (numbers : List ℕ) → AllByRecursion (λ n. n < size base) numbers → AllByRecursion Ascii (map (character base) numbers)
ascii_characters base [] small = tt
ascii_characters base (number ∷ numbers) small = (ascii_character base number small.0, ascii_characters base numbers small.1)

ascii_padding : (base : Base) (count : ℕ) → AllByRecursion Ascii (padding base count)
ascii_padding Sixteen count = tt
ascii_padding ThirtyTwoHex count = tt
ascii_padding SixtyFour count = replicated Ascii ((4 - count) % 4) 61 (omega arith)

pub is_ascii : (text : List ℕ) → AllByRecursion Ascii text → IsAscii text
is_ascii [] each index = omega arith
is_ascii (c ∷ text) each zero = each.0
is_ascii (c ∷ text) each (suc index) = is_ascii text each.1 index

pub chars-encoded : (base : Base) (octets : List ℕ) → chars (encoded base octets) ≡ encoded base octets
chars-encoded base octets =
    chars-IsAscii (encoded base octets)
    (is_ascii (encoded base octets)
    (each_append Ascii (characters_of base octets) (padding base (length (characters_of base octets) % 4))
    (ascii_characters base (numbers_of (width base) (all_bits 8 octets)) (numbers_small base octets))
    (ascii_padding base (length (characters_of base octets) % 4))))

pub text_decodes_only : (base : Base) (octets : List ℕ) → AllByRecursion IsOctet octets → DecodesOnly base (chars (encoded base octets)) octets
text_decodes_only base octets are =
    subst (λ l. DecodesOnly base l octets) (sym (chars-encoded base octets)) (encoded_only base octets are)
