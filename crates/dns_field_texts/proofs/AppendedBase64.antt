-- Octets in base 64: whole groups of characters, and what follows them.
use Rattle.std.proofs.Common.{◌≡◌, ◌+◌, ◌*◌, ◌/◌, ◌%◌, ◌^◌, ◌<◌, ◌≤◌, ◌-◌, zero, suc, ℕ, Bool, true, false, List, [], ◌∷◌, ◌++◌, length, map, replicate, take, drop, get_or, refl, sym, ◌∙◌, ap, subst, arith, append_assoc, append-nil, length-append}
use Rattle.std.specs.List.{AllByRecursion, list_all}
use Rattle.std.specs.Str.{chars}
use Rattle.std.proofs.Math.Seq.{take-append_seam}
use Rattle.std.proofs.lemmas.Bool.{and_parts}
use Rattle.std.proofs.lemmas.Bool.Decides.{nat_tests}
use Rattle.std.proofs.lemmas.List.{length-map, length-replicate, map-append, nil_from_length, take_all}
use Rattle.std.proofs.lemmas.Str.{chars-IsAscii}
use Rattle.dns_label.specs.Octets.{AreOctets, IsOctet}
use Rattle.dns_label.specs.Symbol.{is_plain}
use Rattle.dns_name.proofs.Flat.{same_front}
use Rattle.dns_scan.specs.Base.{Groups, IsCharacter, digit, digit_64}
use Rattle.dns_scan.specs.Bits.{all_bits, bits}
use Rattle.dns_scan.specs.Decoding.{NoneIs}
use Rattle.dns_scan.specs.Encodings.{Decodes64}
use Rattle.dns_scan.specs.Token.{HasText, IsEntry, IsWord, Takes, Token}
use Rattle.dns_scan.specs.declared.encoding.base.Base.TheVariants.{SixtyFour}
use Rattle.dns_scan.proofs.BitLists.{bits_join, length-bits}
use Rattle.dns_scan.proofs.Decoded.{all_bits-append, each_append, length-all_bits, no_pad}
use Rattle.dns_scan.proofs.Encodings.{Ascii, is_ascii}
use Rattle.dns_scan.proofs.Entries.{words_one}
use Rattle.dns_field_texts.specs.Appended.{GoesOn}
use Rattle.dns_field_texts.specs.AppendedBase64.{AppendsBase64, AppendsGroups, AppendsPadded, BeginsPadded, BeginsWithGroups, IsLastWord, SpellsNoBase64}

abbrev all_digits : List ℕ → List ℕ
all_digits characters = all_bits 6 (map (digit SixtyFour) characters)

-- characters before others are split off
record CharactersBehind (front characters left : List ℕ) (pads : ℕ) : Type 0 where
  behind : List ℕ
  is : characters ≡ front ++ behind
  written : left ≡ behind ++ replicate pads 61
  each : AllByRecursion (IsCharacter SixtyFour) behind

characters_behind : (front characters left : List ℕ) (pads : ℕ) → AllByRecursion (IsCharacter SixtyFour) front
    → AllByRecursion (IsCharacter SixtyFour) characters → front ++ left ≡ characters ++ replicate pads 61
    → CharactersBehind front characters left pads
characters_behind [] characters left pads each also same = record { behind = characters; is = refl; written = same; each = also }
characters_behind (c ∷ front) [] left zero each also same = cc
characters_behind (c ∷ front) [] left (suc pads) each also same =
    let pad : c ≡ 61 = cc in absurd (no_pad (subst (IsCharacter SixtyFour) pad each.0))
characters_behind (c ∷ front) (d ∷ characters) left pads each also same =
    let first : c ≡ d = cc in
    let others : front ++ left ≡ characters ++ replicate pads 61 = cc in
    let split = characters_behind front characters left pads each.1 also.1 others in
    record { behind = split.behind; is = let is = split.is in cc; written = split.written; each = split.each }

-- so are octets
record OctetsBehind (bits rest : List ℕ) : Type 0 where
  behind : List ℕ
  cut : bits ≡ all_bits 8 behind ++ rest
  are : AreOctets behind

octets_behind : (front octets bits rest : List ℕ) → AreOctets octets → length rest < 8 → all_bits 8 front ++ bits ≡ all_bits 8 octets ++ rest
    → OctetsBehind bits rest
octets_behind [] octets bits rest are few same = record { behind = octets; cut = same; are = are }
octets_behind (x ∷ front) [] bits rest are few same =
    absurd (omega (arith, ap (length {A = ℕ}) same, length-append (all_bits 8 (x ∷ front)) bits, length-all_bits 8 (x ∷ front)))
octets_behind (x ∷ front) (y ∷ octets) others rest are few same =
    let split = same_front (bits 8 x) (bits 8 y) (all_bits 8 front ++ others) (all_bits 8 octets ++ rest)
    (sym (append_assoc (bits 8 x) (all_bits 8 front) others) ∙ same ∙ append_assoc (bits 8 y) (all_bits 8 octets) rest)
    (length-bits 8 x ∙ sym (length-bits 8 y)) in
    octets_behind front octets others rest are.1 few split.1

-- whole groups of four characters, and what is behind them
module _ (front octets : List ℕ) (groups : Groups SixtyFour front octets) (whole : length front % 4 ≡ 0) where
  same_bits : all_digits front ≡ all_bits 8 octets
  same_bits =
      let lengths = ap (length {A = ℕ}) groups.cut in
      let none : length groups.rest ≡ 0 =
      omega (
        arith,
        lengths,
        length-append (all_bits 8 octets) groups.rest,
        length-all_bits 6 (map (digit SixtyFour) front),
        length-map front (digit SixtyFour),
        length-all_bits 8 octets,
        groups.little,
        whole,
      ) in groups.cut ∙ ap (λ (l : List ℕ). all_bits 8 octets ++ l) (nil_from_length groups.rest none) ∙ append-nil (all_bits 8 octets)

  digits_behind : (characters : List ℕ) → all_digits (front ++ characters) ≡ all_bits 8 octets ++ all_digits characters
  digits_behind characters =
      ap (all_bits 6) (map-append (digit SixtyFour) front characters)
      ∙ all_bits-append 6 (map (digit SixtyFour) front) (map (digit SixtyFour) characters) ∙ ap (λ (l : List ℕ). l ++ all_digits characters) same_bits

  pub groups_behind : (more others : List ℕ) → Groups SixtyFour more others → Groups SixtyFour (front ++ more) (octets ++ others)
  groups_behind more others is = record {
    each = each_append (IsCharacter SixtyFour) front more groups.each is.each;
    are_octets = each_append IsOctet octets others groups.are_octets is.are_octets;
    rest = is.rest;
    cut =
        digits_behind more ∙ ap (λ (l : List ℕ). all_bits 8 octets ++ l) is.cut
        ∙ sym (append_assoc (all_bits 8 octets) (all_bits 8 others) is.rest)
        ∙ ap (λ (l : List ℕ). l ++ is.rest) (sym (all_bits-append 8 octets others));
    little = is.little;
  }

  pub decodes_behind : (left more : List ℕ) → Decodes64 left more → Decodes64 (front ++ left) (octets ++ more)
  decodes_behind left more is =
      let at = is.text_of in record {
        characters = front ++ is.characters;
        text_of = record {
          pads = at.pads;
          few = at.few;
          written = ap (λ (l : List ℕ). front ++ l) at.written ∙ sym (append_assoc front is.characters (replicate at.pads 61));
          fours = omega (arith, at.fours, whole, length-append front left);
        };
        groups = groups_behind is.characters more is.groups;
      }

  pub none_behind : (left : List ℕ) → NoneIs SixtyFour left → NoneIs SixtyFour (front ++ left)
  none_behind left none others is =
      let at = is.text_of in
      let split = characters_behind front is.characters left at.pads groups.each is.groups.each at.written in
      let cut = octets_behind octets others (all_digits split.behind) is.groups.rest is.groups.are_octets (omega (arith, is.groups.little))
      (sym (digits_behind split.behind) ∙ ap all_digits (sym split.is) ∙ is.groups.cut) in
      none cut.behind (record {
        characters = split.behind;
        text_of = record { pads = at.pads; few = at.few; written = split.written; fours = omega (arith, at.fours, whole, length-append front left) };
        groups = record { each = split.each; are_octets = cut.are; rest = is.groups.rest; cut = cut.cut; little = is.groups.little };
      })

-- what is left of a text after whole groups of characters, which are these octets
pub record Leaves (text left octets : List ℕ) : Type 0 where
  pub on : (more : List ℕ) → Decodes64 left more → Decodes64 text (octets ++ more)
  pub none : NoneIs SixtyFour left → NoneIs SixtyFour text

pub leaves_all : (text : List ℕ) → Leaves text text []
leaves_all text = record { on = λ more decodes. decodes; none = λ none. none }

pub leaves_less : {text left octets : List ℕ} (front behind group : List ℕ) → Leaves text left octets → left ≡ front ++ behind
    → Groups SixtyFour front group → length front % 4 ≡ 0 → Leaves text behind (octets ++ group)
leaves_less {text} {left} {octets} front behind group leaves is groups whole = record {
  on = λ more decodes.
      subst (λ (l : List ℕ). Decodes64 text l) (sym (append_assoc octets group more))
      (leaves.on (group ++ more) (subst (λ (l : List ℕ). Decodes64 l (group ++ more)) (sym is) (decodes_behind front group groups whole behind more decodes)));
  none = λ none. leaves.none (subst (NoneIs SixtyFour) (sym is) (none_behind front group groups whole behind none));
}

-- the first four of octets, and the others
pub four_first : (text : List ℕ) → 4 ≤ length text
    → text ≡ (get_or text 0 0 ∷ get_or text 1 0 ∷ get_or text 2 0 ∷ get_or text 3 0 ∷ []) ++ take (length text - 4) (drop 4 text)
four_first [] some = absurd (omega arith)
four_first (a ∷ []) some = absurd (omega arith)
four_first (a ∷ b ∷ []) some = absurd (omega arith)
four_first (a ∷ b ∷ c ∷ []) some = absurd (omega arith)
four_first (a ∷ b ∷ c ∷ d ∷ text) some =
    ap (λ (l : List ℕ). a ∷ b ∷ c ∷ d ∷ l) (sym (take_all (length (a ∷ b ∷ c ∷ d ∷ text) - 4) text (omega arith)))

-- four digits, and three octets, as one number
four_joined : (a b c d : ℕ) → b < 64 → c < 64 → d < 64
    → all_bits 6 (a ∷ b ∷ c ∷ d ∷ []) ≡ bits 24 (a * 2 ^ 18 + (b * 2 ^ 12 + (c * 2 ^ 6 + d)))
four_joined a b c d few less small =
    sym
    (bits_join 6 18 a (b * 2 ^ 12 + (c * 2 ^ 6 + d)) (omega arith)
    ∙ ap (λ (l : List ℕ). bits 6 a ++ l)
    (bits_join 6 12 b (c * 2 ^ 6 + d) (omega arith)
    ∙ ap (λ (l : List ℕ). bits 6 b ++ l) (bits_join 6 6 c d small ∙ ap (λ (l : List ℕ). bits 6 c ++ l) (sym (append-nil (bits 6 d))))))

three_joined : (x y z : ℕ) → y < 256 → z < 256 → all_bits 8 (x ∷ y ∷ z ∷ []) ≡ bits 24 (x * 2 ^ 16 + (y * 2 ^ 8 + z))
three_joined x y z few less =
    sym
    (bits_join 8 16 x (y * 2 ^ 8 + z) (omega arith)
    ∙ ap (λ (l : List ℕ). bits 8 x ++ l) (bits_join 8 8 y z less ∙ ap (λ (l : List ℕ). bits 8 y ++ l) (sym (append-nil (bits 8 z)))))

same_number : (a b c d x y z : ℕ) → b < 64 → c < 64 → d < 64 → x ≡ a * 4 + b / 16 → y ≡ b % 16 * 16 + c / 4 → z ≡ c % 4 * 64 + d
    → all_bits 6 (a ∷ b ∷ c ∷ d ∷ []) ≡ all_bits 8 (x ∷ y ∷ z ∷ [])
same_number a b c d x y z few less small first second third =
    let same : a * 2 ^ 18 + (b * 2 ^ 12 + (c * 2 ^ 6 + d)) ≡ x * 2 ^ 16 + (y * 2 ^ 8 + z) = omega arith in
    four_joined a b c d few less small ∙ ap (bits 24) same ∙ sym (three_joined x y z (omega arith) (omega arith))

pub four_digits : (first second third fourth x y z : ℕ) → digit_64 first < 64 → digit_64 second < 64 → digit_64 third < 64 → digit_64 fourth < 64
    → x ≡ digit_64 first * 4 + digit_64 second / 16 → y ≡ digit_64 second % 16 * 16 + digit_64 third / 4
    → z ≡ digit_64 third % 4 * 64 + digit_64 fourth → Groups SixtyFour (first ∷ second ∷ third ∷ fourth ∷ []) (x ∷ y ∷ z ∷ [])
four_digits first second third fourth x y z a b c d is also as_well = record {
  each = (a, (b, (c, (d, tt))));
  are_octets = (omega (arith, a, b, is), (omega (arith, b, c, also), (omega (arith, c, d, as_well), tt)));
  rest = [];
  cut =
      same_number (digit_64 first) (digit_64 second) (digit_64 third) (digit_64 fourth) x y z b c d is also as_well
      ∙ sym (append-nil (all_bits 8 (x ∷ y ∷ z ∷ [])));
  little = omega arith;
}

-- the text of words is ASCII
plain_ascii : (octet : ℕ) → is_plain octet ≡ true → octet < 128
plain_ascii octet plain = grind (arith, nat_tests)

plain_each : (text : List ℕ) → list_all is_plain text ≡ true → AllByRecursion Ascii text
plain_each [] plain = tt
plain_each (octet ∷ text) plain =
    let both = and_parts (is_plain octet) (list_all is_plain text) plain in (plain_ascii octet both.0, plain_each text both.1)

words_each : (tokens : List Token) (text : List ℕ) → IsEntry IsWord tokens text → AllByRecursion Ascii text
words_each [] text entry = subst (AllByRecursion Ascii) (sym entry) tt
words_each (token ∷ tokens) text entry =
    subst (AllByRecursion Ascii) (sym entry.4) (each_append Ascii entry.0 entry.1 (plain_each entry.0 entry.2.1) (words_each tokens entry.1 entry.3))

words_chars : (tokens : List Token) (text : List ℕ) → IsEntry IsWord tokens text → chars text ≡ text
words_chars tokens text entry = chars-IsAscii text (is_ascii text (words_each tokens text entry))

-- what was scanned and decoded
pub base64_appended : (tokens left : List Token) (text octets old new : List ℕ) → IsEntry IsWord tokens text → left ≡ []
    → Decodes64 text octets → new ≡ old ++ octets → AppendsBase64 tokens left old new
base64_appended tokens left text octets old new entry none decodes behind = record {
  text = text;
  octets = octets;
  entry = entry;
  decodes = subst (λ (l : List ℕ). Decodes64 l octets) (sym (words_chars tokens text entry)) decodes;
  none = none;
  behind = behind;
}

pub no_base64 : (tokens : List Token) (text : List ℕ) → IsEntry IsWord tokens text → NoneIs SixtyFour text → SpellsNoBase64 tokens
no_base64 tokens text entry none other octets also decodes =
    let same : chars other ≡ text = words_chars tokens other also ∙ words_one tokens other text also entry in
    none octets (subst (λ (l : List ℕ). Decodes64 l octets) same decodes)

-- groups that a text begins with
pub groups_none : (text old : List ℕ) → AppendsGroups text text old old
groups_none text old = record {
  front = [];
  octets = [];
  is = refl;
  groups = record { each = tt; are_octets = tt; rest = []; cut = refl; little = omega arith };
  whole = refl;
  behind = sym (append-nil old);
}

pub groups_more : {text left old now new : List ℕ} (first behind group : List ℕ) → AppendsGroups text left old now → left ≡ first ++ behind
    → Groups SixtyFour first group → length first % 4 ≡ 0 → new ≡ now ++ group → AppendsGroups text behind old new
groups_more {old = old} first behind group so is groups whole appended = record {
  front = so.front ++ first;
  octets = so.octets ++ group;
  is = so.is ∙ ap (λ (l : List ℕ). so.front ++ l) is ∙ sym (append_assoc so.front first behind);
  groups = groups_behind so.front so.octets so.groups so.whole first group groups;
  whole = omega (arith, length-append so.front first, so.whole, whole);
  behind = appended ∙ ap (λ (l : List ℕ). l ++ group) so.behind ∙ append_assoc old so.octets group;
}

pub groups_leave : {text left old new : List ℕ} (so : AppendsGroups text left old new) → Leaves text left so.octets
groups_leave {text} {left} so = leaves_less so.front left so.octets (leaves_all text) so.is so.groups so.whole

-- if nothing is left, the token that has the text
pub token_groups : {tokens left : List Token} {text end old new : List ℕ} → Takes (HasText text) tokens left → end ≡ []
    → AppendsGroups text end old new → BeginsWithGroups tokens old new
token_groups {left = left} {text} takes none so =
    let same : so.front ≡ takes.token.text =
    sym (takes.fits ∙ so.is ∙ ap (λ (l : List ℕ). so.front ++ l) none ∙ append-nil so.front) in record {
      token = takes.token;
      left = left;
      is = takes.is;
      octets = so.octets;
      groups = subst (λ (l : List ℕ). Groups SixtyFour l so.octets) same so.groups;
      whole = subst (λ (l : List ℕ). length l % 4 ≡ 0) same so.whole;
      behind = so.behind;
    }

-- words that were taken, before others in base 64
pub record TakesOn (tokens left : List Token) (old now : List ℕ) : Type 0 where
  pub on : (end : List Token) (new : List ℕ) → AppendsBase64 left end now new → AppendsBase64 tokens end old new
  pub none : SpellsNoBase64 left → SpellsNoBase64 tokens

pub takes_none : (tokens : List Token) (old : List ℕ) → TakesOn tokens tokens old old
takes_none tokens old = record { on = λ end new is. is; none = λ none. none }

pub takes_word : {tokens before left : List Token} {old now new : List ℕ} → TakesOn tokens before old now → (begins : BeginsWithGroups before now new)
    → (word : List ℕ) → Takes (IsWord word) before left → TakesOn tokens left old new
takes_word {before = before} {left} {now = now} so begins word takes =
    let both : begins.token ∷ begins.left ≡ takes.token ∷ left = sym begins.is ∙ takes.is in
    let first : begins.token ≡ takes.token = cc in
    let same : begins.token.text ≡ word = ap (λ (t : Token). t.text) (first ∙ takes.fits.0) in
    let groups : Groups SixtyFour word begins.octets = subst (λ (l : List ℕ). Groups SixtyFour l begins.octets) same begins.groups in
    let whole : length word % 4 ≡ 0 = subst (λ (l : List ℕ). length l % 4 ≡ 0) same begins.whole in record {
      on = λ end last is.
          let text = word ++ is.text in
          let entry : IsEntry IsWord before text =
          subst (λ (t : List Token). IsEntry IsWord t text) (sym takes.is) (word, is.text, takes.fits, is.entry, refl) in
          let decodes = subst (λ (l : List ℕ). Decodes64 l is.octets) (words_chars left is.text is.entry) is.decodes in
          so.on end last (record {
            text = text;
            octets = begins.octets ++ is.octets;
            entry = entry;
            decodes =
                subst (λ (l : List ℕ). Decodes64 l (begins.octets ++ is.octets)) (sym (words_chars before text entry))
                (decodes_behind word begins.octets groups whole is.text is.octets decodes);
            none = is.none;
            behind = is.behind ∙ ap (λ (l : List ℕ). l ++ is.octets) begins.behind ∙ append_assoc now begins.octets is.octets;
          });
      none = λ none. so.none (λ text octets entry decodes.
          let at = subst (λ (t : List Token). IsEntry IsWord t text) takes.is entry in
          let piece : at.0 ≡ word = ap (λ (t : Token). t.text) (sym at.2.0 ∙ takes.fits.0) in
          let whole_text : chars text ≡ word ++ at.1 = words_chars before text entry ∙ at.4 ∙ ap (λ (l : List ℕ). l ++ at.1) piece in
          none_behind word begins.octets groups whole at.1
          (λ others is. none at.1 others at.3 (subst (λ (l : List ℕ). Decodes64 l others) (sym (words_chars left at.1 at.3)) is))
          octets (subst (λ (l : List ℕ). Decodes64 l octets) whole_text decodes));
    }

-- a token that is no word
pub no_word : {tokens : List Token} → (tokens ≡ [] → ⊥) → ((word : List ℕ) (left : List Token) → Takes (IsWord word) tokens left → ⊥)
    → SpellsNoBase64 tokens
no_word {tokens = []} some none text octets entry decodes = some refl
no_word {tokens = token ∷ tokens} some none text octets entry decodes =
    none entry.0 tokens (record { token = token; is = refl; fits = entry.2 })

-- octets that were appended, and others behind them
pub goes_none : (old : List ℕ) → GoesOn old old
goes_none old = record { more = []; is = sym (append-nil old) }

pub goes_join : {old middle new : List ℕ} → GoesOn old middle → GoesOn middle new → GoesOn old new
goes_join {old} first second = record {
  more = first.more ++ second.more;
  is = second.is ∙ ap (λ (l : List ℕ). l ++ second.more) first.is ∙ append_assoc old first.more second.more;
}

pub groups_go : {text left old new : List ℕ} → AppendsGroups text left old new → GoesOn old new
groups_go so = record { more = so.octets; is = so.behind }

pub goes_back : {old middle new : List ℕ} {count : ℕ} → GoesOn old middle → count ≡ length old → new ≡ take count middle → GoesOn old new
goes_back {old} {middle} goes is back = record {
  more = [];
  is = back ∙ ap (λ (n : ℕ). take n middle) is ∙ ap (take {A = ℕ} (length old)) goes.is ∙ take-append_seam old goes.more ∙ sym (append-nil old);
}

pub goes_same : {old middle new : List ℕ} → GoesOn old middle → new ≡ middle → GoesOn old new
goes_same goes is = record { more = goes.more; is = is ∙ goes.is }

-- a group of four characters is three octets
three_by : (octets : List ℕ) → length octets ≡ 3 → octets ≡ get_or octets 0 0 ∷ get_or octets 1 0 ∷ get_or octets 2 0 ∷ []
three_by [] is = absurd (omega (arith, is))
three_by (x ∷ []) is = absurd (omega (arith, is))
three_by (x ∷ y ∷ []) is = absurd (omega (arith, is))
three_by (x ∷ y ∷ z ∷ []) is = refl
three_by (x ∷ y ∷ z ∷ w ∷ octets) is = absurd (omega (arith, is))

three_of : {a b c d : ℕ} (octets : List ℕ) → Groups SixtyFour (a ∷ b ∷ c ∷ d ∷ []) octets
    → octets ≡ get_or octets 0 0 ∷ get_or octets 1 0 ∷ get_or octets 2 0 ∷ []
three_of {a} {b} {c} {d} octets is =
    let digits = map (digit SixtyFour) (a ∷ b ∷ c ∷ d ∷ []) in
    let all : length (all_bits 8 octets ++ is.rest) ≡ 24 = sym (ap (length {A = ℕ}) is.cut) ∙ length-all_bits 6 digits in
    let little : length is.rest < 6 = is.little in
    three_by octets (omega (arith, all, length-append (all_bits 8 octets) is.rest, length-all_bits 8 octets, little))

-- which are appended one after another
pub three_pushed : {a b c d : ℕ} (old octets : List ℕ) → Groups SixtyFour (a ∷ b ∷ c ∷ d ∷ []) octets → {first second last : List ℕ}
    → first ≡ old ++ get_or octets 0 0 ∷ [] → second ≡ first ++ get_or octets 1 0 ∷ [] → last ≡ second ++ get_or octets 2 0 ∷ [] → last ≡ old ++ octets
three_pushed old octets is one two three =
    let x = get_or octets 0 0 in
    let y = get_or octets 1 0 in
    let z = get_or octets 2 0 in
    three ∙ ap (λ (l : List ℕ). l ++ z ∷ []) (two ∙ ap (λ (l : List ℕ). l ++ y ∷ []) one ∙ append_assoc old (x ∷ []) (y ∷ []))
    ∙ append_assoc old (x ∷ y ∷ []) (z ∷ []) ∙ ap (λ (l : List ℕ). old ++ l) (sym (three_of octets is))

-- a group with padding
two_cut : (a b x : ℕ) → b < 64 → x ≡ a * 4 + b / 16 → all_bits 6 (a ∷ b ∷ []) ≡ all_bits 8 (x ∷ []) ++ bits 4 (b % 16)
two_cut a b x small is =
    let same : a * 2 ^ 6 + b ≡ x * 2 ^ 4 + b % 16 = omega (arith, is) in
    ap (λ (l : List ℕ). bits 6 a ++ l) (append-nil (bits 6 b)) ∙ sym (bits_join 6 6 a b small) ∙ ap (bits 12) same
    ∙ bits_join 8 4 x (b % 16) (omega arith) ∙ ap (λ (l : List ℕ). l ++ bits 4 (b % 16)) (sym (append-nil (bits 8 x)))

three_cut : (a b c x y : ℕ) → b < 64 → c < 64 → x ≡ a * 4 + b / 16 → y ≡ b % 16 * 16 + c / 4
    → all_bits 6 (a ∷ b ∷ c ∷ []) ≡ all_bits 8 (x ∷ y ∷ []) ++ bits 2 (c % 4)
three_cut a b c x y small less is also =
    let same : a * 2 ^ 12 + (b * 2 ^ 6 + c) ≡ x * 2 ^ 10 + (y * 2 ^ 2 + c % 4) = omega (arith, is, also) in
    let first : all_bits 6 (a ∷ b ∷ c ∷ []) ≡ bits 18 (a * 2 ^ 12 + (b * 2 ^ 6 + c)) =
    sym (bits_join 6 12 a (b * 2 ^ 6 + c) (omega arith)
    ∙ ap (λ (l : List ℕ). bits 6 a ++ l) (bits_join 6 6 b c less ∙ ap (λ (l : List ℕ). bits 6 b ++ l) (sym (append-nil (bits 6 c))))) in
    first ∙ ap (bits 18) same
    ∙ bits_join 8 10 x (y * 2 ^ 2 + c % 4) (omega (arith, also))
    ∙ ap (λ (l : List ℕ). bits 8 x ++ l) (bits_join 8 2 y (c % 4) (omega arith))
    ∙ sym (append_assoc (bits 8 x) (bits 8 y) (bits 2 (c % 4)))
    ∙ ap (λ (l : List ℕ). (bits 8 x ++ l) ++ bits 2 (c % 4)) (sym (append-nil (bits 8 y)))

pub two_digits : (first second x : ℕ) → digit_64 first < 64 → digit_64 second < 64 → x ≡ digit_64 first * 4 + digit_64 second / 16
    → Groups SixtyFour (first ∷ second ∷ []) (x ∷ [])
two_digits first second x a b is = record {
  each = (a, (b, tt));
  are_octets = (omega (arith, a, b, is), tt);
  rest = bits 4 (digit_64 second % 16);
  cut = two_cut (digit_64 first) (digit_64 second) x b is;
  little = omega (arith, length-bits 4 (digit_64 second % 16));
}

pub three_digits : (first second third x y : ℕ) → digit_64 first < 64 → digit_64 second < 64 → digit_64 third < 64
    → x ≡ digit_64 first * 4 + digit_64 second / 16 → y ≡ digit_64 second % 16 * 16 + digit_64 third / 4
    → Groups SixtyFour (first ∷ second ∷ third ∷ []) (x ∷ y ∷ [])
three_digits first second third x y a b c is also = record {
  each = (a, (b, (c, tt)));
  are_octets = (omega (arith, a, b, is), (omega (arith, b, c, also), tt));
  rest = bits 2 (digit_64 third % 4);
  cut = three_cut (digit_64 first) (digit_64 second) (digit_64 third) x y b c is also;
  little = omega (arith, length-bits 2 (digit_64 third % 4));
}

pub padded_text : {characters octets old new : List ℕ} (text : List ℕ) (pads : ℕ) → Groups SixtyFour characters octets → 0 < pads → pads < 4
    → text ≡ characters ++ replicate pads 61 → length text % 4 ≡ 0 → new ≡ old ++ octets → AppendsPadded text old new
padded_text {characters} {octets} text pads groups some few written fours behind = record {
  octets = octets;
  decodes = record {
    characters = characters;
    text_of = record { pads = pads; few = few; written = written; fours = fours };
    groups = groups;
  };
  some = some;
  behind = behind;
}

four_all : (text : List ℕ) → length text ≡ 4 → text ≡ get_or text 0 0 ∷ get_or text 1 0 ∷ get_or text 2 0 ∷ get_or text 3 0 ∷ []
four_all [] is = absurd (omega (arith, is))
four_all (a ∷ []) is = absurd (omega (arith, is))
four_all (a ∷ b ∷ []) is = absurd (omega (arith, is))
four_all (a ∷ b ∷ c ∷ []) is = absurd (omega (arith, is))
four_all (a ∷ b ∷ c ∷ d ∷ []) is = refl
four_all (a ∷ b ∷ c ∷ d ∷ e ∷ text) is = absurd (omega (arith, is))

pub one_padded : {octet : ℕ} {old new : List ℕ} (text : List ℕ) → length text ≡ 4 → get_or text 2 0 ≡ 61 → get_or text 3 0 ≡ 61
    → Groups SixtyFour (get_or text 0 0 ∷ get_or text 1 0 ∷ []) (octet ∷ []) → new ≡ old ++ octet ∷ [] → AppendsPadded text old new
one_padded text four pad last groups behind =
    let written = four_all text four ∙ (λ i. get_or text 0 0 ∷ get_or text 1 0 ∷ pad i ∷ last i ∷ []) in
    padded_text text 2 groups (omega arith) (omega arith) written (omega (arith, four)) behind

pub two_padded : {octets old new : List ℕ} (text : List ℕ) → length text ≡ 4 → get_or text 3 0 ≡ 61
    → Groups SixtyFour (get_or text 0 0 ∷ get_or text 1 0 ∷ get_or text 2 0 ∷ []) octets → new ≡ old ++ octets → AppendsPadded text old new
two_padded text four last groups behind =
    let written = four_all text four ∙ (λ i. get_or text 0 0 ∷ get_or text 1 0 ∷ get_or text 2 0 ∷ last i ∷ []) in
    padded_text text 1 groups (omega arith) (omega arith) written (omega (arith, four)) behind

-- behind whole groups
pub padded_behind : {text left old now new : List ℕ} → AppendsGroups text left old now → AppendsPadded left now new → AppendsPadded text old new
unfolding decodes_behind
padded_behind {text} {left} {old} so padded =
    let decodes = decodes_behind so.front so.octets so.groups so.whole left padded.octets padded.decodes in
    let at = decodes.text_of in record {
      octets = so.octets ++ padded.octets;
      decodes = record {
        characters = decodes.characters;
        text_of = record {
          pads = at.pads;
          few = at.few;
          written = so.is ∙ at.written;
          fours = ap (λ (l : List ℕ). length l % 4) so.is ∙ at.fours;
        };
        groups = decodes.groups;
      };
      some = padded.some;
      behind = padded.behind ∙ ap (λ (l : List ℕ). l ++ padded.octets) so.behind ∙ append_assoc old so.octets padded.octets;
    }

-- nothing follows padding
pads_first : (behind more : List ℕ) (pads others : ℕ) → AllByRecursion (IsCharacter SixtyFour) behind → 0 < pads
    → replicate pads 61 ++ more ≡ behind ++ replicate others 61 → behind ≡ []
pads_first [] more pads others each some same = refl
pads_first (c ∷ behind) more zero others each some same = absurd (omega (arith, some))
pads_first (c ∷ behind) more (suc pads) others each some same =
    let pad : c ≡ 61 = cc in absurd (no_pad (subst (IsCharacter SixtyFour) pad each.0))

pub pads_end : {text octets : List ℕ} (decodes : Decodes64 text octets) → 0 < decodes.text_of.pads → (more others : List ℕ)
    → Decodes64 (text ++ more) others → more ≡ []
pads_end {text} decodes some more others also =
    let at = decodes.text_of in
    let there = also.text_of in
    let whole : decodes.characters ++ (replicate at.pads 61 ++ more) ≡ also.characters ++ replicate there.pads 61 =
    sym (append_assoc decodes.characters (replicate at.pads 61) more) ∙ ap (λ (l : List ℕ). l ++ more) (sym at.written) ∙ there.written in
    let split = characters_behind decodes.characters also.characters (replicate at.pads 61 ++ more) there.pads decodes.groups.each also.groups.each whole in
    let none = pads_first split.behind more at.pads there.pads split.each some split.written in
    let all : length (replicate at.pads 61 ++ more) ≡ length (replicate there.pads 61) =
    ap (length {A = ℕ}) (split.written ∙ ap (λ (l : List ℕ). l ++ replicate there.pads 61) none) in
    nil_from_length more (omega (
      arith,
      all,
      length-append (replicate at.pads 61) more,
      length-replicate {A = ℕ} at.pads 61,
      length-replicate {A = ℕ} there.pads 61,
      at.fours,
      there.fours,
      length-append text more,
      there.few,
      some,
    ))

-- the last word
pub no_tokens : (tokens : List Token) (some : Bool) → some ≡ false → ((tokens ≡ [] → ⊥) → some ≡ true) → tokens ≡ []
no_tokens [] some off are = refl
no_tokens (token ∷ tokens) some off are = let bad : true ≡ false = sym (are (λ none. cc)) ∙ off in absurd cc

pub last_alone : {tokens left : List Token} (word : List ℕ) → Takes (IsWord word) tokens left → left ≡ [] → IsLastWord tokens
last_alone {left = left} word takes none =
    record { word = word; left = left; takes = takes; none = subst (λ (l : List Token). IsEntry IsWord l []) (sym none) refl }

pub last_empty : {tokens left : List Token} {text : List ℕ} {word : List ℕ} → Takes (IsWord word) tokens left → IsEntry IsWord left text → IsLastWord tokens
    → text ≡ []
last_empty {left = left} {text} takes entry is =
    let both : is.takes.token ∷ is.left ≡ takes.token ∷ left = sym is.takes.is ∙ takes.is in
    let rest : is.left ≡ left = cc in words_one left text [] entry (subst (λ (l : List Token). IsEntry IsWord l []) rest is.none)

-- the token that has such a text
pub token_padded : {tokens left : List Token} {text old new : List ℕ} → Takes (HasText text) tokens left → AppendsPadded text old new
    → BeginsPadded tokens old new
token_padded {left = left} {old = old} {new} takes padded = record {
  token = takes.token;
  left = left;
  is = takes.is;
  appends = subst (λ (l : List ℕ). AppendsPadded l old new) (sym takes.fits) padded;
}

module _ {tokens before : List Token} {old now new : List ℕ} (so : TakesOn tokens before old now) (begins : BeginsPadded before now new) where
  same_word : {word : List ℕ} {left : List Token} → Takes (IsWord word) before left → begins.token.text ≡ word
  same_word {left = left} takes =
      let both : begins.token ∷ begins.left ≡ takes.token ∷ left = sym begins.is ∙ takes.is in
      let first : begins.token ≡ takes.token = cc in ap (λ (t : Token). t.text) (first ∙ takes.fits.0)

  -- it is the last word
  pub padded_last : IsLastWord before → (end : List Token) → end ≡ [] → AppendsBase64 tokens end old new
  padded_last is end none =
      let text = is.word ++ [] in
      let entry : IsEntry IsWord before text =
      subst (λ (t : List Token). IsEntry IsWord t text) (sym is.takes.is) (is.word, [], is.takes.fits, is.none, refl) in
      let whole : begins.token.text ≡ text = same_word is.takes ∙ sym (append-nil is.word) in
      so.on end new (base64_appended before end text begins.appends.octets now new entry none
      (subst (λ (l : List ℕ). Decodes64 l begins.appends.octets) whole begins.appends.decodes) begins.appends.behind)

  -- or there is no text in base 64
  pub padded_none : (IsLastWord before → ⊥) → SpellsNoBase64 tokens
  padded_none none = so.none (λ text octets entry decodes.
      let at = subst (λ (t : List Token). IsEntry IsWord t text) begins.is entry in
      let takes : Takes (IsWord at.0) before begins.left = record { token = begins.token; is = begins.is; fits = at.2 } in
      let whole : chars text ≡ begins.token.text ++ at.1 =
      words_chars before text entry ∙ at.4 ∙ ap (λ (l : List ℕ). l ++ at.1) (sym (same_word takes)) in
      let ended = pads_end begins.appends.decodes begins.appends.some at.1 octets (subst (λ (l : List ℕ). Decodes64 l octets) whole decodes) in
      none (record { word = at.0; left = begins.left; takes = takes; none = subst (IsEntry IsWord begins.left) ended at.3 }))
