-- Facts on hardware addresses: what is written of one reads as it.
use Rattle.std.proofs.Common.{◌≡◌, ◌<◌, ◌+◌, ◌*◌, ◌/◌, ◌%◌, ℕ, zero, suc, List, [], ◌∷◌, ◌++◌, length, map, arith, refl, sym, subst, ap, ◌∙◌, append_assoc, append-nil, add-one, length-append}
use Rattle.std.specs.Char.{digit_value}
use Rattle.std.specs.List.{join_with_byte, flat_map}
use Rattle.std.proofs.lemmas.Bool.Decides.{nat_tests}
use Rattle.dns_label.specs.Octets.{AreOctets}
use Rattle.dns_field_texts.specs.Appended.{Appends, GoesOn}
use Rattle.dns_field_texts.specs.Hardware.{IsHexPair, AreHexPairs, IsHardwareText, small_digit, small_pair, hardware_written}
use Rattle.dns_field_texts.specs.HardwareParts.{IsBehind, BeginsWithPair, minus_pair}

-- the text is that of the octets from the one of this index on
abbrev pub Tail : ℕ → List ℕ → List ℕ → Type 0
Tail index text [] = text ≡ []
Tail index text (octet ∷ octets) =
    (behind : List ℕ) × (left : List ℕ) × IsBehind index text behind × BeginsWithPair behind octet left × Tail (suc index) left octets

-- past the first octet the index is of no account
later : (octets text : List ℕ) (i j : ℕ) → Tail (suc i) text octets → Tail (suc j) text octets
later [] text i j tail = tail
later (octet ∷ octets) text i j tail = (tail.0, tail.1, tail.2, tail.3, later octets tail.1 (suc i) (suc j) tail.4)

no_cons : {A : Type 0} (x : A) (xs : List A) → [] ≡ x ∷ xs → ⊥
no_cons x xs e = cc

-- from pairs to the tail, and back
shifted : (octet : ℕ) (octets text : List ℕ) → Tail 0 text (octet ∷ octets) → Tail 1 (45 ∷ text) (octet ∷ octets)
shifted octet octets text tail =
    (tail.0, tail.1, ap (λ (l : List ℕ). 45 ∷ l) tail.2, tail.3, later octets tail.1 0 1 tail.4)

tail_of : (pairs : List (List ℕ)) (octets : List ℕ) → AreHexPairs pairs octets → Tail 0 (join_with_byte 45 pairs) octets
tail_of [] octets are = subst (λ (l : List ℕ). Tail 0 [] l) (sym are) refl
tail_of (pair ∷ []) octets are =
    let one : octets ≡ are.0 ∷ [] = are.4 ∙ ap (λ (l : List ℕ). are.0 ∷ l) are.3 in
    subst (λ (l : List ℕ). Tail 0 pair l) (sym one)
    (pair, [], refl, record { pair = pair; is = are.2; written = sym (append-nil pair) }, refl)
tail_of (pair ∷ next ∷ pairs) octets are =
    let more = are.3 in
    let behind = tail_of (next ∷ pairs) are.1 more in
    let rest = subst (λ (l : List ℕ). Tail 0 (join_with_byte 45 (next ∷ pairs)) l) more.4 behind in
    let moved = subst (λ (l : List ℕ). Tail 1 (45 ∷ join_with_byte 45 (next ∷ pairs)) l) (sym more.4)
    (shifted more.0 more.1 (join_with_byte 45 (next ∷ pairs)) rest) in
    subst (λ (l : List ℕ). Tail 0 (pair ++ (45 ∷ join_with_byte 45 (next ∷ pairs))) l) (sym are.4) (
      pair ++ (45 ∷ join_with_byte 45 (next ∷ pairs)),
      45 ∷ join_with_byte 45 (next ∷ pairs),
      refl,
      record { pair = pair; is = are.2; written = refl },
      moved,
    )

pub record Pairs (text octets : List ℕ) : Type 0 where
  pub pairs : List (List ℕ)
  pub written : text ≡ join_with_byte 45 pairs
  pub are : AreHexPairs pairs octets

one_more : (pair text behind left : List ℕ) (octet next : ℕ) (octets : List ℕ) → IsHexPair pair octet → text ≡ pair ++ left → left ≡ 45 ∷ behind
    → (pairs : List (List ℕ)) → behind ≡ join_with_byte 45 pairs → AreHexPairs pairs (next ∷ octets) → Pairs text (octet ∷ next ∷ octets)
one_more pair text behind left octet next octets is written minus [] joined are = absurd (no_cons next octets (sym are))
one_more pair text behind left octet next octets is written minus (first ∷ pairs) joined are =
    record {
      pairs = pair ∷ first ∷ pairs;
      written = written ∙ ap (λ (l : List ℕ). pair ++ l) (minus ∙ ap (λ (l : List ℕ). 45 ∷ l) joined);
      are = (octet, next ∷ octets, is, are, refl);
    }

pairs_of : (octets text : List ℕ) → Tail 0 text octets → Pairs text octets
pairs_of [] text tail = record { pairs = []; written = tail; are = refl }
pairs_of (octet ∷ []) text tail =
    let begins = tail.3 in
    record {
      pairs = begins.pair ∷ [];
      written = tail.2 ∙ begins.written ∙ ap (λ (l : List ℕ). begins.pair ++ l) tail.4 ∙ append-nil begins.pair;
      are = (octet, [], begins.is, refl, refl);
    }
pairs_of (octet ∷ next ∷ octets) text tail =
    let begins = tail.3 in
    let second = tail.4 in
    let rest = pairs_of (next ∷ octets) second.0 (second.0, second.1, refl, second.3, later octets second.1 1 0 second.4) in
    one_more begins.pair text second.0 tail.1 octet next octets begins.is (tail.2 ∙ begins.written) second.2 rest.pairs rest.written rest.are

pub hardware_tail : (count : ℕ) (text octets : List ℕ) → IsHardwareText count text octets → Tail 0 text octets
hardware_tail count text octets is =
    subst (λ (l : List ℕ). Tail 0 l octets) (sym is.written) (tail_of is.pairs octets is.are)

pub tail_hardware : (count : ℕ) (text octets : List ℕ) → Tail 0 text octets → length octets ≡ count → IsHardwareText count text octets
tail_hardware count text octets tail long =
    let parts = pairs_of octets text tail in
    record { pairs = parts.pairs; written = parts.written; are = parts.are; long = long }

-- the octets that are read so far
pub record Read (text : List ℕ) (count : ℕ) (old new : List ℕ) (index : ℕ) (left : List ℕ) : Type 0 where
  pub done : List ℕ
  pub behind : new ≡ old ++ done
  pub long : length done ≡ index
  pub sound : (rest : List ℕ) → Tail index left rest → Tail 0 text (done ++ rest)
  pub all : (octets : List ℕ) → Tail 0 text octets → length octets ≡ count → (rest : List ℕ) × (octets ≡ done ++ rest) × Tail index left rest

pub nothing_read : (text old : List ℕ) (count : ℕ) → Read text count old old 0 text
nothing_read text old count = record {
  done = [];
  behind = sym (append-nil old);
  long = refl;
  sound = λ rest tail. tail;
  all = λ octets tail long. (octets, refl, tail);
}

-- two ways to go on are one
behind_one : (index : ℕ) (text a b : List ℕ) → IsBehind index text a → IsBehind index text b → a ≡ b
behind_one zero text a b is also = sym is ∙ also
behind_one (suc index) text a b is also = cc

pair_one : (text : List ℕ) (a b : ℕ) (x y : List ℕ) → BeginsWithPair text a x → BeginsWithPair text b y → (a ≡ b) × (x ≡ y)
pair_one text a b x y is also =
    let whole : is.is.high ∷ is.is.low ∷ x ≡ also.is.high ∷ also.is.low ∷ y =
    ap (λ (l : List ℕ). l ++ x) (sym is.is.written) ∙ sym is.written ∙ also.written ∙ ap (λ (l : List ℕ). l ++ y) also.is.written in
    let high : is.is.high ≡ also.is.high = cc in
    let low : is.is.low ≡ also.is.low = cc in
    (is.is.is ∙ ap (λ n. 16 * digit_value n + digit_value is.is.low) high ∙ ap (λ n. 16 * digit_value also.is.high + digit_value n) low ∙ sym also.is.is, cc)

module _ (text : List ℕ) (count : ℕ) (old new : List ℕ) (index : ℕ) (left : List ℕ) (so_far : Read text count old new index left) where
  -- a further octet
  rest_some : index < count → (octets : List ℕ) → length octets ≡ count → (rest : List ℕ) → octets ≡ so_far.done ++ rest → (rest ≡ [] → ⊥)
  rest_some before octets long rest is none =
      let e : length octets ≡ length so_far.done + length rest = ap length is ∙ length-append so_far.done rest in
      let z : length rest ≡ 0 = ap length none in
      let d = so_far.long in
      omega (arith, e, z, d)

  pub read_more : (octet : ℕ) (pair behind more : List ℕ) → index < count → IsBehind index left pair → BeginsWithPair pair octet behind
      → more ≡ new ++ octet ∷ [] → Read text count old more (index + 1) behind
  read_more octet pair behind more before minus begins is = record {
    done = so_far.done ++ octet ∷ [];
    behind = is ∙ ap (λ (l : List ℕ). l ++ octet ∷ []) so_far.behind ∙ append_assoc old so_far.done (octet ∷ []);
    long = (let d = so_far.long in omega (arith, d, length-append so_far.done (octet ∷ [])));
    sound = λ rest tail.
        subst (λ (l : List ℕ). Tail 0 text l) (sym (append_assoc so_far.done (octet ∷ []) rest))
        (so_far.sound (octet ∷ rest) (pair, behind, minus, begins, rw add-one at tail));
    all = λ octets tail long.
        let parts = so_far.all octets tail long in
        going_on octets parts.0 long parts.1 parts.2;
  }
    where
      going_on : (octets rest : List ℕ) → length octets ≡ count → octets ≡ so_far.done ++ rest → Tail index left rest
          → (after : List ℕ) × (octets ≡ (so_far.done ++ octet ∷ []) ++ after) × Tail (index + 1) behind after
      going_on octets [] long whole tail = absurd (rest_some before octets long [] whole refl)
      going_on octets (first ∷ rest) long whole tail =
          let same : tail.0 ≡ pair = behind_one index left tail.0 pair tail.2 minus in
          let also = subst (λ (l : List ℕ). BeginsWithPair l first tail.1) same tail.3 in
          let both = pair_one pair first octet tail.1 behind also begins in (
            rest,
            whole ∙ ap (λ n. so_far.done ++ n ∷ rest) both.0 ∙ sym (append_assoc so_far.done (octet ∷ []) rest),
            rw add-one (subst (λ (l : List ℕ). Tail (suc index) l rest) both.1 tail.4),
          )

  -- no further octet
  pub no_minus : index < count → ((behind : List ℕ) → IsBehind index left behind → ⊥) → (octets : List ℕ) → IsHardwareText count text octets → ⊥
  no_minus before none octets is =
      let parts = so_far.all octets (hardware_tail count text octets is) is.long in
      by_rest parts.0 parts.1 parts.2
    where
      by_rest : (rest : List ℕ) → octets ≡ so_far.done ++ rest → Tail index left rest → ⊥
      by_rest [] whole tail = rest_some before octets is.long [] whole refl
      by_rest (first ∷ rest) whole tail = none tail.0 tail.2

  pub no_pair : (pair : List ℕ) → index < count → IsBehind index left pair → ((octet : ℕ) (behind : List ℕ) → BeginsWithPair pair octet behind → ⊥)
      → (octets : List ℕ) → IsHardwareText count text octets → ⊥
  no_pair pair before minus none octets is =
      let parts = so_far.all octets (hardware_tail count text octets is) is.long in
      by_rest parts.0 parts.1 parts.2
    where
      by_rest : (rest : List ℕ) → octets ≡ so_far.done ++ rest → Tail index left rest → ⊥
      by_rest [] whole tail = rest_some before octets is.long [] whole refl
      by_rest (first ∷ rest) whole tail =
          none first tail.1 (subst (λ (l : List ℕ). BeginsWithPair l first tail.1) (behind_one index left tail.0 pair tail.2 minus) tail.3)

  -- the end
  pub all_read : index ≡ count → left ≡ [] → Appends (IsHardwareText count text) old new
  all_read last none =
      let tail = so_far.sound [] none in
      let whole = subst (λ (l : List ℕ). Tail 0 text l) (append-nil so_far.done) tail in
      record { octets = so_far.done; are = tail_hardware count text so_far.done whole (so_far.long ∙ last); behind = so_far.behind }

  pub no_end : index ≡ count → (left ≡ [] → ⊥) → (octets : List ℕ) → IsHardwareText count text octets → ⊥
  no_end last some octets is =
      let parts = so_far.all octets (hardware_tail count text octets is) is.long in
      by_rest parts.0 parts.1 parts.2
    where
      by_rest : (rest : List ℕ) → octets ≡ so_far.done ++ rest → Tail index left rest → ⊥
      by_rest [] whole tail = some tail
      by_rest (first ∷ rest) whole tail =
          let e : length octets ≡ length so_far.done + length (first ∷ rest) = ap length whole ∙ length-append so_far.done (first ∷ rest) in
          let d = so_far.long in
          let l = is.long in
          omega (arith, e, d, l, last)

  pub goes_on : GoesOn old new
  goes_on = record { more = so_far.done; is = so_far.behind }

-- how an address is written, with the first octet apart
written_behind : (octet : ℕ) (octets : List ℕ) → small_pair octet ++ flat_map minus_pair octets ≡ hardware_written (octet ∷ octets)
written_behind octet [] = append-nil (small_pair octet)
written_behind octet (next ∷ octets) = ap (λ (l : List ℕ). small_pair octet ++ (45 ∷ l)) (written_behind next octets)

pub hardware_written-cons : (octets : List ℕ) (octet : ℕ) (more : List ℕ) → octets ≡ octet ∷ more
    → hardware_written octets ≡ small_pair octet ++ flat_map minus_pair more
hardware_written-cons octets octet more is = ap hardware_written is ∙ sym (written_behind octet more)

pub ruleset written_rules = (hardware_written-cons)

-- what is written of an octet is its pair
small_back : (number : ℕ) → number < 16 → digit_value (small_digit number) ≡ number
small_back number small = grind (arith, nat_tests)

pair_is : (octet : ℕ) → octet < 256 → IsHexPair (small_pair octet) octet
pair_is octet small =
    let high = small_back (octet / 16) (omega arith) in
    let low = small_back (octet % 16) (omega arith) in
    record {
      high = small_digit (octet / 16);
      low = small_digit (octet % 16);
      written = refl;
      high_digit = omega (arith, high);
      low_digit = omega (arith, low);
      is = omega (arith, high, low);
    }

pairs_are : (octets : List ℕ) → AreOctets octets → AreHexPairs (map small_pair octets) octets
pairs_are [] are = refl
pairs_are (octet ∷ octets) are = (octet, octets, pair_is octet are.0, pairs_are octets are.1, refl)

-- what is written of an address is of it, and a text is of one address
pub hardware_reads_back : (octets : List ℕ) → AreOctets octets → IsHardwareText (length octets) (hardware_written octets) octets
hardware_reads_back octets are = record { pairs = map small_pair octets; written = refl; are = pairs_are octets are; long = refl }

tail_one : (index : ℕ) (text a b : List ℕ) → Tail index text a → Tail index text b → length a ≡ length b → a ≡ b
tail_one index text [] [] is also long = refl
tail_one index text [] (y ∷ b) is also long = absurd (omega arith)
tail_one index text (x ∷ a) [] is also long = absurd (omega arith)
tail_one index text (x ∷ a) (y ∷ b) is also long =
    let same : is.0 ≡ also.0 = behind_one index text is.0 also.0 is.2 also.2 in
    let both = pair_one also.0 x y is.1 also.1 (subst (λ (l : List ℕ). BeginsWithPair l x is.1) same is.3) also.3 in
    let rest = subst (λ (l : List ℕ). Tail (suc index) l a) both.1 is.4 in
    let behind : a ≡ b = tail_one (suc index) also.1 a b rest also.4 (omega arith) in
    let first : x ≡ y = both.0 in cc

pub hardware_one : (count : ℕ) (text a b : List ℕ) → IsHardwareText count text a → IsHardwareText count text b → a ≡ b
hardware_one count text a b is also =
    tail_one 0 text a b (hardware_tail count text a is) (hardware_tail count text b also) (is.long ∙ sym also.long)
