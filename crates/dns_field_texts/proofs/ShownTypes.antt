-- Facts on bitmaps that are printed.
use Rattle.std.proofs.Common.{◌≡◌, ◌≤◌, ◌<◌, ◌+◌, ◌*◌, ◌-◌, ◌/◌, ◌%◌, ◌^◌, ℕ, suc, List, [], ◌∷◌, ◌++◌, length, take, get_or, arith, refl, sym, subst, ap, ◌∙◌, append_assoc, append-nil, add-one, length-take}
use Rattle.std.specs.List.{flat_map}
use Rattle.std.proofs.Math.Seq.{take-suc}
use Rattle.std.proofs.Math.Nat.{pow-suc, div-div-eq-div-mul}
use Rattle.std.proofs.lemmas.Grind.{flat_map-append}
use Rattle.dns_scan.specs.Bits.{bits, all_bits}
use Rattle.dns_scan.proofs.BitLists.{length-bits}
use Rattle.dns_text.specs.Document.{Piece}
use Rattle.dns_text.specs.Writing.{Adds}
use Rattle.dns_text.proofs.Writings.{adds_append}
use Rattle.dns_field_texts.specs.TypeBitmap.{Window, window_octets, AreWindows, IsTypeBitmap, ones_from, window_types, types_in, type_pieces}
use Rattle.dns_field_texts.specs.Windows.{BeginsWithWindow}
use Rattle.dns_field_texts.proofs.TypeBits.{types_append, ones_append}
use Rattle.dns_field_texts.proofs.TypeWindows.{types_of, uncons, no_windows}

pub pieces_append : (xs ys : List ℕ) → type_pieces (xs ++ ys) ≡ type_pieces xs ++ type_pieces ys
pieces_append [] ys = refl
pieces_append (x ∷ xs) ys = let again = pieces_append xs ys in cc

-- half of a number that was divided by a power of two
div_half : (n k : ℕ) → n / 2 ^ k / 2 ≡ n / 2 ^ suc k
div_half n k = div-div-eq-div-mul n (2 ^ k) 2 ∙ ap (λ m. n / m) (sym (pow-suc 2 k))

module _ {F : Type 0} (writes : F → List Piece → F → Type 0) where
  abbrev pub Shows : F → List ℕ → F → Type 0
  Shows old types new = Adds writes old (type_pieces types) new

  pub shows_more : (a b c : F) (xs ys : List ℕ) → Shows a xs b → Shows b ys c → Shows a (xs ++ ys) c
  shows_more a b c xs ys first second =
      subst (λ (l : List Piece). Adds writes a l c) (sym (pieces_append xs ys))
      (adds_append writes a b c (type_pieces xs) (type_pieces ys) first second)

  pub shows_none : (a : F) → Shows a [] a
  shows_none a = λ start front so_far. so_far

  -- a further bit
  half_step : (octet place : ℕ) → place < 8 → octet / 2 ^ (7 - place) / 2 ≡ octet / 2 ^ (8 - place)
  half_step octet place small =
      let e : 8 - place ≡ suc (7 - place) = omega arith in
      rw e (div_half octet (7 - place))

  bits_step : (octet place : ℕ) → place < 8
      → bits (place + 1) (octet / 2 ^ (8 - (place + 1))) ≡ bits place (octet / 2 ^ (8 - place)) ++ (octet / 2 ^ (7 - place) % 2) ∷ []
  unfolding bits
  bits_step octet place small =
      let e : 8 - (place + 1) ≡ 7 - place = omega arith in
      rw (e, add-one) (ap (λ n. bits place n ++ (octet / 2 ^ (7 - place) % 2) ∷ []) (half_step octet place small))

  ones_step : (first octet place : ℕ) → place < 8
      → ones_from first (bits (place + 1) (octet / 2 ^ (8 - (place + 1))))
      ≡ ones_from first (bits place (octet / 2 ^ (8 - place))) ++ ones_from (first + place) ((octet / 2 ^ (7 - place) % 2) ∷ [])
  ones_step first octet place small =
      ap (ones_from first) (bits_step octet place small)
      ∙ ones_append first (bits place (octet / 2 ^ (8 - place))) ((octet / 2 ^ (7 - place) % 2) ∷ [])
      ∙ ap (λ n. ones_from first (bits place (octet / 2 ^ (8 - place))) ++ ones_from (first + n) ((octet / 2 ^ (7 - place) % 2) ∷ []))
      (length-bits place (octet / 2 ^ (8 - place)))

  pub bit_shown : (a b c : F) (first octet place : ℕ) → place < 8
      → Shows a (ones_from first (bits place (octet / 2 ^ (8 - place)))) b → Shows b (ones_from (first + place) ((octet / 2 ^ (7 - place) % 2) ∷ [])) c
      → Shows a (ones_from first (bits (place + 1) (octet / 2 ^ (8 - (place + 1))))) c
  bit_shown a b c first octet place small before more =
      subst (λ (l : List ℕ). Shows a l c) (sym (ones_step first octet place small))
      (shows_more a b c (ones_from first (bits place (octet / 2 ^ (8 - place)))) (ones_from (first + place) ((octet / 2 ^ (7 - place) % 2) ∷ [])) before more)

  pub no_bit_shown : (a : F) (first octet : ℕ) → Shows a (ones_from first (bits 0 octet)) a
  unfolding bits
  no_bit_shown a first octet = shows_none a

  pub octet_shown : (a b : F) (first octet : ℕ) → Shows a (ones_from first (bits 8 (octet / 2 ^ (8 - 8)))) b → Shows a (ones_from first (bits 8 octet)) b
  octet_shown a b first octet shown =
      let e : octet / 2 ^ (8 - 8) ≡ octet = omega arith in rw e at shown

  pub window_more : (a b c : F) (number index octet : ℕ) (window : List ℕ) → index < length window → get_or window index 0 ≡ octet
      → Shows a (ones_from (256 * number) (all_bits 8 (take index window))) b → Shows b (ones_from (256 * number + 8 * index) (bits 8 octet)) c
      → Shows a (ones_from (256 * number) (all_bits 8 (take (index + 1) window))) c
  window_more a b c number index octet window within is before more =
      subst (λ (l : List ℕ). Shows a l c) (sym step) (shows_more a b c (ones_from (256 * number) (all_bits 8 (take index window))) (ones_from (256 * number + 8 * index) (bits 8 octet)) before more)
    where
      taken : take (index + 1) window ≡ take index window ++ octet ∷ []
      taken = rw add-one (take-suc window index 0 within ∙ ap (λ n. take index window ++ n ∷ []) is)

      long : length (take index window) ≡ index
      long = omega (arith, length-take index window)

      one : all_bits 8 (octet ∷ []) ≡ bits 8 octet
      one = append-nil (bits 8 octet)

      step : ones_from (256 * number) (all_bits 8 (take (index + 1) window))
          ≡ ones_from (256 * number) (all_bits 8 (take index window)) ++ ones_from (256 * number + 8 * index) (bits 8 octet)
      step =
          ap (λ (l : List ℕ). ones_from (256 * number) (all_bits 8 l)) taken
          ∙ types_append (256 * number) (take index window) (octet ∷ [])
          ∙ ap (λ n. ones_from (256 * number) (all_bits 8 (take index window)) ++ ones_from (256 * number + 8 * n) (all_bits 8 (octet ∷ []))) long
          ∙ ap (λ (l : List ℕ). ones_from (256 * number) (all_bits 8 (take index window)) ++ ones_from (256 * number + 8 * index) l) one

  -- the windows that are printed so far
  pub record Shown (start : F) (octets left : List ℕ) (now : F) : Type 0 where
    pub done : List Window
    pub rest : List Window
    pub low : ℕ
    pub are : AreWindows low rest
    pub left_is : left ≡ flat_map window_octets rest
    pub whole : octets ≡ flat_map window_octets (done ++ rest)
    pub shown : Shows start (flat_map window_types done) now

  pub nothing_shown : (start : F) (octets : List ℕ) → IsTypeBitmap octets → Shown start octets octets start
  nothing_shown start octets is = record {
    done = [];
    rest = is.windows;
    low = 0;
    are = is.are;
    left_is = is.written;
    whole = is.written;
    shown = shows_none start;
  }

  -- the next window has at most 32 octets
  pub few_octets : (start now : F) (octets left : List ℕ) → Shown start octets left now → (number : ℕ) (window behind : List ℕ)
      → BeginsWithWindow left number window behind → length window ≤ 32
  few_octets start now octets left so_far number window behind begins =
      let parts = uncons so_far.low number left window behind begins so_far.rest so_far.are so_far.left_is in
      subst (λ (l : List ℕ). length l ≤ 32) parts.octets_are parts.is.few

  pub show_more : (start now after : F) (octets left : List ℕ) → Shown start octets left now → (number : ℕ) (window behind : List ℕ)
      → BeginsWithWindow left number window behind → Shows now (ones_from (256 * number) (all_bits 8 window)) after
      → Shown start octets behind after
  show_more start now after octets left so_far number window behind begins more =
      let parts = uncons so_far.low number left window behind begins so_far.rest so_far.are so_far.left_is in
      let types : window_types parts.first ≡ ones_from (256 * number) (all_bits 8 window) =
      ap (λ n. ones_from (256 * n) (all_bits 8 parts.first.octets)) parts.number_is
      ∙ ap (λ (l : List ℕ). ones_from (256 * number) (all_bits 8 l)) parts.octets_are in
      let one : flat_map window_types (parts.first ∷ []) ≡ ones_from (256 * number) (all_bits 8 window) =
      append-nil (window_types parts.first) ∙ types in
      let all : flat_map window_types (so_far.done ++ parts.first ∷ [])
      ≡ flat_map window_types so_far.done ++ ones_from (256 * number) (all_bits 8 window) =
      flat_map-append window_types so_far.done (parts.first ∷ [])
      ∙ ap (λ (l : List ℕ). flat_map window_types so_far.done ++ l) one in
      record {
        done = so_far.done ++ parts.first ∷ [];
        rest = parts.rest;
        low = parts.first.number + 1;
        are = parts.are;
        left_is = parts.behind_is;
        whole = so_far.whole ∙ ap (λ (l : List Window). flat_map window_octets l)
            (ap (λ (l : List Window). so_far.done ++ l) parts.are_all ∙ sym (append_assoc so_far.done (parts.first ∷ []) parts.rest));
        shown = subst (λ (l : List ℕ). Shows start l after) (sym all) (shows_more start now after (flat_map window_types so_far.done) (ones_from (256 * number) (all_bits 8 window)) so_far.shown more);
      }

  pub all_shown : (start now : F) (octets left : List ℕ) → Shown start octets left now
      → ((number : ℕ) (window behind : List ℕ) → BeginsWithWindow left number window behind → ⊥) → Shows start (types_in octets) now
  all_shown start now octets left so_far none =
      let rest : so_far.rest ≡ [] = no_windows so_far.low left so_far.rest so_far.are so_far.left_is none in
      let whole : octets ≡ flat_map window_octets so_far.done =
      so_far.whole ∙ ap (λ (l : List Window). flat_map window_octets (so_far.done ++ l)) rest
      ∙ ap (λ (l : List Window). flat_map window_octets l) (append-nil so_far.done) in
      let types : types_in octets ≡ flat_map window_types so_far.done = ap types_in whole ∙ types_of so_far.done in
      subst (λ (l : List ℕ). Shows start l now) (sym types) so_far.shown
