-- Facts on the windows of bitmaps.
use Rattle.std.proofs.Common.{◌≡◌, ◌≤◌, ◌<◌, ◌+◌, ◌*◌, ◌-◌, ℕ, zero, suc, List, [], ◌∷◌, ◌++◌, length, take, drop, min, replicate, slice_index, arith, refl, sym, subst, ap, ⊎_elim, ◌∙◌, append_assoc, append-nil, length-append}
use Rattle.std.specs.List.{flat_map, AllByRecursion}
use Rattle.std.proofs.Math.Seq.{take-append_seam, drop-append_seam}
use Rattle.dns_scan.specs.Bits.{bits, all_bits}
use Rattle.dns_field_texts.specs.Appended.{Appends, GoesOn}
use Rattle.dns_field_texts.specs.TypeBitmap.{Window, window_octets, IsWindow, AreWindows, IsBitmapFrom, windows_up_to, ones_from, window_types, types_in}
use Rattle.dns_field_texts.specs.Windows.{BeginsWithWindow, AreWindowOctets, IsBitmapWith, IsTrimmed, window_or_none}
use Rattle.dns_field_texts.proofs.TypeBits.{types_append, types_zeros}

-- the windows of their octets are these
windows_back : (windows : List Window) (more : ℕ) → length windows ≤ more → windows_up_to more (flat_map window_octets windows) ≡ windows
unfolding windows_up_to
windows_back [] zero enough = refl
windows_back [] (suc more) enough = refl
windows_back (window ∷ windows) zero enough = absurd (omega arith)
windows_back (window ∷ windows) (suc more) enough =
    let rest = flat_map window_octets windows in
    let front : take (length window.octets) (window.octets ++ rest) ≡ window.octets = take-append_seam window.octets rest in
    let back : drop (length window.octets) (window.octets ++ rest) ≡ rest = drop-append_seam window.octets rest in
    let again : windows_up_to more rest ≡ windows = windows_back windows more (omega arith) in
    let parts : ◌≡◌ {A = Window} (record { number = window.number; octets = take (length window.octets) (window.octets ++ rest) }) window =
    ap (λ (l : List ℕ). record { number = window.number; octets = l }) front in
    ap (λ w. w ∷ windows_up_to more (drop (length window.octets) (window.octets ++ rest))) parts
    ∙ ap (λ (l : List Window). window ∷ l) (ap (windows_up_to more) back ∙ again)

enough_octets : (windows : List Window) → length windows ≤ length (flat_map window_octets windows)
enough_octets [] = omega arith
enough_octets (window ∷ windows) =
    let l = length-append window.octets (flat_map window_octets windows) in
    let e = enough_octets windows in
    omega (arith, l, e)

pub types_of : (windows : List Window) → types_in (flat_map window_octets windows) ≡ flat_map window_types windows
unfolding types_in
types_of windows =
    ap (λ (l : List Window). flat_map window_types l) (windows_back windows (length (flat_map window_octets windows)) (enough_octets windows))

-- one window more at the end
flat_push : (f : Window → List ℕ) (windows : List Window) (window : Window) → flat_map f (windows ++ window ∷ []) ≡ flat_map f windows ++ f window
flat_push f [] window = append-nil (f window)
flat_push f (first ∷ windows) window =
    ap (λ (l : List ℕ). f first ++ l) (flat_push f windows window) ∙ sym (append_assoc (f first) (flat_map f windows) (f window))

are_push : (low : ℕ) (windows : List Window) (window : Window) → AreWindows low windows → AllByRecursion (λ w. w.number < window.number) windows
    → low ≤ window.number → IsWindow window → AreWindows low (windows ++ window ∷ [])
are_push low [] window are before from is = (from, is, tt)
are_push low (first ∷ windows) window are before from is =
    let b = before.0 in (are.0, are.1, are_push (first.number + 1) windows window are.2 before.1 (omega (arith, b)) is)

before_more : (windows : List Window) (number : ℕ) → AllByRecursion (λ w. w.number < number) windows
    → AllByRecursion (λ w. w.number < number + 1) windows
before_more [] number before = tt
before_more (window ∷ windows) number before = let b = before.0 in (omega (arith, b), before_more windows number before.1)

before_push : (windows : List Window) (window : Window) (number : ℕ) → AllByRecursion (λ w. w.number < number) windows → window.number < number
    → AllByRecursion (λ w. w.number < number) (windows ++ window ∷ [])
before_push [] window number before is = (is, tt)
before_push (first ∷ windows) window number before is = (before.0, before_push windows window number before.1 is)

-- the windows that are written so far
pub record Written (bits old new : List ℕ) (number : ℕ) (left : List ℕ) : Type 0 where
  pub done : List ℕ
  pub whole : bits ≡ done ++ left
  pub long : length done + length left ≤ 8192
  pub at : 0 < length left → length done ≡ 32 * number
  pub windows : List Window
  pub behind : new ≡ old ++ flat_map window_octets windows
  pub are : AreWindows 0 windows
  pub before : AllByRecursion (λ w. w.number < number) windows
  pub types : flat_map window_types windows ≡ ones_from 0 (all_bits 8 done)

pub none_written : (bits old : List ℕ) → length bits ≤ 8192 → Written bits old old 0 bits
none_written bits old small = record {
  done = [];
  whole = refl;
  long = omega arith;
  at = λ some. refl;
  windows = [];
  behind = sym (append-nil old);
  are = tt;
  before = tt;
  types = refl;
}

module _ (bits old new : List ℕ) (number : ℕ) (left : List ℕ) (so_far : Written bits old new number left) (some : 0 < length left)
    (window behind : List ℕ) (split : left ≡ window ++ behind) (few : length window ≡ min 32 (length left)) where
  lengths : length left ≡ length window + length behind
  lengths = ap length split ∙ length-append window behind

  whole_more : bits ≡ (so_far.done ++ window) ++ behind
  whole_more = so_far.whole ∙ ap (λ (l : List ℕ). so_far.done ++ l) split ∙ sym (append_assoc so_far.done window behind)

  long_more : length (so_far.done ++ window) + length behind ≤ 8192
  long_more = let a = so_far.long in let b = length-append so_far.done window in let c = lengths in omega (arith, a, b, c)

  at_more : 0 < length behind → length (so_far.done ++ window) ≡ 32 * (number + 1)
  at_more more = let a = so_far.at some in let b = length-append so_far.done window in let c = lengths in omega (arith, a, b, c, few)

  pub small_number : number < 256
  small_number = let a = so_far.at some in let b = so_far.long in omega (arith, a, b)

  type_start : 0 + 8 * length so_far.done ≡ 256 * number
  type_start = let a = so_far.at some in omega (arith, a)

  pub write_none : (count : ℕ) (after : List ℕ) → window ≡ replicate count 0 → after ≡ new → Written bits old after (number + 1) behind
  write_none count after zeros same = record {
    done = so_far.done ++ window;
    whole = whole_more;
    long = long_more;
    at = at_more;
    windows = so_far.windows;
    behind = same ∙ so_far.behind;
    are = so_far.are;
    before = before_more so_far.windows number so_far.before;
    types = so_far.types ∙ sym (ap (λ (l : List ℕ). ones_from 0 (all_bits 8 (so_far.done ++ l))) zeros ∙ types_zeros 0 so_far.done count);
  }

  module _ (trimmed : List ℕ) (count : ℕ) (after : List ℕ) (is : window ≡ trimmed ++ replicate count 0) (any : 0 < length trimmed)
      (last : slice_index trimmed (length trimmed - 1) ≡ 0 → ⊥)
      (written : after ≡ new ++ (number ∷ length trimmed ∷ trimmed)) where
    is_window : IsWindow (record { number = number; octets = trimmed })
    is_window =
        let a = ap length is ∙ length-append trimmed (replicate count 0) in
        record { small = small_number; some = any; few = omega (arith, a, few); last = last }

    types_more : ones_from 0 (all_bits 8 (so_far.done ++ window)) ≡ ones_from 0 (all_bits 8 so_far.done) ++ ones_from (256 * number) (all_bits 8 trimmed)
    types_more =
        types_append 0 so_far.done window
        ∙ ap (λ n. ones_from 0 (all_bits 8 so_far.done) ++ ones_from n (all_bits 8 window)) type_start
        ∙ ap (λ (l : List ℕ). ones_from 0 (all_bits 8 so_far.done) ++ l)
        (ap (λ (l : List ℕ). ones_from (256 * number) (all_bits 8 l)) is ∙ types_zeros (256 * number) trimmed count)

    pub write_one : Written bits old after (number + 1) behind
    write_one =
        let w : Window = record { number = number; octets = trimmed } in
        record {
          done = so_far.done ++ window;
          whole = whole_more;
          long = long_more;
          at = at_more;
          windows = so_far.windows ++ w ∷ [];
          behind = written ∙ ap (λ (l : List ℕ). l ++ window_octets w) so_far.behind
              ∙ append_assoc old (flat_map window_octets so_far.windows) (window_octets w)
              ∙ ap (λ (l : List ℕ). old ++ l) (sym (flat_push window_octets so_far.windows w));
          are = are_push 0 so_far.windows w so_far.are so_far.before (omega arith) is_window;
          before = before_push so_far.windows w (number + 1) (before_more so_far.windows number so_far.before) (omega arith);
          types = flat_push window_types so_far.windows w
              ∙ ap (λ (l : List ℕ). l ++ window_types w) so_far.types ∙ sym types_more;
        }

  pub write_more : (trimmed after : List ℕ) → IsTrimmed window trimmed → after ≡ new ++ window_or_none number trimmed
      → Written bits old after (number + 1) behind
  write_more [] after is written = write_none is.zeros after is.is (written ∙ append-nil new)
  write_more (octet ∷ octets) after is written =
      write_one (octet ∷ octets) is.zeros after is.is (omega arith) (⊎_elim (λ none. absurd (cons_none octet octets none)) (λ last. last) is.last) written
    where
      cons_none : (x : ℕ) (xs : List ℕ) → x ∷ xs ≡ [] → ⊥
      cons_none x xs e = cc

pub all_written : (bits old new : List ℕ) (number : ℕ) (left : List ℕ) → Written bits old new number left → left ≡ []
    → Appends (IsBitmapWith (ones_from 0 (all_bits 8 bits))) old new
all_written bits old new number left so_far none =
    let whole : bits ≡ so_far.done = so_far.whole ∙ ap (λ (l : List ℕ). so_far.done ++ l) none ∙ append-nil so_far.done in
    record {
      octets = flat_map window_octets so_far.windows;
      are = record {
        bitmap = record { windows = so_far.windows; are = so_far.are; written = refl };
        are = types_of so_far.windows ∙ so_far.types ∙ ap (λ (l : List ℕ). ones_from 0 (all_bits 8 l)) (sym whole);
      };
      behind = so_far.behind;
    }

pub goes_on : (bits old new : List ℕ) (number : ℕ) (left : List ℕ) → Written bits old new number left → GoesOn old new
goes_on bits old new number left so_far = record { more = flat_map window_octets so_far.windows; is = so_far.behind }

-- two lists that begin with lists of one length
pub front_one : (xs ys us vs : List ℕ) → length xs ≡ length ys → xs ++ us ≡ ys ++ vs → (xs ≡ ys) × (us ≡ vs)
front_one [] [] us vs long is = (refl, is)
front_one [] (y ∷ ys) us vs long is = absurd (omega arith)
front_one (x ∷ xs) [] us vs long is = absurd (omega arith)
front_one (x ∷ xs) (y ∷ ys) us vs long is =
    let rest : xs ++ us ≡ ys ++ vs = cc in
    let again = front_one xs ys us vs (omega arith) rest in
    let first : x ≡ y = cc in
    let front = again.0 in
    (cc, again.1)

-- a bitmap that begins with a window
pub bitmap_cons : (low number : ℕ) (octets window behind : List ℕ) → BeginsWithWindow octets number window behind → low ≤ number
    → AreWindowOctets window → IsBitmapFrom (number + 1) behind → IsBitmapFrom low octets
bitmap_cons low number octets window behind begins from are rest =
    let w : Window = record { number = number; octets = window } in
    record {
      windows = w ∷ rest.windows;
      are = (from, record { small = begins.small; some = are.some; few = are.few; last = are.last }, rest.are);
      written = begins.written ∙ ap (λ (l : List ℕ). number ∷ length window ∷ (window ++ l)) rest.written;
    }

nil_cons : (x : ℕ) (xs ys : List ℕ) → ys ≡ x ∷ xs → ys ≡ [] → ⊥
nil_cons x xs ys is none = cc

-- the windows of octets that begin with a window
pub record Uncons (low number : ℕ) (window behind : List ℕ) (windows : List Window) : Type 0 where
  pub first : Window
  pub rest : List Window
  pub are_all : windows ≡ first ∷ rest
  pub from : low ≤ first.number
  pub is : IsWindow first
  pub are : AreWindows (first.number + 1) rest
  pub number_is : first.number ≡ number
  pub octets_are : first.octets ≡ window
  pub behind_is : behind ≡ flat_map window_octets rest

pub uncons : (low number : ℕ) (octets window behind : List ℕ) → BeginsWithWindow octets number window behind
    → (windows : List Window) → AreWindows low windows → octets ≡ flat_map window_octets windows → Uncons low number window behind windows
uncons low number octets window behind begins [] are written =
    absurd (nil_cons number (length window ∷ (window ++ behind)) octets begins.written written)
uncons low number octets window behind begins (first ∷ rest) are written =
    let all : number ∷ length window ∷ (window ++ behind) ≡ first.number ∷ length first.octets ∷ (first.octets ++ flat_map window_octets rest) =
    sym begins.written ∙ written in
    let numbers : first.number ≡ number = cc in
    let long : length first.octets ≡ length window = cc in
    let tails : first.octets ++ flat_map window_octets rest ≡ window ++ behind = cc in
    let both = front_one first.octets window (flat_map window_octets rest) behind long tails in
    record {
      first = first;
      rest = rest;
      are_all = refl;
      from = are.0;
      is = are.1;
      are = are.2;
      number_is = numbers;
      octets_are = both.0;
      behind_is = sym both.1;
    }

pub record Follows (low number : ℕ) (window behind : List ℕ) : Type 0 where
  pub from : low ≤ number
  pub are : AreWindowOctets window
  pub rest : IsBitmapFrom (number + 1) behind

window_octets_are : (first : Window) → IsWindow first → AreWindowOctets first.octets
window_octets_are first is = record { some = is.some; few = is.few; last = is.last }

pub bitmap_uncons : (low number : ℕ) (octets window behind : List ℕ) → BeginsWithWindow octets number window behind → IsBitmapFrom low octets
    → Follows low number window behind
bitmap_uncons low number octets window behind begins is =
    let parts = uncons low number octets window behind begins is.windows is.are is.written in
    record {
      from = (let f = parts.from in let n = parts.number_is in omega (arith, f, n));
      are = subst AreWindowOctets parts.octets_are (window_octets_are parts.first parts.is);
      rest = record {
        windows = parts.rest;
        are = subst (λ n. AreWindows (n + 1) parts.rest) parts.number_is parts.are;
        written = parts.behind_is;
      };
    }

-- octets that begin with no window are those of none
pub begins_window : (window : Window) (octets rest : List ℕ) → window.number < 256 → octets ≡ window_octets window ++ rest
    → BeginsWithWindow octets window.number window.octets rest
begins_window window octets rest small written = record { written = written; small = small }

pub no_windows : (low : ℕ) (octets : List ℕ) (windows : List Window) → AreWindows low windows → octets ≡ flat_map window_octets windows
    → ((number : ℕ) (window behind : List ℕ) → BeginsWithWindow octets number window behind → ⊥) → windows ≡ []
no_windows low octets [] are written none = refl
no_windows low octets (window ∷ windows) are written none =
    absurd (none window.number window.octets (flat_map window_octets windows)
    (begins_window window octets (flat_map window_octets windows) are.1.small written))

pub bitmap_end : (low : ℕ) (octets : List ℕ) → IsBitmapFrom low octets
    → ((number : ℕ) (window behind : List ℕ) → BeginsWithWindow octets number window behind → ⊥) → octets ≡ []
bitmap_end low octets is none =
    is.written ∙ ap (λ (l : List Window). flat_map window_octets l) (no_windows low octets is.windows is.are is.written none)

pub bitmap_nil : (low : ℕ) (octets : List ℕ) → octets ≡ [] → IsBitmapFrom low octets
bitmap_nil low octets is = record { windows = []; are = tt; written = is }
