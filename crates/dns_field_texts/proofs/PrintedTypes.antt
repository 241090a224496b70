-- Facts on bitmaps: one that is printed scans back, and bitmaps with the same types are the same octets.
use Rattle.std.proofs.Common.{◌≡◌, ◌≤◌, ◌<◌, ◌+◌, ◌*◌, ◌==◌, ◌⊎◌, ℕ, suc, true, false, cond, List, [], ◌∷◌, ◌++◌, length, arith, refl, subst, ap, inl, inr, ⊎_elim, ◌∙◌}
use Rattle.std.specs.List.{flat_map}
use Rattle.dns_scan.specs.Bits.{all_bits}
use Rattle.dns_field_texts.specs.TypeWords.{type_word_written}
use Rattle.dns_field_texts.specs.TypeBitmap.{Window, window_octets, IsWindow, AreWindows, IsBitmapFrom, IsTypeBitmap, ones_from, window_types, types_in, SpellTypes, ScansTypes, printed_types}
use Rattle.dns_field_texts.proofs.TypeBits.{In, length-all}
use Rattle.dns_field_texts.proofs.TypeWords.{type_word_reads_back, type_word_plain}
use Rattle.dns_field_texts.proofs.TypeWindows.{types_of}

-- an element of two lists
pub in_append : (xs ys : List ℕ) (t : ℕ) → In (xs ++ ys) t → In xs t ⊎ In ys t
in_append [] ys t is = inr is
in_append (x ∷ xs) ys t (inl is) = inl (inl is)
in_append (x ∷ xs) ys t (inr is) = ⊎_elim (λ h. inl (inr h)) (λ h. inr h) (in_append xs ys t is)

pub in_left : (xs ys : List ℕ) (t : ℕ) → In xs t → In (xs ++ ys) t
in_left [] ys t is = absurd is
in_left (x ∷ xs) ys t (inl is) = inl is
in_left (x ∷ xs) ys t (inr is) = inr (in_left xs ys t is)

pub in_right : (xs ys : List ℕ) (t : ℕ) → In ys t → In (xs ++ ys) t
in_right [] ys t is = is
in_right (x ∷ xs) ys t is = inr (in_right xs ys t is)

-- the bounds of types
pub record Within (first limit t : ℕ) : Type 0 where
  pub from : first ≤ t
  pub below : t < limit

pub ones_within : (first : ℕ) (xs : List ℕ) (t : ℕ) → In (ones_from first xs) t → Within first (first + length xs) t
ones_within first [] t is = absurd is
ones_within first (x ∷ xs) t is =
    elim (x == 1) as (λ one. In (cond one (first ∷ ones_from (first + 1) xs) (ones_from (first + 1) xs)) t → Within first (first + suc (length xs)) t) [
      | true ↦ (λ h. ⊎_elim (λ e. record { from = omega (arith, e); below = omega (arith, e) }) (λ more. later (ones_within (first + 1) xs t more)) h)
      | false ↦ (λ more. later (ones_within (first + 1) xs t more))
    ] is
  where
    later : Within (first + 1) (first + 1 + length xs) t → Within first (first + suc (length xs)) t
    later is = let a = is.from in let b = is.below in record { from = omega (arith, a); below = omega (arith, b) }

pub window_within : (window : Window) → IsWindow window → (t : ℕ) → In (window_types window) t → Within (256 * window.number) (256 * (window.number + 1)) t
window_within window is t has =
    let within = ones_within (256 * window.number) (all_bits 8 window.octets) t has in
    let a = within.from in let b = within.below in let c = length-all window.octets in let d = is.few in
    record { from = a; below = omega (arith, b, c, d) }

pub windows_from : (low : ℕ) (windows : List Window) → AreWindows low windows → (t : ℕ) → In (flat_map window_types windows) t → Within (256 * low) 65536 t
windows_from low [] are t has = absurd has
windows_from low (window ∷ windows) are t has =
    ⊎_elim
    (λ h.
    let within = window_within window are.1 t h in
    let a = within.from in let b = within.below in let c = are.0 in let d = are.1.small in
    record { from = omega (arith, a, c); below = omega (arith, b, d) })
    (λ h.
    let within = windows_from (window.number + 1) windows are.2 t h in
    let a = within.from in let c = are.0 in
    record { from = omega (arith, a, c); below = within.below })
    (in_append (window_types window) (flat_map window_types windows) t has)

-- how a bitmap is printed scans as it
spelled : (types : List ℕ) → ((t : ℕ) → In types t → t < 65536) → SpellTypes (printed_types types) types
spelled [] small = refl
spelled (type ∷ types) small =
    let one : type < 65536 = small type (inl refl) in (
      type,
      types,
      record { text = type_word_written type; word = (refl, type_word_plain type one); reads = type_word_reads_back type one },
      spelled types (λ t is. small t (inr is)),
      refl,
    )

pub same_windows : {low : ℕ} (octets : List ℕ) → IsBitmapFrom low octets → (windows : List Window) × AreWindows low windows
    × (octets ≡ flat_map window_octets windows) × (types_in octets ≡ flat_map window_types windows)
same_windows octets is = (is.windows, is.are, is.written, ap types_in is.written ∙ types_of is.windows)

pub printed_scans_back : (octets : List ℕ) → IsTypeBitmap octets → ScansTypes (printed_types (types_in octets)) [] octets
printed_scans_back octets is =
    let parts = same_windows octets is in
    let small : (t : ℕ) → In (types_in octets) t → t < 65536 =
    λ t has. (windows_from 0 parts.0 parts.1 t (subst (λ (l : List ℕ). In l t) parts.3 has)).below in
    record {
      types = types_in octets;
      spelled = spelled (types_in octets) small;
      none = refl;
      bitmap = record { bitmap = is; same = λ t. (λ h. h, λ h. h) };
    }
