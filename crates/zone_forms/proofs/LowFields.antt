-- Fields of further types as text, each number by its low eight bits: tokens are one row at most of numbers that read as octets.
use Rattle.std.proofs.Common.{◌≡◌, ◌↔◌, ◌∙◌, ◌+◌, ◌-◌, ◌*◌, ℕ, zero, suc, List, [], ◌∷◌, ◌++◌, length, map, slice_index, refl, sym, ap, subst, arith}
use Rattle.std.specs.List.{Contains, flat_map}
use Rattle.std.proofs.lemmas.List.{length-map, map-append}
use Rattle.dns_scan.specs.Token.{Token}
use Rattle.dns_fields.specs.Fields.{Field, field_octets, octets, rest16}
use Rattle.dns_fields.specs.SpelledNames.{SpellOne}
use Rattle.dns_fields.proofs.FieldKinds.{of_rest16}
use Rattle.dns_field_texts.specs.TypeBitmap.{AreWindows, IsTypeBitmap, IsWindow, ScansTypes, Window, ones_from, types_in, window_octets, window_types}
use Rattle.dns_field_texts.proofs.TypeWindows.{types_of}
use Rattle.dns_fields_more.specs.declared.form.Form.{Form}
use Rattle.dns_fields_more.specs.declared.form.Form.TheVariants.{Number8, Number16, Number32, Name, CasedName, String, RestText, Rest16, Rest64, Rtype as RtypeForm, Algorithm, CertificateType, Time, Salt, Hash, Types, Parameters, Location as LocationForm, Eui48, Eui64}
use Rattle.dns_fields_more.specs.Text.{ScansForm, ScansForms}
use Rattle.dns_fields_more.proofs.OneRow.{AreClear, Clear, clear_one}
use Rattle.zone_forms.proofs.HexedNumbers.{AreHexed, all_low, hexed_zero, low, low_again, low_bits, low_octets}

hexed_apart : (xs ys : List ℕ) → AreHexed (xs ++ ys) → AreHexed xs × AreHexed ys
hexed_apart [] ys are = (tt, are)
hexed_apart (x ∷ xs) ys are = let both = hexed_apart xs ys are.1 in ((are.0, both.0), both.1)

-- windows
abbrev low_window : Window → Window
low_window window = record { number = window.number; octets = all_low window.octets }

low_at : (numbers : List ℕ) (i : ℕ) → AreHexed numbers → slice_index (all_low numbers) i ≡ 0 → slice_index numbers i ≡ 0
low_at [] i are is = refl
low_at (number ∷ numbers) zero are is = hexed_zero number are.0 is
low_at (number ∷ numbers) (suc i) are is = low_at numbers i are.1 is

low_length : (numbers : List ℕ) → length (all_low numbers) ≡ length numbers
low_length numbers = length-map numbers low

low_window_is : (window : Window) → IsWindow window → AreHexed window.octets → IsWindow (low_window window)
low_window_is window is are =
    let same = low_length window.octets in
    let some = is.some in
    let few = is.few in record {
      small = is.small;
      some = omega (arith, same, some);
      few = omega (arith, same, few);
      last = λ at. is.last (low_at window.octets (length window.octets - 1) are (subst (λ (n : ℕ). slice_index (all_low window.octets) (n - 1) ≡ 0) same at));
    }

-- what windows keep
record LowWindows (from : ℕ) (windows : List Window) : Type 0 where
  are : AreWindows from (map low_window windows)
  written : all_low (flat_map window_octets windows) ≡ flat_map window_octets (map low_window windows)
  types : flat_map window_types (map low_window windows) ≡ flat_map window_types windows

low_windows : (from : ℕ) (windows : List Window) → AreWindows from windows → AreHexed (flat_map window_octets windows) → LowWindows from windows
low_windows from [] are hexed = record { are = tt; written = refl; types = refl }
low_windows from (window ∷ windows) are hexed =
    let parts = hexed_apart window.octets (flat_map window_octets windows) hexed.1.1 in
    let behind = low_windows (window.number + 1) windows are.2 parts.1 in
    let small = are.1.small in
    let few = are.1.few in
    let number : low window.number ≡ window.number = omega (arith, small) in
    let same = low_length window.octets in
    let count : low (length window.octets) ≡ length (all_low window.octets) = omega (arith, few, same) in
    let rest = map-append low window.octets (flat_map window_octets windows) ∙ ap (λ (l : List ℕ). all_low window.octets ++ l) behind.written in
    record {
      are = (are.0, low_window_is window are.1 parts.0, behind.are);
      written = λ i. number i ∷ count i ∷ rest i;
      types =
          ap (λ (l : List ℕ). ones_from (256 * window.number) l ++ flat_map window_types (map low_window windows)) (low_bits window.octets)
          ∙ ap (λ (l : List ℕ). window_types window ++ l) behind.types;
    }

-- a bitmap
record LowBitmap (numbers : List ℕ) : Type 0 where
  is : IsTypeBitmap (all_low numbers)
  types : types_in (all_low numbers) ≡ types_in numbers

low_bitmap : (numbers : List ℕ) → IsTypeBitmap numbers → AreHexed numbers → LowBitmap numbers
low_bitmap numbers is are =
    let lows = low_windows 0 is.windows is.are (subst AreHexed is.written are) in
    let written : all_low numbers ≡ flat_map window_octets (map low_window is.windows) = ap all_low is.written ∙ lows.written in record {
      is = record { windows = map low_window is.windows; are = lows.are; written = written };
      types =
          ap types_in written ∙ types_of (map low_window is.windows) ∙ lows.types ∙ sym (types_of is.windows) ∙ ap types_in (sym is.written);
    }

low_types : {tokens left : List Token} {numbers : List ℕ} → ScansTypes tokens left numbers → AreHexed numbers
    → ScansTypes tokens left (all_low numbers)
low_types {numbers = numbers} scans are =
    let lows = low_bitmap numbers scans.bitmap.bitmap are in record {
      types = scans.types;
      spelled = scans.spelled;
      none = scans.none;
      bitmap = record {
        bitmap = lows.is;
        same = λ type. subst (λ (l : List ℕ). Contains l type ↔ Contains scans.types type) (sym lows.types) (scans.bitmap.same type);
      };
    }

-- a field
record LowField (names : List ℕ → List (List ℕ) → Type 0) (form : Form) (field : Field) (tokens left : List Token) : Type 0 where
  other : Field
  scans : ScansForm names form other tokens left
  clear : Clear form other
  same : all_low (field_octets other) ≡ all_low (field_octets field)

low_rest : {names : List ℕ → List (List ℕ) → Type 0} {tokens left : List Token} (numbers : List ℕ) → ScansForm names Types (rest16 numbers) tokens left
    → AreHexed numbers → LowField names Types (rest16 numbers) tokens left
low_rest numbers scans are = record {
  other = rest16 (all_low numbers);
  scans = record {
    is = record { kind = refl; is_field = tt; keeps = (low_bitmap numbers scans.is.keeps are).is };
    spelled = low_types scans.spelled are;
  };
  clear = low_octets numbers;
  same = low_again numbers;
}

module _ {names : List ℕ → List (List ℕ) → Type 0} {tokens left : List Token} where
  itself : {form : Form} {field : Field} → ScansForm names form field tokens left → Clear form field → LowField names form field tokens left
  itself {field = field} scans clear = record { other = field; scans = scans; clear = clear; same = refl }

  low_field : (form : Form) (field : Field) → ScansForm names form field tokens left → AreHexed (field_octets field) → LowField names form field tokens left
  low_field Types field scans are =
      of_rest16 (λ f. ScansForm names Types f tokens left → AreHexed (field_octets f) → LowField names Types f tokens left) field (λ numbers. low_rest numbers) scans.is.kind
      scans are
  low_field Number8 field scans are = itself scans tt
  low_field Number16 field scans are = itself scans tt
  low_field Number32 field scans are = itself scans tt
  low_field Name field scans are = itself scans tt
  low_field CasedName field scans are = itself scans tt
  low_field String field scans are = itself scans tt
  low_field RestText field scans are = itself scans tt
  low_field Rest16 field scans are = itself scans tt
  low_field Rest64 field scans are = itself scans tt
  low_field RtypeForm field scans are = itself scans tt
  low_field Algorithm field scans are = itself scans tt
  low_field CertificateType field scans are = itself scans tt
  low_field Time field scans are = itself scans tt
  low_field Salt field scans are = itself scans tt
  low_field Hash field scans are = itself scans tt
  low_field Parameters field scans are = itself scans tt
  low_field LocationForm field scans are = itself scans tt
  low_field Eui48 field scans are = itself scans tt
  low_field Eui64 field scans are = itself scans tt

-- a row
record LowRow (names : List ℕ → List (List ℕ) → Type 0) (forms : List Form) (row : List Field) (tokens left : List Token) : Type 0 where
  other : List Field
  scans : ScansForms names forms other tokens left
  clear : AreClear forms other
  same : all_low (octets other) ≡ all_low (octets row)

low_row : {names : List ℕ → List (List ℕ) → Type 0} (forms : List Form) (row : List Field) {tokens left : List Token}
    → ScansForms names forms row tokens left → AreHexed (octets row) → LowRow names forms row tokens left
low_row [] [] scans are = record { other = []; scans = scans; clear = tt; same = refl }
low_row [] (field ∷ row) scans are = absurd scans
low_row (form ∷ forms) [] scans are = absurd scans
low_row (form ∷ forms) (field ∷ row) scans are =
    let parts = hexed_apart (field_octets field) (octets row) are in
    let first = low_field form field scans.1 parts.0 in
    let behind = low_row forms row scans.2 parts.1 in record {
      other = first.other ∷ behind.other;
      scans = (scans.0, first.scans, behind.scans);
      clear = (first.clear, behind.clear);
      same =
          map-append low (field_octets first.other) (octets behind.other) ∙ (λ i. first.same i ++ behind.same i)
          ∙ sym (map-append low (field_octets field) (octets row));
    }

-- so rows that the same tokens are have the same low bits
pub rows_low : (names : List ℕ → List (List ℕ) → Type 0) (forms : List Form) (row other : List Field) (tokens left rest : List Token) → SpellOne names
    → ScansForms names forms row tokens left → ScansForms names forms other tokens rest → AreHexed (octets row) → AreHexed (octets other)
    → all_low (octets row) ≡ all_low (octets other)
rows_low names forms row other tokens left rest once scans also are also_are =
    let first = low_row forms row scans are in
    let second = low_row forms other also also_are in
    sym first.same
    ∙ ap (λ (r : List Field). all_low (octets r))
    (clear_one names once forms first.other second.other tokens left rest first.scans second.scans first.clear second.clear) ∙ second.same
