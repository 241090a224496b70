-- Strings as tokens: scanned and printed.
use Rattle.std.proofs.Common.{◌≡◌, ◌<◌, ℕ, List, [], ◌∷◌, ◌++◌, length, map, refl, sym, ◌∙◌, ap, subst, arith, append-nil, append_assoc}
use Rattle.std.specs.List.{AllByRecursion, flat_map}
use Rattle.std.proofs.lemmas.List.{map-append}
use Rattle.dns_scan.specs.StringText.{quoted_text}
use Rattle.dns_scan.specs.Token.{Token, IsEntry, IsStringOnWire}
use Rattle.dns_text.specs.Document.{Piece}
use Rattle.dns_text.specs.Document.Piece.{Token as Shown}
use Rattle.dns_text.specs.Writing.{Adds}
use Rattle.dns_text.proofs.Writings.{adds_append}
use Rattle.dns_scan.specs.CharStr.{string_wire}
use Rattle.dns_fields.specs.Fields.{Strings, IsString, strings}
use Rattle.dns_fields.specs.Scanned.{AreStrings, ScansField, NoRowScans}
use Rattle.dns_fields.specs.Shown.{field_pieces}
use Rattle.dns_fields.specs.Strings.{AreStringOctets}
use Rattle.dns_fields.proofs.FieldKinds.{of_strings}
use Rattle.dns_fields.proofs.ScanLeaves.{one_field}
use Rattle.dns_fields.proofs.StringsOf.{strings_one}

-- the strings of tokens, as they are on the wire
record Entry (tokens : List Token) (octets : List ℕ) : Type 0 where
  each : List (List ℕ)
  are : AreStrings tokens each
  short : AllByRecursion IsString each
  written : octets ≡ flat_map string_wire each

entry : (tokens : List Token) (octets : List ℕ) → IsEntry IsStringOnWire tokens octets → Entry tokens octets
entry [] octets is = record { each = []; are = tt; short = tt; written = is }
entry (token ∷ tokens) octets is =
    let string = is.2.0 in
    let on = entry tokens is.1 is.3 in
    record {
      each = string ∷ on.each;
      are = (is.2.1, on.are);
      short = (is.2.1.short, on.short);
      written = is.4 ∙ ap (λ l. l ++ is.1) is.2.2 ∙ ap (λ l. string_wire string ++ l) on.written;
    }

some_strings : (tokens : List Token) (each : List (List ℕ)) → (tokens ≡ [] → ⊥) → AreStrings tokens each → 0 < length each
some_strings [] each some are = absurd (some refl)
some_strings (token ∷ tokens) [] some are = absurd are
some_strings (token ∷ tokens) (string ∷ each) some are = omega arith

-- the octets of all tokens are strings, where there are tokens
pub entry_strings : (tokens : List Token) (octets : List ℕ) → (tokens ≡ [] → ⊥) → IsEntry IsStringOnWire tokens octets → AreStringOctets octets
entry_strings tokens octets some is =
    let all = entry tokens octets is in
    record { each = all.each; is_field = (some_strings tokens all.each some all.are, all.short); written = all.written }

-- they are those that the tokens spell
pub entry_scanned : (names : List ℕ → List (List ℕ) → Type 0) (tokens left : List Token) (octets : List ℕ) (each : List (List ℕ)) → (tokens ≡ [] → ⊥)
    → IsEntry IsStringOnWire tokens octets → octets ≡ flat_map string_wire each → left ≡ [] → ScansField names (strings each) tokens left
entry_scanned names tokens left octets each some is written ends =
    let all = entry tokens octets is in
    let same : all.each ≡ each = strings_one all.each each (sym all.written ∙ written) in
    subst (λ (l : List (List ℕ)). ScansField names (strings l) tokens left) same (some_strings tokens all.each some all.are, all.are, ends)

entry_back : (tokens : List Token) (each : List (List ℕ)) → AreStrings tokens each → IsEntry IsStringOnWire tokens (flat_map string_wire each)
entry_back [] [] are = refl
entry_back [] (string ∷ each) are = absurd are
entry_back (token ∷ tokens) [] are = absurd are
entry_back (token ∷ tokens) (string ∷ each) are =
    (string_wire string, flat_map string_wire each, (string, are.0, refl), entry_back tokens each are.1, refl)

pub no_strings : (names : List ℕ → List (List ℕ) → Type 0) (tokens : List Token) → ((octets : List ℕ) → IsEntry IsStringOnWire tokens octets → ⊥)
    → NoRowScans names (Strings ∷ []) tokens
no_strings names tokens none =
    one_field names tokens Strings
    (λ field left is. of_strings (λ f. ScansField names f tokens left → ⊥) field (λ each scans. none (flat_map string_wire each) (entry_back tokens each scans.1)) is)

pub no_tokens : (names : List ℕ → List (List ℕ) → Type 0) (tokens : List Token) → ((tokens ≡ [] → ⊥) → ⊥) → NoRowScans names (Strings ∷ []) tokens
no_tokens names tokens none =
    one_field names tokens Strings
    (λ field left kind.
    of_strings (λ f. ScansField names f tokens left → ⊥) field
    (λ each scans. none (λ is. bare each scans.0 (subst (λ (t : List Token). AreStrings t each) is scans.1))) kind)
  where
    bare : (each : List (List ℕ)) → 0 < length each → AreStrings [] each → ⊥
    bare [] some are = omega arith
    bare (string ∷ each) some are = are

-- the strings that are printed so far
pub record Printed {F : Type 0} (writes : F → List Piece → F → Type 0) (start : F) (each left : List (List ℕ)) (now : F) : Type 0 where
  pub front : List (List ℕ)
  pub all : front ++ left ≡ each
  pub adds : Adds writes start (map Shown (map quoted_text front)) now

pub none_printed : {F : Type 0} (writes : F → List Piece → F → Type 0) (start : F) (each : List (List ℕ)) → Printed writes start each each start
none_printed writes start each = record { front = []; all = refl; adds = λ begin front before. before }

pub more_printed : {F : Type 0} (writes : F → List Piece → F → Type 0) (start before now : F) (each left behind : List (List ℕ)) (string : List ℕ)
    → Printed writes start each left before → left ≡ string ∷ behind → Adds writes before (Shown (quoted_text string) ∷ []) now
    → Printed writes start each behind now
more_printed writes start before now each left behind string so_far is adds = record {
  front = so_far.front ++ string ∷ [];
  all = append_assoc so_far.front (string ∷ []) behind ∙ ap (λ l. so_far.front ++ l) (sym is) ∙ so_far.all;
  adds =
      let pieces : map Shown (map quoted_text (so_far.front ++ string ∷ [])) ≡ map Shown (map quoted_text so_far.front) ++ Shown (quoted_text string) ∷ [] =
      ap (map Shown) (map-append quoted_text so_far.front (string ∷ [])) ∙ map-append Shown (map quoted_text so_far.front) (quoted_text string ∷ []) in
      subst (λ (l : List Piece). Adds writes start l now) (sym pieces)
      (adds_append writes start before now (map Shown (map quoted_text so_far.front)) (Shown (quoted_text string) ∷ []) so_far.adds adds);
}

pub all_printed : {F : Type 0} (writes : F → List Piece → F → Type 0) (start now : F) (each left : List (List ℕ)) → Printed writes start each left now
    → left ≡ [] → Adds writes start (field_pieces (strings each)) now
all_printed writes start now each left so_far none =
    let front : so_far.front ≡ each = sym (append-nil so_far.front) ∙ ap (λ l. so_far.front ++ l) (sym none) ∙ so_far.all in
    subst (λ (l : List (List ℕ)). Adds writes start (map Shown l) now)
    (ap (map quoted_text) front) so_far.adds
