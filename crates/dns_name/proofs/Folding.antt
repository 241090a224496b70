-- Octets and names as a spelling compares them: up to ASCII case where it folds.
use Rattle.std.proofs.Common.{◌≡◌, ℕ, Bool, true, false, List, [], ◌∷◌, ◌++◌, length, map, refl, sym, ◌∙◌, ap}
use Rattle.std.specs.Prelude.{if◌then◌else◌}
use Rattle.std.specs.Char.{to_ascii_lowercase}
use Rattle.std.proofs.lemmas.List.{map-append, length-map}
use Rattle.std.proofs.lemmas.Str.Ascii.{lowercase-lowercase}
use lib.Pointwise.{bytes_decides}
use Rattle.dns_label.specs.Name.{wire}
use Rattle.dns_name.specs.Spelling.{Spelling, folded, is_same, remembered_form}

pub same_is : (s : Spelling) (one other : List ℕ) → is_same s one other ≡ true → folded s one ≡ folded s other
same_is s one other same = (bytes_decides (folded s one) (folded s other)).0 same

pub same_from : (s : Spelling) (one other : List ℕ) → folded s one ≡ folded s other → is_same s one other ≡ true
same_from s one other same = (bytes_decides (folded s one) (folded s other)).1 same

pub length-folded : (s : Spelling) (octets : List ℕ) → length (folded s octets) ≡ length octets
length-folded s octets = by_case s.folds
  where
    by_case : (folds : Bool) → length (if folds then map to_ascii_lowercase octets else octets) ≡ length octets
    by_case true = length-map octets to_ascii_lowercase
    by_case false = refl

lowered_twice : (octets : List ℕ) → map to_ascii_lowercase (map to_ascii_lowercase octets) ≡ map to_ascii_lowercase octets
lowered_twice [] = refl
lowered_twice (octet ∷ octets) =
    ap (λ n. n ∷ map to_ascii_lowercase (map to_ascii_lowercase octets)) (lowercase-lowercase octet)
    ∙ ap (λ (l : List ℕ). to_ascii_lowercase octet ∷ l) (lowered_twice octets)

pub folded-folded : (s : Spelling) (octets : List ℕ) → folded s (folded s octets) ≡ folded s octets
folded-folded s octets = by_case s.folds
  where
    by_case : (folds : Bool)
        → (if folds then map to_ascii_lowercase (if folds then map to_ascii_lowercase octets else octets) else (if folds then map to_ascii_lowercase octets else octets))
        ≡ (if folds then map to_ascii_lowercase octets else octets)
    by_case true = lowered_twice octets
    by_case false = refl

pub folded-append : (s : Spelling) (front more : List ℕ) → folded s (front ++ more) ≡ folded s front ++ folded s more
folded-append s front more = by_case s.folds
  where
    by_case : (folds : Bool) → (if folds then map to_ascii_lowercase (front ++ more) else front ++ more)
        ≡ (if folds then map to_ascii_lowercase front else front) ++ (if folds then map to_ascii_lowercase more else more)
    by_case true = map-append to_ascii_lowercase front more
    by_case false = refl

-- a suffix is the same as what it is remembered by
pub folded-form : (s : Spelling) (name : List (List ℕ)) → folded s (remembered_form s name) ≡ folded s (wire name)
folded-form s [] = refl
folded-form s (label ∷ parent) =
    ap (λ n. folded s (n ∷ folded s label ++ remembered_form s parent)) (length-folded s label)
    ∙ folded-append s (length label ∷ []) (folded s label ++ remembered_form s parent)
    ∙ ap (λ (l : List ℕ). folded s (length label ∷ []) ++ l)
    (folded-append s (folded s label) (remembered_form s parent)
    ∙ ap (λ (l : List ℕ). l ++ folded s (remembered_form s parent)) (folded-folded s label)
    ∙ ap (λ (l : List ℕ). folded s label ++ l) (folded-form s parent)
    ∙ sym (folded-append s label (wire parent)))
    ∙ sym (folded-append s (length label ∷ []) (label ++ wire parent))

-- if nothing is folded, a suffix is remembered by its own octets
pub form-exact : (s : Spelling) (name : List (List ℕ)) → s.folds ≡ false → remembered_form s name ≡ wire name
form-exact s [] exact = refl
form-exact s (label ∷ parent) exact =
    let here : folded s label ≡ label = rw exact refl in
    ap (λ (l : List ℕ). length l ∷ l ++ remembered_form s parent) here
    ∙ ap (λ (l : List ℕ). length label ∷ label ++ l) (form-exact s parent exact)
