-- Facts on types that are scanned.
use Rattle.std.proofs.Common.{◌≡◌, ◌↔◌, ℕ, zero, suc, List, [], ◌∷◌, ◌++◌, get_or, arith, refl, sym, subst, inl, inr, ⊎_elim, append_assoc, append-nil, Some, None, ◌<◌, Result, Ok, Err, OnOk}
use Rattle.std.specs.List.{Contains}
use Rattle.std.proofs.lemmas.List.Elements.{Contains-append_left, Contains-append_right, Contains-append_cases}
use Rattle.dns_scan.specs.Token.{Token, IsWord, Takes}
use Rattle.dns_field_texts.specs.Appended.{Appends}
use Rattle.dns_field_texts.specs.TypeBitmap.{IsBitmapOf, SpellTypes, AppendsTypes, SpellsNoTypes}
use Rattle.dns_field_texts.specs.TypeWords.{type_word_read}
use Rattle.dns_field_texts.specs.Windows.{IsBitmapWith, HasAlso}

-- one element more
one_contains : (x t : ℕ) → Contains (x ∷ []) t → t ≡ x
one_contains x t has = by_index has.0 has.1 has.2
  where
    by_index : (k : ℕ) → k < 1 → get_or (x ∷ []) k t ≡ t → t ≡ x
    by_index zero within is = sym is
    by_index (suc k) within is = absurd (omega arith)

contains_one : (x t : ℕ) → t ≡ x → Contains (x ∷ []) t
contains_one x t is = (0, omega arith, sym is)

pub also_pushed : (old new types : List ℕ) (type : ℕ) → HasAlso old new type → ((t : ℕ) → Contains old t ↔ Contains types t)
    → (t : ℕ) → Contains new t ↔ Contains (types ++ type ∷ []) t
also_pushed old new types type also same t = (
  λ has. ⊎_elim (λ h. Contains-append_left types (type ∷ []) t ((same t).0 h)) (λ h. Contains-append_right types (type ∷ []) t (contains_one type t h))
      ((also t).0 has),
  λ has. (also t).1 (⊎_elim (λ h. inl ((same t).1 h)) (λ h. inr (one_contains type t h)) (Contains-append_cases types (type ∷ []) t has)),
)

pub no_types : (t : ℕ) → Contains {X = ℕ} [] t ↔ Contains {X = ℕ} [] t
no_types t = (λ h. h, λ h. h)

-- a bitmap with the types of a set
pub bitmap_of : (types set old new : List ℕ) → ((t : ℕ) → Contains set t ↔ Contains types t) → Appends (IsBitmapWith set) old new
    → Appends (IsBitmapOf types) old new
bitmap_of types set old new same is = record {
  octets = is.octets;
  are = record {
    bitmap = is.are.bitmap;
    same = λ t. subst (λ (l : List ℕ). Contains l t ↔ Contains types t) (sym is.are.are) (same t);
  };
  behind = is.behind;
}

pub bitmap_on_ok : {T E : Type 0} (result : Result T E) (types set old new : List ℕ) → ((t : ℕ) → Contains set t ↔ Contains types t)
    → OnOk result (Appends (IsBitmapWith set) old new) → OnOk result (Appends (IsBitmapOf types) old new)
bitmap_on_ok (Ok value) types set old new same is = bitmap_of types set old new same is
bitmap_on_ok (Err error) types set old new same is = is

-- the types that are scanned so far
pub record Scanned (before left : List Token) (set : List ℕ) : Type 0 where
  pub types : List ℕ
  pub there : (rest : List ℕ) → SpellTypes left rest → SpellTypes before (types ++ rest)
  pub back : (all : List ℕ) → SpellTypes before all → (rest : List ℕ) × SpellTypes left rest
  pub same : (t : ℕ) → Contains set t ↔ Contains types t

pub nothing_scanned : (tokens : List Token) → Scanned tokens tokens []
nothing_scanned tokens = record { types = []; there = λ rest is. is; back = λ all is. (all, is); same = no_types }

some_one : (a b : ℕ) → Some a ≡ Some b → a ≡ b
some_one a b e = cc

module _ (before left : List Token) (set : List ℕ) (so_far : Scanned before left set) where
  -- a further type
  pub scan_more : (text : List ℕ) (type : ℕ) (rest : List Token) (new : List ℕ) → Takes (IsWord text) left rest → type_word_read text ≡ Some type
      → HasAlso set new type → Scanned before rest new
  scan_more text type rest new takes reads also = record {
    types = so_far.types ++ type ∷ [];
    there = λ more is.
        subst (λ (l : List ℕ). SpellTypes before l) (sym (append_assoc so_far.types (type ∷ []) more))
        (so_far.there (type ∷ more) (subst (λ (l : List Token). SpellTypes l (type ∷ more)) (sym takes.is)
        (type, more, record { text = text; word = takes.fits; reads = reads }, is, refl)));
    back = λ all is.
        let parts = so_far.back all is in
        let first = subst (λ (l : List Token). SpellTypes l parts.0) takes.is parts.1 in
        (first.1, first.3);
    same = also_pushed set new so_far.types type also so_far.same;
  }

  -- a token that is no type
  pub no_type : ((text : List ℕ) (rest : List Token) → Takes (IsWord text) left rest → type_word_read text ≡ None) → (left ≡ [] → ⊥)
      → SpellsNoTypes before
  no_type none some all is =
      let parts = so_far.back all is in by_tokens left parts.0 parts.1 refl
    where
      by_tokens : (tokens : List Token) (rest : List ℕ) → SpellTypes tokens rest → left ≡ tokens → ⊥
      by_tokens [] rest spelled whole = some whole
      by_tokens (token ∷ tokens) rest spelled whole =
          let first = spelled.2 in
          let read = none first.text tokens (record { token = token; is = whole; fits = first.word }) in
          let reads = first.reads in cc

  -- the end
  pub scanned_all : (old new : List ℕ) → left ≡ [] → Appends (IsBitmapWith set) old new → AppendsTypes before left old new
  scanned_all old new none is =
      let bitmap = bitmap_of so_far.types set old new so_far.same is in
      record {
        octets = bitmap.octets;
        scans = record {
          types = so_far.types;
          spelled = subst (λ (l : List ℕ). SpellTypes before l) (append-nil so_far.types)
              (so_far.there [] (subst (λ (l : List Token). SpellTypes l []) (sym none) refl));
          none = none;
          bitmap = bitmap.are;
        };
        behind = bitmap.behind;
      }
