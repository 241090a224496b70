-- The keys that suffixes of names are looked up by.
use Rattle.std.proofs.Common.{◌≡◌, ℕ, Bool, true, false, List, [], ◌∷◌, length, map, refl, sym, ◌∙◌, ap}
use Rattle.std.specs.Char.{to_ascii_lowercase}
use Rattle.std.proofs.lemmas.List.{length-map}
use Rattle.dns_label.specs.Name.{low}
use Rattle.dns_compress.specs.Tables.{looked_up}

pub key_lowered : (lowers test : Bool) (key name : List (List ℕ)) → test ≡ lowers → test ≡ true → key ≡ low name → key ≡ looked_up lowers name
key_lowered true test key name same is low = low
key_lowered false test key name same is low = absurd (cc)

pub key_same : (lowers test : Bool) (name : List (List ℕ)) → test ≡ lowers → test ≡ false → name ≡ looked_up lowers name
key_same true test name same is = absurd (cc)
key_same false test name same is = refl

pub key_root : (lowers : Bool) (key name : List (List ℕ)) → key ≡ looked_up lowers name → key ≡ [] → name ≡ []
key_root false key name is none = sym is ∙ none
key_root true key [] is none = refl
key_root true key (label ∷ parent) is none = absurd (let e : low (label ∷ parent) ≡ [] = sym is ∙ none in cc)

-- the name of a key that starts with a label
pub record Begun (lowers : Bool) (name : List (List ℕ)) (label : List ℕ) (parent : List (List ℕ)) : Type 0 where
  pub first : List ℕ
  pub rest : List (List ℕ)
  pub begins : name ≡ first ∷ rest
  pub long : length first ≡ length label
  pub on : parent ≡ looked_up lowers rest

pub key_label : (lowers : Bool) (key name : List (List ℕ)) (label : List ℕ) (parent : List (List ℕ)) → key ≡ looked_up lowers name
    → key ≡ label ∷ parent → Begun lowers name label parent
key_label false key name label parent is begins = record {
  first = label;
  rest = parent;
  begins = sym is ∙ begins;
  long = refl;
  on = refl;
}
key_label true key [] label parent is begins = absurd (let e : [] ≡ label ∷ parent = sym is ∙ begins in cc)
key_label true key (first ∷ rest) label parent is begins =
    let same : low (first ∷ rest) ≡ label ∷ parent = sym is ∙ begins in
    let low_first : map to_ascii_lowercase first ≡ label = cc in
    let low_rest : low rest ≡ parent = cc in
    record {
      first = first;
      rest = rest;
      begins = refl;
      long = sym (length-map first to_ascii_lowercase) ∙ ap (length {A = ℕ}) low_first;
      on = sym low_rest;
    }
