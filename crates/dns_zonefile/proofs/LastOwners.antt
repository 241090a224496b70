-- The last owner, kept in octets of its own.
use Rattle.std.proofs.Common.{◌≡◌, ◌≤◌, ◌∙◌, ◌++◌, ℕ, List, [], ◌∷◌, Some, ap, arith, drop, length, length-append, length-drop, sym, take}
use Rattle.std.proofs.Math.Seq.{take-append_seam}
use Rattle.dns_label.specs.Name.{IsName, wire}
use Rattle.dns_wire.proofs.Flat.{flat-labels}
use Rattle.std.proofs.lemmas.List.{length-take-le, take-append-le, take-take}
use Rattle.dns_zonefile.specs.ComposedRow.{BeginsWithName}
use Rattle.dns_zonefile.specs.LastOwner.{name_in}

wire_some : (name : List (List ℕ)) → [] ≡ wire name → ⊥
wire_some [] none = cc
wire_some (text ∷ name) none = cc

pub name_kept : (octets : List ℕ) (name : List (List ℕ)) → IsName name → octets ≡ wire name → name_in octets ≡ Some name
name_kept [] name is_name is = absurd (wire_some name is)
name_kept (octet ∷ octets) name is_name is = ap Some (flat-labels (octet ∷ octets) name is_name is)

-- what was copied comes first
pub kept_first : (front behind copied : List ℕ) {written : List ℕ} → front ≡ copied → copied ≡ written
    → take (length copied) (front ++ behind) ≡ written
kept_first front behind copied same is =
    ap (λ (l : List ℕ). take (length l) (front ++ behind)) (sym same) ∙ take-append_seam front behind ∙ same ∙ is

-- what was copied begins with the name, and others are behind it
pub kept_name : (copied behind octets : List ℕ) (len count : ℕ) (name : List (List ℕ)) → BeginsWithName octets len name → copied ≡ take count octets
    → count ≤ length octets → len ≤ count → take len (copied ++ behind) ≡ wire name
kept_name copied behind octets len count name begins is within fits =
    let size : length (take count octets) ≡ count = length-take-le count octets within in
    ap (λ (l : List ℕ). take len (l ++ behind)) is ∙ take-append-le len (take count octets) behind (omega (arith, size, fits))
    ∙ take-take len count octets fits ∙ (λ i. take (begins.long i) (begins.is i)) ∙ take-append_seam (wire name) begins.rest

pub name_within : (octets : List ℕ) (len : ℕ) (name : List (List ℕ)) → BeginsWithName octets len name → len ≤ length octets
name_within octets len name begins =
    omega (arith, begins.long, ap (λ (l : List ℕ). length l) begins.is, length-append (wire name) begins.rest)

-- as many octets as before
pub kept_all : (front copied old : List ℕ) (count : ℕ) → front ≡ copied → length copied ≡ count → count ≤ 255 → length old ≡ 255
    → length (front ++ drop count old) ≡ 255
kept_all front copied old count same size fits whole =
    let len = ap (λ (l : List ℕ). length l) same in
    omega (arith, len, size, fits, whole, length-append front (drop count old), length-drop count old)

pub name_short : (octets : List ℕ) (len : ℕ) (name : List (List ℕ)) → BeginsWithName octets len name → len ≤ 255
name_short octets len name begins = let short = begins.is_name.short in omega (arith, short, begins.long)

-- and the array has the same length as before
pub kept_size : (front copied old : List ℕ) → front ≡ copied → length copied ≤ 255 → length old ≡ 255
    → length (front ++ drop (length copied) old) ≡ 255
kept_size front copied old same fits whole =
    let len = ap (λ (l : List ℕ). length l) same in
    omega (arith, len, fits, whole, length-append front (drop (length copied) old), length-drop (length copied) old)
