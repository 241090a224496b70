-- What is remembered stays true of the octets.
use Rattle.std.proofs.Common.{◌≡◌, ◌≤◌, ◌<◌, ◌+◌, ℕ, true, Some, List, [], ◌++◌, length, take, sym, subst, arith}
use Rattle.std.specs.Prelude.{Result, Ok, Err, OnOk, OnErr}
use Rattle.std.specs.Coded.{le_prop}
use mathlib.Core.Logic.{∥∥₁_elim, ∥∥₁_map}
use Rattle.dns_octets.specs.Builder.{Known, GrowsTo, before}
use Rattle.dns_octets.proofs.Grows.{GrowsTo-same}
use Rattle.dns_label.specs.Name.{IsName}
use Rattle.dns_name.specs.Spelling.{Spelling, place_in, name_text, known_after}
use Rattle.dns_name.specs.Remembered.{IsSound, sound_none, is_free, patched}
use Rattle.dns_name.proofs.Known.{found_in}
use Rattle.dns_name.proofs.Growth.{GrowsTo-name}
use Rattle.dns_name.proofs.Soundness.{merely-within, IsSound-append, IsSound-before, IsSound-name, IsSound-patch}

pub sound_append : {s : Spelling} {known : Known} {octets : List ℕ} (new tail : List ℕ) → new ≡ octets ++ tail
    → ∥ IsSound s known octets ∥₁ → ∥ IsSound s known new ∥₁
sound_append {s} {known} new tail is sound =
    subst (λ l. ∥ IsSound s known l ∥₁) (sym is) (∥∥₁_map sound (λ sound. IsSound-append tail sound))

pub sound_either : {s : Spelling} {known : Known} {octets : List ℕ} {T E : Type 0} (result : Result T E) (tail new : List ℕ)
    → OnOk result (new ≡ octets ++ tail) → OnErr result (new ≡ octets) → ∥ IsSound s known octets ∥₁ → ∥ IsSound s known new ∥₁
sound_either (Ok value) tail new appended same sound = sound_append new tail appended sound
sound_either {s} {known} (Err error) tail new appended same sound = subst (λ l. ∥ IsSound s known l ∥₁) (sym same) sound

pub sound_before : {s : Spelling} {known : Known} {octets : List ℕ} (len : ℕ) (new : List ℕ)
    → new ≡ take len octets → ∥ IsSound s known octets ∥₁ → ∥ IsSound s (before len known) new ∥₁
sound_before {s} {known} len new is sound =
    subst (λ l. ∥ IsSound s (before len known) l ∥₁) (sym is) (∥∥₁_map sound (λ sound. IsSound-before len sound))

pub sound_name : {s : Spelling} {known : Known} {octets : List ℕ} (name : List (List ℕ)) (new : List ℕ) → IsName name
    → new ≡ octets ++ name_text s known (length octets) name
    → ∥ IsSound s known octets ∥₁ → ∥ IsSound s (known_after s known (length octets) name) new ∥₁
sound_name {s} {known} {octets} name new is_name is sound =
    subst (λ l. ∥ IsSound s (known_after s known (length octets) name) l ∥₁) (sym is)
    (∥∥₁_map sound (λ sound. IsSound-name name is_name sound))

pub sound_patch : {s : Spelling} {known : Known} {octets : List ℕ} (begin : ℕ) (over new : List ℕ) → begin + length over ≤ length octets
    → is_free begin (begin + length over) known ≡ true → new ≡ patched octets begin over
    → ∥ IsSound s known octets ∥₁ → ∥ IsSound s known new ∥₁
sound_patch {s} {known} begin over new within free is sound =
    subst (λ l. ∥ IsSound s known l ∥₁) (sym is) (∥∥₁_map sound (λ sound. IsSound-patch begin over within free sound))

-- the same for equal octets and an equal list
pub sound_of : {s : Spelling} {known more : Known} {octets : List ℕ} → more ≡ known → ∥ IsSound s known octets ∥₁ → ∥ IsSound s more octets ∥₁
sound_of {s} {octets = octets} same sound = subst (λ (l : Known). ∥ IsSound s l octets ∥₁) (sym same) sound

-- a pointer reaches what is found
pub found_near : {s : Spelling} {known : Known} {octets : List ℕ} (suffix : List ℕ) (place : ℕ) → ∥ IsSound s known octets ∥₁
    → place_in s known suffix ≡ Some place → place < 16384
found_near {s} {known} suffix place sound found =
    ∥∥₁_elim sound le_prop (λ sound.
    let target = found_in s known suffix place found in
    let stands = sound.each target.target target.is_known in
    omega (arith, stands.near, target.there))

-- the octets grow by a name
pub grows_name : {s : Spelling} {octets : List ℕ} {known : Known} (name : List (List ℕ)) (new : List ℕ) (new_known : Known) → IsName name
    → ∥ IsSound s known octets ∥₁ → new ≡ octets ++ name_text s known (length octets) name
    → new_known ≡ known_after s known (length octets) name → GrowsTo octets known new new_known
grows_name {s} {octets} {known} name new new_known is_name sound text knows =
    let P : List ℕ → Type 0 = λ l. GrowsTo octets known l new_known in
    let Q : Known → Type 0 = λ l. GrowsTo octets known (octets ++ name_text s known (length octets) name) l in
    subst P (sym text) (subst Q (sym knows) (GrowsTo-name s octets known name is_name (merely-within sound)))

-- nothing is remembered yet
pub sound_empty : (s : Spelling) (known : Known) (octets : List ℕ) → known ≡ [] → ∥ IsSound s known octets ∥₁
sound_empty s known octets none = sound_of none ∣ sound_none s octets ∣₁

-- and so whether the append succeeds or fails
pub grows_either : {s : Spelling} {octets : List ℕ} {known : Known} {T E : Type 0} (result : Result T E) (name : List (List ℕ)) (new : List ℕ) (new_known : Known)
    → IsName name → ∥ IsSound s known octets ∥₁ → OnOk result (new ≡ octets ++ name_text s known (length octets) name)
    → OnOk result (new_known ≡ known_after s known (length octets) name)
    → OnErr result ((new ≡ octets) × (new_known ≡ known)) → GrowsTo octets known new new_known
grows_either (Ok value) name new new_known is_name sound text knows stays = grows_name name new new_known is_name sound text knows
grows_either {octets = octets} {known} (Err error) name new new_known is_name sound text knows stays =
    GrowsTo-same octets known new new_known stays.0 stays.1
