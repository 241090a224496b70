-- A list of suffixes whose octets are stored one after another.
use Rattle.std.specs.Prelude.{◌≡◌, ℕ, ◌+◌, Some, List, [], ◌∷◌, take, drop, slice_get}
use Rattle.dns_octets.specs.Builder.{Known}
use Rattle.dns_compress.specs.declared.written.Written.{Written}

-- how many octets the suffixes have
abbrev pub total : List Written → ℕ
total [] = 0
total (one ∷ written) = one.len + total written

-- the suffixes, with these octets
abbrev pub standings_in : List ℕ → List Written → Known
standings_in octets [] = []
standings_in octets (one ∷ written) =
    record { suffix = take one.len octets; place = one.place; stop = one.stop } ∷ standings_in (drop one.len octets) written

-- it holds of each suffix and its index
abbrev pub Each : (ℕ → Written → Type 0) → List Written → Type 0
Each P written = (index : ℕ) (one : Written) → slice_get written index ≡ Some one → P index one

-- each begins behind those before it
abbrev pub AreBackToBack : List Written → Type 0
AreBackToBack written = Each (λ index one. one.start ≡ total (take index written)) written
