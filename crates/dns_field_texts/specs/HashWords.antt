-- Salts and hashes of owners as words (RFC 5155, section 3.3).
use Rattle.std.specs.Prelude.{◌≡◌, ◌≤◌, ◌<◌, ◌⊎◌, ℕ, List, [], ◌∷◌, length}
use Rattle.dns_scan.specs.Encodings.{Decodes16, Decodes32, encoded_16, encoded_32}

-- at least one octet, and as many as a length octet can count
pub record IsCountable (octets : List ℕ) : Type 0 where
  pub some : 0 < length octets
  pub few : length octets ≤ 255

-- base 16 of octets
pub record IsBase16Word (text salt : List ℕ) : Type 0 where
  pub decodes : Decodes16 text salt
  pub countable : IsCountable salt

-- a minus sign for no salt
pub record IsNoSalt (text salt : List ℕ) : Type 0 where
  pub minus : text ≡ 45 ∷ []
  pub none : salt ≡ []

-- the word is of this salt
abbrev pub IsSaltWord : List ℕ → List ℕ → Type 0
IsSaltWord text salt = IsNoSalt text salt ⊎ IsBase16Word text salt

-- the word is of this hash: base 32 with the hex alphabet, without padding
pub record IsHashWord (text hash : List ℕ) : Type 0 where
  pub decodes : Decodes32 text hash
  pub countable : IsCountable hash

-- how a salt is written
abbrev pub salt_written : List ℕ → List ℕ
salt_written [] = 45 ∷ []
salt_written (octet ∷ octets) = encoded_16 (octet ∷ octets)

-- how a hash is written
abbrev pub hash_written : List ℕ → List ℕ
hash_written hash = encoded_32 hash
