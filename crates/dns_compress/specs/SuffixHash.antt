-- The hash of suffixes, and its bucket.
use Rattle.std.specs.Prelude.{ℕ, zero, suc, ◌-◌, ◌*◌, ◌/◌, ◌^◌, List, length, take, drop, fold, if◌then◌else◌, nat_lt, bit_and, bit_xor}
use Rattle.std.specs.Int.{w64, from_le_bytes}

-- the halves of a product with 2^64 divided by the golden ratio, joined
unfoldable pub scattered : ℕ → ℕ
scattered word =
    let product = word * 0x9e37_79b9_7f4a_7c15 in
    bit_xor (bit_and product (2 ^ 64 - 1)) (product / 2 ^ 64)

-- the state after an octet, or after a word of eight
abbrev pub mixed : ℕ → ℕ → ℕ
mixed state word = scattered (bit_xor state word)

-- the state after so many words
abbrev pub mixed_words : ℕ → ℕ → List ℕ → ℕ
mixed_words zero state octets = state
mixed_words (suc words) state octets = mixed_words words (mixed state (from_le_bytes w64 (take 8 octets))) (drop 8 octets)

-- the words and then the last eight octets, or each octet if there are fewer
unfoldable pub hash_of : ℕ → List ℕ → ℕ
hash_of seed octets =
    if nat_lt (length octets) 8 then fold mixed seed octets
    else mixed (mixed_words (length octets / 8) seed octets) (from_le_bytes w64 (drop (length octets - 8) octets))

-- the top nine bits
unfoldable pub bucket_of : ℕ → ℕ
bucket_of hash = hash / 2 ^ 55
