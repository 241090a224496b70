-- The chains of suffixes: each leads from a suffix to the last one before it in the same bucket.
use Rattle.std.specs.Prelude.{◌≡◌, ◌<◌, ℕ, Bool, false, zero, suc, Option, Some, None, List, nat_eq, slice_get, length, map, if◌then◌else◌}
use Rattle.dns_octets.specs.Builder.{Known}
use Rattle.dns_compress.specs.declared.written.Written.{Written}
use Rattle.dns_compress.specs.Joined.{Each}
use Rattle.dns_compress.specs.SuffixHash.{hash_of, bucket_of}

-- whether the suffix at the index is in the bucket
abbrev pub is_in : ℕ → Option Written → Bool
is_in bucket None = false
is_in bucket (Some one) = nat_eq (bucket_of one.hash) bucket

-- one more than the index of the last suffix in the bucket, of the first `count`; 0 if there is none
abbrev pub latest : List Written → ℕ → ℕ → ℕ
latest written bucket zero = 0
latest written bucket (suc count) = if is_in bucket (slice_get written count) then suc count else latest written bucket count

-- the heads and the suffixes lead to the last suffix in the same bucket, of all and of those before
pub record IsIndex (written : List Written) (heads : List ℕ) : Type 0 where
  pub filled : 0 < length written → length heads ≡ 512
  pub head : (bucket head : ℕ) → slice_get heads bucket ≡ Some head → head ≡ latest written bucket (length written)
  pub chains : Each (λ index one. one.older ≡ latest written (bucket_of one.hash) index) written

-- the hashes are those of the suffixes
abbrev pub AreHashes : ℕ → List Written → Known → Type 0
AreHashes seed written known = map (λ one. one.hash) written ≡ map (λ standing. hash_of seed standing.suffix) known
