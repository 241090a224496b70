-- The chains of suffixes, with one suffix more or one less.
use Rattle.std.proofs.Common.{◌⊎◌, inl, inr, ◌≡◌, ◌≤◌, ℕ, Bool, true, false, zero, suc, Option, Some, List, [], ◌∷◌, ◌++◌, length, set, take, map, ◌-◌, refl, sym, ◌∙◌, ap, subst, arith, length-append}
use Rattle.std.specs.Prelude.{slice_get, nat_eq, if◌then◌else◌}
use Rattle.std.proofs.lemmas.List.{length-set, length-map, map-append, take-map}
use Rattle.std.proofs.lemmas.Option.{slice_get_within}
use Rattle.std.proofs.lemmas.Bool.Decides.{eqb_tells}
use mathlib.Core.Logic.{◌≢◌}
use Rattle.dns_octets.specs.Builder.{Standing, Known}
use Rattle.dns_compress.specs.declared.written.Written.{Written}
use Rattle.dns_compress.specs.SuffixHash.{hash_of, bucket_of}
use Rattle.dns_compress.specs.SuffixIndex.{is_in, latest, IsIndex, AreHashes}
use Rattle.dns_compress.proofs.Elements.{get-append, get_last, get_front, each_push, get_set_same, get-set_other}

-- the last suffix of a bucket

latest-append : (written more : List Written) (bucket count : ℕ) → count ≤ length written
    → latest (written ++ more) bucket count ≡ latest written bucket count
latest-append written more bucket zero within = refl
latest-append written more bucket (suc count) within =
    ap (λ (o : Option Written). if is_in bucket o then suc count else latest (written ++ more) bucket count)
    (get-append written more count (omega (arith, within)))
    ∙ ap (λ n. if is_in bucket (slice_get written count) then suc count else n) (latest-append written more bucket count (omega (arith, within)))

pub latest_within : (written : List Written) (bucket count : ℕ) → latest written bucket count ≤ count
latest_within written bucket zero = omega arith
latest_within written bucket (suc count) = by_test (is_in bucket (slice_get written count)) (latest_within written bucket count)
  where
    by_test : (test : Bool) → latest written bucket count ≤ count → (if test then suc count else latest written bucket count) ≤ suc count
    by_test true within = omega arith
    by_test false within = omega (arith, within)

pub latest_there : (written : List Written) (bucket count k : ℕ) → latest written bucket count ≡ suc k → is_in bucket (slice_get written k) ≡ true
latest_there written bucket zero k is = absurd (omega (arith, is))
latest_there written bucket (suc count) k is = by_test (is_in bucket (slice_get written count)) refl (latest_there written bucket count k) is
  where
    by_test : (test : Bool) → is_in bucket (slice_get written count) ≡ test
        → (latest written bucket count ≡ suc k → is_in bucket (slice_get written k) ≡ true)
        → (if test then suc count else latest written bucket count) ≡ suc k → is_in bucket (slice_get written k) ≡ true
    by_test true there on at = let e : count ≡ k = omega (arith, at) in subst (λ n. is_in bucket (slice_get written n) ≡ true) e there
    by_test false there on at = on at

latest_push : (written : List Written) (last : Written) (bucket : ℕ)
    → latest (written ++ last ∷ []) bucket (length (written ++ last ∷ []))
    ≡ (if nat_eq (bucket_of last.hash) bucket then suc (length written) else latest written bucket (length written))
latest_push written last bucket =
    ap (latest (written ++ last ∷ []) bucket) (let e : length (written ++ last ∷ []) ≡ suc (length written) = omega (arith, length-append written (last ∷ [])) in e)
    ∙ ap (λ (o : Option Written). if is_in bucket o then suc (length written) else latest (written ++ last ∷ []) bucket (length written)) (get_last written last)
    ∙ ap (λ n. if nat_eq (bucket_of last.hash) bucket then suc (length written) else n)
    (latest-append written (last ∷ []) bucket (length written) (omega arith))

-- one suffix more
pub index_push : (written : List Written) (heads : List ℕ) (last : Written) → IsIndex written heads → length heads ≡ 512
    → slice_get heads (bucket_of last.hash) ≡ Some last.older
    → IsIndex (written ++ last ∷ []) (set heads (bucket_of last.hash) (suc (length written)))
index_push written heads last index filled older =
    record {
      filled = λ _. length-set heads (bucket_of last.hash) (suc (length written)) ∙ filled;
      head = λ bucket head at. heads_to bucket head at (eqb_tells (bucket_of last.hash) bucket);
      chains = each_push (λ n one. one.older ≡ latest (written ++ last ∷ []) (bucket_of one.hash) n) written last
          (λ n one at. index.chains n one at ∙ sym (latest-append written (last ∷ []) (bucket_of one.hash) n (let e = slice_get_within written n one at in omega (arith, e))))
          (index.head (bucket_of last.hash) last.older older ∙ sym (latest-append written (last ∷ []) (bucket_of last.hash) (length written) (omega arith)));
    }
  where
    heads_to : (bucket head : ℕ) → slice_get (set heads (bucket_of last.hash) (suc (length written))) bucket ≡ Some head
        → ((nat_eq (bucket_of last.hash) bucket ≡ true) × (bucket_of last.hash ≡ bucket)) ⊎ ((nat_eq (bucket_of last.hash) bucket ≡ false) × (bucket_of last.hash ≢ bucket))
        → head ≡ latest (written ++ last ∷ []) bucket (length (written ++ last ∷ []))
    heads_to bucket head at (inl (test, is)) =
        get_set_same heads bucket (suc (length written)) head
        (subst (λ n. slice_get (set heads n (suc (length written))) bucket ≡ Some head) is at)
        ∙ sym (latest_push written last bucket ∙ ap (λ (b : Bool). if b then suc (length written) else latest written bucket (length written)) test)
    heads_to bucket head at (inr (test, differ)) =
        index.head bucket head (sym (get-set_other heads (bucket_of last.hash) bucket (suc (length written)) differ) ∙ at)
        ∙ sym (latest_push written last bucket ∙ ap (λ (b : Bool). if b then suc (length written) else latest written bucket (length written)) test)

-- one suffix less
pub index_pop : (written : List Written) (heads : List ℕ) (last : Written) → IsIndex (written ++ last ∷ []) heads
    → IsIndex written (set heads (bucket_of last.hash) last.older)
index_pop written heads last index =
    record {
      filled = λ _. length-set heads (bucket_of last.hash) last.older ∙ index.filled (omega (arith, length-append written (last ∷ [])));
      head = λ bucket head at. heads_to bucket head at (eqb_tells (bucket_of last.hash) bucket);
      chains = λ n one at. index.chains n one (get_front written (last ∷ []) n one at)
          ∙ latest-append written (last ∷ []) (bucket_of one.hash) n (let e = slice_get_within written n one at in omega (arith, e));
    }
  where
    heads_to : (bucket head : ℕ) → slice_get (set heads (bucket_of last.hash) last.older) bucket ≡ Some head
        → ((nat_eq (bucket_of last.hash) bucket ≡ true) × (bucket_of last.hash ≡ bucket)) ⊎ ((nat_eq (bucket_of last.hash) bucket ≡ false) × (bucket_of last.hash ≢ bucket))
        → head ≡ latest written bucket (length written)
    heads_to bucket head at (inl (test, is)) =
        get_set_same heads bucket last.older head (subst (λ n. slice_get (set heads n last.older) bucket ≡ Some head) is at)
        ∙ index.chains (length written) last (get_last written last)
        ∙ latest-append written (last ∷ []) (bucket_of last.hash) (length written) (omega arith)
        ∙ ap (λ n. latest written n (length written)) is
    heads_to bucket head at (inr (test, differ)) =
        index.head bucket head (sym (get-set_other heads (bucket_of last.hash) bucket last.older differ) ∙ at)
        ∙ latest_push written last bucket ∙ ap (λ (b : Bool). if b then suc (length written) else latest written bucket (length written)) test

-- a suffix leads to one before it
pub older_below : (written : List Written) (heads : List ℕ) → IsIndex written heads → (k : ℕ) (one : Written) → slice_get written k ≡ Some one
    → one.older ≤ k
older_below written heads index k one at =
    let e = index.chains k one at in
    let f = latest_within written (bucket_of one.hash) k in
    omega (arith, e, f)

-- the hashes of the suffixes

pub hashes_push : (seed : ℕ) (written : List Written) (known : Known) (last : Written) (standing : Standing) → AreHashes seed written known
    → last.hash ≡ hash_of seed standing.suffix → AreHashes seed (written ++ last ∷ []) (known ++ standing ∷ [])
hashes_push seed written known last standing hashes is =
    map-append (λ (one : Written). one.hash) written (last ∷ [])
    ∙ ap (λ (l : List ℕ). l ++ last.hash ∷ []) hashes
    ∙ ap (λ n. map (λ (standing : Standing). hash_of seed standing.suffix) known ++ n ∷ []) is
    ∙ sym (map-append (λ (standing : Standing). hash_of seed standing.suffix) known (standing ∷ []))

pub hashes_long : (seed : ℕ) (written : List Written) (known : Known) → AreHashes seed written known → length written ≡ length known
hashes_long seed written known hashes =
    sym (length-map written (λ (one : Written). one.hash)) ∙ ap (length {A = ℕ}) hashes
    ∙ length-map known (λ (standing : Standing). hash_of seed standing.suffix)

pub hashes_pop : (seed : ℕ) (written : List Written) (known : Known) → AreHashes seed written known
    → AreHashes seed (take (length written - 1) written) (take (length known - 1) known)
hashes_pop seed written known hashes =
    sym (take-map (λ (one : Written). one.hash) (length written - 1) written)
    ∙ ap (take (length written - 1)) hashes
    ∙ ap (λ n. take (n - 1) (map (λ (standing : Standing). hash_of seed standing.suffix) known)) (hashes_long seed written known hashes)
    ∙ take-map (λ (standing : Standing). hash_of seed standing.suffix) (length known - 1) known
