-- Looking a suffix up down the chain of its bucket.
use Rattle.std.proofs.Common.{◌≡◌, ◌≤◌, ℕ, Bool, true, false, zero, suc, Some, List, [], ◌∷◌, ◌++◌, length, take, drop, refl, sym, ◌∙◌, ap, subst, arith}
use Rattle.std.specs.Prelude.{slice_get, nat_eq, if◌then◌else◌, option_map, cond}
use Rattle.std.specs.Cmp.Lexicographic.{pointwise}
use Rattle.std.proofs.lemmas.List.{take_all, take-append-drop}
use Rattle.std.proofs.lemmas.Option.{slice_get_within, slice_get-map}
use Rattle.std.proofs.lemmas.Bool.{eq-eqb, eqb-true, false≢true}
use lib.Pointwise.{bytes_decides}
use Rattle.dns_octets.specs.Builder.{Standing, Known}
use Rattle.dns_name.specs.Spelling.{tree_spelling, is_same, place_in}
use Rattle.dns_compress.specs.declared.written.Written.{Written}
use Rattle.dns_compress.specs.Tables.{in_order}
use Rattle.dns_compress.specs.SuffixHash.{hash_of, bucket_of}
use Rattle.dns_compress.specs.SuffixIndex.{is_in, latest, IsIndex, AreHashes}
use Rattle.dns_compress.proofs.Elements.{get_within, take_more}
use Rattle.dns_compress.proofs.Index.{latest_within, latest_there, hashes_long}
use Rattle.dns_compress.proofs.InOrder.{in_order-pop, in_order-front}
use Rattle.dns_compress.proofs.Kept.{place_in-past, place_in-push}

-- the suffix is found among all as among those before `next`, of which the last is in its bucket
pub record IsDown (written : List Written) (known : Known) (bucket next : ℕ) (suffix : List ℕ) : Type 0 where
  pub within : next ≤ length written
  pub there : (k : ℕ) → next ≡ suc k → is_in bucket (slice_get written k) ≡ true
  pub same : place_in tree_spelling known suffix ≡ place_in tree_spelling (take next known) suffix

module _ (seed : ℕ) (written : List Written) (known : Known) (hashes : AreHashes seed written known) (suffix : List ℕ) where
  long : length written ≡ length known
  long = hashes_long seed written known hashes

  pub same_hash : (k : ℕ) (one : Written) (standing : Standing) → slice_get written k ≡ Some one → slice_get known k ≡ Some standing
      → one.hash ≡ hash_of seed standing.suffix
  same_hash k one standing at stands =
      let e : Some one.hash ≡ Some (hash_of seed standing.suffix) =
      sym (slice_get-map (λ (one : Written). one.hash) written k ∙ ap (option_map (λ (one : Written). one.hash)) at)
      ∙ ap (λ (l : List ℕ). slice_get l k) hashes
      ∙ slice_get-map (λ (standing : Standing). hash_of seed standing.suffix) known k
      ∙ ap (option_map (λ (standing : Standing). hash_of seed standing.suffix)) stands in
      let f : one.hash ≡ hash_of seed standing.suffix = cc in f

  -- suffixes of other hashes differ
  pub other_hash : (k : ℕ) (one : Written) (standing : Standing) → slice_get written k ≡ Some one → slice_get known k ≡ Some standing
      → nat_eq one.hash (hash_of seed suffix) ≡ false → is_same tree_spelling standing.suffix suffix ≡ false
  other_hash k one standing at stands differ = by_test (pointwise nat_eq standing.suffix suffix) refl
    where
      by_test : (test : Bool) → pointwise nat_eq standing.suffix suffix ≡ test → pointwise nat_eq standing.suffix suffix ≡ false
      by_test true is =
          absurd (false≢true (sym differ ∙ eq-eqb one.hash (hash_of seed suffix)
          (same_hash k one standing at stands ∙ ap (hash_of seed) ((bytes_decides standing.suffix suffix).0 is))))
      by_test false is = is

  other_bucket : (k : ℕ) (one : Written) (standing : Standing) → slice_get written k ≡ Some one → slice_get known k ≡ Some standing
      → is_in (bucket_of (hash_of seed suffix)) (slice_get written k) ≡ false → is_same tree_spelling standing.suffix suffix ≡ false
  other_bucket k one standing at stands differ = other_hash k one standing at stands (by_test (nat_eq one.hash (hash_of seed suffix)) refl)
    where
      by_test : (test : Bool) → nat_eq one.hash (hash_of seed suffix) ≡ test → nat_eq one.hash (hash_of seed suffix) ≡ false
      by_test true is =
          absurd (false≢true (sym differ ∙ ap (is_in (bucket_of (hash_of seed suffix))) at
          ∙ eq-eqb (bucket_of one.hash) (bucket_of (hash_of seed suffix)) (ap bucket_of (eqb-true one.hash (hash_of seed suffix) is))))
      by_test false is = is

  -- it is not among those behind the last one of its bucket
  skipped : (count : ℕ) → count ≤ length written
      → place_in tree_spelling (take count known) suffix
      ≡ place_in tree_spelling (take (latest written (bucket_of (hash_of seed suffix)) count) known) suffix
  skipped zero within = refl
  skipped (suc count) within = by_test (is_in (bucket_of (hash_of seed suffix)) (slice_get written count)) refl (skipped count (omega (arith, within)))
    where
      by_test : (test : Bool) → is_in (bucket_of (hash_of seed suffix)) (slice_get written count) ≡ test
          → place_in tree_spelling (take count known) suffix
          ≡ place_in tree_spelling (take (latest written (bucket_of (hash_of seed suffix)) count) known) suffix
          → place_in tree_spelling (take (suc count) known) suffix
          ≡ place_in tree_spelling (take (if test then suc count else latest written (bucket_of (hash_of seed suffix)) count) known) suffix
      by_test true is on = refl
      by_test false is on =
          let one = get_within written count (omega (arith, within)) in
          let standing = get_within known count (omega (arith, within, long)) in
          ap (λ (l : Known). place_in tree_spelling l suffix) (take_more known count standing.0 standing.1)
          ∙ place_in-past tree_spelling (take count known) standing.0 suffix (other_bucket count one.0 standing.0 one.1 standing.1 is)
          ∙ on

  pub down_from : (count : ℕ) → count ≤ length written → place_in tree_spelling known suffix ≡ place_in tree_spelling (take count known) suffix
      → IsDown written known (bucket_of (hash_of seed suffix)) (latest written (bucket_of (hash_of seed suffix)) count) suffix
  down_from count within same = record {
    within = (let e = latest_within written (bucket_of (hash_of seed suffix)) count in omega (arith, e, within));
    there = λ k is. latest_there written (bucket_of (hash_of seed suffix)) count k is;
    same = same ∙ skipped count within;
  }

  pub down_first : IsDown written known (bucket_of (hash_of seed suffix)) (latest written (bucket_of (hash_of seed suffix)) (length written)) suffix
  down_first =
      down_from (length written) (omega arith)
      (ap (λ (l : Known). place_in tree_spelling l suffix) (sym (take_all (length written) known (omega (arith, long)))))

  module _ (order : in_order tree_spelling known ≡ true) (k : ℕ) (one : Written) (standing : Standing) (at : slice_get written k ≡ Some one)
      (stands : slice_get known k ≡ Some standing) (down : IsDown written known (bucket_of (hash_of seed suffix)) (suc k) suffix) where
    at_last : place_in tree_spelling known suffix
        ≡ cond (pointwise nat_eq standing.suffix suffix) (Some standing.place) (place_in tree_spelling (take k known) suffix)
    at_last =
        down.same
        ∙ ap (λ (l : Known). place_in tree_spelling l suffix) (take_more known k standing stands)
        ∙ sym (place_in-push (take k known) standing suffix
        (in_order-pop tree_spelling (take k known) standing
        (in_order-front tree_spelling (take k known ++ standing ∷ []) (drop (suc k) known)
        (subst (λ (l : Known). in_order tree_spelling (l ++ drop (suc k) known) ≡ true) (take_more known k standing stands)
        (subst (λ (l : Known). in_order tree_spelling l ≡ true) (sym (take-append-drop (suc k) known)) order)))).1)

    pub found : is_same tree_spelling standing.suffix suffix ≡ true → place_in tree_spelling known suffix ≡ Some standing.place
    found is =
        at_last ∙ ap (λ (b : Bool). cond b (Some standing.place) (place_in tree_spelling (take k known) suffix)) is

    pub down_next : (heads : List ℕ) → IsIndex written heads → is_same tree_spelling standing.suffix suffix ≡ false
        → IsDown written known (bucket_of (hash_of seed suffix)) one.older suffix
    down_next heads index is =
        let bucket : bucket_of one.hash ≡ bucket_of (hash_of seed suffix) =
        eqb-true (bucket_of one.hash) (bucket_of (hash_of seed suffix)) (sym (ap (is_in (bucket_of (hash_of seed suffix))) at) ∙ down.there k refl) in
        subst (λ n. IsDown written known (bucket_of (hash_of seed suffix)) n suffix)
        (sym (index.chains k one at ∙ ap (λ n. latest written n k) bucket))
        (down_from k (let e = slice_get_within written k one at in omega (arith, e))
        (at_last ∙ ap (λ (b : Bool). cond b (Some standing.place) (place_in tree_spelling (take k known) suffix)) is))
