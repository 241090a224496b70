-- An OPT record on a page: the octets before its options, and the options.
use Rattle.std.proofs.Common.{◌≡◌, ◌≤◌, ◌<◌, ◌+◌, ◌-◌, ℕ, true, List, [], ◌∷◌, ◌++◌, length, take, drop, inl, ◌∙◌, ap, arith, length-append, length-drop, append_assoc}
use Rattle.std.proofs.lemmas.List.{append-nil, length-take, take-append-le, drop-append-le, drop_at}
use Rattle.std.specs.Int.{to_be_bytes, w16, w32}
use Rattle.dns_octets.specs.Builder.{Known}
use Rattle.dns_name.specs.Spelling.{Spelling, name_text, known_after, split_from}
use Rattle.dns_name.specs.Page.{Page, write, with_name}
use Rattle.dns_name.specs.RecordData.{page_of, counted_length}
use Rattle.dns_name.specs.Remembered.{is_free, patched}
use Rattle.dns_name.proofs.Known.{free_from}
use Rattle.dns_name.proofs.Spelled.{StopsBefore}
use Rattle.dns_header.specs.Head.{fixed_octets, record_parts}
use Rattle.dns_name.specs.Page.Parts.{End, Octets}
use Rattle.dns_builder.proofs.Patches.{patched_behind}

-- as many octets are at the end
pub length-last : (octets : List ℕ) (count : ℕ) → 8 ≤ length octets - count → length (drop (length octets - count) octets) ≡ count
length-last octets count some = omega (arith, length-drop (length octets - count) octets)

-- octets that are appended leave the start where it is

start-more : (octets tail : List ℕ) (count more : ℕ) → more ≡ count + length tail → length (octets ++ tail) - more ≡ length octets - count
start-more octets tail count more is = omega (arith, length-append octets tail)

pub front-more : (octets tail new : List ℕ) (count more replaced : ℕ) → new ≡ octets ++ tail → more ≡ count + length tail
    → take (length new - more - replaced) new ≡ take (length octets - count - replaced) octets
front-more octets tail new count more replaced is counts =
    ap (λ l. take (length l - more - replaced) l) is ∙ ap (λ n. take (n - replaced) (octets ++ tail)) (start-more octets tail count more counts)
    ∙ take-append-le (length octets - count - replaced) octets tail (omega arith)

pub last-more : (octets tail new : List ℕ) (count more : ℕ) → new ≡ octets ++ tail → more ≡ count + length tail
    → drop (length new - more) new ≡ drop (length octets - count) octets ++ tail
last-more octets tail new count more is counts =
    ap (λ l. drop (length l - more) l) is ∙ ap (λ n. drop n (octets ++ tail)) (start-more octets tail count more counts)
    ∙ drop-append-le (length octets - count) octets tail (omega arith)

-- the front is as long as the place at which the rest begins
pub start-front : (octets front : List ℕ) (begin : ℕ) → begin ≤ length octets → take begin octets ≡ front → begin ≡ length front
start-front octets front begin within is = omega (arith, ap (length {A = ℕ}) is, length-take begin octets)

-- Options that replaced others are moved down to where these begin.
module _ (octets : List ℕ) (count replaced : ℕ) where
  abbrev pub behind-replaced : ℕ
  behind-replaced = length octets - count

  abbrev pub without-replaced : List ℕ
  without-replaced = take (behind-replaced - replaced) octets ++ drop behind-replaced octets

  module _ (some : behind-replaced - replaced < behind-replaced) (new : List ℕ) (is : new ≡ without-replaced) where
    pub start-moved : length new - count ≡ behind-replaced - replaced
    start-moved = omega (
      arith,
      some,
      ap (length {A = ℕ}) is,
      length-append (take (behind-replaced - replaced) octets) (drop behind-replaced octets),
      length-take (behind-replaced - replaced) octets,
      length-drop behind-replaced octets,
    )

    pub options-moved : drop (length new - count) new ≡ drop behind-replaced octets
    options-moved =
        (λ i. drop (start-moved i) (is i))
        ∙ drop_at (take (behind-replaced - replaced) octets) (drop behind-replaced octets) (behind-replaced - replaced)
        (omega (arith, length-take (behind-replaced - replaced) octets))

-- nothing that is remembered is after a page
pub free_behind : (len begin end : ℕ) (known : Known) → StopsBefore len known → len ≤ begin → is_free begin end known ≡ true
free_behind len begin end known within behind =
    free_from begin end known (λ standing is. inl (omega (arith, within standing is, behind)))

-- the root is one octet, and nothing is remembered of it
root_page : (s : Spelling) (page : Page) → with_name s page [] ≡ page_of (page.octets ++ 0 ∷ []) page.known
unfolding name_text known_after split_from
root_page s page = λ i. page_of (page.octets ++ 0 ∷ []) (append-nil page.known i)

-- the octets of an OPT record: the root, the type, the class, the TTL, and the options after their length
abbrev pub opt_octets : ℕ → ℕ → List ℕ → List ℕ
opt_octets class ttl options =
    0 ∷ 0 ∷ 41 ∷ ((to_be_bytes w16 class ++ (to_be_bytes w32 ttl ++ to_be_bytes w16 (length options))) ++ options)

-- how a record with these is written
pub write_opt : (s : Spelling) (page : Page) (class ttl : ℕ) (options : List ℕ)
    → write s page (record_parts [] 41 class ttl (Octets options End)) ≡ page_of (page.octets ++ opt_octets class ttl options) page.known
unfolding write
write_opt s page class ttl options =
    ap (λ (p : Page). page_of (counted p) p.known) (root_page s page)
    ∙ ap (λ l. page_of l page.known) (by_octets (page.octets ++ 0 ∷ []) ∙ append_assoc page.octets (0 ∷ []) _)
  where
    counted : Page → List ℕ
    counted p =
        let fixed : List ℕ = p.octets ++ fixed_octets 41 class ttl in
        let whole : List ℕ = (fixed ++ 0 ∷ 0 ∷ []) ++ options in
        patched whole (length fixed) (to_be_bytes w16 (length whole - (length fixed + 2)))

    by_octets : (octets : List ℕ) → counted (page_of octets page.known)
        ≡ octets ++ 0 ∷ 41 ∷ ((to_be_bytes w16 class ++ (to_be_bytes w32 ttl ++ to_be_bytes w16 (length options))) ++ options)
    by_octets octets =
        let fixed : List ℕ = octets ++ fixed_octets 41 class ttl in
        let whole : List ℕ = (fixed ++ 0 ∷ 0 ∷ []) ++ options in
        let long : length whole - (length fixed + 2) ≡ length options =
        omega (arith, length-append (fixed ++ 0 ∷ 0 ∷ []) options, length-append fixed (0 ∷ 0 ∷ [])) in
        let here : length fixed ≡ length fixed + 0 = omega arith in
        ap (λ n. patched whole (length fixed) (to_be_bytes w16 n)) long
        ∙ ap (λ n. patched whole n (to_be_bytes w16 (length options))) here
        ∙ ap (λ l. patched l (length fixed + 0) (to_be_bytes w16 (length options))) (append_assoc fixed (0 ∷ 0 ∷ []) options)
        ∙ patched_behind fixed (0 ∷ 0 ∷ options) 0 (to_be_bytes w16 (length options))
        ∙ append_assoc octets (fixed_octets 41 class ttl) (to_be_bytes w16 (length options) ++ options)

-- its data is as long as its options
pub opt_long : (s : Spelling) (page : Page) (options : List ℕ) → counted_length s page (Octets options End) ≡ length options
unfolding write
opt_long s page options =
    omega (arith, length-append (page.octets ++ 0 ∷ 0 ∷ []) options, length-append page.octets (0 ∷ 0 ∷ []))

-- the octets before the options of a record of zeros
abbrev pub zeros : List ℕ
zeros = 0 ∷ 0 ∷ 41 ∷ 0 ∷ 0 ∷ 0 ∷ 0 ∷ 0 ∷ 0 ∷ 0 ∷ 0 ∷ []

-- the fields of the record overwrite the zeros
pub patch_opt : (page : List ℕ) (class ttl start : ℕ) (options old new : List ℕ) → old ≡ page ++ (zeros ++ options) → start ≡ length page + 11
    → new ≡ patched old (start - 8) (to_be_bytes w16 class ++ (to_be_bytes w32 ttl ++ to_be_bytes w16 (length options)))
    → new ≡ page ++ opt_octets class ttl options
patch_opt page class ttl start options old new is here written =
    let over : List ℕ = to_be_bytes w16 class ++ (to_be_bytes w32 ttl ++ to_be_bytes w16 (length options)) in
    let place : start - 8 ≡ length page + 3 = omega arith in
    written ∙ ap (λ l. patched l (start - 8) over) is ∙ ap (λ n. patched (page ++ (zeros ++ options)) n over) place
    ∙ patched_behind page (zeros ++ options) 3 over
