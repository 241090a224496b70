-- The canonical order of names' octets: those of different names differ before either ends.
use Rattle.std.proofs.Common.{◌≡◌, ◌<◌, ℕ, List, [], ◌∷◌, ◌++◌, length, map, refl, sym, ◌∙◌, ap, arith, append_assoc}
use Rattle.std.specs.declared.cmp.Ordering.{Ordering}
use Rattle.std.specs.declared.cmp.Ordering.TheVariants.{Less, Equal, Greater}
use Rattle.std.specs.Ordering.{ordering_then, nat_cmp}
use Rattle.std.specs.Cmp.{nat_cmp_is, ranked}
use Rattle.std.specs.Cmp.Lexicographic.{slice_cmp}
use Rattle.std.specs.List.{AllByRecursion}
use Rattle.std.specs.Char.{to_ascii_lowercase}
use Rattle.std.proofs.lemmas.List.{length-map}
use Rattle.std.specs.Prelude.{Bool, nat_eq, IsTrue}
use Rattle.std.specs.Cmp.Lexicographic.{pointwise}
use lib.Pointwise.{bytes_decides}
use Rattle.dns_label.specs.Name.{IsLabel, wire, labels_wire, with_root, low}
use Rattle.dns_scan.specs.CharStr.{string_wire}
use Rattle.dns_name.proofs.Case.{same_bool, wire_one}
use Rattle.dns_name.proofs.Wire.{labels_wire-with_root}
use Rattle.dns_name.proofs.Orders.{then_assoc, cmp_seam}

before : (n : ℕ) → 0 < n → nat_cmp 0 n ≡ Less
before n some = sym (nat_cmp_is 0 n Less some)

behind : (n : ℕ) → 0 < n → nat_cmp n 0 ≡ Greater
behind n some = sym (nat_cmp_is n 0 Greater some)

pub same : (n m : ℕ) → nat_cmp n m ≡ Equal → n ≡ m
same n m is = ranked n m Equal (sym is)

-- what decides first goes on deciding
pub head_seam : (head left right last : Ordering) → (head ≡ Equal → left ≡ ordering_then right last)
    → ordering_then head left ≡ ordering_then (ordering_then head right) last
head_seam Less left right last is = refl
head_seam Equal left right last is = is refl
head_seam Greater left right last is = refl

text_seam : (text text' rest rest' more more' : List ℕ) → length text ≡ length text'
    → slice_cmp nat_cmp (rest ++ more) (rest' ++ more') ≡ ordering_then (slice_cmp nat_cmp rest rest') (slice_cmp nat_cmp more more')
    → slice_cmp nat_cmp ((text ++ rest) ++ more) ((text' ++ rest') ++ more')
    ≡ ordering_then (slice_cmp nat_cmp (text ++ rest) (text' ++ rest')) (slice_cmp nat_cmp more more')
text_seam text text' rest rest' more more' long on =
    ap (λ l. slice_cmp nat_cmp l ((text' ++ rest') ++ more')) (append_assoc text rest more)
    ∙ ap (slice_cmp nat_cmp (text ++ (rest ++ more))) (append_assoc text' rest' more')
    ∙ cmp_seam nat_cmp text text' (rest ++ more) (rest' ++ more') long
    ∙ ap (ordering_then (slice_cmp nat_cmp text text')) on
    ∙ sym (then_assoc (slice_cmp nat_cmp text text') (slice_cmp nat_cmp rest rest') (slice_cmp nat_cmp more more'))
    ∙ ap (λ o. ordering_then o (slice_cmp nat_cmp more more')) (sym (cmp_seam nat_cmp text text' rest rest' long))

-- the octets of names in lower case decide before what follows them, or are the same
pub wire_seam : (name other : List (List ℕ)) → AllByRecursion IsLabel name → AllByRecursion IsLabel other → (more more' : List ℕ)
    → slice_cmp nat_cmp (wire (low name) ++ more) (wire (low other) ++ more')
    ≡ ordering_then (slice_cmp nat_cmp (wire (low name)) (wire (low other))) (slice_cmp nat_cmp more more')
wire_seam [] [] each each' more more' = refl
wire_seam [] (text ∷ other) each each' more more' =
    let lower : List ℕ = map to_ascii_lowercase text in
    let less : nat_cmp 0 (length lower) ≡ Less = before (length lower) (omega (arith, each'.0.some, length-map text to_ascii_lowercase)) in
    ap (λ o. ordering_then o (slice_cmp nat_cmp more ((lower ++ wire (low other)) ++ more'))) less
    ∙ sym (ap (λ o. ordering_then (ordering_then o (slice_cmp nat_cmp [] (lower ++ wire (low other)))) (slice_cmp nat_cmp more more')) less)
wire_seam (text ∷ name) [] each each' more more' =
    let lower : List ℕ = map to_ascii_lowercase text in
    let greater : nat_cmp (length lower) 0 ≡ Greater = behind (length lower) (omega (arith, each.0.some, length-map text to_ascii_lowercase)) in
    ap (λ o. ordering_then o (slice_cmp nat_cmp ((lower ++ wire (low name)) ++ more) more')) greater
    ∙ sym (ap (λ o. ordering_then (ordering_then o (slice_cmp nat_cmp (lower ++ wire (low name)) [])) (slice_cmp nat_cmp more more')) greater)
wire_seam (text ∷ name) (text' ∷ other) each each' more more' =
    let lower : List ℕ = map to_ascii_lowercase text in
    let lower' : List ℕ = map to_ascii_lowercase text' in
    head_seam (nat_cmp (length lower) (length lower')) _ _ (slice_cmp nat_cmp more more')
    (λ level. text_seam lower lower' (wire (low name)) (wire (low other)) more more' (same (length lower) (length lower') level)
    (wire_seam name other each.1 each'.1 more more'))

-- names are the same up to case where their octets in lower case are
pub wire_alike : (result : Bool) (name other : List (List ℕ)) → (IsTrue result → low name ≡ low other) → (low name ≡ low other → IsTrue result)
    → result ≡ pointwise nat_eq (wire (low name)) (wire (low other))
wire_alike result name other on back =
    same_bool result (pointwise nat_eq (wire (low name)) (wire (low other)))
    (λ yes. (bytes_decides (wire (low name)) (wire (low other))).1 (ap wire (on yes)))
    (λ yes. back (wire_one (low name) (low other) ((bytes_decides (wire (low name)) (wire (low other))).0 yes)))

-- the labels, the root's among them, are as long as the name's octets
pub name_length : (labels name : List (List ℕ)) (len : ℕ) → len ≡ length (labels_wire labels) → labels ≡ with_root name → len ≡ length (wire name)
name_length labels name len is root = is ∙ ap (λ (l : List (List ℕ)). length (labels_wire l)) root ∙ ap (length {A = ℕ}) (labels_wire-with_root name)

-- so do the octets of strings, by their numbers
pub string_seam : (string other : List ℕ) (more more' : List ℕ)
    → slice_cmp nat_cmp (string_wire string ++ more) (string_wire other ++ more')
    ≡ ordering_then (slice_cmp nat_cmp (string_wire string) (string_wire other)) (slice_cmp nat_cmp more more')
string_seam string other more more' =
    head_seam (nat_cmp (length string) (length other)) _ _ (slice_cmp nat_cmp more more')
    (λ level. cmp_seam nat_cmp string other more more' (same (length string) (length other) level))
