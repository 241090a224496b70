-- The items, the counts and the starts of sections: with one item more, with fewer sections, with more of them.
use Rattle.std.proofs.Common.{◌≡◌, ◌<◌, ◌≤◌, ◌-◌, ℕ, zero, suc, List, [], ◌∷◌, ◌++◌, length, take, drop, refl, sym, ◌∙◌, ap, arith, length-append, append_assoc}
use Rattle.std.specs.Prelude.{replicate, slice_index}
use Rattle.std.specs.List.{AllByRecursion, flat_map}
use Rattle.std.proofs.lemmas.List.{append-nil}
use Rattle.dns_name.specs.Spelling.{Spelling}
use Rattle.dns_name.specs.Page.{Page, Parts, write}
use Rattle.dns_builder.specs.Built.{count_at, write_all, starts_behind}
use Rattle.dns_builder.specs.Steps.{sections_to, onto_last}
use Rattle.dns_builder.proofs.Counts.{put, first_of}

-- the items of all sections, one after another
abbrev pub items_of : List (List Parts) → List Parts
items_of sections = flat_map (λ items. items) sections

-- no section has more items than a count can hold
abbrev pub AreFew : List (List Parts) → Type 0
AreFew sections = AllByRecursion (λ items. length items ≤ 65535) sections

pub write_all-append : (s : Spelling) (page : Page) (items more : List Parts)
    → write_all s page (items ++ more) ≡ write_all s (write_all s page items) more
write_all-append s page [] more = refl
write_all-append s page (item ∷ items) more = write_all-append s (write s page item) items more

pub length-starts : (s : Spelling) (page : Page) (sections : List (List Parts)) → length (starts_behind s page sections) ≡ length sections
length-starts s page [] = refl
length-starts s page (items ∷ sections) = ap suc (length-starts s (write_all s page items) sections)

pub count_few : (sections : List (List Parts)) (number : ℕ) → AreFew sections → count_at number sections ≤ 65535
count_few [] number few = omega arith
count_few (items ∷ sections) zero few = few.0
count_few (items ∷ sections) (suc number) few = count_few sections number few.1

-- one item more in the last section

pub items_onto : (items : List Parts) (sections : List (List Parts)) (item : Parts)
    → items_of (onto_last items sections item) ≡ items_of (items ∷ sections) ++ item ∷ []
items_onto items [] item = simp append-nil
items_onto items (next ∷ sections) item =
    ap (λ l. items ++ l) (items_onto next sections item) ∙ sym (append_assoc items (items_of (next ∷ sections)) (item ∷ []))

pub count_onto : (items : List Parts) (sections : List (List Parts)) (item : Parts) (number : ℕ)
    → count_at number (onto_last items sections item)
    ≡ put (length sections) (suc (count_at (length sections) (items ∷ sections))) (λ k. count_at k (items ∷ sections)) number
count_onto items [] item zero = omega (arith, length-append items (item ∷ []))
count_onto items [] item (suc number) = refl
count_onto items (next ∷ sections) item zero = refl
count_onto items (next ∷ sections) item (suc number) = count_onto next sections item number

pub starts_onto : (s : Spelling) (page : Page) (items : List Parts) (sections : List (List Parts)) (item : Parts)
    → starts_behind s page (onto_last items sections item) ≡ starts_behind s page (items ∷ sections)
starts_onto s page items [] item = refl
starts_onto s page items (next ∷ sections) item =
    ap (λ (l : List ℕ). length page.octets ∷ l) (starts_onto s (write_all s page items) next sections item)

pub few_onto : (items : List Parts) (sections : List (List Parts)) (item : Parts) → AreFew (items ∷ sections)
    → count_at (length sections) (items ∷ sections) < 65535 → AreFew (onto_last items sections item)
few_onto items [] item few room = (omega (arith, length-append items (item ∷ [])), tt)
few_onto items (next ∷ sections) item few room = (few.0, few_onto next sections item few.1 room)

-- as many sections as asked for

pub count_to : (count : ℕ) (sections : List (List Parts)) (number : ℕ)
    → count_at number (sections_to count sections) ≡ first_of count (λ k. count_at k sections) number
count_to zero sections number = refl
count_to (suc count) [] zero = refl
count_to (suc count) [] (suc number) = count_to count [] number
count_to (suc count) (items ∷ sections) zero = refl
count_to (suc count) (items ∷ sections) (suc number) = count_to count sections number

pub few_to : (count : ℕ) (sections : List (List Parts)) → AreFew sections → AreFew (sections_to count sections)
few_to zero sections few = tt
few_to (suc count) [] few = (omega arith, few_to count [] tt)
few_to (suc count) (items ∷ sections) few = (few.0, few_to count sections few.1)

-- fewer than there are

pub items_back : (count : ℕ) (sections : List (List Parts)) → count ≤ length sections
    → items_of sections ≡ items_of (sections_to count sections) ++ items_of (drop count sections)
items_back zero sections within = refl
items_back (suc count) [] within = absurd (omega arith)
items_back (suc count) (items ∷ sections) within =
    ap (λ l. items ++ l) (items_back count sections (omega arith)) ∙ sym (append_assoc items _ _)

pub starts_back : (s : Spelling) (page : Page) (count : ℕ) (sections : List (List Parts)) → count ≤ length sections
    → starts_behind s page (sections_to count sections) ≡ take count (starts_behind s page sections)
starts_back s page zero sections within = refl
starts_back s page (suc count) [] within = absurd (omega arith)
starts_back s page (suc count) (items ∷ sections) within =
    ap (λ (l : List ℕ). length page.octets ∷ l) (starts_back s (write_all s page items) count sections (omega arith))

pub start_back : (s : Spelling) (page : Page) (count : ℕ) (sections : List (List Parts)) → count < length sections
    → slice_index (starts_behind s page sections) count ≡ length (write_all s page (items_of (sections_to count sections))).octets
start_back s page count [] within = absurd (omega arith)
start_back s page zero (items ∷ sections) within = refl
start_back s page (suc count) (items ∷ sections) within =
    start_back s (write_all s page items) count sections (omega arith)
    ∙ ap (λ (p : Page). length p.octets) (sym (write_all-append s page items (items_of (sections_to count sections))))

-- and more

pub items_on : (count : ℕ) (sections : List (List Parts)) → length sections ≤ count → items_of (sections_to count sections) ≡ items_of sections
items_on zero [] within = refl
items_on zero (items ∷ sections) within = absurd (omega arith)
items_on (suc count) [] within = items_on count [] (omega arith)
items_on (suc count) (items ∷ sections) within = ap (λ l. items ++ l) (items_on count sections (omega arith))

pub count_on : (count : ℕ) (sections : List (List Parts)) (number : ℕ) → length sections ≤ count
    → count_at number (sections_to count sections) ≡ count_at number sections
count_on zero [] number within = refl
count_on zero (items ∷ sections) number within = absurd (omega arith)
count_on (suc count) [] zero within = refl
count_on (suc count) [] (suc number) within = count_on count [] number (omega arith)
count_on (suc count) (items ∷ sections) zero within = refl
count_on (suc count) (items ∷ sections) (suc number) within = count_on count sections number (omega arith)

starts_none : (s : Spelling) (page : Page) (count : ℕ) → starts_behind s page (sections_to count []) ≡ replicate count (length page.octets)
starts_none s page zero = refl
starts_none s page (suc count) = ap (λ (l : List ℕ). length page.octets ∷ l) (starts_none s page count)

pub starts_on : (s : Spelling) (page : Page) (count : ℕ) (sections : List (List Parts)) → length sections ≤ count
    → starts_behind s page (sections_to count sections)
    ≡ starts_behind s page sections ++ replicate (count - length sections) (length (write_all s page (items_of sections)).octets)
starts_on s page count [] within = starts_none s page count ∙ ap (λ n. replicate n (length page.octets)) (omega arith)
starts_on s page zero (items ∷ sections) within = absurd (omega arith)
starts_on s page (suc count) (items ∷ sections) within =
    ap (λ (l : List ℕ). length page.octets ∷ l) (starts_on s (write_all s page items) count sections (omega arith)
    ∙ ap (λ n. starts_behind s (write_all s page items) sections ++ n) same)
  where
    same : replicate (count - length sections) (length (write_all s (write_all s page items) (items_of sections)).octets)
        ≡ replicate (suc count - length (items ∷ sections)) (length (write_all s page (items ++ items_of sections)).octets)
    same = ap (λ (p : Page). replicate (count - length sections) (length p.octets)) (sym (write_all-append s page items (items_of sections)))
        ∙ ap (λ n. replicate n (length (write_all s page (items ++ items_of sections)).octets)) (omega arith)
