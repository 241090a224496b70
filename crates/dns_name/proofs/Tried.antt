-- The definitions tried on names that are written one after another.
use Rattle.std.specs.Prelude.{◌≡◌, ◌+◌, ℕ, zero, suc, true, false, Some, None, List, [], ◌∷◌, ◌++◌, length, take, drop, refl}
use Rattle.dns_octets.specs.Builder.{before}
use Rattle.dns_name.specs.Spelling.{Spelling, plain, static_spelling, tree_spelling, hash_spelling, split_from, name_text, known_after}
use Rattle.dns_name.specs.Page.{Page, write, with_name}
use Rattle.dns_name.specs.Page.Parts.{End, Named, Octets, Counted}

abbrev pub empty : Page
empty = record { octets = []; known = [] }

-- `aa.`, `ab.` and so on, that number of them
abbrev pub two_letters : ℕ → ℕ → List (List (List ℕ))
two_letters zero letter = []
two_letters (suc more) letter = ((97 ∷ letter ∷ []) ∷ []) ∷ two_letters more (letter + 1)

abbrev pub written : Spelling → Page → List (List (List ℕ)) → Page
written s page [] = page
written s page (name ∷ names) = written s (with_name s page name) names

abbrev pub cut : ℕ → Page → Page
cut len page = record { octets = take len page.octets; known = before len page.known }

-- the 25 names from `aa.` to `ay.`, and then `aa.` and `ay.`
abbrev pub twice : Spelling → List ℕ
twice s = (written s empty (two_letters 25 97 ++ ((97 ∷ 97 ∷ []) ∷ []) ∷ ((97 ∷ 121 ∷ []) ∷ []) ∷ [])).octets

pub twice_lengths : (length (twice static_spelling) ≡ 106) × (length (twice tree_spelling) ≡ 104) × (length (twice hash_spelling) ≡ 104) × (length (twice plain) ≡ 108)
unfolding split_from name_text known_after
twice_lengths = (refl, refl, refl, refl)

pub twice_ends : (drop 100 (twice static_spelling) ≡ 192 ∷ 0 ∷ 2 ∷ 97 ∷ 121 ∷ 0 ∷ []) × (drop 100 (twice tree_spelling) ≡ 192 ∷ 0 ∷ 192 ∷ 96 ∷ [])
    × (drop 100 (twice hash_spelling) ≡ 192 ∷ 0 ∷ 192 ∷ 96 ∷ [])
unfolding split_from name_text known_after
twice_ends = (refl, refl, refl)

-- the 25 names, and then `b.aa.`
abbrev pub below : Spelling → List ℕ
below s = drop 100 (written s empty (two_letters 25 97 ++ ((98 ∷ []) ∷ (97 ∷ 97 ∷ []) ∷ []) ∷ [])).octets

pub below_ends : (below static_spelling ≡ 1 ∷ 98 ∷ 2 ∷ 97 ∷ 97 ∷ 0 ∷ []) × (below tree_spelling ≡ 1 ∷ 98 ∷ 192 ∷ 0 ∷ []) × (below hash_spelling ≡ 1 ∷ 98 ∷ 192 ∷ 0 ∷ [])
unfolding split_from name_text known_after
below_ends = (refl, refl, refl)

-- `a.b.`, cut to 3 octets, and then `b.` and `a.b.`
abbrev pub cut_back : Spelling → List ℕ
cut_back s =
    (written s (cut 3 (written s empty (((97 ∷ []) ∷ (98 ∷ []) ∷ []) ∷ []))) (((98 ∷ []) ∷ []) ∷ ((97 ∷ []) ∷ (98 ∷ []) ∷ []) ∷ [])).octets

pub cut_back_is : (cut_back static_spelling ≡ 1 ∷ 97 ∷ 1 ∷ 1 ∷ 98 ∷ 0 ∷ 1 ∷ 97 ∷ 192 ∷ 3 ∷ []) × (cut_back tree_spelling ≡ cut_back static_spelling) × (cut_back hash_spelling ≡ cut_back static_spelling)
unfolding split_from name_text known_after
cut_back_is = (refl, refl, refl)

-- `a.b.` twice after 16,382 octets: the place of `b.` is too far for a pointer
abbrev pub again : Spelling → List ℕ
again s =
    let name : List (List ℕ) = (97 ∷ []) ∷ (98 ∷ []) ∷ [] in
    let first : List ℕ = name_text s [] 16382 name in
    first ++ name_text s (known_after s [] 16382 name) (16382 + length first) name

pub again_is : (again static_spelling ≡ 1 ∷ 97 ∷ 1 ∷ 98 ∷ 0 ∷ 255 ∷ 254 ∷ []) × (again tree_spelling ≡ again static_spelling)
    × (again hash_spelling ≡ 1 ∷ 97 ∷ 1 ∷ 98 ∷ 0 ∷ 1 ∷ 97 ∷ 1 ∷ 98 ∷ 0 ∷ [])
unfolding split_from name_text known_after
again_is = (refl, refl, refl)

-- `a.` and `A.`
abbrev pub two_cases : Spelling → List ℕ
two_cases s = (written s empty (((97 ∷ []) ∷ []) ∷ ((65 ∷ []) ∷ []) ∷ [])).octets

pub two_cases_are : (two_cases static_spelling ≡ 1 ∷ 97 ∷ 0 ∷ 192 ∷ 0 ∷ []) × (two_cases tree_spelling ≡ 1 ∷ 97 ∷ 0 ∷ 1 ∷ 65 ∷ 0 ∷ [])
    × (two_cases hash_spelling ≡ 1 ∷ 97 ∷ 0 ∷ 192 ∷ 0 ∷ []) × (two_cases plain ≡ 1 ∷ 97 ∷ 0 ∷ 1 ∷ 65 ∷ 0 ∷ [])
unfolding split_from name_text known_after
two_cases_are = (refl, refl, refl, refl)

-- `B.` and then `a.b.`: what is remembered is in lower case where the spelling folds
abbrev pub folded : Spelling → Page
folded s = written s empty (((66 ∷ []) ∷ []) ∷ ((97 ∷ []) ∷ (98 ∷ []) ∷ []) ∷ [])

pub folded_text : ((folded static_spelling).octets ≡ 1 ∷ 66 ∷ 0 ∷ 1 ∷ 97 ∷ 192 ∷ 0 ∷ [])
    × ((folded tree_spelling).octets ≡ 1 ∷ 66 ∷ 0 ∷ 1 ∷ 97 ∷ 1 ∷ 98 ∷ 0 ∷ [])
unfolding split_from name_text known_after
folded_text = (refl, refl)

pub folded_known : ((folded static_spelling).known ≡ record { suffix = 1 ∷ 98 ∷ 0 ∷ []; place = 0; stop = 3 }
    ∷ record { suffix = 1 ∷ 97 ∷ 1 ∷ 98 ∷ 0 ∷ []; place = 3; stop = 7 } ∷ [])
    × ((folded hash_spelling).known ≡ (folded static_spelling).known)
    × ((folded tree_spelling).known ≡ record { suffix = 1 ∷ 66 ∷ 0 ∷ []; place = 0; stop = 3 }
    ∷ record { suffix = 1 ∷ 97 ∷ 1 ∷ 98 ∷ 0 ∷ []; place = 3; stop = 8 } ∷ record { suffix = 1 ∷ 98 ∷ 0 ∷ []; place = 5; stop = 8 } ∷ [])
unfolding split_from name_text known_after
folded_known = (refl, refl, refl)

-- data of two octets and a name after its length, which counts a pointer if one is written
abbrev pub counted : Spelling → List ℕ
counted s =
    (write s empty (Named ((97 ∷ []) ∷ []) (Counted (Octets (0 ∷ 10 ∷ []) (Named ((97 ∷ []) ∷ []) End)) (Octets (7 ∷ []) End)))).octets

pub counted_is : (counted plain ≡ 1 ∷ 97 ∷ 0 ∷ 0 ∷ 5 ∷ 0 ∷ 10 ∷ 1 ∷ 97 ∷ 0 ∷ 7 ∷ [])
    × (counted tree_spelling ≡ 1 ∷ 97 ∷ 0 ∷ 0 ∷ 4 ∷ 0 ∷ 10 ∷ 192 ∷ 0 ∷ 7 ∷ [])
unfolding split_from name_text known_after write
counted_is = (refl, refl)
