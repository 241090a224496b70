-- What a name is written as, and what is remembered of it, label by label.
use Rattle.std.proofs.Common.{◌≡◌, ℕ, ◌+◌, Bool, true, false, List, [], ◌∷◌, ◌++◌, length, refl, ap, ◌∙◌, append_assoc}
use Rattle.std.specs.Prelude.{if◌then◌else◌, Option, Some, None, is_some}
use Rattle.dns_octets.specs.Builder.{Standing, Known}
use Rattle.dns_label.specs.Name.{wire, labels_wire}
use Rattle.dns_name.specs.Spelling.{Spelling, Split, with_label, remembered_form, place_in, may_stand, split_from, pointer_to, split_text, suffix_text, standings, name_text, if_near, known_after}

-- a pointer if the suffix is remembered; else the suffix in full, or its first label and what follows it
abbrev pub text_by : Option ℕ → Bool → List ℕ → List ℕ → List ℕ
text_by (Some place) here full label_first = pointer_to place
text_by None true full label_first = label_first
text_by None false full label_first = full

-- the octets of a name at a place, if `count` suffixes are remembered, with those of the labels before
unfoldable pub text_from : Spelling → Known → ℕ → ℕ → List (List ℕ) → List ℕ
text_from s known count place [] = 0 ∷ []
text_from s known count place (label ∷ parent) =
    text_by (place_in s known (wire (label ∷ parent))) (may_stand s count place) (wire (label ∷ parent))
    (length label ∷ label ++ text_from s known (count + 1) (place + 1 + length label) parent)

abbrev pub added_by : Option ℕ → Bool → Standing → Known → Known
added_by (Some place) here first more = []
added_by None true first more = first ∷ more
added_by None false first more = []

-- the suffixes whose first label is written, if the name's octets stop before `stop`
unfoldable pub added_from : Spelling → Known → ℕ → ℕ → ℕ → List (List ℕ) → Known
added_from s known count place stop [] = []
added_from s known count place stop (label ∷ parent) =
    added_by (place_in s known (wire (label ∷ parent))) (may_stand s count place)
    (record { suffix = remembered_form s (label ∷ parent); place = place; stop = stop })
    (added_from s known (count + 1) (place + 1 + length label) stop parent)

-- a name split before its first label or after it
split_by : Option ℕ → Bool → List ℕ → List (List ℕ) → Split → Split
split_by found here label parent split =
    if is_some found then record { labels = []; suffix = label ∷ parent }
    else (if here then with_label label split else record { labels = []; suffix = label ∷ parent })

text_step : (s : Spelling) (known : Known) (found : Option ℕ) (here : Bool) (label : List ℕ) (parent : List (List ℕ)) (split : Split) (more : List ℕ)
    → place_in s known (wire (label ∷ parent)) ≡ found → split_text s known split ≡ more
    → split_text s known (split_by found here label parent split) ≡ text_by found here (wire (label ∷ parent)) (length label ∷ label ++ more)
unfolding split_by
text_step s known (Some place) here label parent split more is on = rw is refl
text_step s known None false label parent split more is on = rw is refl
text_step s known None true label parent split more is on =
    append_assoc (length label ∷ label) (labels_wire split.labels) (suffix_text s known split.suffix)
    ∙ ap (λ (l : List ℕ). length label ∷ label ++ l) on

split_is : (s : Spelling) (known : Known) (count place : ℕ) (name : List (List ℕ))
    → split_text s known (split_from s known count place name) ≡ text_from s known count place name
unfolding split_from text_from split_by
split_is s known count place [] = refl
split_is s known count place (label ∷ parent) =
    text_step s known (place_in s known (wire (label ∷ parent))) (may_stand s count place) label parent
    (split_from s known (count + 1) (place + 1 + length label) parent) (text_from s known (count + 1) (place + 1 + length label) parent) refl
    (split_is s known (count + 1) (place + 1 + length label) parent)

-- a name's octets
pub text_is : (s : Spelling) (known : Known) (place : ℕ) (name : List (List ℕ)) → name_text s known place name ≡ text_from s known (length known) place name
unfolding name_text
text_is s known place name = split_is s known (length known) place name

whole_step : (found : Option ℕ) (here : Bool) (label : List ℕ) (parent : List (List ℕ)) (split : Split) → split.labels ++ split.suffix ≡ parent
    → (split_by found here label parent split).labels ++ (split_by found here label parent split).suffix ≡ label ∷ parent
unfolding split_by
whole_step (Some place) here label parent split on = refl
whole_step None false label parent split on = refl
whole_step None true label parent split on = ap (λ (n : List (List ℕ)). label ∷ n) on

whole_is : (s : Spelling) (known : Known) (count place : ℕ) (name : List (List ℕ))
    → (split_from s known count place name).labels ++ (split_from s known count place name).suffix ≡ name
unfolding split_from split_by
whole_is s known count place [] = refl
whole_is s known count place (label ∷ parent) =
    whole_step (place_in s known (wire (label ∷ parent))) (may_stand s count place) label parent
    (split_from s known (count + 1) (place + 1 + length label) parent) (whole_is s known (count + 1) (place + 1 + length label) parent)

added_step : (s : Spelling) (found : Option ℕ) (here : Bool) (place stop : ℕ) (label : List ℕ) (parent : List (List ℕ)) (split : Split) (more : Known)
    → split.labels ++ split.suffix ≡ parent → standings s (place + 1 + length label) stop split.labels split.suffix ≡ more
    → standings s place stop (split_by found here label parent split).labels (split_by found here label parent split).suffix
    ≡ added_by found here (record { suffix = remembered_form s (label ∷ parent); place = place; stop = stop }) more
unfolding split_by
added_step s (Some target) here place stop label parent split more whole on = refl
added_step s None false place stop label parent split more whole on = refl
added_step s None true place stop label parent split more whole on =
    λ i. record { suffix = remembered_form s (label ∷ whole i); place = place; stop = stop } ∷ on i

standings_are : (s : Spelling) (known : Known) (count place stop : ℕ) (name : List (List ℕ))
    → standings s place stop (split_from s known count place name).labels (split_from s known count place name).suffix ≡ added_from s known count place stop name
unfolding split_from split_by added_from
standings_are s known count place stop [] = refl
standings_are s known count place stop (label ∷ parent) =
    added_step s (place_in s known (wire (label ∷ parent))) (may_stand s count place) place stop label parent
    (split_from s known (count + 1) (place + 1 + length label) parent) (added_from s known (count + 1) (place + 1 + length label) stop parent)
    (whole_is s known (count + 1) (place + 1 + length label) parent) (standings_are s known (count + 1) (place + 1 + length label) stop parent)

-- what is remembered after a name
pub known_is : (s : Spelling) (known : Known) (place : ℕ) (name : List (List ℕ))
    → known_after s known place name
    ≡ known ++ if_near (added_from s known (length known) place (place + length (split_text s known (split_from s known (length known) place name))) name)
unfolding known_after
known_is s known place name =
    ap (λ (k : Known). known ++ if_near k)
    (standings_are s known (length known) place (place + length (split_text s known (split_from s known (length known) place name))) name)
