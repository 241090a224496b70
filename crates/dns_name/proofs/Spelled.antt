-- What a name is written as, and what is then remembered.
use Rattle.std.proofs.Common.{◌≡◌, ◌≤◌, ◌<◌, ◌+◌, ℕ, suc, Bool, true, false, Option, Some, None, List, [], ◌∷◌, ◌++◌, length, refl, sym, ◌∙◌, ap, subst, arith, length-append, append_assoc}
use Rattle.std.specs.Prelude.{⊤, if◌then◌else◌, option_map, unwrap_or, is_some}
use Rattle.std.specs.List.{list_all}
use Rattle.std.proofs.lemmas.Bool.{ltb-true, and_parts}
use Rattle.dns_octets.specs.Builder.{Standing, Known, IsWithin}
use Rattle.dns_label.specs.Name.{IsName, wire, labels_wire}
use Rattle.dns_name.specs.Spelling.{Spelling, Split, with_label, plain, compresses, has_room, is_near, remembered_form, place_in, may_stand, split_from, pointer_to, suffix_text, split_text, standings, name_text, if_near, known_after}
use Rattle.dns_name.specs.Remembered.{IsKnown, SpellsName, SpellsLabelled}
use Rattle.dns_name.specs.Remembered.IsKnown.{first, later}
use Rattle.dns_name.specs.Remembered.SpellsName.{root, label, pointer}
use Rattle.dns_name.proofs.Known.{found_in}
use Rattle.dns_name.proofs.Folding.{same_from}

-- where a name is split
abbrev pub split_of : Spelling → Known → ℕ → List (List ℕ) → Split
split_of s known place name = split_from s known (length known) place name

-- the suffixes that a name adds to what is remembered, if pointers reach them
abbrev pub added_of : Spelling → Known → ℕ → List (List ℕ) → Known
added_of s known place name =
    let split = split_of s known place name in
    standings s place (place + length (split_text s known split)) split.labels split.suffix

-- a target that remembers nothing writes each name in full

not_standing : (s : Spelling) (place : ℕ) → compresses s ≡ false → may_stand s 0 place ≡ false
not_standing s place none = rw none refl

pub name_text-none : (s : Spelling) (place : ℕ) (name : List (List ℕ)) → compresses s ≡ false → name_text s [] place name ≡ wire name
unfolding name_text split_from
name_text-none s place [] none = refl
name_text-none s place (text ∷ name) none = rw (not_standing s place none) refl

pub known_after-none : (s : Spelling) (place : ℕ) (name : List (List ℕ)) → compresses s ≡ false → known_after s [] place name ≡ []
unfolding known_after split_from
known_after-none s place [] none = refl
known_after-none s place (text ∷ name) none = rw (not_standing s place none) refl

-- no text is empty

suffix_some : (s : Spelling) (known : Known) (suffix : List (List ℕ)) → 0 < length (suffix_text s known suffix)
suffix_some s known [] = omega arith
suffix_some s known (text ∷ parent) = by_found (place_in s known (wire (text ∷ parent)))
  where
    by_found : (found : Option ℕ) → 0 < length (unwrap_or (option_map pointer_to found) (wire (text ∷ parent)))
    by_found (Some place) = omega arith
    by_found None = omega arith

pub split_some : (s : Spelling) (known : Known) (labels suffix : List (List ℕ)) → 0 < length (labels_wire labels ++ suffix_text s known suffix)
split_some s known labels suffix =
    omega (arith, length-append (labels_wire labels) (suffix_text s known suffix), suffix_some s known suffix)

-- the text of a name spells it

spelled_wire : (s : Spelling) (known : Known) (place : ℕ) (name : List (List ℕ)) → SpellsName s known place (wire name) name
spelled_wire s known place [] = root
spelled_wire s known place (text ∷ name) = label text text (same_from s text text refl) (spelled_wire s known (place + 1 + length text) name)

-- each remembered suffix stops before the place
abbrev pub StopsBefore : ℕ → Known → Type 0
StopsBefore place known = (standing : Standing) → IsKnown standing known → standing.stop ≤ place

spelled_by : (s : Spelling) (known : Known) (place : ℕ) (name : List (List ℕ)) (found : Option ℕ) → StopsBefore place known
    → place_in s known (wire name) ≡ found
    → SpellsName s known place (unwrap_or (option_map pointer_to found) (wire name)) name
spelled_by s known place name (Some target) before is =
    let on = found_in s known (wire name) target is in
    rw (sym on.there) (pointer on.target on.is_known (before on.target on.is_known) on.same)
spelled_by s known place name None before is = spelled_wire s known place name

spelled_suffix : (s : Spelling) (known : Known) (place : ℕ) (suffix : List (List ℕ)) → StopsBefore place known
    → SpellsName s known place (suffix_text s known suffix) suffix
spelled_suffix s known place [] before = root
spelled_suffix s known place (text ∷ parent) before = spelled_by s known place (text ∷ parent) _ before refl

-- a label before other text
label_before : (text more rest : List ℕ) → (length text ∷ text ++ more) ++ rest ≡ length text ∷ text ++ (more ++ rest)
label_before text more rest = ap (λ (l : List ℕ). length text ∷ l) (append_assoc text more rest)

pub spelled_split : (s : Spelling) (known : Known) (place : ℕ) (labels suffix : List (List ℕ)) → StopsBefore place known
    → SpellsName s known place (labels_wire labels ++ suffix_text s known suffix) (labels ++ suffix)
spelled_split s known place [] suffix before = spelled_suffix s known place suffix before
spelled_split s known place (text ∷ labels) suffix before =
    let on = spelled_split s known (place + 1 + length text) labels suffix (λ standing is. let e = before standing is in omega arith) in
    subst (λ l. SpellsName s known place l (text ∷ labels ++ suffix)) (sym (label_before text (labels_wire labels) (suffix_text s known suffix)))
    (label text text (same_from s text text refl) on)

-- the place of a newly remembered suffix in the text of its name
pub record IsAdded (s : Spelling) (known : Known) (place : ℕ) (text : List ℕ) (stop : ℕ) (standing : Standing) : Type 0 where
  pub name : List (List ℕ)
  pub is_name : IsName name
  pub suffix_is : standing.suffix ≡ remembered_form s name
  pub front : List ℕ
  pub behind : List ℕ
  pub whole : text ≡ front ++ behind
  pub begins : place + length front ≡ standing.place
  pub stops : standing.stop ≡ stop
  pub spelled : SpellsLabelled s known standing.place behind name
  pub some : 0 < length behind

added_behind : (s : Spelling) (known : Known) (place stop : ℕ) (text : List ℕ) (behind : List ℕ) (standing : Standing)
    → IsAdded s known (place + 1 + length text) behind stop standing → IsAdded s known place (length text ∷ text ++ behind) stop standing
added_behind s known place stop text behind standing is = record {
  name = is.name;
  is_name = is.is_name;
  suffix_is = is.suffix_is;
  front = length text ∷ text ++ is.front;
  behind = is.behind;
  whole = ap (λ (l : List ℕ). length text ∷ text ++ l) is.whole ∙ sym (append_assoc (length text ∷ text) is.front is.behind);
  begins = omega (arith, length-append text is.front, is.begins);
  stops = is.stops;
  spelled = is.spelled;
  some = is.some;
}

added_first : (s : Spelling) (known : Known) (place stop : ℕ) (text : List ℕ) (name : List (List ℕ)) (behind : List ℕ) → IsName (text ∷ name)
    → SpellsName s known (place + 1 + length text) behind name
    → IsAdded s known place (length text ∷ text ++ behind) stop (record { suffix = remembered_form s (text ∷ name); place = place; stop = stop })
added_first s known place stop text name behind is_name is = record {
  name = text ∷ name;
  is_name = is_name;
  suffix_is = refl;
  front = [];
  behind = length text ∷ text ++ behind;
  whole = refl;
  begins = omega arith;
  stops = refl;
  spelled = record {
    written = text;
    label = text;
    behind = behind;
    parent = name;
    text_is = refl;
    name_is = refl;
    same = same_from s text text refl;
    spelled = is;
  };
  some = omega arith;
}

added_case : (s : Spelling) (known : Known) (place stop : ℕ) (text : List ℕ) (name : List (List ℕ)) (behind : List ℕ) (standing : Standing) (added : Known)
    → IsName (text ∷ name) → SpellsName s known (place + 1 + length text) behind name
    → (IsKnown standing added → IsAdded s known (place + 1 + length text) behind stop standing)
    → IsKnown standing (record { suffix = remembered_form s (text ∷ name); place = place; stop = stop } ∷ added)
    → IsAdded s known place (length text ∷ text ++ behind) stop standing
added_case s known place stop text name behind _ added is_name is on first = added_first s known place stop text name behind is_name is
added_case s known place stop text name behind standing added is_name is on (later there) = added_behind s known place stop text behind standing (on there)

-- a name's parent is a name
parent_name : (text : List ℕ) (name : List (List ℕ)) → IsName (text ∷ name) → IsName name
parent_name text name is = record { labels = is.labels.1; short = omega (arith, is.short, length-append text (wire name)) }

pub standings_each : (s : Spelling) (known : Known) (place stop : ℕ) (labels suffix : List (List ℕ)) → IsName (labels ++ suffix)
    → StopsBefore place known → (standing : Standing) → IsKnown standing (standings s place stop labels suffix)
    → IsAdded s known place (labels_wire labels ++ suffix_text s known suffix) stop standing
standings_each s known place stop [] suffix is_name before standing is = elim is [ ]
standings_each s known place stop (text ∷ labels) suffix is_name before standing is =
    let on : StopsBefore (place + 1 + length text) known = λ other there. (let e = before other there in omega arith) in
    subst (λ l. IsAdded s known place l stop standing) (sym (label_before text (labels_wire labels) (suffix_text s known suffix)))
    (added_case s known place stop text (labels ++ suffix) (labels_wire labels ++ suffix_text s known suffix) standing
    (standings s (place + 1 + length text) stop labels suffix) is_name
    (spelled_split s known (place + 1 + length text) labels suffix on)
    (standings_each s known (place + 1 + length text) stop labels suffix (parent_name text (labels ++ suffix) is_name) on standing) is)

-- no more suffixes of a name are remembered than may be

room_within : (most : Option ℕ) (count : ℕ) → has_room most count ≡ true → IsWithin most (count + 1)
room_within None count room = tt
room_within (Some most) count room = let e = ltb-true count most room in omega arith

stands_room : (s : Spelling) (count place : ℕ) → may_stand s count place ≡ true → has_room s.most count ≡ true
stands_room s count place is = by_room s place (has_room s.most count) is
  where
    by_room : (s : Spelling) (place : ℕ) (room : Bool) → (if room then (if s.far then true else is_near place) else false) ≡ true → room ≡ true
    by_room s place true is = refl
    by_room s place false is = is

same_within : (most : Option ℕ) (a b : ℕ) → a ≡ b → IsWithin most a → IsWithin most b
same_within most a b same within = rw (sym same) within

-- a split by its two tests
abbrev pub split_by : Bool → Bool → List ℕ → List (List ℕ) → Split → Split
split_by found may text parent behind =
    if found then record { labels = []; suffix = text ∷ parent }
    else (if may then with_label text behind else record { labels = []; suffix = text ∷ parent })

few_by : (s : Spelling) (count place : ℕ) (text : List ℕ) (parent : List (List ℕ)) (behind : Split) (found may : Bool) → may_stand s count place ≡ may
    → IsWithin s.most count → (IsWithin s.most (count + 1) → IsWithin s.most (count + 1 + length behind.labels))
    → IsWithin s.most (count + length (split_by found may text parent behind).labels)
few_by s count place text parent behind true may is within on = same_within s.most count (count + 0) (omega arith) within
few_by s count place text parent behind false true is within on =
    same_within s.most (count + 1 + length behind.labels) _ (omega arith) (on (room_within s.most count (stands_room s count place is)))
few_by s count place text parent behind false false is within on = same_within s.most count (count + 0) (omega arith) within

pub split_few : (s : Spelling) (known : Known) (count place : ℕ) (name : List (List ℕ)) → IsWithin s.most count
    → IsWithin s.most (count + length (split_from s known count place name).labels)
unfolding split_from
split_few s known count place [] within = same_within s.most count (count + 0) (omega arith) within
split_few s known count place (text ∷ parent) within =
    few_by s count place text parent (split_from s known (count + 1) (place + 1 + length text) parent)
    (is_some (place_in s known (wire (text ∷ parent)))) (may_stand s count place) refl within
    (split_few s known (count + 1) (place + 1 + length text) parent)

pub length-standings : (s : Spelling) (place stop : ℕ) (labels suffix : List (List ℕ)) → length (standings s place stop labels suffix) ≡ length labels
length-standings s place stop [] suffix = refl
length-standings s place stop (text ∷ labels) suffix = ap suc (length-standings s (place + 1 + length text) stop labels suffix)

-- a name's parts are the name, and the suffixes of the labels that are written were not remembered

whole_by : (text : List ℕ) (parent : List (List ℕ)) (behind : Split) (found may : Bool) → behind.labels ++ behind.suffix ≡ parent
    → (split_by found may text parent behind).labels ++ (split_by found may text parent behind).suffix ≡ text ∷ parent
whole_by text parent behind true may is = refl
whole_by text parent behind false true is = ap (λ (l : List (List ℕ)). text ∷ l) is
whole_by text parent behind false false is = refl

pub split_whole : (s : Spelling) (known : Known) (count place : ℕ) (name : List (List ℕ))
    → (split_from s known count place name).labels ++ (split_from s known count place name).suffix ≡ name
unfolding split_from
split_whole s known count place [] = refl
split_whole s known count place (text ∷ parent) =
    whole_by text parent (split_from s known (count + 1) (place + 1 + length text) parent)
    (is_some (place_in s known (wire (text ∷ parent)))) (may_stand s count place)
    (split_whole s known (count + 1) (place + 1 + length text) parent)

pub added_each : (s : Spelling) (known : Known) (place : ℕ) (name : List (List ℕ)) → IsName name → StopsBefore place known
    → (standing : Standing) → IsKnown standing (added_of s known place name)
    → IsAdded s known place (name_text s known place name) (place + length (name_text s known place name)) standing
unfolding name_text
added_each s known place name is_name before standing is =
    let split = split_of s known place name in
    let whole : IsName (split.labels ++ split.suffix) = subst IsName (sym (split_whole s known (length known) place name)) is_name in
    standings_each s known place (place + length (split_text s known split)) split.labels split.suffix whole before standing is

-- none of the suffixes that begin with one of the labels is remembered
abbrev pub AreAbsent : Spelling → Known → List (List ℕ) → List (List ℕ) → Type 0
AreAbsent s known [] suffix = ⊤
AreAbsent s known (text ∷ labels) suffix = (place_in s known (wire (text ∷ labels ++ suffix)) ≡ None) × AreAbsent s known labels suffix

none_from : (found : Option ℕ) → is_some found ≡ false → found ≡ None
none_from None is = refl
none_from (Some place) is = absurd (let e : true ≡ false = is in cc)

absent_by : (s : Spelling) (known : Known) (text : List ℕ) (parent : List (List ℕ)) (behind : Split) (found may : Bool)
    → is_some (place_in s known (wire (text ∷ parent))) ≡ found → behind.labels ++ behind.suffix ≡ parent → AreAbsent s known behind.labels behind.suffix
    → AreAbsent s known (split_by found may text parent behind).labels (split_by found may text parent behind).suffix
absent_by s known text parent behind true may is whole on = tt
absent_by s known text parent behind false true is whole on =
    (ap (λ (n : List (List ℕ)). place_in s known (wire (text ∷ n))) whole ∙ none_from (place_in s known (wire (text ∷ parent))) is, on)
absent_by s known text parent behind false false is whole on = tt

pub split_absent : (s : Spelling) (known : Known) (count place : ℕ) (name : List (List ℕ))
    → AreAbsent s known (split_from s known count place name).labels (split_from s known count place name).suffix
unfolding split_from
split_absent s known count place [] = tt
split_absent s known count place (text ∷ parent) =
    absent_by s known text parent (split_from s known (count + 1) (place + 1 + length text) parent)
    (is_some (place_in s known (wire (text ∷ parent)))) (may_stand s count place) refl
    (split_whole s known (count + 1) (place + 1 + length text) parent)
    (split_absent s known (count + 1) (place + 1 + length text) parent)

-- those that a pointer reaches

near_by : (added : Known) (test : Bool) → list_all (λ standing. is_near standing.place) added ≡ test → (standing : Standing)
    → IsKnown standing (if test then added else []) → IsKnown standing added × (standing.place < 16384)
near_by added false is standing there = elim there [ ]
near_by added true is standing there = (there, near_one added is standing there)
  where
    near_one : (added : Known) → list_all (λ standing. is_near standing.place) added ≡ true → (standing : Standing) → IsKnown standing added
        → standing.place < 16384
    near_one [] all standing is = elim is [ ]
    near_one (other ∷ added) all standing first = ltb-true standing.place 16384 (and_parts (is_near standing.place) _ all).0
    near_one (other ∷ added) all standing (later is) = near_one added (and_parts (is_near other.place) _ all).1 standing is

pub if_near-known : (added : Known) (standing : Standing) → IsKnown standing (if_near added)
    → IsKnown standing added × (standing.place < 16384)
if_near-known added standing there = near_by added (list_all (λ other. is_near other.place) added) refl standing there

pub length-if_near : (added : Known) → length (if_near added) ≤ length added
length-if_near added = by_test added (list_all (λ other. is_near other.place) added)
  where
    by_test : (added : Known) (test : Bool) → length (if test then added else []) ≤ length added
    by_test added true = omega arith
    by_test added false = omega arith

-- the same for a target that writes each name in full
pub plain_text : (place : ℕ) (name : List (List ℕ)) → name_text plain [] place name ≡ wire name
plain_text place name = name_text-none plain place name refl

pub plain_known : (place : ℕ) (name : List (List ℕ)) → known_after plain [] place name ≡ []
plain_known place name = known_after-none plain place name refl
