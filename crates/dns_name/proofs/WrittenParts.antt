-- What is written one part after another, and after a length.
use Rattle.std.proofs.Common.{◌≡◌, ◌≤◌, ◌<◌, ◌+◌, ◌-◌, ℕ, Bool, true, false, List, [], ◌∷◌, ◌++◌, length, take, drop, refl, sym, ◌∙◌, ap, subst, arith, inl, inr, length-append, length-take, length-drop, append_assoc, ◌⊎◌}
use Rattle.std.specs.Int.{to_be_bytes, w16}
use Rattle.std.proofs.Math.Seq.{take-append-add, drop-append-add}
use Rattle.std.specs.Prelude.{slice_index_or, Some, IsNone, ◌↔◌, Result, Ok, Err, OnOk}
use Rattle.dns_octets.specs.Builder.{Standing, Known, StandsBetween, GrowsTo}
use Rattle.dns_name.specs.Spelling.{Spelling, plain, name_text, known_after}
use Rattle.dns_name.specs.Remembered.{IsKnown, is_free, patched}
use Rattle.dns_label.specs.Name.{wire}
use Rattle.dns_name.specs.Page.{Page, Parts, with_octets, with_name, with_count, write}
use Rattle.dns_name.specs.Page.Parts.{End, Octets, Named, Counted}
use Rattle.dns_name.specs.RecordData.{page_of, IsComposedLength, IsUntold}
use Rattle.dns_name.proofs.Known.{known-append_cases, each_known, free_from}
use Rattle.dns_name.proofs.Spelled.{StopsBefore, name_text-none}

pub page_same : {a b : List ℕ} {k l : Known} → a ≡ b → k ≡ l → page_of a k ≡ page_of b l
page_same octets known = λ i. record { octets = octets i; known = known i }

pub length-patched : (octets : List ℕ) (place : ℕ) (over : List ℕ) → place + length over ≤ length octets
    → length (patched octets place over) ≡ length octets
length-patched octets place over within =
    omega (
      arith,
      length-append (take place octets) (over ++ drop (place + length over) octets),
      length-append over (drop (place + length over) octets),
      length-take place octets,
      length-drop (place + length over) octets,
    )

-- parts make a page no shorter
pub write-long : (s : Spelling) (page : Page) (parts : Parts) → length page.octets ≤ length (write s page parts).octets
unfolding write
write-long s page End = omega arith
write-long s page (Octets more parts) =
    let on = write-long s (with_octets page more) parts in omega (arith, length-append page.octets more)
write-long s page (Named name parts) =
    let on = write-long s (with_name s page name) parts in
    omega (arith, length-append page.octets (name_text s page.known (length page.octets) name))
write-long s page (Counted inner parts) =
    let counted : Page = write s (with_octets page (0 ∷ 0 ∷ [])) inner in
    let place : ℕ = length page.octets in
    let front = write-long s (with_octets page (0 ∷ 0 ∷ [])) inner in
    let on = write-long s (with_count place counted) parts in
    omega (
      arith,
      length-append page.octets (0 ∷ 0 ∷ []),
      length-patched counted.octets place (to_be_bytes w16 (length counted.octets - (place + 2))) (omega (arith, length-append page.octets (0 ∷ 0 ∷ []))),
    )

-- data after its length
pub write-counted : (s : Spelling) (page : Page) (inner : Parts)
    → write s page (Counted inner End) ≡ with_count (length page.octets) (write s (with_octets page (0 ∷ 0 ∷ [])) inner)
unfolding write
write-counted s page inner = refl

-- a patched length has as many octets as before
pub length-counted : (s : Spelling) (page : Page) (inner : Parts)
    → length (write s page (Counted inner End)).octets ≡ length (write s (with_octets page (0 ∷ 0 ∷ [])) inner).octets
length-counted s page inner =
    let counted : Page = write s (with_octets page (0 ∷ 0 ∷ [])) inner in
    ap (λ (page : Page). length page.octets) (write-counted s page inner)
    ∙ length-patched counted.octets (length page.octets) (to_be_bytes w16 (length counted.octets - (length page.octets + 2)))
    (omega (arith, length-append page.octets (0 ∷ 0 ∷ []), write-long s (with_octets page (0 ∷ 0 ∷ [])) inner))

-- no suffix is spelled by the two octets of a length
pub free_mark : (old mid : List ℕ) {new : List ℕ} {known same more : Known} (place : ℕ) → StopsBefore (length old) known → place ≡ length old
    → length mid ≡ place + 2 → same ≡ known → GrowsTo mid same new more → is_free place (place + 2) more ≡ true
free_mark old mid {new} {known} {same} {more} place before here long kept grown = free_from place (place + 2) more each
  where
    cases : (standing : Standing) → IsKnown standing same ⊎ IsKnown standing grown.added
        → (standing.stop ≤ place) ⊎ (place + 2 ≤ standing.place)
    cases standing (inl is) = inl (let e = before standing (subst (IsKnown standing) kept is) in omega arith)
    cases standing (inr is) =
        inr (let e = each_known (StandsBetween (length mid) (length new)) grown.added grown.between standing is in omega (arith, e.begins))

    each : (standing : Standing) → IsKnown standing more → (standing.stop ≤ place) ⊎ (place + 2 ≤ standing.place)
    each standing is = cases standing (known-append_cases same grown.added (subst (IsKnown standing) grown.known is))

-- octets that are written over what has grown
patched-behind : (old tail : List ℕ) (place : ℕ) (over : List ℕ) → length old ≤ place
    → patched (old ++ tail) place over ≡ old ++ patched tail (place - length old) over
patched-behind old tail place over behind =
    let left : ℕ = place - length old in
    let front : take place (old ++ tail) ≡ old ++ take left tail =
    ap (λ n. take n (old ++ tail)) (omega arith) ∙ take-append-add old tail left in
    let rest : drop (place + length over) (old ++ tail) ≡ drop (left + length over) tail =
    ap (λ n. drop n (old ++ tail)) (omega arith) ∙ drop-append-add old tail (left + length over) in
    ap (λ l. l ++ (over ++ drop (place + length over) (old ++ tail))) front
    ∙ ap (λ l. (old ++ take left tail) ++ (over ++ l)) rest ∙ append_assoc old (take left tail) _

pub GrowsTo-patch : {old new : List ℕ} {known more : Known} (place : ℕ) (over : List ℕ) → GrowsTo old known new more → length old ≤ place
    → place + length over ≤ length new → GrowsTo old known (patched new place over) more
GrowsTo-patch {old} {new} {known} {more} place over grown behind within = record {
  tail = patched grown.tail (place - length old) over;
  octets = ap (λ l. patched l place over) grown.octets ∙ patched-behind old grown.tail place over behind;
  added = grown.added;
  known = grown.known;
  between = subst (λ n. Among n) (sym (length-patched new place over within)) grown.between;
}
  where
    Among : ℕ → Type 0
    Among n = (k : ℕ) (d : Standing) → k < length grown.added → StandsBetween (length old) n (slice_index_or grown.added k d)

-- the same for octets that have grown
pub GrowsTo-is : {old new : List ℕ} {known more : Known} (last : List ℕ) (latest : Known) → GrowsTo old known new more → last ≡ new → latest ≡ more
    → GrowsTo old known last latest
GrowsTo-is {old} {new} {known} {more} last latest grown same known_same =
    subst (λ l. GrowsTo old known l latest) (sym same) (subst (λ (k : Known). GrowsTo old known new k) (sym known_same) grown)

pub GrowsTo-counted : {old new : List ℕ} {known more : Known} (place : ℕ) (last : List ℕ) (latest : Known) → GrowsTo old known new more
    → length old ≤ place → place + 2 ≤ length new → last ≡ (with_count place (page_of new more)).octets → latest ≡ more
    → GrowsTo old known last latest
GrowsTo-counted {new = new} place last latest grown behind within is same =
    GrowsTo-is last latest (GrowsTo-patch place (to_be_bytes w16 (length new - (place + 2))) grown behind within) is same

-- octets alone
pub write-octets : (s : Spelling) (octets : List ℕ) (known : Known) (more : List ℕ)
    → write s (page_of octets known) (Octets more End) ≡ page_of (octets ++ more) known
unfolding write
write-octets s octets known more = refl

pub octets_composed : (compress : Bool) (octets : List ℕ) (len : ℕ) → len ≡ length octets → IsComposedLength compress (Octets octets End) len
unfolding write
octets_composed compress octets len is = record { composed = λ s page plain. omega (arith, length-append page.octets octets) }

-- the length of octets alone is always known
pub octets_told : (compress : Bool) (octets : List ℕ) (len : ℕ) → length octets ≤ 65535 → IsNone (Some len) ↔ IsUntold compress (Octets octets End)
unfolding write
octets_told compress octets len short = (
  (λ none. absurd (cc)),
  (λ untold. absurd (elim untold [
    | inl named ↦ let named = named.1 in cc
    | inr long ↦ omega (arith, long, short)
  ])),
)

-- the length that parts have on every page is that of the parts in full
pub composed_in_full : {compress : Bool} {parts : Parts} {len : ℕ} → IsComposedLength compress parts len
    → length (write plain (page_of [] []) parts).octets ≡ len
composed_in_full it = let long = it.composed plain (page_of [] []) (λ _. (refl, refl)) in omega (arith, long)

pub page_on : {T E : Type 0} (result : Result T E) (a b : List ℕ) (known : Known) → OnOk result (a ≡ b)
    → OnOk result (page_of a known ≡ page_of b known)
page_on (Ok value) a b known same = page_same same refl
page_on (Err error) a b known same = tt

pub page_both : {T E : Type 0} (result : Result T E) (a b : List ℕ) (known more : Known) → OnOk result (a ≡ b) → OnOk result (known ≡ more)
    → OnOk result (page_of a known ≡ page_of b more)
page_both (Ok value) a b known more same too = page_same same too
page_both (Err error) a b known more same too = tt

-- a name alone
pub write-named : (s : Spelling) (octets : List ℕ) (known : Known) (name : List (List ℕ))
    → write s (page_of octets known) (Named name End)
    ≡ page_of (octets ++ name_text s known (length octets) name) (known_after s known (length octets) name)
unfolding write
write-named s octets known name = refl

pub name_composed : (compress : Bool) (name : List (List ℕ)) (len : ℕ) → compress ≡ false → len ≡ length (wire name)
    → IsComposedLength compress (Named name End) len
unfolding write
name_composed compress name len full is = record {
  composed = λ s page plain.
      let told = plain full in
      let place = length page.octets in
      let text : name_text s page.known place name ≡ wire name =
      ap (λ (k : Known). name_text s k place name) told.1 ∙ name_text-none s place name told.0 in
      omega (arith, length-append page.octets (name_text s page.known place name), ap (length {A = ℕ}) text);
}
