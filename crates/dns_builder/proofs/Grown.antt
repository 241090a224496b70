-- What is written follows the page, and what is then newly remembered is in it.
use Rattle.std.proofs.Common.{◌≤◌, ◌+◌, ◌-◌, ℕ, Bool, true, false, List, [], ◌∷◌, ◌++◌, length, refl, ap, arith, length-append}
use Rattle.std.specs.Prelude.{All, if◌then◌else◌}
use Rattle.std.specs.List.{list_all}
use Rattle.std.specs.Int.{to_be_bytes, w16}
use Rattle.std.proofs.lemmas.List.Elements.{All-nil, All-cons}
use Rattle.dns_octets.specs.Builder.{Known, StandsBetween, GrowsTo}
use Rattle.dns_octets.proofs.Grows.{GrowsTo-append, GrowsTo-same}
use Rattle.dns_label.specs.Name.{labels_wire}
use Rattle.dns_name.specs.Spelling.{Spelling, Split, is_near, if_near, standings, split_text, suffix_text, name_text, known_after}
use Rattle.dns_name.specs.Page.{Page, Parts, with_octets, with_name, with_count, write}
use Rattle.dns_name.specs.Page.Parts.{End, Octets, Named, Counted}
use Rattle.dns_name.proofs.Growth.{GrowsTo-trans}
use Rattle.dns_name.proofs.Spelled.{split_of, added_of}
use Rattle.dns_name.proofs.WrittenParts.{GrowsTo-patch}
use Rattle.dns_builder.specs.Built.{write_all}

-- a page is another with more after it
abbrev pub IsGrown : Page → Page → Type 0
IsGrown page grown = GrowsTo page.octets page.known grown.octets grown.known

pub grown_longer : {page grown : Page} → IsGrown page grown → length page.octets ≤ length grown.octets
grown_longer {page} grows = omega (arith, ap (length {A = ℕ}) grows.octets, length-append page.octets grows.tail)

-- labels written from a place on
standings_between : (s : Spelling) (begin place stop : ℕ) (labels suffix : List (List ℕ)) → begin ≤ place
    → place + length (labels_wire labels) ≤ stop → All (StandsBetween begin stop) (standings s place stop labels suffix)
standings_between s begin place stop [] suffix behind within = All-nil (StandsBetween begin stop)
standings_between s begin place stop (label ∷ labels) suffix behind within =
    let long = length-append label (labels_wire labels) in
    All-cons (StandsBetween begin stop) _ _ (record { begins = behind; spelled = omega arith; ends = omega arith })
    (standings_between s begin (place + 1 + length label) stop labels suffix (omega arith) (omega arith))

near_between : (begin stop : ℕ) (added : Known) → All (StandsBetween begin stop) added → All (StandsBetween begin stop) (if_near added)
near_between begin stop added all = by_test (list_all (λ standing. is_near standing.place) added)
  where
    by_test : (test : Bool) → All (StandsBetween begin stop) (if test then added else [])
    by_test true = all
    by_test false = All-nil (StandsBetween begin stop)

name_grows : (s : Spelling) (page : Page) (name : List (List ℕ)) → IsGrown page (with_name s page name)
unfolding known_after name_text
name_grows s page name =
    let split : Split = split_of s page.known (length page.octets) name in
    let text : List ℕ = split_text s page.known split in
    let long = length-append (labels_wire split.labels) (suffix_text s page.known split.suffix) in
    let longer = length-append page.octets text in
    record {
      tail = text;
      octets = refl;
      added = if_near (added_of s page.known (length page.octets) name);
      known = refl;
      between = near_between _ _ (added_of s page.known (length page.octets) name)
          (rw longer (standings_between s (length page.octets) (length page.octets) (length page.octets + length text) split.labels split.suffix
          (omega arith) (omega arith)));
    }

count_grows : (page counted : Page) → IsGrown (with_octets page (0 ∷ 0 ∷ [])) counted → IsGrown page (with_count (length page.octets) counted)
count_grows page counted grows =
    let marked : List ℕ = page.octets ++ 0 ∷ 0 ∷ [] in
    GrowsTo-patch (length page.octets) (to_be_bytes w16 (length counted.octets - (length page.octets + 2)))
    (GrowsTo-trans (GrowsTo-append page.octets page.known marked page.known (0 ∷ 0 ∷ []) refl refl) grows) (omega arith)
    (omega (arith, grown_longer grows, length-append page.octets (0 ∷ 0 ∷ [])))

pub write_grows : (s : Spelling) (page : Page) (parts : Parts) → IsGrown page (write s page parts)
unfolding write
write_grows s page End = GrowsTo-same page.octets page.known page.octets page.known refl refl
write_grows s page (Octets more parts) =
    GrowsTo-trans (GrowsTo-append page.octets page.known (page.octets ++ more) page.known more refl refl) (write_grows s (with_octets page more) parts)
write_grows s page (Named name parts) = GrowsTo-trans (name_grows s page name) (write_grows s (with_name s page name) parts)
write_grows s page (Counted inner parts) =
    GrowsTo-trans (count_grows page _ (write_grows s (with_octets page (0 ∷ 0 ∷ [])) inner)) (write_grows s _ parts)

pub all_grows : (s : Spelling) (page : Page) (items : List Parts) → IsGrown page (write_all s page items)
all_grows s page [] = GrowsTo-same page.octets page.known page.octets page.known refl refl
all_grows s page (item ∷ items) = GrowsTo-trans (write_grows s page item) (all_grows s (write s page item) items)
