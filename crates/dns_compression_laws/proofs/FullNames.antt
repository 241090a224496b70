-- How many octets parts take if each name is written in full.
use Rattle.std.proofs.Common.{◌≡◌, ℕ, ◌≤◌, ◌+◌, ◌-◌, false, List, [], ◌∷◌, ◌++◌, length, refl, ap, ◌∙◌, arith, length-append}
use Rattle.std.specs.Int.{to_be_bytes, w16}
use Rattle.dns_label.specs.Name.{wire}
use Rattle.dns_name.specs.Spelling.{Spelling, plain, compresses, name_text, known_after}
use Rattle.dns_name.specs.Page.{Page, Parts, with_octets, with_name, with_count, write}
use Rattle.dns_name.specs.Page.Parts.{End, Octets, Named, Counted}
use Rattle.dns_name.specs.RecordData.{page_of}
use Rattle.dns_name.proofs.Spelled.{name_text-none, known_after-none}
use Rattle.dns_name.proofs.WrittenParts.{length-patched, write-long}
use Rattle.dns_compression_laws.specs.Cost.{names_in, octets_in, written}
use Rattle.dns_compression_laws.specs.Joined.{join_parts, AreAsLong}
use Rattle.dns_compression_laws.proofs.Joins.{names-join, octets-join}

-- the octets of names in full
full : List (List (List ℕ)) → ℕ
full [] = 0
full (name ∷ names) = length (wire name) + full names

full-append : (a b : List (List (List ℕ))) → full (a ++ b) ≡ full a + full b
unfolding full
full-append [] b = omega arith
full-append (name ∷ a) b = omega (arith, full-append a b)

-- a page's octets, and that it remembers nothing
record IsInFull (s : Spelling) (page : Page) (parts : Parts) : Type 0 where
  long : length (write s page parts).octets ≡ length page.octets + octets_in parts + full (names_in parts)
  none : (write s page parts).known ≡ []

write_full : (s : Spelling) (page : Page) (parts : Parts) → compresses s ≡ false → page.known ≡ [] → IsInFull s page parts
unfolding write full
write_full s page End plain none = record { long = omega arith; none = none }
write_full s page (Octets more parts) plain none =
    let on = write_full s (with_octets page more) parts plain none in
    record { long = omega (arith, on.long, length-append page.octets more); none = on.none }
write_full s page (Named name parts) plain none =
    let place : ℕ = length page.octets in
    let text : name_text s page.known place name ≡ wire name = rw none (name_text-none s place name plain) in
    let after : known_after s page.known place name ≡ [] = rw none (known_after-none s place name plain) in
    let on = write_full s (with_name s page name) parts plain after in
    record {
      long = omega (arith, on.long, length-append page.octets (name_text s page.known place name), ap (length {A = ℕ}) text);
      none = on.none;
    }
write_full s page (Counted inner parts) plain none =
    let place : ℕ = length page.octets in
    let begun : Page = with_octets page (0 ∷ 0 ∷ []) in
    let counted : Page = write s begun inner in
    let marked = length-append page.octets (0 ∷ 0 ∷ []) in
    let within = write-long s begun inner in
    let patched_long = length-patched counted.octets place (to_be_bytes w16 (length counted.octets - (place + 2))) (omega arith) in
    let own = write_full s begun inner plain none in
    let on = write_full s (with_count place counted) parts plain own.none in
    record { long = omega (arith, own.long, on.long, full-append (names_in inner) (names_in parts)); none = on.none }

-- parts in full take no more without a run of them
pub less_without : (before other run after : Parts) → AreAsLong before other
    → length (written plain (join_parts other after)) ≤ length (written plain (join_parts before (join_parts run after)))
less_without before other run after alike =
    let whole = write_full plain (page_of [] []) (join_parts before (join_parts run after)) refl refl in
    let left = write_full plain (page_of [] []) (join_parts other after) refl refl in
    let all = ap full (names-join before (join_parts run after) ∙ ap (λ (l : List (List (List ℕ))). names_in before ++ l) (names-join run after)) in
    let some = ap full (names-join other after) in
    omega (
      arith,
      whole.long,
      left.long,
      all,
      some,
      full-append (names_in before) (names_in run ++ names_in after),
      full-append (names_in run) (names_in after),
      full-append (names_in other) (names_in after),
      octets-join before (join_parts run after),
      octets-join run after,
      octets-join other after,
      ap full alike.names,
      alike.octets,
    )
