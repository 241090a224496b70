-- Full cuts into messages whose names are written with pointers to any suffix.
use Rattle.std.proofs.Common.{◌≡◌, ℕ, ◌≤◌, true, List, [], ◌∷◌, ◌++◌, length, refl, sym, ◌∙◌, arith}
use Rattle.std.specs.List.{AllByRecursion}
use Rattle.dns_name.specs.Spelling.{Spelling, tree_spelling, hash_spelling}
use Rattle.dns_name.specs.Page.{Parts}
use Rattle.dns_name.specs.Page.Parts.{Octets}
use Rattle.dns_label.specs.Name.{IsName}
use Rattle.dns_header.specs.Header.{answer_header}
use Rattle.dns_header.specs.Question.{question_parts}
use Rattle.dns_compression_laws.specs.Alike.{HaveNames}
use Rattle.dns_compression_laws.specs.Cost.{names_in}
use Rattle.dns_compression_laws.specs.Joined.{join_parts}
use Rattle.dns_compression_laws.specs.Groups.{HasOneHead, items, group_parts}
use Rattle.dns_compression_laws.proofs.Sizes.{AllProper, any_proper, names_proper}
use Rattle.dns_compression_laws.proofs.Groups.{front_fits, back_fits, proper_group, free_group, all_any}
use Rattle.zone_records.specs.Record.{Record}
use Rattle.zone_core.specs.Query.{AxfrQuery, question_of}
use Rattle.zone_core.specs.Cutting.{IsCutting, Fits, IsFullCut, IsBlocked, FrontsFit, PartsFit}
use Rattle.zone_send.specs.Spelled.{answer_head, spelled_size, IsFreeAnswer, SpellGroups}
use Rattle.zone_send.proofs.GrownPages.{other_header, group_grows}
use Rattle.zone_send.proofs.Plain.{length-header}
use Rattle.zone_core.proofs.Cuttings.{full_cut_is_fewest, blocked_fits_no_cutting}
use Rattle.zone_core.proofs.CuttingsWhere.{PartsFitWhere}

one_head : (query : AxfrQuery) → HasOneHead (answer_head query)
one_head query group other = record {
  names = refl;
  octets = omega (arith, length-header query (length group), length-header query (length other));
}

-- Whatever the spelling and the limit, what fits still fits without its last records.
pub spelled_fronts_fit : (s : Spelling) (query : AxfrQuery) (item : Record → Parts) (max : ℕ) → FrontsFit (spelled_size s query item) max
spelled_fronts_fit s query item max = λ xs more fits.
    let grows = group_grows s (λ (group : List Record). answer_header query.id query.recursion (length group)) (question_parts (question_of query)) item
    (λ group other. refl) xs more in
    omega (arith, grows, fits)

-- octet for octet, for any names
pub tree_parts_fit : (query : AxfrQuery) (item : Record → Parts) (max : ℕ) → max ≤ 16384 → PartsFit (spelled_size tree_spelling query item) max
tree_parts_fit query item max few = record {
  front = λ xs more fits.
      front_fits (λ (r : Record). Unit {0}) tree_spelling (answer_head query) item (one_head query) (λ group. any_proper (names_in (answer_head query group)))
      (λ r is. any_proper (names_in (item r))) max refl few xs more (all_any (xs ++ more)) fits;
  back = λ more xs fits.
      back_fits (λ (r : Record). Unit {0}) tree_spelling (answer_head query) item (one_head query) (λ group. any_proper (names_in (answer_head query group)))
      (λ r is. any_proper (names_in (item r))) max refl few more xs (all_any (more ++ xs)) fits;
}

-- up to ASCII case, for names that are names
pub hash_parts_fit : (query : AxfrQuery) (item : Record → Parts) (max : ℕ) → max ≤ 16384 → IsName query.name
    → PartsFitWhere (λ r. HaveNames (item r)) (spelled_size hash_spelling query item) max
hash_parts_fit query item max few is_name = record {
  front = λ xs more all fits.
      front_fits (λ r. HaveNames (item r)) hash_spelling (answer_head query) item (one_head query)
      (λ group. names_proper true (answer_head query group) (is_name, tt))
      (λ r names. names_proper true (item r) names) max refl few xs more all fits;
  back = λ more xs all fits.
      back_fits (λ r. HaveNames (item r)) hash_spelling (answer_head query) item (one_head query)
      (λ group. names_proper true (answer_head query group) (is_name, tt))
      (λ r names. names_proper true (item r) names) max refl few more xs all fits;
}

-- the names of such messages are names
pub hash_proper : (query : AxfrQuery) (item : Record → Parts) → IsName query.name → (group : List Record) → AllByRecursion (λ r. HaveNames (item r)) group
    → AllProper true (names_in (group_parts (answer_head query) item group))
hash_proper query item is_name group all =
    proper_group (λ r. HaveNames (item r)) hash_spelling (answer_head query) item (one_head query)
    (λ group. names_proper true (answer_head query group) (is_name, tt)) (λ r names. names_proper true (item r) names) group all

-- The group of a free message takes no more, whatever the header of the message.
pub free_takes : (query : AxfrQuery) (item : Record → Parts) (message : List ℕ) (group : List Record) → length message ≤ 16384
    → IsFreeAnswer query item message group → spelled_size tree_spelling query item group ≤ length message
free_takes query item message group few free =
    let question : Parts = question_parts (question_of query) in
    let head : List Record → Parts = λ others. Octets free.header question in
    let less = free_group (λ (r : Record). Unit {0}) tree_spelling head item (λ group other. record { names = refl; octets = refl })
    (λ group. any_proper (names_in (head group))) (λ r is. any_proper (names_in (item r))) group refl (all_any group) message free.spelled few in
    let same = other_header tree_spelling (answer_header query.id query.recursion (length group)) free.header (join_parts question (items item group))
    (length-header query (length group) ∙ sym free.twelve) in
    omega (arith, less, same)

-- messages that spell groups freely are as many as the groups, and the groups fit
record AreSmall (query : AxfrQuery) (item : Record → Parts) (max : ℕ) (messages : List (List ℕ)) (groups : List (List Record)) : Type 0 where
  small : AllByRecursion (λ group. spelled_size tree_spelling query item group ≤ max) groups
  long : length groups ≡ length messages

are_small : (query : AxfrQuery) (item : Record → Parts) (max : ℕ) → max ≤ 16384 → (messages : List (List ℕ)) (groups : List (List Record))
    → SpellGroups query item max messages groups → AreSmall query item max messages groups
are_small query item max few [] [] spell = record { small = tt; long = refl }
are_small query item max few [] (group ∷ groups) spell = absurd spell
are_small query item max few (message ∷ messages) [] spell = absurd spell
are_small query item max few (message ∷ messages) (group ∷ groups) spell =
    let on = are_small query item max few messages groups spell.1 in
    let small = spell.0.small in
    let own = free_takes query item message group (omega (arith, small)) spell.0.free in
    let here : spelled_size tree_spelling query item group ≤ max = omega (arith, own, small) in
    record { small = (here, on.small); long = omega (arith, on.long) }

free_cut : (query : AxfrQuery) (item : Record → Parts) (max : ℕ) → max ≤ 16384 → (records : List Record) (messages : List (List ℕ)) (groups : List (List Record))
    → IsCutting records groups → SpellGroups query item max messages groups → Fits (spelled_size tree_spelling query item) max records groups
free_cut query item max few records messages groups cut spell =
    record { cut = cut; small = (are_small query item max few messages groups spell).small }

-- so they are no fewer than the groups of the full cut
pub free_no_fewer : (query : AxfrQuery) (item : Record → Parts) (max : ℕ) (records : List Record) (full groups : List (List Record)) (messages : List (List ℕ)) → max ≤ 16384
    → IsFullCut (spelled_size tree_spelling query item) max records full → IsCutting records groups → SpellGroups query item max messages groups
    → length full ≤ length messages
free_no_fewer query item max records full groups messages few full_cut cut spell =
    let fewest = full_cut_is_fewest (spelled_size tree_spelling query item) max records full groups (tree_parts_fit query item max few) full_cut
    (free_cut query item max few records messages groups cut spell) in
    omega (arith, fewest, (are_small query item max few messages groups spell).long)

-- and there are none if a record is blocked
pub free_none : (query : AxfrQuery) (item : Record → Parts) (max : ℕ) (records : List Record) (n : ℕ) (groups : List (List Record)) (messages : List (List ℕ)) → max ≤ 16384
    → IsBlocked (spelled_size tree_spelling query item) max records n → IsCutting records groups → SpellGroups query item max messages groups → ⊥
free_none query item max records n groups messages few blocked cut spell =
    blocked_fits_no_cutting (spelled_size tree_spelling query item) max records n groups (tree_parts_fit query item max few) blocked
    (free_cut query item max few records messages groups cut spell)
