use Rattle.std.proofs.Common.{◌≡◌, ◌∷◌, [], ◌++◌, ℕ, List, Bor, ap, sym, subst, rules}
use Rattle.std.specs.Prelude.{Option, None, option_map}
use Rattle.dns_service_parameters.specs.ServiceText.{SpellsKey}
use Rattle.dns_service_parameters.proofs.ServiceListed.{key_item, keys_listed, listed_keys, spells_word}
use Rattle.dns_service_parameters.proofs.ServiceLists.{Listing, listing_end, listing_step, no_step, shrinks}
use Rattle.dns_service_parameters.proofs.values.read_keys.Goals as goal

pub returns-in_default-read_key-clause-err : goal.returns-in_default-read_key-clause-err
returns-in_default-read_key-clause-err g c = λ short keys spells.
    let now : Bor (List ℕ) → List ℕ = λ b. b.now in
    let so_far : List ℕ = c.loop-left.keys.items in
    let listing = subst (λ (l : Option (List ℕ)). Listing SpellsKey key_item c.args.text.now l so_far) (ap (option_map now) c.in-Some.is) c.loop-left.invariant in
    no_step SpellsKey key_item now c.args.text.now c.in-Some.items.now c.split_first.result.0.now c.split_first.result.1 so_far listing
    c.split_first.ensures.front c.split_first.ensures.some c.split_first.ensures.none c.in_default-read_key.ensures.none keys
    (keys_listed c.args.text.now keys spells)

pub loop-left-smaller : goal.loop-left-smaller
loop-left-smaller g c =
    let now : Bor (List ℕ) → List ℕ = λ b. b.now in
    shrinks now c.loop-left.left c.in-Some.items c.split_first.result.0.now c.split_first.result.1 c.in-Some.is c.split_first.ensures.some

pub loop-left-preserved : goal.loop-left-preserved
loop-left-preserved g c =
    let now : Bor (List ℕ) → List ℕ = λ b. b.now in
    let so_far : List ℕ = c.loop-left.keys.items in
    let key : ℕ = c.in-Some-read_key.word.key in
    let is = spells_word c.split_first.result.0.now c.in-Some-read_key.word c.in-Some-read_key.ensures.some in
    let listing = subst (λ (l : Option (List ℕ)). Listing SpellsKey key_item c.args.text.now l so_far) (ap (option_map now) c.in-Some.is) c.loop-left.invariant in
    let items : c.push.new.self.items ≡ so_far ++ key ∷ [] = search rules in
    subst (λ (l : List ℕ). Listing SpellsKey key_item c.args.text.now (option_map now c.split_first.result.1) l) (sym items)
    (listing_step SpellsKey key_item now c.args.text.now c.in-Some.items.now c.split_first.result.0.now c.split_first.result.1 so_far key listing
    c.split_first.ensures.front c.split_first.ensures.some c.split_first.ensures.none is)

pub returns-clause-ok : goal.returns-clause-ok
returns-clause-ok g c =
    let none : c.loop-left.left ≡ None = search rules in
    let now : Bor (List ℕ) → List ℕ = λ b. b.now in
    let so_far : List ℕ = c.loop-left.keys.items in
    let listing = subst (λ (l : Option (List ℕ)). Listing SpellsKey key_item c.args.text.now l so_far) (ap (option_map now) none) c.loop-left.invariant in
    listed_keys c.args.text.now so_far (listing_end SpellsKey key_item c.args.text.now so_far listing)
