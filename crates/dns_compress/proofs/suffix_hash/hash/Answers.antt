use Rattle.std.proofs.Common.{◌≡◌, ◌∙◌, ◌-◌, ◌/◌, ℕ, Bool, true, false, List, suc, length, drop, fold, ap, sym, arith}
use Rattle.std.specs.Prelude.{nat_lt, if◌then◌else◌}
use Rattle.std.specs.Int.{from_le_bytes, w64}
use Rattle.std.proofs.lemmas.Bool.{lt-ltb, le-ltb}
use Rattle.dns_compress.specs.SuffixHash.{mixed, mixed_words, hash_of}
use Rattle.dns_compress.proofs.suffix_hash.hash.Goals as goal

by_length : ℕ → List ℕ → Bool → ℕ
by_length seed octets few =
    if few then fold mixed seed octets
    else mixed (mixed_words (length octets / 8) seed octets) (from_le_bytes w64 (drop (length octets - 8) octets))

pub loop-word-preserved : goal.loop-word-preserved
loop-word-preserved c =
    let rest : List ℕ = c.loop-word.rest.now in
    let words : ℕ = length c.in-Some-split_first_chunk.others.now / 8 in
    let parts = c.in-Some-split_first_chunk.ensures.cases in
    let one_more : length rest / 8 ≡ suc words = omega (arith, parts.2) in
    ap (mixed_words words c.mix-state.result) parts.1
    ∙ ap (λ n. mixed_words words n (drop 8 rest))
    (c.mix-state.ensures ∙ ap (mixed c.loop-word.state) (c.from_le_bytes.ensures ∙ ap (from_le_bytes w64) parts.0))
    ∙ ap (λ n. mixed_words n c.loop-word.state rest) (sym one_more)
    ∙ c.loop-word.invariant

pub returns-in_default : goal.returns-in_default
unfolding hash_of by_length
returns-in_default c =
    let octets : List ℕ = c.args.octets.now in
    let few : nat_lt (length octets) 8 ≡ true = lt-ltb (length octets) 8 (omega (arith, c.in_default.ensures.cases)) in
    c.hash_few.ensures ∙ sym (ap (by_length c.args.seed octets) few)

pub returns : goal.returns
unfolding hash_of by_length
returns c =
    let octets : List ℕ = c.args.octets.now in
    let parts = c.in-Some.ensures.cases in
    let many : nat_lt (length octets) 8 ≡ false = le-ltb (length octets) 8 (omega (arith, parts.2)) in
    let none : length c.loop-word.rest.now / 8 ≡ 0 = omega (arith, c.in_default-split_first_chunk.ensures.cases) in
    let words : c.loop-word.state ≡ mixed_words (length octets / 8) c.args.seed octets =
    ap (λ n. mixed_words n c.loop-word.state c.loop-word.rest.now) (sym none) ∙ c.loop-word.invariant in
    c.mix.ensures
    ∙ ap (λ n. mixed n c.from_le_bytes-2.result) words
    ∙ ap (mixed (mixed_words (length octets / 8) c.args.seed octets)) (c.from_le_bytes-2.ensures ∙ ap (from_le_bytes w64) parts.1)
    ∙ sym (ap (by_length c.args.seed octets) many)
