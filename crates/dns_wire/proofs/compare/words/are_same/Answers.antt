use Rattle.std.proofs.Common.{◌≡◌, ◌-◌, length, arith}
use Rattle.std.proofs.lemmas.Bool.Decides.{nat_tests, Decides-eqb}
use Rattle.dns_wire.proofs.SameOctets.{same_words, word_more, words_whole}
use Rattle.dns_wire.proofs.compare.words.are_same.Goals as goal

pub loop-place-preserved : goal.loop-place-preserved
loop-place-preserved c =
    let same : c.word_at.result ≡ c.word_at-in-loop-place.result = grind (arith, nat_tests) in
    word_more c.args.octets.now c.args.other.now c.loop-place.place c.word_at.result c.word_at-in-loop-place.result
    c.loop-place.invariant same c.word_at.ensures c.word_at-in-loop-place.ensures

pub returns : goal.returns
returns c =
    let octets = c.args.octets.now in
    let other = c.args.other.now in
    let last = length octets - 8 in
    let test = Decides-eqb c.word_at-2.result c.word_at-3.result in (
      λ yes. words_whole octets other c.loop-place.place last c.word_at-2.result c.word_at-3.result
          c.loop-place.invariant (omega arith) (omega arith) (omega arith) (test.0 yes) c.word_at-2.ensures c.word_at-3.ensures,
      λ same. test.1 (same_words octets other last c.word_at-2.result c.word_at-3.result
          c.word_at-2.type_inv c.word_at-3.type_inv same c.word_at-2.ensures c.word_at-3.ensures),
    )
