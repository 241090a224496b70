use Rattle.std.proofs.Common.{◌≡◌, ◌∙◌, ◌++◌, List, ℕ, ap, codes, decimal}
use Rattle.zone_general.specs.Seen.{tokens_in}
use Rattle.zone_general.proofs.LongerRows.{is_known_word, is_numbered_word}
use Rattle.zone_general.proofs.RowTypes.{word_at}
use Rattle.zone_general.proofs.longer_reader.known_word.Goals as goal

pub returns-then-kind : goal.returns-then-kind
returns-then-kind c =
    let has = c.requires in
    let word : c.token.result.now ≡ has.word.text =
    c.token.ensures has.word (word_at c.args.kind.index has.front has.word has.data' (tokens_in c.args.row) has.has.is has.place) in
    is_known_word has c.if-kind.true word

pub returns : goal.returns
returns c =
    let digits : c.as_bytes.result.now ≡ decimal c.args.kind.rtype = c.as_bytes.ensures.value ∙ c.format.ensures.text in
    let name = c.in_ok-extend_from_slice.ensures.items ∙ ap (λ (l : List ℕ). l ++ codes "TYPE") c.clear.ensures.items in
    is_numbered_word c.requires c.if-kind.false
    (c.as_slice.ensures.value ∙ c.in_ok-extend_from_slice-2.ensures.items ∙ ap (λ (l : List ℕ). l ++ c.as_bytes.result.now) name
    ∙ ap (λ (l : List ℕ). codes "TYPE" ++ l) digits)
