use Rattle.std.proofs.Common.{◌≡◌, ◌+◌, ◌++◌, ◌∙◌, [], ℕ, List, ap, arith, length, sym, take}
use Rattle.std.proofs.lemmas.List.{take_all}
use Rattle.dns_entry_scanner.specs.Lines.{line_behind}
use Rattle.dns_entry_scanner.proofs.Lines.{added, block_feeds, feeds_few, ones}
use Rattle.dns_entry_scanner.proofs.line_mark.feeds_in.Goals as goal
use lib.Lanes.{fold_l}

-- the block, and what it is counted by
counted : (block behind : List ℕ) (result : ℕ) → length block ≡ 64 → result ≡ fold_l added 0 (ones 64 (take 64 block))
    → line_behind (block ++ behind) ≡ result + line_behind behind
counted block behind result long is =
    let whole : take 64 block ≡ block = take_all 64 block (omega (arith, long)) in
    ap (λ (l : List ℕ). line_behind (l ++ behind)) (sym whole) ∙ block_feeds (take 64 block) (ap (length {A = ℕ}) whole ∙ long) behind
    ∙ ap (λ (n : ℕ). n + line_behind behind) (sym is)

pub returns-clause-feeds : goal.returns-clause-feeds
returns-clause-feeds c = λ behind. counted c.args.block.now behind c.from.result c.told-block c.from.ensures

pub returns-clause-few : goal.returns-clause-few
returns-clause-few c =
    feeds_few c.args.block.now c.from.result (counted c.args.block.now [] c.from.result c.told-block c.from.ensures)
