use Rattle.std.proofs.Common.{◌≡◌, ◌+◌, ◌++◌, ◌≤◌, ◌∙◌, List, ℕ, ap, arith, length, length-append, rules}
use Rattle.dns_entry_scanner.specs.Lines.{line_behind}
use Rattle.dns_entry_scanner.proofs.Lines.{block_front}
use Rattle.dns_entry_scanner.proofs.line_mark.line_behind.Goals as goal

pub overflow_add-line : goal.overflow_add-line
overflow_add-line c =
    let block = c.in-Some.block.now in
    let behind = c.in-Some.behind.now in
    let at : c.loop-block.left.now ≡ block ++ behind = block_front 64 c.loop-block.left.now block behind (search rules) (search rules) in
    let size : length c.loop-block.left.now ≡ length block + length behind = ap (length {A = ℕ}) at ∙ length-append block behind in
    let few : c.loop-block.line + c.feeds_in-line.result ≤ length c.args.before.now + 1 =
    omega (arith, c.loop-block.invariant.1, c.feeds_in-line.ensures.few, size) in
    search rules

pub loop-block-preserved : goal.loop-block-preserved
loop-block-preserved c =
    let block = c.in-Some.block.now in
    let behind = c.in-Some.behind.now in
    let at : c.loop-block.left.now ≡ block ++ behind = block_front 64 c.loop-block.left.now block behind (search rules) (search rules) in
    let lines : line_behind c.loop-block.left.now ≡ c.feeds_in-line.result + line_behind behind = ap line_behind at ∙ c.feeds_in-line.ensures.feeds behind in
    let size : length c.loop-block.left.now ≡ length block + length behind = ap (length {A = ℕ}) at ∙ length-append block behind in
    (omega (arith, c.loop-block.invariant.0, lines), omega (arith, c.loop-block.invariant.1, c.feeds_in-line.ensures.few, size))
