use Rattle.std.proofs.Common.{length}
use Rattle.dns_field_texts.proofs.TypesLeft.{Left}
use Rattle.dns_field_texts.proofs.bitmap.iter.RtypeBitmapIterIterator.next.Given as goal

abbrev pub invariant-loop-place : goal.invariant-loop-place
invariant-loop-place l =
    Left l.fn.self l.self-inside.first l.self-inside.window.now l.self-inside.place l.self-inside.left.now

abbrev pub decreases-loop-place : goal.decreases-loop-place
decreases-loop-place l = length l.self-inside.left.now
