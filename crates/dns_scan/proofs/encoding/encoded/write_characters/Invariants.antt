use Rattle.std.proofs.Common.{◌≡◌, ◌<◌, ◌%◌, ℕ, List, ◌++◌, length, map}
use Rattle.std.specs.List.{AllByRecursion}
use Rattle.std.specs.Fmt.{HasWritten, IsPlainFormatter}
use Rattle.dns_scan.specs.Bits.{all_bits, numbers_of}
use Rattle.dns_scan.specs.Base.{width, size, character}
use Rattle.dns_scan.proofs.encoding.encoded.write_characters.Given as goal

abbrev pub invariant-loop-number : goal.invariant-loop-number
invariant-loop-number g l =
    (numbers : List ℕ)
    × (numbers ++ l.number-iterator ≡ numbers_of (width l.base) (all_bits 8 l.octets))
    × (l.count ≡ length numbers % 4)
    × AllByRecursion (λ n. n < size l.base) l.number-iterator
    × (IsPlainFormatter l.initial.f → HasWritten g.W.Write.write_str_gives l.initial.f (map (character l.base) numbers) l.f)
