-- What contracts see of a list of suffixes.
use Rattle.std.specs.Prelude.{ℕ, ◌+◌, ◌≤◌, vec_len, vec_capacity}
use Rattle.dns_octets.specs.Builder.{Known}
use Rattle.dns_compress.specs.Joined.{standings_in}
use Rattle.dns_compress.specs.declared.suffix_list.SuffixList.{SuffixList}

-- the suffixes in the order of writing
abbrev pub listed : SuffixList → Known
listed list = standings_in list.octets.items list.written.items

-- `count` suffixes more, with `octets` octets in all, fit without an allocation
abbrev pub HasRoom : SuffixList → ℕ → ℕ → Type 0
HasRoom list count octets =
    (vec_len list.written + count ≤ vec_capacity list.written) × (vec_len list.octets + octets ≤ vec_capacity list.octets)
