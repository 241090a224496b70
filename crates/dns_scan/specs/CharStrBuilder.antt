-- A string while it is built is the octets of what it is built in.
use Rattle.std.specs.Prelude.{ℕ, List}
use Rattle.dns_scan.specs.declared.char_str.builder.CharStrBuilder.{CharStrBuilder}

abbrev pub octets_in : {Builder : Type 0} {builds : _} {holds : _} {remembers : _} → (Builder → List ℕ) → CharStrBuilder Builder builds holds remembers → List ℕ
octets_in list string = list string.builder
