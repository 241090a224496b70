-- Parts one after another, and what remains of them if a run of them is taken out.
use Rattle.std.specs.Prelude.{◌≡◌}
use Rattle.dns_name.specs.Page.{Parts}
use Rattle.dns_name.specs.Page.Parts.{End, Octets, Named, Counted}
use Rattle.dns_compression_laws.specs.Cost.{names_in, octets_in}

-- parts, and others after them
abbrev pub join_parts : Parts → Parts → Parts
join_parts End more = more
join_parts (Octets text parts) more = Octets text (join_parts parts more)
join_parts (Named name parts) more = Named name (join_parts parts more)
join_parts (Counted inner parts) more = Counted inner (join_parts parts more)

-- parts that differ only in their octets, as headers that count other records do
pub record AreAsLong (parts others : Parts) : Type 0 where
  pub names : names_in parts ≡ names_in others
  pub octets : octets_in parts ≡ octets_in others
