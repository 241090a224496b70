use Rattle.std.proofs.Common.{◌≡◌}
use Rattle.dns_octets.specs.Parser.{octets_of, place_of}
use Rattle.dns_sections.specs.Cursor.{Passes}
use Rattle.dns_sections.proofs.cursor.ItemCursor.pass_all.Given as goal

abbrev pub invariant-loop : goal.invariant-loop
invariant-loop g l = record {
  passed : Passes g.I.Item.skips (octets_of l.initial.parser) (place_of l.initial.parser) l.counter (place_of l.parser);
  same : octets_of l.parser ≡ octets_of l.initial.parser;
}
