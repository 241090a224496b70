-- The layouts to choose from.
use Rattle.dns_text.specs.declared.layout.DisplayKind.{DisplayKind}
use Rattle.dns_text.specs.declared.layout.DisplayKind.TheVariants as kinds
use Rattle.dns_text.specs.Document.{Layout}
use Rattle.dns_text.specs.Document.Layout.{Simple, Tabbed, Multiline}

abbrev pub layout_of : DisplayKind → Layout
layout_of kinds.Simple = Simple
layout_of kinds.Tabbed = Tabbed
layout_of kinds.Multiline = Multiline
