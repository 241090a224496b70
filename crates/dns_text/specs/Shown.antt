-- What is shown of a value.
use Rattle.dns_text.specs.declared.display.ZoneFileDisplay.{ZoneFileDisplay}
use Rattle.dns_text.specs.declared.layout.DisplayKind.{DisplayKind}

abbrev pub shown_value : {T : Type 0} → ZoneFileDisplay T → T
shown_value shown = shown.value.now

abbrev pub shown_kind : {T : Type 0} → ZoneFileDisplay T → DisplayKind
shown_kind shown = shown.kind
