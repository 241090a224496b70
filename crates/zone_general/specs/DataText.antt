-- The text of a row's data. Only contracts inside the crate name it.
use Rattle.std.specs.Prelude.{ℕ, List}
use Rattle.dns_name.specs.UnknownText.{unknown_text}
use Rattle.zone_general.specs.declared.data_text.DataText.{DataText}
use Rattle.zone_general.specs.declared.data_text.DataText.TheVariants.{General, Written}

-- what is written for it
abbrev pub text_of : DataText → List ℕ
text_of (Written text) = text.now
text_of (General octets) = unknown_text octets.now
