-- The octets of fields, with the letters in lower case whose case doesn't count. Only contracts inside the crate name them.
use Rattle.std.specs.Prelude.{ℕ, List, [], ◌∷◌, map}
use Rattle.std.specs.Char.{to_ascii_lowercase}
use Rattle.dns_fields_more.specs.declared.form.Form.{Form}
use Rattle.dns_fields_more.specs.declared.form.Form.TheVariants.{Name, CasedName, String}

-- the octets of a string after its length
abbrev pub folded_string : List ℕ → List ℕ
folded_string [] = []
folded_string (len ∷ octets) = len ∷ map to_ascii_lowercase octets

-- the octets of a field of the form
abbrev pub folded_octets : Form → List ℕ → List ℕ
folded_octets Name octets = map to_ascii_lowercase octets
folded_octets CasedName octets = map to_ascii_lowercase octets
folded_octets String octets = folded_string octets
folded_octets form octets = octets
