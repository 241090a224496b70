-- What is written one part after another: octets, names, and the length of what follows.
use Rattle.std.specs.Prelude.{◌+◌, ◌-◌, ℕ, List, [], ◌∷◌, ◌++◌, length}
use Rattle.std.specs.Int.{to_be_bytes, w16}
use Rattle.dns_octets.specs.Builder.{Known}
use Rattle.dns_name.specs.Spelling.{Spelling, name_text, known_after}
use Rattle.dns_name.specs.Remembered.{patched}

-- what a target holds: its octets, and the suffixes that it remembers in them
pub record Page : Type 0 where
  pub octets : List ℕ
  pub known : Known

-- octets as they are; a name that may be written with pointers; parts after two octets that count theirs
pub data Parts : Type 0 where
  End : Parts
  Octets : List ℕ → Parts → Parts
  Named : List (List ℕ) → Parts → Parts
  Counted : Parts → Parts → Parts

abbrev pub with_octets : Page → List ℕ → Page
with_octets page more = record { octets = page.octets ++ more; known = page.known }

abbrev pub with_name : Spelling → Page → List (List ℕ) → Page
with_name s page name = record {
  octets = page.octets ++ name_text s page.known (length page.octets) name;
  known = known_after s page.known (length page.octets) name;
}

-- the two octets at the place count what follows them
abbrev pub with_count : ℕ → Page → Page
with_count place page = record {
  octets = patched page.octets place (to_be_bytes w16 (length page.octets - (place + 2)));
  known = page.known;
}

-- what the page is when the parts are written on it
unfoldable pub write : Spelling → Page → Parts → Page
write s page End = page
write s page (Octets more parts) = write s (with_octets page more) parts
write s page (Named name parts) = write s (with_name s page name) parts
write s page (Counted inner parts) =
    write s (with_count (length page.octets) (write s (with_octets page (0 ∷ 0 ∷ [])) inner)) parts
