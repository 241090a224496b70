-- Where in a text the token is that a reason is about.
use Rattle.std.specs.Prelude.{◌≤◌, ℕ, List, length}
use Rattle.zone_reasons.specs.declared.located.Located.{Located}

-- the place is in the text, and does not end before it begins
abbrev pub IsPlaceIn : List ℕ → Located → Type 0
IsPlaceIn text located = (located.start ≤ located.end) × (located.end ≤ length text)
