-- What a reader finds in a message that is built: each item, one after another (RFC 1035 4.1).
use Rattle.std.specs.Prelude.{◌≡◌, ⊤, ℕ, List, [], ◌∷◌, length, take}
use Rattle.std.specs.List.{flat_map}
use Rattle.dns_name.specs.Spelling.{Spelling}
use Rattle.dns_name.specs.Page.{Page, Parts, write}
use Rattle.dns_name.specs.RecordData.{page_of}
use Rattle.dns_compress.specs.Alike.{HaveNames, LengthsFit, SpellsAlike}
use Rattle.dns_builder.specs.Built.{Built, header_octets}

-- The message spells the items one after another from the place on, with pointers to suffixes written before
-- (RFC 1035 4.1.4); `next` is the place after the last item.
pub data SpellsItems (s : Spelling) (message : List ℕ) : ℕ → List Parts → ℕ → Type 0 where
  none : {place : ℕ} → SpellsItems s message place [] place
  more : {place mid next : ℕ} {item : Parts} {items : List Parts} → SpellsAlike s message place item mid
      → SpellsItems s message mid items next → SpellsItems s message place (item ∷ items) next

-- The message spells the items of the sections, each section from the end of the one before.
pub data SpellsSections (s : Spelling) (message : List ℕ) : ℕ → List (List Parts) → ℕ → Type 0 where
  none : {place : ℕ} → SpellsSections s message place [] place
  more : {place mid next : ℕ} {items : List Parts} {sections : List (List Parts)} → SpellsItems s message place items mid
      → SpellsSections s message mid sections next → SpellsSections s message place (items ∷ sections) next

-- The octets are those of the message: its header, which counts the items of each section, and then the sections, up to the end.
pub record ReadsBack (s : Spelling) (built : Built) (message : List ℕ) : Type 0 where
  pub header : take 12 message ≡ header_octets built
  pub sections : SpellsSections s message 12 built.sections (length message)

-- The items read back if they are written after a page: the names in them are names, and their lengths fit.
abbrev pub AreReadableAfter : Spelling → Page → List Parts → Type 0
AreReadableAfter s page [] = ⊤
AreReadableAfter s page (item ∷ items) =
    HaveNames item × LengthsFit s page item × AreReadableAfter s (write s page item) items

-- the same for all items of the message
pub record IsReadable (s : Spelling) (built : Built) : Type 0 where
  pub items : AreReadableAfter s (page_of (header_octets built) []) (flat_map (λ items. items) built.sections)
