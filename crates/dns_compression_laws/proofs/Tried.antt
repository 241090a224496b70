-- The definitions on one example: three names of two labels, the last two with pointers.
use Rattle.std.proofs.Common.{◌≡◌, ℕ, List, [], ◌∷◌, refl, arith}
use Rattle.dns_name.specs.Spelling.{tree_spelling, hash_spelling, name_text, known_after, split_from}
use Rattle.dns_name.specs.Page.{Parts, write}
use Rattle.dns_name.specs.Page.Parts.{End, Named}
use Rattle.dns_compression_laws.specs.Cost.{parts_cost, written}
use Rattle.dns_compression_laws.specs.Free.{Stand, IsFree}
use Rattle.dns_compression_laws.specs.Free.IsOneOf.{first}
use Rattle.dns_compression_laws.specs.Free.SpellsNameFreely.{root, label, pointer}
use Rattle.dns_compression_laws.specs.Free.SpellsFreely.{nothing, named}

abbrev name : List (List ℕ)
name = (97 ∷ []) ∷ (98 ∷ []) ∷ []

-- the name with a letter in upper case
abbrev other : List (List ℕ)
other = (65 ∷ []) ∷ (98 ∷ []) ∷ []

abbrev three : List (List ℕ) → Parts
three last = Named name (Named name (Named last End))

pub cost_tried : parts_cost tree_spelling (three name) ≡ 9
cost_tried = refl

-- the parent alone is the same, octet for octet
pub case_tried : (parts_cost tree_spelling (three other) ≡ 11) × (parts_cost hash_spelling (three other) ≡ 9)
case_tried = (refl, refl)

pub written_tried : written tree_spelling (three name) ≡ 1 ∷ 97 ∷ 1 ∷ 98 ∷ 0 ∷ 192 ∷ 0 ∷ 192 ∷ 0 ∷ []
unfolding write name_text known_after split_from
written_tried = refl

abbrev stand : ℕ → Stand
stand place = record { label = 97 ∷ []; parent = (98 ∷ []) ∷ []; place = place }

-- a pointer may go to another pointer
pub free_tried : IsFree (1 ∷ 97 ∷ 1 ∷ 98 ∷ 0 ∷ 192 ∷ 0 ∷ 192 ∷ 5 ∷ []) (three name)
free_tried = record {
  after = stand 7 ∷ stand 5 ∷ stand 0 ∷ record { label = 98 ∷ []; parent = []; place = 2 } ∷ [];
  spelled =
      named (stand 0 ∷ record { label = 98 ∷ []; parent = []; place = 2 } ∷ []) 5
      (label (97 ∷ []) (1 ∷ 98 ∷ 0 ∷ 192 ∷ 0 ∷ 192 ∷ 5 ∷ []) refl (label (98 ∷ []) (0 ∷ 192 ∷ 0 ∷ 192 ∷ 5 ∷ []) refl (root (192 ∷ 0 ∷ 192 ∷ 5 ∷ []) refl)))
      (named (stand 5 ∷ []) 7 (pointer 192 0 (192 ∷ 5 ∷ []) (stand 0) refl (omega arith) refl first)
      (named (stand 7 ∷ []) 9 (pointer 192 5 [] (stand 5) refl (omega arith) refl first) (nothing (omega arith))));
}
