-- Aliases: a CNAME record tells that its owner is an alias of the name in its data (RFC 1034 3.6.2).
use Rattle.std.specs.Prelude.{◌≡◌, ◌==◌, ℕ, zero, suc, Bool, false, List, [], ◌∷◌, Option, Some, None, Ok, Err, find, option_map, nat_eq}
use Rattle.std.specs.Cmp.Lexicographic.{pointwise}
use Rattle.std.specs.Ordering.{on}
use Rattle.dns_octets.specs.declared.error.ParseError.{ParseError}
use Rattle.dns_label.specs.Name.{low}
use Rattle.dns_rr_data.specs.Fields.{compressible}
use Rattle.dns_rr_data.specs.Reading.{ReadsRow}
use Rattle.dns_header.specs.Question.{Question}
use Rattle.dns_header.specs.Record.{RecordOf}
use Rattle.dns_sections.specs.Asked.{IsFirstQuestion}
use Rattle.dns_sections.specs.Cursor.{Cursor}
use Rattle.dns_sections.specs.Given.{GivesAsked, IsTaken}
use Rattle.dns_sections.specs.Sections.{SectionCursor, IsSectionOf, IsOutOfReach}
use Rattle.dns_sections.specs.declared.section.Section.TheVariants.{Answer}

-- a record whose data is a name: the alias is its owner
abbrev pub Alias : Type 0
Alias = RecordOf (List (List ℕ)) (List (List ℕ))

-- data of type CNAME is a name (RFC 1035 3.3.1)
abbrev pub is_cname : ℕ → Bool
is_cname number = number == 5

abbrev pub ReadsCname : List ℕ → ℕ → ℕ → List (List ℕ) → Type 0
ReadsCname message place number name = ReadsRow number message place (compressible name ∷ [])

-- The CNAME records that a cursor has left, of any class, whose data parses.
pub data HasAliases : Cursor → List Alias → Type 0 where
  none : {old new : Cursor} → GivesAsked (IsTaken is_cname false) ReadsCname old None new → HasAliases old []
  more : {old new : Cursor} {alias : Alias} {others : List Alias}
      → GivesAsked (IsTaken is_cname false) ReadsCname old (Some (Ok alias)) new → HasAliases new others → HasAliases old (alias ∷ others)
  unread : {old new : Cursor} {error : ParseError} {others : List Alias}
      → GivesAsked (IsTaken is_cname false) ReadsCname old (Some (Err error)) new → HasAliases new others → HasAliases old others

-- what a name is an alias of: the data of the first record with this owner, up to ASCII case (RFC 4343)
abbrev pub aliased : List Alias → List (List ℕ) → Option (List (List ℕ))
aliased aliases name =
    option_map (λ alias. alias.rdata) (find (λ alias. on low (pointwise (pointwise nat_eq)) alias.owner name) aliases)

-- the name itself if it is no alias, and else the result for the next one
abbrev follow : (List (List ℕ) → Option (List (List ℕ))) → List (List ℕ) → Option (List (List ℕ)) → Option (List (List ℕ))
follow behind name None = Some name
follow behind name (Some next) = behind next

-- the name after at most `most` aliases; None if more follow
unfoldable pub resolved : List Alias → ℕ → List (List ℕ) → Option (List (List ℕ))
resolved aliases zero name = follow (λ next. None) name (aliased aliases name)
resolved aliases (suc most) name = follow (resolved aliases most) name (aliased aliases name)

-- The canonical name of the first question's name: that after at most 20 aliases of the answer section. None if more
-- follow, if no question parses, or if the section cannot be reached.
pub data HasCanonicalName (message : List ℕ) : Option (List (List ℕ)) → Type 0 where
  resolves : {question : Question} {at : SectionCursor} {aliases : List Alias} → IsFirstQuestion message question
      → IsSectionOf message Answer at → HasAliases at.cursor aliases → HasCanonicalName message (resolved aliases 20 question.name)
  no_question : ((question : Question) → IsFirstQuestion message question → ⊥) → HasCanonicalName message None
  out_of_reach : {error : ParseError} → IsOutOfReach message Answer error → HasCanonicalName message None
