-- The pieces of a row, field by field.
use Rattle.std.proofs.Common.{◌≡◌, ℕ, List, [], ◌∷◌, ◌++◌, refl, subst, sym, Result, Ok, Err, OnOk}
use Rattle.std.specs.Prelude.{drop, Option, Some, None}
use Rattle.std.proofs.lemmas.List.{map-append}
use Rattle.dns_fields.specs.Fields.{Field}
use Rattle.dns_fields.specs.Comments.{first_comment}
use Rattle.dns_fields.specs.Shown.{field_pieces, row_pieces, field_tokens, row_tokens, commented}
use Rattle.dns_text.specs.Document.{Piece}
use Rattle.dns_text.specs.Document.Piece.{Token}
use Rattle.dns_text.specs.Writing.{Adds}
use Rattle.dns_text.proofs.Writings.{adds_append}

pub pieces_of_row : (field : Field) (row : List Field) → row_pieces (field ∷ row) ≡ field_pieces field ++ row_pieces row
pieces_of_row field row = map-append Token (field_tokens field) (row_tokens row)

pub commented_field : (comments : List (Option (List ℕ))) (field : Field) (row : List Field)
    → commented comments (field ∷ row) ≡ field_pieces field ++ (first_comment comments ++ commented (drop 1 comments) row)
commented_field [] field row = pieces_of_row field row
commented_field (None ∷ comments) field row = refl
commented_field (Some comment ∷ comments) field row = refl

pub none_shown : {F : Type 0} (writes : F → List Piece → F → Type 0) (a : F) (comments : List (Option (List ℕ)))
    → Adds writes a (commented comments []) a
none_shown writes a [] start front so_far = so_far
none_shown writes a (comment ∷ comments) start front so_far = so_far

-- a field is shown, then its comment, and then the others with theirs
pub row_shown : {F T E : Type 0} (writes : F → List Piece → F → Type 0) (a b c d : F) (comments others : List (Option (List ℕ)))
    (field : Field) (row : List Field) (result : Result T E)
    → Adds writes a (field_pieces field) b → Adds writes b (first_comment comments) c → others ≡ drop 1 comments
    → OnOk result (Adds writes c (commented others row) d)
    → OnOk result (Adds writes a (commented comments (field ∷ row)) d)
row_shown writes a b c d comments others field row (Ok value) first comment same shown =
    subst (λ (pieces : List Piece). Adds writes a pieces d) (sym (commented_field comments field row))
    (adds_append writes a b d (field_pieces field) (first_comment comments ++ commented (drop 1 comments) row) first
    (adds_append writes b c d (first_comment comments) (commented (drop 1 comments) row) comment
    (subst (λ (others : List (Option (List ℕ))). Adds writes c (commented others row) d) same shown)))
row_shown writes a b c d comments others field row (Err error) first comment same shown = tt

pub last_shown : {F : Type 0} (writes : F → List Piece → F → Type 0) (a b c : F) (comments : List (Option (List ℕ))) (field : Field)
    → Adds writes a (field_pieces field) b → Adds writes b (first_comment comments) c
    → Adds writes a (commented comments (field ∷ [])) c
last_shown writes a b c comments field first comment =
    subst (λ (pieces : List Piece). Adds writes a pieces c) (sym (commented_field comments field []))
    (adds_append writes a b c (field_pieces field) (first_comment comments ++ commented (drop 1 comments) []) first
    (adds_append writes b c c (first_comment comments) (commented (drop 1 comments) []) comment
    (none_shown writes c (drop 1 comments))))
