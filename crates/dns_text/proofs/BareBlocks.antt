-- Blocks without tokens.
use Rattle.std.proofs.Common.{◌≡◌, ◌==◌, ◌+◌, ℕ, zero, suc, Bool, true, false, if◌then◌else◌, List, [], ◌∷◌, ◌++◌, refl, sym, ◌∙◌, ap, subst, arith}
use Rattle.std.proofs.lemmas.Bool.{eqb-true}
use Rattle.std.specs.List.{AllByRecursion}
use Rattle.dns_text.specs.Document.{Layout, Piece, depth, has_data, is_first, is_inside, piece_text, place_behind}
use Rattle.dns_text.specs.Document.Layout.{Simple, Tabbed, Multiline}
use Rattle.dns_text.specs.Document.Piece.{Token, Comment, Open, Close, Newline}
use Rattle.dns_text.specs.Lines.{IsNoToken, closes, place_after}
use Rattle.dns_text.proofs.AlikePlaces.{Alike, alike_text, text_behind-append}
use Rattle.dns_text.proofs.DocumentSplits.{is_inside_at, text_behind}
use Rattle.dns_text.proofs.InnerBlocks.{inner_newline}

pub nothing_either : (b : Bool) → ◌≡◌ {A = List ℕ} (if b then [] else []) []
nothing_either true = refl
nothing_either false = refl

-- a mark is shown under Multiline only
pub unseen_open : (layout : Layout) (line : List Piece) → (layout ≡ Multiline → ⊥) → (piece_text layout line Open ≡ [])
    × (is_first layout (Open ∷ line) ≡ is_first layout line)
unseen_open Simple line other = (nothing_either (is_inside line), refl)
unseen_open Tabbed line other = (nothing_either (is_inside line), refl)
unseen_open Multiline line other = absurd (other refl)

pub unseen_close : (layout : Layout) (line : List Piece) → (layout ≡ Multiline → ⊥) → (piece_text layout line Close ≡ [])
    × (is_first layout (Close ∷ line) ≡ is_first layout line)
unseen_close Simple line other = (nothing_either (depth line == 1), refl)
unseen_close Tabbed line other = (nothing_either (depth line == 1), refl)
unseen_close Multiline line other = absurd (other refl)

unseen_comment : (layout : Layout) (line : List Piece) (comment : List ℕ) → (layout ≡ Multiline → ⊥)
    → (piece_text layout line (Comment comment) ≡ []) × (is_first layout (Comment comment ∷ line) ≡ is_first layout line)
unseen_comment Simple line comment other = (refl, refl)
unseen_comment Tabbed line comment other = (refl, refl)
unseen_comment Multiline line comment other = absurd (other refl)

-- One place is in a block of the other's and this many more, and nothing in them is shown.
record Sunk (layout : Layout) (line other : List Piece) (n : ℕ) : Type 0 where
  pub depth_is : depth line ≡ suc (n + depth other)
  pub first_is : is_first layout line ≡ is_first layout other
  pub data_is : is_inside other ≡ true → has_data line ≡ has_data other

abbrev Nothing : Layout → List Piece → List Piece → List Piece → Type 0
Nothing layout line other pieces = (text_behind layout line pieces ≡ []) × Sunk layout (place_after line pieces) other 0

nothing_more : (layout : Layout) (line other : List Piece) (piece : Piece) (pieces : List Piece) → piece_text layout line piece ≡ []
    → Nothing layout (place_behind line piece) other pieces → Nothing layout line other (piece ∷ pieces)
nothing_more layout line other piece pieces one others =
    (ap (λ l. l ++ text_behind layout (place_behind line piece) pieces) one ∙ others.0, others.1)

sunk_text : (layout : Layout) (pieces : List Piece) (n : ℕ) (line other : List Piece) → (layout ≡ Multiline → ⊥) → closes n pieces ≡ true
    → AllByRecursion IsNoToken pieces → Sunk layout line other n → Nothing layout line other pieces
sunk_text layout [] n line other flat closed bare sunk =
    let none : n ≡ 0 = eqb-true n 0 closed in (refl, subst (λ j. Sunk layout line other j) none sunk)
sunk_text layout (Token token ∷ pieces) n line other flat closed bare sunk = absurd (bare.0 token refl)
sunk_text layout (Comment comment ∷ pieces) n line other flat closed bare sunk =
    let one = unseen_comment layout line comment flat in
    let there : Sunk layout (Comment comment ∷ line) other n = record { depth_is = sunk.depth_is; first_is = one.1 ∙ sunk.first_is; data_is = sunk.data_is } in
    nothing_more layout line other (Comment comment) pieces one.0 (sunk_text layout pieces n (Comment comment ∷ line) other flat closed bare.1 there)
sunk_text layout (Open ∷ pieces) n line other flat closed bare sunk =
    let one = unseen_open layout line flat in
    let inside = is_inside_at line (n + depth other) sunk.depth_is in
    let kept : has_data (Open ∷ line) ≡ has_data line = cc in
    let there : Sunk layout (Open ∷ line) other (suc n) = record {
      depth_is = omega (arith, sunk.depth_is);
      first_is = one.1 ∙ sunk.first_is;
      data_is = λ here. kept ∙ sunk.data_is here;
    } in
    nothing_more layout line other Open pieces one.0 (sunk_text layout pieces (suc n) (Open ∷ line) other flat closed bare.1 there)
sunk_text layout (Close ∷ pieces) zero line other flat closed bare sunk = cc
sunk_text layout (Close ∷ pieces) (suc n) line other flat closed bare sunk =
    let one = unseen_close layout line flat in
    let there : Sunk layout (Close ∷ line) other n = record { depth_is = omega (arith, sunk.depth_is); first_is = one.1 ∙ sunk.first_is; data_is = sunk.data_is } in
    nothing_more layout line other Close pieces one.0 (sunk_text layout pieces n (Close ∷ line) other flat closed bare.1 there)
sunk_text layout (Newline ∷ pieces) n line other flat closed bare sunk =
    let one = inner_newline layout line (is_inside_at line (n + depth other) sunk.depth_is) in
    let there : Sunk layout (Newline ∷ line) other n = record { depth_is = sunk.depth_is; first_is = one.2 ∙ sunk.first_is; data_is = sunk.data_is } in
    nothing_more layout line other Newline pieces one.0
    (subst (λ l. Nothing layout l other pieces) (sym one.1) (sunk_text layout pieces n (Newline ∷ line) other flat closed bare.1 there))

data_inside : (line : List Piece) → is_inside line ≡ true → has_data (Open ∷ line) ≡ has_data line
data_inside line inside = cc

-- a block without tokens adds nothing, except under Multiline
pub bare_block : (layout : Layout) (line block behind : List Piece) → (layout ≡ Multiline → ⊥) → closes 0 block ≡ true
    → AllByRecursion IsNoToken block → text_behind layout line (Open ∷ block ++ Close ∷ behind) ≡ text_behind layout line behind
bare_block layout line block behind flat closed bare =
    let opened = unseen_open layout line flat in
    let sunk : Sunk layout (Open ∷ line) line 0 = record { depth_is = omega arith; first_is = opened.1; data_is = data_inside line } in
    let none = sunk_text layout block 0 (Open ∷ line) line flat closed bare sunk in
    let last = place_after (Open ∷ line) block in
    let shut = unseen_close layout last flat in
    let alike : Alike layout (Close ∷ last) line = record {
      depth_is = omega (arith, none.1.depth_is);
      first_is = shut.1 ∙ none.1.first_is;
      data_is = none.1.data_is;
    } in
    ap (λ l. l ++ text_behind layout (Open ∷ line) (block ++ Close ∷ behind)) opened.0
    ∙ text_behind-append layout (Open ∷ line) block (Close ∷ behind)
    ∙ ap (λ l. l ++ text_behind layout last (Close ∷ behind)) none.0
    ∙ ap (λ l. l ++ text_behind layout (Close ∷ last) behind) shut.0
    ∙ alike_text layout (Close ∷ last) line behind alike
