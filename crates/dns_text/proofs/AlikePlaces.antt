-- Places after which pieces have the same text.
use Rattle.std.proofs.Common.{◌≡◌, ◌-◌, ℕ, zero, suc, nat_lt, Bool, true, false, if◌then◌else◌, List, [], ◌∷◌, ◌++◌, refl, sym, ◌∙◌, ap, subst, append_assoc}
use Rattle.dns_text.specs.Document.{Layout, Piece, depth, gap, has_data, is_first, is_inside, piece_text, place_behind}
use Rattle.dns_text.specs.Document.Layout.{Simple, Tabbed, Multiline}
use Rattle.dns_text.specs.Document.Piece.{Token, Comment, Open, Close, Newline}
use Rattle.dns_text.specs.Lines.{place_after}
use Rattle.dns_text.proofs.DocumentSplits.{some_open, text_behind}

-- pieces after pieces
pub text_behind-append : (layout : Layout) (line pieces others : List Piece)
    → text_behind layout line (pieces ++ others) ≡ text_behind layout line pieces ++ text_behind layout (place_after line pieces) others
text_behind-append layout line [] others = refl
text_behind-append layout line (piece ∷ pieces) others =
    ap (λ l. piece_text layout line piece ++ l) (text_behind-append layout (place_behind line piece) pieces others)
    ∙ sym (append_assoc (piece_text layout line piece) _ _)

pub place_after-append : (line pieces others : List Piece) → place_after line (pieces ++ others) ≡ place_after (place_after line pieces) others
place_after-append line [] others = refl
place_after-append line (piece ∷ pieces) others = place_after-append (place_behind line piece) pieces others

-- The same marks are open, the line begins at both or at none, and both open blocks have data or neither.
pub record Alike (layout : Layout) (line other : List Piece) : Type 0 where
  pub depth_is : depth line ≡ depth other
  pub first_is : is_first layout line ≡ is_first layout other
  pub data_is : is_inside other ≡ true → has_data line ≡ has_data other

gap_by : (layout : Layout) (line other : List Piece) (inside : Bool) → is_inside other ≡ inside → Alike layout line other
    → gap layout line ≡ gap layout other
gap_by Simple line other inside is alike = let a = alike.first_is in let d = alike.depth_is in cc
gap_by Multiline line other inside is alike = let a = alike.first_is in let d = alike.depth_is in cc
gap_by Tabbed line other true is alike = let a = alike.first_is in let d = alike.depth_is in let h = alike.data_is is in cc
gap_by Tabbed line other false is alike =
    let a = alike.first_is in let out : is_inside line ≡ false = ap (nat_lt 0) alike.depth_is ∙ is in cc

pub alike_gap : (layout : Layout) (line other : List Piece) → Alike layout line other → gap layout line ≡ gap layout other
alike_gap layout line other alike = gap_by layout line other (is_inside other) refl alike

same_inside : (layout : Layout) (line other : List Piece) → Alike layout line other → is_inside line ≡ is_inside other
same_inside layout line other alike = ap (nat_lt 0) alike.depth_is

-- the places after the same piece
alike_token : (layout : Layout) (line other : List Piece) (token : List ℕ) → Alike layout line other
    → Alike layout (Token token ∷ line) (Token token ∷ other)
alike_token layout line other token alike = record { depth_is = alike.depth_is; first_is = refl; data_is = λ inside. refl }

alike_comment : (layout : Layout) (line other : List Piece) (comment : List ℕ) → Alike layout line other
    → Alike layout (Comment comment ∷ line) (Comment comment ∷ other)
alike_comment Simple line other comment alike = record { depth_is = alike.depth_is; first_is = alike.first_is; data_is = alike.data_is }
alike_comment Tabbed line other comment alike = record { depth_is = alike.depth_is; first_is = alike.first_is; data_is = alike.data_is }
alike_comment Multiline line other comment alike = record { depth_is = alike.depth_is; first_is = refl; data_is = alike.data_is }

first_open : (layout : Layout) (line other : List Piece) → Alike layout line other
    → is_first layout (Open ∷ line) ≡ is_first layout (Open ∷ other)
first_open Simple line other alike = alike.first_is
first_open Tabbed line other alike = alike.first_is
first_open Multiline line other alike =
    let inside = same_inside Multiline line other alike in let first = alike.first_is in cc

data_open : (layout : Layout) (line other : List Piece) (inside : Bool) → is_inside other ≡ inside → Alike layout line other
    → has_data (Open ∷ line) ≡ has_data (Open ∷ other)
data_open layout line other true is alike =
    let inside = same_inside layout line other alike in let d = alike.data_is is in cc
data_open layout line other false is alike = let inside = same_inside layout line other alike in cc

alike_open : (layout : Layout) (line other : List Piece) → Alike layout line other → Alike layout (Open ∷ line) (Open ∷ other)
alike_open layout line other alike = record {
  depth_is = ap suc alike.depth_is;
  first_is = first_open layout line other alike;
  data_is = λ inside. data_open layout line other (is_inside other) refl alike;
}

first_close : (layout : Layout) (line other : List Piece) → Alike layout line other
    → is_first layout (Close ∷ line) ≡ is_first layout (Close ∷ other)
first_close Simple line other alike = alike.first_is
first_close Tabbed line other alike = alike.first_is
first_close Multiline line other alike = let d = alike.depth_is in let first = alike.first_is in cc

-- what is inside after a closing mark was inside before it
inside_before : (n : ℕ) → nat_lt 0 (n - 1) ≡ true → nat_lt 0 n ≡ true
inside_before zero inside = inside
inside_before (suc n) inside = some_open n

alike_close : (layout : Layout) (line other : List Piece) → Alike layout line other → Alike layout (Close ∷ line) (Close ∷ other)
alike_close layout line other alike = record {
  depth_is = ap (λ n. n - 1) alike.depth_is;
  first_is = first_close layout line other alike;
  data_is = λ inside. alike.data_is (inside_before (depth other) inside);
}

newline_first : (layout : Layout) (line other : List Piece) → Alike layout line other
    → is_first layout (Newline ∷ line) ≡ is_first layout (Newline ∷ other)
newline_first Simple line other alike = alike.first_is
newline_first Tabbed line other alike = alike.first_is
newline_first Multiline line other alike = alike.first_is

alike_newline : (layout : Layout) (line other : List Piece) (inside : Bool) → is_inside other ≡ inside → Alike layout line other
    → Alike layout (place_behind line Newline) (place_behind other Newline)
alike_newline layout line other true is alike =
    let here = same_inside layout line other alike ∙ is in
    let behind : Bool → List Piece → List Piece = λ b l. if b then Newline ∷ l else [] in
    let kept : Alike layout (Newline ∷ line) (Newline ∷ other) = record { depth_is = alike.depth_is; first_is = newline_first layout line other alike; data_is = alike.data_is } in
    subst (λ b. Alike layout (behind b line) (place_behind other Newline)) (sym here)
    (subst (λ b. Alike layout (Newline ∷ line) (behind b other)) (sym is) kept)
alike_newline layout line other false is alike =
    let here = same_inside layout line other alike ∙ is in
    let behind : Bool → List Piece → List Piece = λ b l. if b then Newline ∷ l else [] in
    let kept : Alike layout [] [] = record { depth_is = refl; first_is = refl; data_is = λ inside. refl } in
    subst (λ b. Alike layout (behind b line) (place_behind other Newline)) (sym here)
    (subst (λ b. Alike layout [] (behind b other)) (sym is) kept)

pub alike_behind : (layout : Layout) (line other : List Piece) (piece : Piece) → Alike layout line other
    → Alike layout (place_behind line piece) (place_behind other piece)
alike_behind layout line other (Token token) alike = alike_token layout line other token alike
alike_behind layout line other (Comment comment) alike = alike_comment layout line other comment alike
alike_behind layout line other Open alike = alike_open layout line other alike
alike_behind layout line other Close alike = alike_close layout line other alike
alike_behind layout line other Newline alike = alike_newline layout line other (is_inside other) refl alike

-- the text of the same piece
alike_piece : (layout : Layout) (line other : List Piece) (piece : Piece) → Alike layout line other
    → piece_text layout line piece ≡ piece_text layout other piece
alike_piece layout line other (Token token) alike = ap (λ l. l ++ token) (alike_gap layout line other alike)
alike_piece layout line other (Comment comment) alike = refl
alike_piece layout line other Open alike =
    let inside = same_inside layout line other alike in let g = alike_gap layout line other alike in cc
alike_piece layout line other Close alike = let d = alike.depth_is in cc
alike_piece layout line other Newline alike = let inside = same_inside layout line other alike in cc

-- pieces have the same text at both places
pub alike_text : (layout : Layout) (line other pieces : List Piece) → Alike layout line other
    → text_behind layout line pieces ≡ text_behind layout other pieces
alike_text layout line other [] alike = refl
alike_text layout line other (piece ∷ pieces) alike =
    let one = alike_piece layout line other piece alike in
    let others = alike_text layout (place_behind line piece) (place_behind other piece) pieces (alike_behind layout line other piece alike) in
    ap (λ l. l ++ text_behind layout (place_behind line piece) pieces) one ∙ ap (λ l. piece_text layout other piece ++ l) others
