-- Blocks and line ends inside blocks, line ends outside, and comments.
use Rattle.std.proofs.Common.{◌≡◌, ◌==◌, ◌-◌, ◌+◌, ℕ, zero, suc, Bool, true, false, if◌then◌else◌, List, [], ◌∷◌, ◌++◌, refl, sym, ◌∙◌, ap, subst, arith}
use Rattle.std.proofs.lemmas.Bool.{eqb-true, ltb-true}
use Rattle.dns_text.specs.Document.{Layout, Piece, depth, gap, has_data, is_first, is_inside, piece_text, place_behind}
use Rattle.dns_text.specs.Document.Layout.{Simple, Tabbed, Multiline}
use Rattle.dns_text.specs.Document.Piece.{Token, Comment, Open, Close, Newline}
use Rattle.dns_text.specs.Lines.{closes, place_after}
use Rattle.dns_text.proofs.AlikePlaces.{Alike, alike_text, text_behind-append}
use Rattle.dns_text.proofs.DocumentSplits.{is_inside_at, text_behind}
use Rattle.dns_text.proofs.TokenSymbols.{differs}

-- One place is one block deeper than the other, which is inside one and this many more.
record Deeper (layout : Layout) (line other : List Piece) (n : ℕ) : Type 0 where
  pub depth_is : depth line ≡ suc (suc n)
  pub other_is : depth other ≡ suc n
  pub first_is : is_first layout line ≡ is_first layout other
  pub data_is : has_data line ≡ has_data other

deeper_inside : (layout : Layout) (line other : List Piece) (n : ℕ) → Deeper layout line other n → is_inside line ≡ is_inside other
deeper_inside layout line other n deeper = is_inside_at line (suc n) deeper.depth_is ∙ sym (is_inside_at other n deeper.other_is)

deeper_gap : (layout : Layout) (line other : List Piece) (n : ℕ) → Deeper layout line other n → gap layout line ≡ gap layout other
deeper_gap Simple line other n deeper = let a = deeper.first_is in let d = deeper_inside Simple line other n deeper in cc
deeper_gap Tabbed line other n deeper = let a = deeper.first_is in let d = deeper_inside Tabbed line other n deeper in let h = deeper.data_is in cc
deeper_gap Multiline line other n deeper = let a = deeper.first_is in let d = deeper_inside Multiline line other n deeper in cc

deeper_comment : (layout : Layout) (line other : List Piece) (n : ℕ) (comment : List ℕ) → Deeper layout line other n
    → Deeper layout (Comment comment ∷ line) (Comment comment ∷ other) n
deeper_comment Simple line other n comment deeper = record { depth_is = deeper.depth_is; other_is = deeper.other_is; first_is = deeper.first_is; data_is = deeper.data_is }
deeper_comment Tabbed line other n comment deeper = record { depth_is = deeper.depth_is; other_is = deeper.other_is; first_is = deeper.first_is; data_is = deeper.data_is }
deeper_comment Multiline line other n comment deeper = record { depth_is = deeper.depth_is; other_is = deeper.other_is; first_is = refl; data_is = deeper.data_is }

-- a mark inside a block is not shown, and neither is a line end
inner_open : (layout : Layout) (line : List Piece) → is_inside line ≡ true → (piece_text layout line Open ≡ [])
    × (is_first layout (Open ∷ line) ≡ is_first layout line) × (has_data (Open ∷ line) ≡ has_data line)
inner_open Simple line inside = (cc, refl, cc)
inner_open Tabbed line inside = (cc, refl, cc)
inner_open Multiline line inside = (cc, cc, cc)

inner_close_by : (layout : Layout) (line : List Piece) → (depth line == 1) ≡ false → (piece_text layout line Close ≡ [])
    × (is_first layout (Close ∷ line) ≡ is_first layout line)
inner_close_by Simple line deep = (cc, refl)
inner_close_by Tabbed line deep = (cc, refl)
inner_close_by Multiline line deep = (cc, cc)

inner_close : (layout : Layout) (line : List Piece) (n : ℕ) → depth line ≡ suc (suc n) → (piece_text layout line Close ≡ [])
    × (is_first layout (Close ∷ line) ≡ is_first layout line)
inner_close layout line n at = inner_close_by layout line (differs (depth line) 1 (λ e. omega arith))

pub inner_newline : (layout : Layout) (line : List Piece) → is_inside line ≡ true → (piece_text layout line Newline ≡ [])
    × (place_behind line Newline ≡ Newline ∷ line) × (is_first layout (Newline ∷ line) ≡ is_first layout line)
inner_newline Simple line inside = (cc, cc, refl)
inner_newline Tabbed line inside = (cc, cc, refl)
inner_newline Multiline line inside = (cc, cc, refl)

both_more : (layout : Layout) (line other : List Piece) (piece : Piece) (pieces : List Piece)
    → piece_text layout line piece ≡ piece_text layout other piece
    → text_behind layout (place_behind line piece) pieces ≡ text_behind layout (place_behind other piece) pieces
    → text_behind layout line (piece ∷ pieces) ≡ text_behind layout other (piece ∷ pieces)
both_more layout line other piece pieces one others =
    ap (λ l. l ++ text_behind layout (place_behind line piece) pieces) one ∙ ap (λ l. piece_text layout other piece ++ l) others

-- Pieces that close their own marks and that number of others have the same text at both places.
abbrev Same : Layout → List Piece → List Piece → List Piece → ℕ → Type 0
Same layout line other pieces m =
    (text_behind layout line pieces ≡ text_behind layout other pieces) × Deeper layout (place_after line pieces) (place_after other pieces) m

same_more : (layout : Layout) (line other : List Piece) (piece : Piece) (pieces : List Piece) (m : ℕ)
    → piece_text layout line piece ≡ piece_text layout other piece
    → Same layout (place_behind line piece) (place_behind other piece) pieces m → Same layout line other (piece ∷ pieces) m
same_more layout line other piece pieces m one others = (both_more layout line other piece pieces one others.0, others.1)

deeper_same : (layout : Layout) (pieces : List Piece) (n m k : ℕ) (line other : List Piece) → closes n pieces ≡ true → k ≡ n + m
    → Deeper layout line other k → Same layout line other pieces m
deeper_same layout [] n m k line other closed is deeper =
    let none : n ≡ 0 = eqb-true n 0 closed in
    let e : k ≡ m = omega (arith, none, is) in (refl, subst (λ j. Deeper layout line other j) e deeper)
deeper_same layout (Token token ∷ pieces) n m k line other closed is deeper =
    let there : Deeper layout (Token token ∷ line) (Token token ∷ other) k = record { depth_is = deeper.depth_is; other_is = deeper.other_is; first_is = refl; data_is = refl } in
    same_more layout line other (Token token) pieces m (ap (λ l. l ++ token) (deeper_gap layout line other k deeper))
    (deeper_same layout pieces n m k (Token token ∷ line) (Token token ∷ other) closed is there)
deeper_same layout (Comment comment ∷ pieces) n m k line other closed is deeper =
    same_more layout line other (Comment comment) pieces m refl
    (deeper_same layout pieces n m k (Comment comment ∷ line) (Comment comment ∷ other) closed is (deeper_comment layout line other k comment deeper))
deeper_same layout (Open ∷ pieces) n m k line other closed is deeper =
    let one = inner_open layout line (is_inside_at line (suc k) deeper.depth_is) in
    let two = inner_open layout other (is_inside_at other k deeper.other_is) in
    let there : Deeper layout (Open ∷ line) (Open ∷ other) (suc k) = record {
      depth_is = ap suc deeper.depth_is;
      other_is = ap suc deeper.other_is;
      first_is = one.1 ∙ deeper.first_is ∙ sym two.1;
      data_is = one.2 ∙ deeper.data_is ∙ sym two.2;
    } in
    same_more layout line other Open pieces m (one.0 ∙ sym two.0)
    (deeper_same layout pieces (suc n) m (suc k) (Open ∷ line) (Open ∷ other) closed (omega (arith, is)) there)
deeper_same layout (Close ∷ pieces) zero m k line other closed is deeper = cc
deeper_same layout (Close ∷ pieces) (suc n) m k line other closed is deeper =
    let line_is : depth line ≡ suc (suc (suc (n + m))) = omega (arith, is, deeper.depth_is) in
    let other_is' : depth other ≡ suc (suc (n + m)) = omega (arith, is, deeper.other_is) in
    let one = inner_close layout line (suc (n + m)) line_is in
    let two = inner_close layout other (n + m) other_is' in
    let there : Deeper layout (Close ∷ line) (Close ∷ other) (n + m) = record {
      depth_is = omega (arith, line_is);
      other_is = omega (arith, other_is');
      first_is = one.1 ∙ deeper.first_is ∙ sym two.1;
      data_is = deeper.data_is;
    } in
    same_more layout line other Close pieces m (one.0 ∙ sym two.0)
    (deeper_same layout pieces n m (n + m) (Close ∷ line) (Close ∷ other) closed refl there)
deeper_same layout (Newline ∷ pieces) n m k line other closed is deeper =
    let one = inner_newline layout line (is_inside_at line (suc k) deeper.depth_is) in
    let two = inner_newline layout other (is_inside_at other k deeper.other_is) in
    let there : Deeper layout (Newline ∷ line) (Newline ∷ other) k = record {
      depth_is = deeper.depth_is;
      other_is = deeper.other_is;
      first_is = one.2 ∙ deeper.first_is ∙ sym two.2;
      data_is = deeper.data_is;
    } in
    let behind = deeper_same layout pieces n m k (Newline ∷ line) (Newline ∷ other) closed is there in
    same_more layout line other Newline pieces m (one.0 ∙ sym two.0)
    (subst (λ l. Same layout l (place_behind other Newline) pieces m) (sym one.1)
    (subst (λ l. Same layout (Newline ∷ line) l pieces m) (sym two.1) behind))

-- how many marks are open, minus one
one_open : (line : List Piece) → is_inside line ≡ true → depth line ≡ suc (depth line - 1)
one_open line inside = omega (arith, ltb-true 0 (depth line) inside)

-- a block inside a block adds nothing
pub inner_block : (layout : Layout) (line block behind : List Piece) → is_inside line ≡ true → closes 0 block ≡ true
    → text_behind layout line (Open ∷ block ++ Close ∷ behind) ≡ text_behind layout line (block ++ behind)
inner_block layout line block behind inside closed =
    let m = depth line - 1 in
    let at : depth line ≡ suc m = one_open line inside in
    let opened = inner_open layout line inside in
    let deeper : Deeper layout (Open ∷ line) line m = record { depth_is = ap suc at; other_is = at; first_is = opened.1; data_is = opened.2 } in
    let same = deeper_same layout block 0 m m (Open ∷ line) line closed (omega arith) deeper in
    let last = place_after (Open ∷ line) block in
    let shut = inner_close layout last m same.1.depth_is in
    let alike : Alike layout (Close ∷ last) (place_after line block) = record {
      depth_is = omega (arith, same.1.depth_is, same.1.other_is);
      first_is = shut.1 ∙ same.1.first_is;
      data_is = λ here. same.1.data_is;
    } in
    ap (λ l. l ++ text_behind layout (Open ∷ line) (block ++ Close ∷ behind)) opened.0
    ∙ text_behind-append layout (Open ∷ line) block (Close ∷ behind)
    ∙ ap (λ l. l ++ text_behind layout last (Close ∷ behind)) same.0
    ∙ ap (λ l. text_behind layout line block ++ (l ++ text_behind layout (Close ∷ last) behind)) shut.0
    ∙ ap (λ l. text_behind layout line block ++ l) (alike_text layout (Close ∷ last) (place_after line block) behind alike)
    ∙ sym (text_behind-append layout line block behind)

-- a line end inside a block adds nothing
pub held_newline : (layout : Layout) (line behind : List Piece) → is_inside line ≡ true
    → text_behind layout line (Newline ∷ behind) ≡ text_behind layout line behind
held_newline layout line behind inside =
    let one = inner_newline layout line inside in
    let alike : Alike layout (Newline ∷ line) line = record { depth_is = refl; first_is = one.2; data_is = λ here. refl } in
    ap (λ l. l ++ text_behind layout (place_behind line Newline) behind) one.0
    ∙ ap (λ l. text_behind layout l behind) one.1
    ∙ alike_text layout (Newline ∷ line) line behind alike

-- outside of blocks it is a line feed, and what follows begins anew
pub line_end : (layout : Layout) (line behind : List Piece) → is_inside line ≡ false
    → text_behind layout line (Newline ∷ behind) ≡ 10 ∷ text_behind layout [] behind
line_end layout line behind out =
    let text : Bool → List ℕ = λ b. (if b then [] else 10 ∷ []) ++ text_behind layout (if b then Newline ∷ line else []) behind in
    ap text out

-- a comment is left out, except under Multiline
pub no_comment : (layout : Layout) (line behind : List Piece) (comment : List ℕ) → (layout ≡ Multiline → ⊥)
    → text_behind layout line (Comment comment ∷ behind) ≡ text_behind layout line behind
no_comment Simple line behind comment other = alike_text Simple (Comment comment ∷ line) line behind (record { depth_is = refl; first_is = refl; data_is = λ here. refl })
no_comment Tabbed line behind comment other = alike_text Tabbed (Comment comment ∷ line) line behind (record { depth_is = refl; first_is = refl; data_is = λ here. refl })
no_comment Multiline line behind comment other = absurd (other refl)
