-- The text of a document of tokens is rows with these tokens.
use Rattle.std.proofs.Common.{◌≡◌, ◌==◌, ◌-◌, ℕ, zero, suc, nat_lt, Bool, true, false, if◌then◌else◌, List, [], ◌∷◌, ◌++◌, map, refl, sym, ◌∙◌, ap, subst, arith, append_assoc}
use Rattle.std.specs.List.{flat_map}
use Rattle.std.proofs.lemmas.Bool.{lt-ltb}
use Rattle.dns_scan.specs.Token.{Token}
use Rattle.dns_text.specs.Tokens.{EndsToken, from_feed, has_feed}
use Rattle.dns_text.specs.Document.{Layout, Piece, data_gap, depth, document_text, gap, has_data, is_first, is_inside, outer_gap, own_line, piece_text, placed_from}
use Rattle.dns_text.specs.Document.Layout.{Simple, Tabbed, Multiline}
use Rattle.dns_text.specs.Document.Piece.{Comment, Open, Close, Newline}
use Rattle.dns_text.specs.Document.Piece.{Token as token_piece}
use Rattle.dns_text.specs.DocumentRows.{HasRows, WritesToken}
use Rattle.dns_text.specs.DocumentRows.HasRows.{none, token, comment, open', close, inner, newline}
use Rattle.dns_text.specs.Rows.{IsText, is_led, unled}
use Rattle.dns_text.proofs.RowSteps.{Split, rows_of, split_goes, split_comment, split_feed, split_token, token_unled, from_feed-append}
use Rattle.dns_text.proofs.RowSteps.Split.{nothing}
use Rattle.dns_text.proofs.TokenSymbols.{differs, ends_low, ends_nil, ends_plain}

-- the text of the pieces that follow those of a line
abbrev pub text_behind : Layout → List Piece → List Piece → List ℕ
text_behind layout line pieces = flat_map (λ placed. piece_text layout placed.front placed.piece) (placed_from line pieces)

-- what follows is inside parentheses
abbrev pub inside_of : Layout → List Piece → Bool
inside_of Simple line = false
inside_of Tabbed line = false
inside_of Multiline line = is_inside line

-- how the text after a line reads: as rows; after a comment; after a token; and at the start of a line
record Reads (layout : Layout) (line : List Piece) (text : List ℕ) (rows : List (List Token)) : Type 0 where
  pub split : Split (inside_of layout line) text rows
  pub skipped : inside_of layout line ≡ true → is_first layout line ≡ false → Split (inside_of layout line) (from_feed text) rows
  pub ends : is_first layout line ≡ false → EndsToken false text
  pub first : is_first layout line ≡ true → is_led text ≡ false

-- places inside and outside of blocks
pub some_open : (n : ℕ) → nat_lt 0 (suc n) ≡ true
some_open n = lt-ltb 0 (suc n) (omega arith)

pub is_inside_at : (line : List Piece) (n : ℕ) → depth line ≡ suc n → is_inside line ≡ true
is_inside_at line n at = ap (nat_lt 0) at ∙ some_open n

pub is_outside_at : (line : List Piece) → depth line ≡ 0 → is_inside line ≡ false
is_outside_at line at = ap (nat_lt 0) at

outside_of : (layout : Layout) (line : List Piece) → depth line ≡ 0 → inside_of layout line ≡ false
outside_of Simple line at = refl
outside_of Tabbed line at = refl
outside_of Multiline line at = is_outside_at line at

inside_token : (layout : Layout) (line : List Piece) (text : List ℕ) → inside_of layout (token_piece text ∷ line) ≡ inside_of layout line
inside_token Simple line text = refl
inside_token Tabbed line text = refl
inside_token Multiline line text = refl

-- a separator is white space
own_goes : (text : List ℕ) (row : List Token) (rows : List (List Token)) → Split true text (row ∷ rows) → Split true (own_line ++ text) (row ∷ rows)
own_goes text row rows s =
    split_goes 10 refl (split_goes 32 refl (split_goes 32 refl (split_goes 32 refl (split_goes 32 refl
    (split_goes 32 refl (split_goes 32 refl (split_goes 32 refl (split_goes 32 refl s))))))))

tab_goes : (some : Bool) (text : List ℕ) (row : List Token) (rows : List (List Token)) → Split false text (row ∷ rows)
    → Split false ((if some then 32 ∷ [] else 9 ∷ []) ++ text) (row ∷ rows)
tab_goes true text row rows s = split_goes 32 refl s
tab_goes false text row rows s = split_goes 9 refl s

gap_by : (layout : Layout) (line : List Piece) (text : List ℕ) (row : List Token) (rows : List (List Token)) (first inside : Bool)
    → is_inside line ≡ inside → Split (inside_of layout line) text (row ∷ rows)
    → Split (inside_of layout line) ((if first then [] else (if inside then data_gap layout line else outer_gap layout)) ++ text) (row ∷ rows)
gap_by layout line text row rows true inside is s = s
gap_by Simple line text row rows false true is s = split_goes 32 refl s
gap_by Simple line text row rows false false is s = split_goes 32 refl s
gap_by Tabbed line text row rows false true is s = tab_goes (has_data line) text row rows s
gap_by Tabbed line text row rows false false is s = split_goes 9 refl s
gap_by Multiline line text row rows false true is s =
    let P : Bool → Type 0 = λ b. Split b text (row ∷ rows) in
    let Q : Bool → Type 0 = λ b. Split b (own_line ++ text) (row ∷ rows) in
    subst Q (sym is) (own_goes text row rows (subst P is s))
gap_by Multiline line text row rows false false is s = split_goes 32 refl s

gap_goes : (layout : Layout) (line : List Piece) (text : List ℕ) (row : List Token) (rows : List (List Token))
    → Split (inside_of layout line) text (row ∷ rows) → Split (inside_of layout line) (gap layout line ++ text) (row ∷ rows)
gap_goes layout line text row rows s = gap_by layout line text row rows (is_first layout line) (is_inside line) refl s

-- a separator ends a token
tab_ends : (some : Bool) (text : List ℕ) → EndsToken false ((if some then 32 ∷ [] else 9 ∷ []) ++ text)
tab_ends true text = ends_plain false 32 text refl
tab_ends false text = ends_low false 9 text (omega arith)

gap_ends_by : (layout : Layout) (line : List Piece) (text : List ℕ) (inside : Bool)
    → EndsToken false ((if inside then data_gap layout line else outer_gap layout) ++ text)
gap_ends_by Simple line text true = ends_plain false 32 text refl
gap_ends_by Simple line text false = ends_plain false 32 text refl
gap_ends_by Tabbed line text true = tab_ends (has_data line) text
gap_ends_by Tabbed line text false = ends_low false 9 text (omega arith)
gap_ends_by Multiline line text true = ends_low false 10 (32 ∷ 32 ∷ 32 ∷ 32 ∷ 32 ∷ 32 ∷ 32 ∷ 32 ∷ text) (omega arith)
gap_ends_by Multiline line text false = ends_plain false 32 text refl

gap_ends : (layout : Layout) (line : List Piece) (text : List ℕ) → is_first layout line ≡ false → EndsToken false (gap layout line ++ text)
gap_ends layout line text first =
    let P : Bool → Type 0 = λ b.
    EndsToken false ((if b then [] else (if is_inside line then data_gap layout line else outer_gap layout)) ++ text) in
    subst P (sym first) (gap_ends_by layout line text (is_inside line))

own_gap : (layout : Layout) (line : List Piece) → inside_of layout line ≡ true → is_first layout line ≡ false → gap layout line ≡ own_line
own_gap Simple line inside first = cc
own_gap Tabbed line inside first = cc
own_gap Multiline line inside first =
    let by_first : Bool → List ℕ = λ b. if b then [] else (if is_inside line then own_line else 32 ∷ []) in
    let by_inside : Bool → List ℕ = λ b. if b then own_line else 32 ∷ [] in
    ap by_first first ∙ ap by_inside inside

no_gap : (layout : Layout) (line : List Piece) → is_first layout line ≡ true → gap layout line ≡ []
no_gap layout line first =
    ap (λ (b : Bool). if b then [] else (if is_inside line then data_gap layout line else outer_gap layout)) first

first_open : (line : List Piece) (inside : Bool) → is_inside line ≡ inside → is_first Multiline (Open ∷ line) ≡ true
    → (is_first Multiline line ≡ true → depth line ≡ 0) → depth (Open ∷ line) ≡ 0
first_open line true is first outside =
    let behind : is_first Multiline line ≡ true =
    sym (ap (λ (b : Bool). if (if b then false else true) then false else is_first Multiline line) is) ∙ first in
    let bad : true ≡ false = sym is ∙ is_outside_at line (outside behind) in cc
first_open line false is first outside =
    let bad : false ≡ true =
    sym (ap (λ (b : Bool). if (if b then false else true) then false else is_first Multiline line) is) ∙ first in cc

first_close : (line : List Piece) (last : Bool) → (depth line == 1) ≡ last → is_first Multiline (Close ∷ line) ≡ true
    → (is_first Multiline line ≡ true → depth line ≡ 0) → depth (Close ∷ line) ≡ 0
first_close line true is first outside =
    let bad : false ≡ true = sym (ap (λ (b : Bool). if b then false else is_first Multiline line) is) ∙ first in cc
first_close line false is first outside =
    let behind : is_first Multiline line ≡ true =
    sym (ap (λ (b : Bool). if b then false else is_first Multiline line) is) ∙ first in
    ap (λ (n : ℕ). n - 1) (outside behind)

-- under Multiline a line begins outside of blocks, since the marks of a block are shown
first_is_outside : (line : List Piece) → is_first Multiline line ≡ true → depth line ≡ 0
first_is_outside [] first = refl
first_is_outside (token_piece text ∷ line) first = cc
first_is_outside (Comment text ∷ line) first = cc
first_is_outside (Open ∷ line) first = first_open line (is_inside line) refl first (first_is_outside line)
first_is_outside (Close ∷ line) first = first_close line (depth line == 1) refl first (first_is_outside line)
first_is_outside (Newline ∷ line) first = first_is_outside line first

-- a piece that is not shown
unseen : (layout : Layout) (line line' : List Piece) (text : List ℕ) (rows : List (List Token))
    → inside_of layout line' ≡ inside_of layout line → is_first layout line' ≡ is_first layout line
    → Reads layout line' text rows → Reads layout line text rows
unseen layout line line' text rows inside first reads = record {
  split = subst (λ b. Split b text rows) inside reads.split;
  skipped = λ here not_first. subst (λ b. Split b (from_feed text) rows) inside (reads.skipped (inside ∙ here) (first ∙ not_first));
  ends = λ not_first. reads.ends (first ∙ not_first);
  first = λ is. reads.first (first ∙ is);
}

-- a token
token_step : (layout : Layout) (line : List Piece) (found : Token) (text rest : List ℕ) (row : List Token) (rows : List (List Token))
    → WritesToken found text → Reads layout (token_piece text ∷ line) rest (row ∷ rows)
    → Reads layout line ((gap layout line ++ text) ++ rest) ((found ∷ row) ∷ rows)
token_step layout line found text rest row rows writes next =
    let inside = inside_of layout line in
    let behind : Split inside rest (row ∷ rows) = subst (λ b. Split b rest (row ∷ rows)) (inside_token layout line text) next.split in
    let whole : Split inside (gap layout line ++ (text ++ rest)) ((found ∷ row) ∷ rows) =
    gap_goes layout line (text ++ rest) (found ∷ row) rows (split_token inside found text rest row rows writes (next.ends refl) behind) in
    let grouped = append_assoc (gap layout line) text rest in
    let split' : Split inside ((gap layout line ++ text) ++ rest) ((found ∷ row) ∷ rows) = subst (λ l. Split inside l ((found ∷ row) ∷ rows)) (sym grouped) whole in
    record {
      split = split';
      skipped = λ here first.
          let own = own_gap layout line here first in
          subst (λ l. Split inside (from_feed ((l ++ text) ++ rest)) ((found ∷ row) ∷ rows)) (sym own)
          (subst (λ l. Split inside ((l ++ text) ++ rest) ((found ∷ row) ∷ rows)) own split');
      ends = λ first. subst (λ l. EndsToken false l) (sym grouped) (gap_ends layout line (text ++ rest) first);
      first = λ is. ap (λ l. is_led ((l ++ text) ++ rest)) (no_gap layout line is) ∙ token_unled found text rest writes;
    }

-- a comment that is shown
comment_step : (line : List Piece) (text rest : List ℕ) (row : List Token) (rows : List (List Token)) → is_inside line ≡ true
    → has_feed text ≡ false → Reads Multiline (Comment text ∷ line) rest (row ∷ rows)
    → Reads Multiline line ((9 ∷ 59 ∷ 32 ∷ text) ++ rest) (row ∷ rows)
comment_step line text rest row rows here no_feed next =
    let skipped' : Split (is_inside line) (from_feed rest) (row ∷ rows) = next.skipped here refl in
    let same : from_feed rest ≡ from_feed (text ++ rest) = sym (from_feed-append text rest no_feed) in
    record {
      split = split_goes 9 refl (split_comment (is_inside line) (from_feed rest) (32 ∷ text ++ rest) row rows 59 refl same skipped');
      skipped = λ inside first. subst (λ l. Split (is_inside line) l (row ∷ rows)) same skipped';
      ends = λ first. ends_low false 9 (59 ∷ 32 ∷ text ++ rest) (omega arith);
      first = λ is. let bad : true ≡ false = sym here ∙ is_outside_at line (first_is_outside line is) in cc;
    }

-- the opening mark of a block that is shown
open_step : (line : List Piece) (rest : List ℕ) (row : List Token) (rows : List (List Token)) → is_inside line ≡ false
    → Reads Multiline (Open ∷ line) rest (row ∷ rows)
    → Reads Multiline line ((gap Multiline line ++ 40 ∷ []) ++ rest) (row ∷ rows)
open_step line rest row rows out next =
    let P : Bool → Type 0 = λ b. Split b rest (row ∷ rows) in
    let Q : Bool → Type 0 = λ b. Split b (40 ∷ rest) (row ∷ rows) in
    let marked : Split false (40 ∷ rest) (row ∷ rows) = split_goes 40 refl (subst P (some_open (depth line)) next.split) in
    let grouped = append_assoc (gap Multiline line) (40 ∷ []) rest in
    record {
      split = subst (λ l. Split (is_inside line) l (row ∷ rows)) (sym grouped) (gap_goes Multiline line (40 ∷ rest) row rows (subst Q (sym out) marked));
      skipped = λ here first. let bad : false ≡ true = sym out ∙ here in cc;
      ends = λ first. subst (λ l. EndsToken false l) (sym grouped) (gap_ends Multiline line (40 ∷ rest) first);
      first = λ is. ap (λ l. is_led ((l ++ 40 ∷ []) ++ rest)) (no_gap Multiline line is);
    }

-- the closing mark
close_step : (line : List Piece) (rest : List ℕ) (row : List Token) (rows : List (List Token)) → depth line ≡ 1
    → Reads Multiline (Close ∷ line) rest (row ∷ rows)
    → Reads Multiline line ((own_line ++ 41 ∷ []) ++ rest) (row ∷ rows)
close_step line rest row rows one next =
    let P : Bool → Type 0 = λ b. Split b rest (row ∷ rows) in
    let Q : Bool → Type 0 = λ b. Split b ((own_line ++ 41 ∷ []) ++ rest) (row ∷ rows) in
    let out : is_inside (Close ∷ line) ≡ false = ap (λ n. nat_lt 0 (n - 1)) one in
    let whole : Split true ((own_line ++ 41 ∷ []) ++ rest) (row ∷ rows) = own_goes (41 ∷ rest) row rows (split_goes 41 refl (subst P out next.split)) in
    let here = subst Q (sym (is_inside_at line 0 one)) whole in
    record {
      split = here;
      skipped = λ inside first. here;
      ends = λ first. ends_low false 10 (32 ∷ 32 ∷ 32 ∷ 32 ∷ 32 ∷ 32 ∷ 32 ∷ 32 ∷ 41 ∷ rest) (omega arith);
      first = λ is. refl;
    }

-- a line end
newline_step : (layout : Layout) (line : List Piece) (rest : List ℕ) (rows : List (List Token)) → depth line ≡ 0
    → Reads layout [] rest rows → Reads layout line (10 ∷ rest) ([] ∷ rows)
newline_step layout line rest rows at next =
    let P : Bool → Type 0 = λ b. Split b rest rows in
    let Q : Bool → Type 0 = λ b. Split b (10 ∷ rest) ([] ∷ rows) in
    let out = outside_of layout line at in
    record {
      split = subst Q (sym out) (split_feed (next.first refl) (subst P (outside_of layout [] refl) next.split));
      skipped = λ here first. let bad : false ≡ true = sym out ∙ here in cc;
      ends = λ first. ends_low false 10 rest (omega arith);
      first = λ is. refl;
    }

pub no_text : (b : Bool) (rest : List ℕ) → (if b then [] else []) ++ rest ≡ rest
no_text true rest = refl
no_text false rest = refl

-- an opening mark of a block
open_reads : (layout : Layout) (line : List Piece) (rest : List ℕ) (row : List Token) (rows : List (List Token)) (inside : Bool)
    → is_inside line ≡ inside → Reads layout (Open ∷ line) rest (row ∷ rows)
    → Reads layout line (piece_text layout line Open ++ rest) (row ∷ rows)
open_reads Simple line rest row rows inside is next =
    subst (λ l. Reads Simple line l (row ∷ rows)) (sym (no_text (is_inside line) rest)) (unseen Simple line (Open ∷ line) rest (row ∷ rows) refl refl next)
open_reads Tabbed line rest row rows inside is next =
    subst (λ l. Reads Tabbed line l (row ∷ rows)) (sym (no_text (is_inside line) rest)) (unseen Tabbed line (Open ∷ line) rest (row ∷ rows) refl refl next)
open_reads Multiline line rest row rows true is next =
    let text_of : Bool → List ℕ = λ b. (if b then [] else (gap Multiline line ++ 40 ∷ [])) ++ rest in
    let first_of : Bool → Bool = λ b. if (if b then false else true) then false else is_first Multiline line in
    subst (λ l. Reads Multiline line l (row ∷ rows)) (sym (ap text_of is))
    (unseen Multiline line (Open ∷ line) rest (row ∷ rows) (some_open (depth line) ∙ sym is) (ap first_of is) next)
open_reads Multiline line rest row rows false is next =
    let text_of : Bool → List ℕ = λ b. (if b then [] else (gap Multiline line ++ 40 ∷ [])) ++ rest in
    subst (λ l. Reads Multiline line l (row ∷ rows)) (sym (ap text_of is)) (open_step line rest row rows is next)

-- a closing mark of a block
close_reads : (layout : Layout) (line : List Piece) (rest : List ℕ) (row : List Token) (rows : List (List Token)) (n : ℕ)
    → depth line ≡ suc n → Reads layout (Close ∷ line) rest (row ∷ rows)
    → Reads layout line (piece_text layout line Close ++ rest) (row ∷ rows)
close_reads Simple line rest row rows n at next =
    subst (λ l. Reads Simple line l (row ∷ rows)) (sym (no_text (depth line == 1) rest)) (unseen Simple line (Close ∷ line) rest (row ∷ rows) refl refl next)
close_reads Tabbed line rest row rows n at next =
    subst (λ l. Reads Tabbed line l (row ∷ rows)) (sym (no_text (depth line == 1) rest)) (unseen Tabbed line (Close ∷ line) rest (row ∷ rows) refl refl next)
close_reads Multiline line rest row rows zero at next =
    let text_of : ℕ → List ℕ = λ d. (if d == 1 then (own_line ++ 41 ∷ []) else []) ++ rest in
    subst (λ l. Reads Multiline line l (row ∷ rows)) (sym (ap text_of at)) (close_step line rest row rows at next)
close_reads Multiline line rest row rows (suc n) at next =
    let other : (depth line == 1) ≡ false = differs (depth line) 1 (λ e. omega arith) in
    let text_of : Bool → List ℕ = λ b. (if b then (own_line ++ 41 ∷ []) else []) ++ rest in
    let first_of : Bool → Bool = λ b. if b then false else is_first Multiline line in
    let left : depth (Close ∷ line) ≡ suc n = omega arith in
    subst (λ l. Reads Multiline line l (row ∷ rows)) (sym (ap text_of other))
    (unseen Multiline line (Close ∷ line) rest (row ∷ rows)
    (is_inside_at (Close ∷ line) n left ∙ sym (is_inside_at line (suc n) at)) (ap first_of other) next)

comment_reads : (layout : Layout) (line : List Piece) (text rest : List ℕ) (row : List Token) (rows : List (List Token)) (n : ℕ)
    → depth line ≡ suc n → has_feed text ≡ false → Reads layout (Comment text ∷ line) rest (row ∷ rows)
    → Reads layout line (piece_text layout line (Comment text) ++ rest) (row ∷ rows)
comment_reads Simple line text rest row rows n at no_feed next = unseen Simple line (Comment text ∷ line) rest (row ∷ rows) refl refl next
comment_reads Tabbed line text rest row rows n at no_feed next = unseen Tabbed line (Comment text ∷ line) rest (row ∷ rows) refl refl next
comment_reads Multiline line text rest row rows n at no_feed next = comment_step line text rest row rows (is_inside_at line n at) no_feed next

unseen_newline : (layout : Layout) (line : List Piece) → is_inside line ≡ true → (inside_of layout (Newline ∷ line) ≡ inside_of layout line)
    × (is_first layout (Newline ∷ line) ≡ is_first layout line)
unseen_newline Simple line here = (refl, refl)
unseen_newline Tabbed line here = (refl, refl)
unseen_newline Multiline line here = (refl, refl)

reads : {open' : ℕ} {pieces : List Piece} {rows : List (List Token)} → HasRows open' pieces rows → (layout : Layout) (line : List Piece)
    → depth line ≡ open' → Reads layout line (text_behind layout line pieces) rows
reads none layout line at =
    let out = outside_of layout line at in
    record {
      split = subst (λ b. Split b [] []) (sym out) nothing;
      skipped = λ here first. let bad : false ≡ true = sym out ∙ here in cc;
      ends = λ first. ends_nil false;
      first = λ is. refl;
    }
reads (token {pieces = pieces} {row = row} {rows = rows} {found = found} {text = text} writes others) layout line at =
    token_step layout line found text (text_behind layout (token_piece text ∷ line) pieces) row rows writes
    (reads others layout (token_piece text ∷ line) at)
reads (comment {depth = depth'} {pieces = pieces} {row = row} {rows = rows} {text = text} no_feed others) layout line at =
    comment_reads layout line text (text_behind layout (Comment text ∷ line) pieces) row rows depth' at no_feed
    (reads others layout (Comment text ∷ line) at)
reads (open' {pieces = pieces} {row = row} {rows = rows} others) layout line at =
    open_reads layout line (text_behind layout (Open ∷ line) pieces) row rows (is_inside line) refl
    (reads others layout (Open ∷ line) (ap suc at))
reads (close {depth = depth'} {pieces = pieces} {row = row} {rows = rows} others) layout line at =
    close_reads layout line (text_behind layout (Close ∷ line) pieces) row rows depth' at
    (reads others layout (Close ∷ line) (omega arith))
reads (inner {depth = depth'} {pieces = pieces} {row = row} {rows = rows} others) layout line at =
    let here = is_inside_at line depth' at in
    let kept = unseen_newline layout line here in
    let text_of : Bool → List ℕ = λ b.
    (if b then [] else 10 ∷ []) ++ text_behind layout (if b then Newline ∷ line else []) pieces in
    subst (λ l. Reads layout line l (row ∷ rows)) (sym (ap text_of here))
    (unseen layout line (Newline ∷ line) (text_behind layout (Newline ∷ line) pieces) (row ∷ rows) kept.0 kept.1
    (reads others layout (Newline ∷ line) at))
reads (newline {pieces = pieces} {rows = rows} others) layout line at =
    let text_of : Bool → List ℕ = λ b.
    (if b then [] else 10 ∷ []) ++ text_behind layout (if b then Newline ∷ line else []) pieces in
    subst (λ l. Reads layout line l ([] ∷ rows)) (sym (ap text_of (is_outside_at line at)))
    (newline_step layout line (text_behind layout [] pieces) rows at (reads others layout [] refl))

pub document_splits : (layout : Layout) (document : List Piece) (rows : List (List Token)) → HasRows 0 document rows
    → IsText (document_text layout document) (map unled rows)
document_splits layout document rows has =
    let all = reads has layout [] refl in
    let begins = rows_of (all.first refl) (subst (λ b. Split b (document_text layout document) rows) (outside_of layout [] refl) all.split) in
    record { rest = []; begins = begins; ends = refl }
