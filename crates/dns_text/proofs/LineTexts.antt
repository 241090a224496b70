-- The text of a line of words and blocks.
use Rattle.std.proofs.Common.{◌≡◌, ◌==◌, ◌-◌, ℕ, suc, Bool, true, false, if◌then◌else◌, List, [], ◌∷◌, ◌++◌, map, refl, sym, ◌∙◌, ap, subst, append_assoc, append-nil}
use Rattle.std.proofs.lemmas.List.Folds.{flat_map-map}
use Rattle.std.specs.List.{flat_map, join_with_byte}
use Rattle.dns_text.specs.Document.{Layout, Piece, depth, gap, has_data, is_first, is_inside, own_line, piece_text, under_multiline}
use Rattle.dns_text.specs.Document.Layout.{Simple, Tabbed, Multiline}
use Rattle.dns_text.specs.Document.Piece.{Token, Comment, Open, Close}
use Rattle.dns_text.specs.Lines.{Noted, Part, line_pieces, line_text, noted_pieces, noted_text, part_pieces, part_texts, place_after, separator}
use Rattle.dns_text.specs.Lines.Part.{Word, Block}
use Rattle.dns_text.proofs.AlikePlaces.{place_after-append, text_behind-append}
use Rattle.dns_text.proofs.BareBlocks.{unseen_close, unseen_open}
use Rattle.dns_text.proofs.DocumentSplits.{is_inside_at, is_outside_at, text_behind}

-- texts at the start of a line or not: each has the separator before it, except the first of a line
abbrev blank_led : Bool → ℕ → List (List ℕ) → List ℕ
blank_led true c texts = join_with_byte c texts
blank_led false c texts = flat_map (λ text. c ∷ text) texts

-- whether the line still begins after these
abbrev still_first : Bool → List (List ℕ) → Bool
still_first first [] = first
still_first first (text ∷ texts) = false

join_led : (c : ℕ) (text : List ℕ) (texts : List (List ℕ)) → join_with_byte c (text ∷ texts) ≡ text ++ blank_led false c texts
join_led c text [] = sym (append-nil text)
join_led c text (next ∷ texts) = ap (λ l. text ++ c ∷ l) (join_led c next texts)

led_cons : (first : Bool) (c : ℕ) (text : List ℕ) (texts : List (List ℕ))
    → blank_led first c (text ∷ texts) ≡ (if first then [] else c ∷ []) ++ (text ++ blank_led false c texts)
led_cons true c text texts = join_led c text texts
led_cons false c text texts = refl

led_behind : (c : ℕ) (texts others : List (List ℕ)) → blank_led false c (texts ++ others) ≡ blank_led false c texts ++ blank_led false c others
led_behind c [] others = refl
led_behind c (text ∷ texts) others =
    ap (λ l. c ∷ text ++ l) (led_behind c texts others) ∙ sym (append_assoc (c ∷ text) (blank_led false c texts) (blank_led false c others))

led_none : (first : Bool) (c : ℕ) (others : List (List ℕ)) → blank_led first c others ≡ blank_led first c [] ++ blank_led first c others
led_none true c others = refl
led_none false c others = refl

led_append : (first : Bool) (c : ℕ) (texts others : List (List ℕ))
    → blank_led first c (texts ++ others) ≡ blank_led first c texts ++ blank_led (still_first first texts) c others
led_append first c [] others = led_none first c others
led_append first c (text ∷ texts) others =
    let sep : List ℕ = if first then [] else c ∷ [] in
    led_cons first c text (texts ++ others)
    ∙ ap (λ l. sep ++ (text ++ l)) (led_behind c texts others)
    ∙ ap (λ l. sep ++ l) (sym (append_assoc text (blank_led false c texts) (blank_led false c others)))
    ∙ sym (append_assoc sep (text ++ blank_led false c texts) (blank_led false c others))
    ∙ ap (λ l. l ++ blank_led false c others) (sym (led_cons first c text texts))

-- what is before a word
word_gap : (layout : Layout) (line : List Piece) → depth line ≡ 0
    → gap layout line ≡ (if is_first layout line then [] else separator layout ∷ [])
word_gap Simple line at = let out = is_outside_at line at in cc
word_gap Tabbed line at = let out = is_outside_at line at in cc
word_gap Multiline line at = let out = is_outside_at line at in cc

-- what is before data, unless it is the first of its block
abbrev inner_gap : Layout → List ℕ
inner_gap Simple = 32 ∷ []
inner_gap Tabbed = 32 ∷ []
inner_gap Multiline = own_line

inner_gap_at : (layout : Layout) (line : List Piece) → is_inside line ≡ true → is_first layout line ≡ false → has_data line ≡ true
    → gap layout line ≡ inner_gap layout
inner_gap_at Simple line inside first some = cc
inner_gap_at Tabbed line inside first some = cc
inner_gap_at Multiline line inside first some = cc

-- a token with its comments
abbrev notes : Layout → List (List ℕ) → List ℕ
notes Simple comments = []
notes Tabbed comments = []
notes Multiline comments = flat_map (λ comment. 9 ∷ 59 ∷ 32 ∷ comment) comments

-- the place after a token
record BehindToken (layout : Layout) (line behind : List Piece) : Type 0 where
  pub depth_is : depth behind ≡ depth line
  pub first_is : is_first layout behind ≡ false
  pub data_is : has_data behind ≡ true

behind_comment : (layout : Layout) (line behind : List Piece) (comment : List ℕ) → BehindToken layout line behind
    → BehindToken layout line (Comment comment ∷ behind)
behind_comment Simple line behind comment at = record { depth_is = at.depth_is; first_is = at.first_is; data_is = at.data_is }
behind_comment Tabbed line behind comment at = record { depth_is = at.depth_is; first_is = at.first_is; data_is = at.data_is }
behind_comment Multiline line behind comment at = record { depth_is = at.depth_is; first_is = refl; data_is = at.data_is }

note_more : (layout : Layout) (comment : List ℕ) (comments : List (List ℕ))
    → under_multiline layout (9 ∷ 59 ∷ 32 ∷ comment) ++ notes layout comments ≡ notes layout (comment ∷ comments)
note_more Simple comment comments = refl
note_more Tabbed comment comments = refl
note_more Multiline comment comments = refl

notes_none : (layout : Layout) → [] ≡ notes layout []
notes_none Simple = refl
notes_none Tabbed = refl
notes_none Multiline = refl

comments_text : (layout : Layout) (line behind : List Piece) (comments : List (List ℕ)) → BehindToken layout line behind
    → (text_behind layout behind (map Comment comments) ≡ notes layout comments) × BehindToken layout line (place_after behind (map Comment comments))
comments_text layout line behind [] at = (notes_none layout, at)
comments_text layout line behind (comment ∷ comments) at =
    let others = comments_text layout line (Comment comment ∷ behind) comments (behind_comment layout line behind comment at) in
    (ap (λ l. under_multiline layout (9 ∷ 59 ∷ 32 ∷ comment) ++ l) others.0 ∙ note_more layout comment comments, others.1)

noted_is : (layout : Layout) (noted : Noted) → noted.token ++ notes layout noted.comments ≡ noted_text layout noted
noted_is Simple noted = append-nil noted.token
noted_is Tabbed noted = append-nil noted.token
noted_is Multiline noted = refl

noted_reads : (layout : Layout) (line : List Piece) (noted : Noted)
    → (text_behind layout line (noted_pieces noted) ≡ gap layout line ++ noted_text layout noted)
    × BehindToken layout line (place_after line (noted_pieces noted))
noted_reads layout line noted =
    let behind : BehindToken layout line (Token noted.token ∷ line) = record { depth_is = refl; first_is = refl; data_is = refl } in
    let others = comments_text layout line (Token noted.token ∷ line) noted.comments behind in (
      ap (λ l. (gap layout line ++ noted.token) ++ l) others.0
          ∙ append_assoc (gap layout line) noted.token (notes layout noted.comments)
          ∙ ap (λ l. gap layout line ++ l) (noted_is layout noted),
      others.1,
    )

-- data after the first of its block
abbrev data_text : Layout → List Noted → List ℕ
data_text layout some = flat_map (λ noted. inner_gap layout ++ noted_text layout noted) some

record InBlock (layout : Layout) (line : List Piece) (first : Bool) : Type 0 where
  pub depth_is : depth line ≡ 1
  pub first_is : is_first layout line ≡ first

data_reads : (layout : Layout) (line : List Piece) (some : List Noted) → InBlock layout line false → gap layout line ≡ inner_gap layout
    → (text_behind layout line (flat_map noted_pieces some) ≡ data_text layout some)
    × InBlock layout (place_after line (flat_map noted_pieces some)) false
data_reads layout line [] at gap_is = (refl, at)
data_reads layout line (noted ∷ some) at gap_is =
    let one = noted_reads layout line noted in
    let next = place_after line (noted_pieces noted) in
    let there : InBlock layout next false = record { depth_is = one.1.depth_is ∙ at.depth_is; first_is = one.1.first_is } in
    let next_gap = inner_gap_at layout next (is_inside_at next 0 there.depth_is) there.first_is one.1.data_is in
    let others = data_reads layout next some there next_gap in (
      text_behind-append layout line (noted_pieces noted) (flat_map noted_pieces some)
          ∙ ap (λ l. l ++ text_behind layout next (flat_map noted_pieces some)) (one.0 ∙ ap (λ l. l ++ noted_text layout noted) gap_is)
          ∙ ap (λ l. (inner_gap layout ++ noted_text layout noted) ++ l) others.0,
      subst (λ l. InBlock layout l false) (sym (place_after-append line (noted_pieces noted) (flat_map noted_pieces some))) others.1,
    )

-- the data of a block; the first has a separator of its own
first_data : (layout : Layout) (line : List Piece) (noted : Noted) (some : List Noted) → depth line ≡ 1
    → (text_behind layout line (flat_map noted_pieces (noted ∷ some)) ≡ gap layout line ++ (noted_text layout noted ++ data_text layout some))
    × InBlock layout (place_after line (flat_map noted_pieces (noted ∷ some))) false
first_data layout line noted some at =
    let one = noted_reads layout line noted in
    let next = place_after line (noted_pieces noted) in
    let there : InBlock layout next false = record { depth_is = one.1.depth_is ∙ at; first_is = one.1.first_is } in
    let next_gap = inner_gap_at layout next (is_inside_at next 0 there.depth_is) there.first_is one.1.data_is in
    let others = data_reads layout next some there next_gap in (
      text_behind-append layout line (noted_pieces noted) (flat_map noted_pieces some)
          ∙ ap (λ l. l ++ text_behind layout next (flat_map noted_pieces some)) one.0
          ∙ ap (λ l. (gap layout line ++ noted_text layout noted) ++ l) others.0
          ∙ append_assoc (gap layout line) (noted_text layout noted) (data_text layout some),
      subst (λ l. InBlock layout l false) (sym (place_after-append line (noted_pieces noted) (flat_map noted_pieces some))) others.1,
    )

-- What a part becomes at a place outside of blocks, at the start of a line or not.
record PartReads (layout : Layout) (line : List Piece) (part : Part) (first : Bool) : Type 0 where
  pub text : text_behind layout line (part_pieces part) ≡ blank_led first (separator layout) (part_texts layout part)
  pub depth_is : depth (place_after line (part_pieces part)) ≡ 0
  pub first_is : is_first layout (place_after line (part_pieces part)) ≡ still_first first (part_texts layout part)

led_one : (first : Bool) (c : ℕ) (text : List ℕ) → blank_led first c (text ∷ []) ≡ (if first then [] else c ∷ []) ++ text
led_one true c text = refl
led_one false c text = append-nil (c ∷ text)

led_nothing : (first : Bool) (c : ℕ) → blank_led first c [] ≡ []
led_nothing true c = refl
led_nothing false c = refl

word_reads : (layout : Layout) (line : List Piece) (noted : Noted) (first : Bool) → depth line ≡ 0 → is_first layout line ≡ first
    → PartReads layout line (Word noted) first
word_reads layout line noted first at first_is =
    let one = noted_reads layout line noted in
    let gap_is : gap layout line ≡ (if first then [] else separator layout ∷ []) =
    subst (λ b. gap layout line ≡ (if b then [] else separator layout ∷ [])) first_is (word_gap layout line at) in
    record {
      text = one.0 ∙ ap (λ l. l ++ noted_text layout noted) gap_is ∙ sym (led_one first (separator layout) (noted_text layout noted));
      depth_is = one.1.depth_is ∙ at;
      first_is = one.1.first_is;
    }

-- a block, from mark to mark
block_text : (layout : Layout) (line : List Piece) (some : List Noted)
    → text_behind layout line (part_pieces (Block some))
    ≡ piece_text layout line Open ++ (text_behind layout (Open ∷ line) (flat_map noted_pieces some)
    ++ piece_text layout (place_after (Open ∷ line) (flat_map noted_pieces some)) Close)
block_text layout line some =
    let last = place_after (Open ∷ line) (flat_map noted_pieces some) in
    ap (λ l. piece_text layout line Open ++ l) (text_behind-append layout (Open ∷ line) (flat_map noted_pieces some) (Close ∷ [])
    ∙ ap (λ l. text_behind layout (Open ∷ line) (flat_map noted_pieces some) ++ l) (append-nil (piece_text layout last Close)))

block_place : (line : List Piece) (some : List Noted)
    → place_after line (part_pieces (Block some)) ≡ Close ∷ place_after (Open ∷ line) (flat_map noted_pieces some)
block_place line some = place_after-append (Open ∷ line) (flat_map noted_pieces some) (Close ∷ [])

flat_block : (layout : Layout) (line : List Piece) (some : List Noted) → (layout ≡ Multiline → ⊥)
    → text_behind layout line (part_pieces (Block some)) ≡ text_behind layout (Open ∷ line) (flat_map noted_pieces some)
flat_block layout line some flat =
    let last = place_after (Open ∷ line) (flat_map noted_pieces some) in
    let inner = text_behind layout (Open ∷ line) (flat_map noted_pieces some) in
    block_text layout line some
    ∙ ap (λ l. l ++ (inner ++ piece_text layout last Close)) (unseen_open layout line flat).0
    ∙ ap (λ l. inner ++ l) (unseen_close layout last flat).0
    ∙ append-nil inner

-- the place after a block whose marks are not shown
flat_place : (layout : Layout) (line : List Piece) (some : List Noted) (first : Bool) → (layout ≡ Multiline → ⊥)
    → InBlock layout (place_after (Open ∷ line) (flat_map noted_pieces some)) first
    → (depth (place_after line (part_pieces (Block some))) ≡ 0) × (is_first layout (place_after line (part_pieces (Block some))) ≡ first)
flat_place layout line some first flat at =
    let last = place_after (Open ∷ line) (flat_map noted_pieces some) in (
      ap depth (block_place line some) ∙ ap (λ n. n - 1) at.depth_is,
      ap (is_first layout) (block_place line some) ∙ (unseen_close layout last flat).1 ∙ at.first_is,
    )

flat_open : (layout : Layout) (line : List Piece) (first : Bool) → (layout ≡ Multiline → ⊥) → depth line ≡ 0 → is_first layout line ≡ first
    → InBlock layout (Open ∷ line) first
flat_open layout line first flat at first_is = record { depth_is = ap suc at; first_is = (unseen_open layout line flat).1 ∙ first_is }

simple_reads : (line : List Piece) (some : List Noted) (first : Bool) → depth line ≡ 0 → is_first Simple line ≡ first
    → PartReads Simple line (Block some) first
simple_reads line [] first at first_is =
    let place = flat_place Simple line [] first (λ e. cc) (flat_open Simple line first (λ e. cc) at first_is) in
    record {
      text = flat_block Simple line [] (λ e. cc) ∙ sym (led_nothing first 32);
      depth_is = place.0;
      first_is = place.1;
    }
simple_reads line (noted ∷ some) first at first_is =
    let opened = flat_open Simple line first (λ e. cc) at first_is in
    let inside = is_inside_at (Open ∷ line) 0 opened.depth_is in
    let gap_is : gap Simple (Open ∷ line) ≡ (if first then [] else 32 ∷ []) = let f = opened.first_is in cc in
    let all = first_data Simple (Open ∷ line) noted some opened.depth_is in
    let place = flat_place Simple line (noted ∷ some) false (λ e. cc) all.1 in
    record {
      text = flat_block Simple line (noted ∷ some) (λ e. cc) ∙ all.0
          ∙ ap (λ l. l ++ (noted.token ++ data_text Simple some)) gap_is
          ∙ ap (λ l. (if first then [] else 32 ∷ []) ++ (noted.token ++ l)) (sym (flat_map-map (λ text. 32 ∷ text) (noted_text Simple) some))
          ∙ sym (led_cons first 32 noted.token (map (noted_text Simple) some));
      depth_is = place.0;
      first_is = place.1;
    }

tabbed_reads : (line : List Piece) (some : List Noted) (first : Bool) → depth line ≡ 0 → is_first Tabbed line ≡ first
    → PartReads Tabbed line (Block some) first
tabbed_reads line [] first at first_is =
    let place = flat_place Tabbed line [] first (λ e. cc) (flat_open Tabbed line first (λ e. cc) at first_is) in
    record {
      text = flat_block Tabbed line [] (λ e. cc) ∙ sym (led_nothing first 9);
      depth_is = place.0;
      first_is = place.1;
    }
tabbed_reads line (noted ∷ some) first at first_is =
    let opened = flat_open Tabbed line first (λ e. cc) at first_is in
    let inside = is_inside_at (Open ∷ line) 0 opened.depth_is in
    let out = is_outside_at line at in
    let fresh : has_data (Open ∷ line) ≡ false = cc in
    let gap_is : gap Tabbed (Open ∷ line) ≡ (if first then [] else 9 ∷ []) = let f = opened.first_is in cc in
    let all = first_data Tabbed (Open ∷ line) noted some opened.depth_is in
    let place = flat_place Tabbed line (noted ∷ some) false (λ e. cc) all.1 in
    record {
      text = flat_block Tabbed line (noted ∷ some) (λ e. cc) ∙ all.0
          ∙ ap (λ l. l ++ (noted.token ++ data_text Tabbed some)) gap_is
          ∙ ap (λ l. (if first then [] else 9 ∷ []) ++ (noted.token ++ l)) (sym (flat_map-map (λ text. 32 ∷ text) (noted_text Tabbed) some))
          ∙ ap (λ l. (if first then [] else 9 ∷ []) ++ l) (sym (join_led 32 noted.token (map (noted_text Tabbed) some)))
          ∙ sym (led_one first 9 (join_with_byte 32 (map (noted_text Tabbed) (noted ∷ some))));
      depth_is = place.0;
      first_is = place.1;
    }

multiline_reads : (line : List Piece) (some : List Noted) (first : Bool) → depth line ≡ 0 → is_first Multiline line ≡ first
    → PartReads Multiline line (Block some) first
multiline_reads line some first at first_is =
    let out = is_outside_at line at in
    let sep : List ℕ = if first then [] else 32 ∷ [] in
    let gap_is : gap Multiline line ≡ sep = cc in
    let open_is : piece_text Multiline line Open ≡ sep ++ 40 ∷ [] = let e : piece_text Multiline line Open ≡ gap Multiline line ++ 40 ∷ [] = cc in e ∙ ap (λ l. l ++ 40 ∷ []) gap_is in
    let opened : InBlock Multiline (Open ∷ line) false = record { depth_is = ap suc at; first_is = cc } in
    let inside = is_inside_at (Open ∷ line) 0 opened.depth_is in
    let own : gap Multiline (Open ∷ line) ≡ own_line = let f = opened.first_is in cc in
    let all = data_reads Multiline (Open ∷ line) some opened own in
    let last = place_after (Open ∷ line) (flat_map noted_pieces some) in
    let one : (depth last == 1) ≡ true = ap (λ n. n == 1) all.1.depth_is in
    let close_is : piece_text Multiline last Close ≡ own_line ++ 41 ∷ [] = cc in
    let last_first : is_first Multiline (Close ∷ last) ≡ false = cc in
    record {
      text = block_text Multiline line some
          ∙ ap (λ l. l ++ (text_behind Multiline (Open ∷ line) (flat_map noted_pieces some) ++ piece_text Multiline last Close)) open_is
          ∙ ap (λ l. (sep ++ 40 ∷ []) ++ (l ++ piece_text Multiline last Close)) all.0
          ∙ ap (λ l. (sep ++ 40 ∷ []) ++ (data_text Multiline some ++ l)) close_is
          ∙ ap (λ l. (sep ++ 40 ∷ []) ++ l) (sym (append_assoc (data_text Multiline some) own_line (41 ∷ [])))
          ∙ append_assoc sep (40 ∷ []) ((data_text Multiline some ++ own_line) ++ 41 ∷ [])
          ∙ sym (led_one first 32 (40 ∷ (data_text Multiline some ++ own_line) ++ 41 ∷ []));
      depth_is = ap depth (block_place line some) ∙ ap (λ n. n - 1) all.1.depth_is;
      first_is = ap (is_first Multiline) (block_place line some) ∙ last_first;
    }

part_reads : (layout : Layout) (line : List Piece) (part : Part) (first : Bool) → depth line ≡ 0 → is_first layout line ≡ first
    → PartReads layout line part first
part_reads layout line (Word noted) first at first_is = word_reads layout line noted first at first_is
part_reads Simple line (Block some) first at first_is = simple_reads line some first at first_is
part_reads Tabbed line (Block some) first at first_is = tabbed_reads line some first at first_is
part_reads Multiline line (Block some) first at first_is = multiline_reads line some first at first_is

parts_text : (layout : Layout) (line : List Piece) (parts : List Part) (first : Bool) → depth line ≡ 0 → is_first layout line ≡ first
    → text_behind layout line (line_pieces parts) ≡ blank_led first (separator layout) (flat_map (part_texts layout) parts)
parts_text layout line [] first at first_is = sym (led_nothing first (separator layout))
parts_text layout line (part ∷ parts) first at first_is =
    let one = part_reads layout line part first at first_is in
    let others = parts_text layout (place_after line (part_pieces part)) parts _ one.depth_is one.first_is in
    text_behind-append layout line (part_pieces part) (line_pieces parts)
    ∙ ap (λ l. l ++ text_behind layout (place_after line (part_pieces part)) (line_pieces parts)) one.text
    ∙ ap (λ l. blank_led first (separator layout) (part_texts layout part) ++ l) others
    ∙ sym (led_append first (separator layout) (part_texts layout part) (flat_map (part_texts layout) parts))

-- the text of a line
pub line_reads : (layout : Layout) (parts : List Part) → text_behind layout [] (line_pieces parts) ≡ line_text layout parts
line_reads layout parts = parts_text layout [] parts true refl refl

-- a line of words and blocks ends outside of these
pub parts_end : (layout : Layout) (line : List Piece) (parts : List Part) → depth line ≡ 0 → depth (place_after line (line_pieces parts)) ≡ 0
parts_end layout line [] at = at
parts_end layout line (part ∷ parts) at =
    let one = part_reads layout line part (is_first layout line) at refl in
    ap depth (place_after-append line (part_pieces part) (line_pieces parts)) ∙ parts_end layout (place_after line (part_pieces part)) parts one.depth_is
