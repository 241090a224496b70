-- The place of a writer after one more piece, and the text of that piece.
use Rattle.std.proofs.Common.{◌≡◌, ◌-◌, ◌==◌, ℕ, suc, nat_lt, if◌then◌else◌, Bool, true, false, List, [], ◌∷◌, ◌++◌, refl, sym, ◌∙◌, ap, subst}
use Rattle.std.specs.Fmt.{WritesInCalls}
use Rattle.std.proofs.Output.{writes_in_calls_append, writes_in_calls_single}
use Rattle.dns_text.specs.declared.layout.DisplayKind.{DisplayKind}
use Rattle.dns_text.specs.declared.writer.Writer.{Writer}
use Rattle.dns_text.specs.Document.{Layout, Piece, depth, gap, has_data, is_first, is_inside, own_line, piece_text, place_behind, under_multiline}
use Rattle.dns_text.specs.Document.Layout.{Simple, Tabbed, Multiline}
use Rattle.dns_text.specs.Document.Piece.{Token, Comment, Open, Close, Newline}
use Rattle.dns_text.specs.Layout.{layout_of}
use Rattle.dns_text.specs.Written.{IsAt, IsPlace, IsWritten, ShowsMark, line_of, first_behind_mark}

-- one more piece is written
pub one_more : {W : Type 0} (took : W → List ℕ → W → Type 0) (start old new : Writer W) (front : List Piece) (piece : Piece)
    → new.kind ≡ old.kind → ((line : List Piece) → IsAt old line → IsAt new (place_behind line piece))
    → ((line : List Piece) → IsAt old line → WritesInCalls took old.target (piece_text (layout_of old.kind) line piece) new.target)
    → IsWritten took start front old → IsWritten took start (piece ∷ front) new
one_more took start old new front piece kind at text so_far = record {
  same_kind = kind ∙ so_far.same_kind;
  at = at (line_of front) so_far.at;
  text = writes_in_calls_append took start.target _ old.target _ new.target so_far.text
      (subst (λ k. WritesInCalls took old.target (piece_text (layout_of k) (line_of front) piece) new.target) so_far.same_kind (text (line_of front) so_far.at));
}

pub outside : (line : List Piece) (open' : ℕ) → open' ≡ depth line → open' ≡ 0 → is_inside line ≡ false
outside line open' is none = ap (nat_lt 0) (sym is ∙ none)

pub at_token : (layout : Layout) (line : List Piece) (open' : ℕ) (first data' : Bool) (text : List ℕ)
    → IsPlace layout line open' first data' → IsPlace layout (Token text ∷ line) open' false true
at_token layout line open' first data' text at = record { depth_is = at.depth_is; first_is = refl; data_is = refl }

pub at_comment : (layout : Layout) (line : List Piece) (open' : ℕ) (first data' : Bool) (text : List ℕ)
    → layout ≡ Multiline → IsPlace layout line open' first data' → IsPlace layout (Comment text ∷ line) open' false data'
at_comment layout line open' first data' text is at = record {
  depth_is = at.depth_is;
  first_is = subst (λ l. false ≡ is_first l (Comment text ∷ line)) (sym is) refl;
  data_is = at.data_is;
}

pub comment_text : (layout : Layout) (line : List Piece) (text : List ℕ) → layout ≡ Multiline
    → piece_text layout line (Comment text) ≡ 9 ∷ 59 ∷ 32 ∷ text
comment_text layout line text is = ap (λ l. under_multiline l (9 ∷ 59 ∷ 32 ∷ text)) is

pub at_newline : (layout : Layout) (line : List Piece) (open' : ℕ) (first data' : Bool)
    → open' ≡ 0 → IsPlace layout line open' first data' → IsPlace layout (place_behind line Newline) open' true false
at_newline layout line open' first data' none at =
    let P : Bool → Type 0 = λ b. IsPlace layout (if b then Newline ∷ line else []) open' true false in
    subst P (sym (outside line open' at.depth_is none)) (record { depth_is = none; first_is = refl; data_is = refl })

pub newline_text : (layout : Layout) (line : List Piece) (open' : ℕ) → open' ≡ depth line → open' ≡ 0
    → piece_text layout line Newline ≡ 10 ∷ []
newline_text layout line open' is none =
    let text : Bool → List ℕ = λ b. if b then [] else 10 ∷ [] in ap text (outside line open' is none)

first_behind_open : (layout : Layout) (line : List Piece) (first : Bool) → is_inside line ≡ false → first ≡ is_first layout line
    → first_behind_mark layout first ≡ is_first layout (Open ∷ line)
first_behind_open Simple line first out is = is
first_behind_open Tabbed line first out is = is
first_behind_open Multiline line first out is =
    let seen : Bool → Bool = λ b. if (if b then false else true) then false else is_first Multiline line in sym (ap seen out)

pub at_open : (layout : Layout) (line : List Piece) (open' : ℕ) (first data' : Bool) → open' ≡ 0
    → IsPlace layout line open' first data' → IsPlace layout (Open ∷ line) 1 (first_behind_mark layout first) false
at_open layout line open' first data' none at =
    let out = outside line open' at.depth_is none in
    let data_of : Bool → Bool = λ b. if b then has_data line else false in
    record {
      depth_is = ap suc (sym none ∙ at.depth_is);
      first_is = first_behind_open layout line first out at.first_is;
      data_is = sym (ap data_of out);
    }

pub open_text : (layout : Layout) (line : List Piece) (open' : ℕ) → open' ≡ depth line → open' ≡ 0
    → piece_text layout line Open ≡ under_multiline layout (gap layout line ++ 40 ∷ [])
open_text layout line open' is none =
    let text : Bool → List ℕ = λ b. if b then [] else under_multiline layout (gap layout line ++ 40 ∷ []) in
    ap text (outside line open' is none)

first_behind_close : (layout : Layout) (line : List Piece) (first : Bool) → (depth line == 1) ≡ true → first ≡ is_first layout line
    → first_behind_mark layout first ≡ is_first layout (Close ∷ line)
first_behind_close Simple line first one is = is
first_behind_close Tabbed line first one is = is
first_behind_close Multiline line first one is =
    let seen : Bool → Bool = λ b. if b then false else is_first Multiline line in sym (ap seen one)

pub at_close : (layout : Layout) (line : List Piece) (open' : ℕ) (first data' : Bool) → open' ≡ 1
    → IsPlace layout line open' first data' → IsPlace layout (Close ∷ line) 0 (first_behind_mark layout first) data'
at_close layout line open' first data' one at =
    let is : depth line ≡ 1 = sym at.depth_is ∙ one in
    record {
      depth_is = sym (ap (λ n. n - 1) is);
      first_is = first_behind_close layout line first (ap (λ n. n == 1) is) at.first_is;
      data_is = at.data_is;
    }

pub close_text : (layout : Layout) (line : List Piece) (open' : ℕ) → open' ≡ depth line → open' ≡ 1
    → piece_text layout line Close ≡ under_multiline layout (own_line ++ 41 ∷ [])
close_text layout line open' is one =
    let text : ℕ → List ℕ = λ n. if n == 1 then under_multiline layout (own_line ++ 41 ∷ []) else [] in ap text (sym is ∙ one)

-- the mark is shown
pub shows_mark : {W : Type 0} (took : W → List ℕ → W → Type 0) (old : Writer W) (between behind : W) (gap' mark : List ℕ)
    → layout_of old.kind ≡ Multiline → took old.target gap' between → took between mark behind
    → ShowsMark took (gap' ++ mark) old (record old { target = behind; is_first = false })
shows_mark took old between behind gap' mark is first second =
    let text = writes_in_calls_append took old.target gap' between mark behind (writes_in_calls_single took _ _ _ first)
    (writes_in_calls_single took _ _ _ second) in
    record {
      same_kind = refl;
      same_depth = refl;
      same_data = refl;
      first_is = sym (ap (λ l. first_behind_mark l old.is_first) is);
      text = subst (λ l. WritesInCalls took old.target (under_multiline l (gap' ++ mark)) behind) (sym is) text;
    }

-- the same place, for a writer that is known by its parts
pub marked : (kind kind' : DisplayKind) (line : List Piece) (open' : ℕ) (first first' data' data'' : Bool)
    → kind' ≡ kind → first' ≡ first → data'' ≡ data'
    → IsPlace (layout_of kind) line open' first data' → IsPlace (layout_of kind') line open' first' data''
marked kind kind' line open' first first' data' data'' kinds firsts datas at = record {
  depth_is = at.depth_is;
  first_is = firsts ∙ at.first_is ∙ ap (λ k. is_first (layout_of k) line) (sym kinds);
  data_is = datas ∙ at.data_is;
}
