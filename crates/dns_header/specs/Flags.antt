-- The one-bit flags of a header, except Z, and their text.
use Rattle.std.specs.Prelude.{◌==◌, ◌||◌, ℕ, Bool, false, List, [], ◌∷◌, ◌++◌, Option, Some, None, map, filter, flat_map, codes, length, if◌then◌else◌}
use Rattle.std.specs.List.{list_all, list_any, slice_split}
use Rattle.std.specs.Str.{str_eq_ignore_ascii_case}
use Rattle.dns_header.specs.HeaderFields.{HeaderFields}
use Rattle.dns_header.specs.declared.header.flags.Flags.{Flags}

abbrev pub no_flags : Flags
no_flags = record { qr = false; aa = false; tc = false; rd = false; ra = false; ad = false; cd = false }

abbrev pub flags_in : HeaderFields → Flags
flags_in h = record { qr = h.qr; aa = h.aa; tc = h.tc; rd = h.rd; ra = h.ra; ad = h.ad; cd = h.cd }

abbrev pub with_flags : Flags → HeaderFields → HeaderFields
with_flags f h = record h { qr = f.qr; aa = f.aa; tc = f.tc; rd = f.rd; ra = f.ra; ad = f.ad; cd = f.cd }

-- the word of each flag, and whether it is set
abbrev pub words_of : Flags → List (List ℕ × Bool)
words_of f =
    (codes "QR", f.qr) ∷ (codes "AA", f.aa) ∷ (codes "TC", f.tc) ∷ (codes "RD", f.rd) ∷ (codes "RA", f.ra) ∷ (codes "AD", f.ad)
    ∷ (codes "CD", f.cd) ∷ []

-- words with one space between each two
abbrev pub spaced : List (List ℕ) → List ℕ
spaced [] = []
spaced (word ∷ words) = word ++ flat_map (λ w. 32 ∷ w) words

-- the text of flags: the words of those that are set
unfoldable pub flags_text : Flags → List ℕ
flags_text f = spaced (map (λ row. row.0) (filter (λ row. row.1) (words_of f)))

-- the pieces between the spaces of a text
abbrev pub pieces : List ℕ → List (List ℕ)
pieces text = slice_split (λ octet. octet == 32) text

-- the word is a piece of the text, up to ASCII case
abbrev pub has_piece : List ℕ → List ℕ → Bool
has_piece text word = list_any (λ piece. str_eq_ignore_ascii_case piece word) (pieces text)

-- a piece is empty or the word of a flag, up to ASCII case
abbrev pub is_flag : List ℕ → Bool
is_flag piece = (length piece == 0) || list_any (λ row. str_eq_ignore_ascii_case piece row.0) (words_of no_flags)

-- the flags whose words are in a text, if it has no other pieces
unfoldable pub flags_read : List ℕ → Option Flags
flags_read text = if list_all is_flag (pieces text) then Some (record {
  qr = has_piece text (codes "QR");
  aa = has_piece text (codes "AA");
  tc = has_piece text (codes "TC");
  rd = has_piece text (codes "RD");
  ra = has_piece text (codes "RA");
  ad = has_piece text (codes "AD");
  cd = has_piece text (codes "CD");
}) else None
