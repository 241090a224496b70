-- Fields that are written with every name in full.
use Rattle.std.proofs.Common.{◌≡◌, ℕ, List, [], ◌∷◌, ◌++◌, length, refl, sym, ◌∙◌, ap, append_assoc, append-nil}
use Rattle.dns_label.specs.Name.{wire}
use Rattle.dns_name.specs.Page.{Page, write}
use Rattle.dns_name.specs.Page.Parts.{End, Named}
use Rattle.dns_name.specs.RecordData.{page_of}
use Rattle.dns_name.specs.Spelling.{plain}
use Rattle.dns_name.proofs.Spelled.{plain_text, plain_known}
use Rattle.dns_fields.specs.Fields.{Field, number8, number16, number32, ipv4, ipv6, compressible, uncompressed, string, strings, tag, rest_text, rest16, rest64, field_octets, octets}
use Rattle.dns_fields.specs.Written.{written_field, written_parts}
use Rattle.dns_fields.proofs.Writing.{write-field}

named : (old : List ℕ) (name : List (List ℕ)) → write plain (page_of old []) (Named name End) ≡ page_of (old ++ wire name) []
unfolding write
named old name = λ i. page_of (old ++ plain_text (length old) name i) (plain_known (length old) name i)

field_written : (old : List ℕ) (field : Field) → write plain (page_of old []) (written_field field End) ≡ page_of (old ++ field_octets field) []
unfolding write
field_written old (number8 n) = refl
field_written old (number16 n) = refl
field_written old (number32 n) = refl
field_written old (ipv4 octets) = refl
field_written old (ipv6 octets) = refl
field_written old (compressible name) = named old name
field_written old (uncompressed name) = refl
field_written old (string octets) = refl
field_written old (strings each) = refl
field_written old (tag octets) = refl
field_written old (rest_text octets) = refl
field_written old (rest16 octets) = refl
field_written old (rest64 octets) = refl

row_written : (old : List ℕ) (row : List Field) → write plain (page_of old []) (written_parts row) ≡ page_of (old ++ octets row) []
unfolding write
row_written old [] = ap (λ (l : List ℕ). page_of l []) (sym (append-nil old))
row_written old (field ∷ row) =
    write-field plain (page_of old []) field (written_parts row)
    ∙ ap (λ (p : Page). write plain p (written_parts row)) (field_written old field)
    ∙ row_written (old ++ field_octets field) row
    ∙ ap (λ (l : List ℕ). page_of l []) (append_assoc old (field_octets field) (octets row))

-- what then follows the octets
pub row_behind : (old new : List ℕ) (row : List Field) → page_of new [] ≡ write plain (page_of old []) (written_parts row)
    → new ≡ old ++ octets row
row_behind old new row is = ap (λ (p : Page). p.octets) (is ∙ row_written old row)
