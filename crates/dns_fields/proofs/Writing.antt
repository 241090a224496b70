-- A row is written field by field.
use Rattle.std.proofs.Common.{◌≡◌, ℕ, List, ◌∷◌, length, refl, sym, ◌∙◌, ap, arith}
use Rattle.std.specs.Prelude.{Result, Ok, Err, Option, OnOk}
use Rattle.dns_octets.specs.Builder.{IsPast}
use Rattle.dns_name.specs.Spelling.{Spelling}
use Rattle.dns_name.specs.Page.{Page, Parts, write}
use Rattle.dns_name.specs.Page.Parts.{End}
use Rattle.dns_name.proofs.Growth.{IsPast-from}
use Rattle.dns_name.proofs.WrittenParts.{write-long}
use Rattle.dns_fields.specs.Fields.{Field, number8, number16, number32, ipv4, ipv6, compressible, uncompressed, string, strings, tag, rest_text, rest16, rest64}
use Rattle.dns_fields.specs.Written.{written_field, written_parts}

-- what is written first is there before what is written after it
pub write-field : (s : Spelling) (page : Page) (field : Field) (behind : Parts)
    → write s page (written_field field behind) ≡ write s (write s page (written_field field End)) behind
unfolding write
write-field s page (number8 n) behind = refl
write-field s page (number16 n) behind = refl
write-field s page (number32 n) behind = refl
write-field s page (ipv4 octets) behind = refl
write-field s page (ipv6 octets) behind = refl
write-field s page (compressible name) behind = refl
write-field s page (uncompressed name) behind = refl
write-field s page (string octets) behind = refl
write-field s page (strings each) behind = refl
write-field s page (tag octets) behind = refl
write-field s page (rest_text octets) behind = refl
write-field s page (rest16 octets) behind = refl
write-field s page (rest64 octets) behind = refl

-- a field, and the row after it
pub write-row : (s : Spelling) (page middle : Page) (field : Field) (row : List Field) → middle ≡ write s page (written_field field End)
    → write s middle (written_parts row) ≡ write s page (written_parts (field ∷ row))
write-row s page middle field row is =
    ap (λ p. write s p (written_parts row)) is ∙ sym (write-field s page field (written_parts row))

pub on_ok : {T E P Q : Type 0} (result : Result T E) → (P → Q) → OnOk result P → OnOk result Q
on_ok (Ok value) then fact = then fact
on_ok (Err error) then fact = tt

-- what is past a bound after the first field is past it after the row
pub past_first : (s : Spelling) (page : Page) (field : Field) (row : List Field) (bound : Option ℕ)
    → IsPast bound (length (write s page (written_field field End)).octets)
    → IsPast bound (length (write s page (written_parts (field ∷ row))).octets)
past_first s page field row bound past =
    let middle : Page = write s page (written_field field End) in
    IsPast-from bound bound (length middle.octets) _ refl
    (omega (arith, write-long s middle (written_parts row), ap (λ (p : Page). length p.octets) (write-field s page field (written_parts row)))) past

pub past_row : (s : Spelling) (page middle : Page) (field : Field) (row : List Field) (bound other : Option ℕ)
    → middle ≡ write s page (written_field field End) → other ≡ bound → IsPast other (length (write s middle (written_parts row)).octets)
    → IsPast bound (length (write s page (written_parts (field ∷ row))).octets)
past_row s page middle field row bound other is same past =
    IsPast-from bound other _ _ same (omega (arith, ap (λ (p : Page). length p.octets) (write-row s page middle field row is))) past
