-- How long a row is in a message: as its octets, where no name is written with a pointer.
use Rattle.std.proofs.Common.{◌≡◌, ◌+◌, ◌<◌, ◌≤◌, ℕ, Bool, true, false, List, [], ◌∷◌, ◌||◌, length, map, refl, sym, ◌∙◌, ap, arith, length-append, inl, inr}
use Rattle.std.specs.Prelude.{Option, Some, None, IfSome, IfNone, IsNone, ◌↔◌}
use Rattle.std.specs.List.{list_any}
use Rattle.dns_label.specs.Name.{wire}
use Rattle.dns_name.specs.Spelling.{Spelling, plain as in_full, compresses, name_text, known_after}
use Rattle.dns_name.specs.Page.{Page, write}
use Rattle.dns_name.specs.Page.Parts.{End, Octets, Named}
use Rattle.dns_octets.specs.Builder.{Known}
use Rattle.dns_name.specs.RecordData.{page_of, has_name, IsComposedLength, IsUntold}
use Rattle.dns_name.proofs.Spelled.{name_text-none, known_after-none}
use Rattle.dns_fields.specs.Fields.{Field, number8, number16, number32, ipv4, ipv6, compressible, uncompressed, string, strings, tag, rest_text, rest16, rest64, kind_of, field_octets, octets}
use Rattle.dns_fields.specs.Written.{may_point, written_field, written_parts}
use Rattle.dns_fields.proofs.Writing.{write-field}

-- the page goes on being one where names are written in full
pub record IsPlain (s : Spelling) (page : Page) : Type 0 where
  pub compresses : compresses s ≡ false
  pub known : page.known ≡ []

octets_long : (s : Spelling) (page : Page) (more : List ℕ) → length (write s page (Octets more End)).octets ≡ length page.octets + length more
unfolding write
octets_long s page more = length-append page.octets more

octets_plain : (s : Spelling) (page : Page) (more : List ℕ) → IsPlain s page → IsPlain s (write s page (Octets more End))
unfolding write
octets_plain s page more plain = record { compresses = plain.compresses; known = plain.known }

name_full : (s : Spelling) (page : Page) (name : List (List ℕ)) → IsPlain s page → name_text s page.known (length page.octets) name ≡ wire name
name_full s page name plain =
    ap (λ (known : Known). name_text s known (length page.octets) name) plain.known
    ∙ name_text-none s (length page.octets) name plain.compresses

name_long : (s : Spelling) (page : Page) (name : List (List ℕ)) → IsPlain s page
    → length (write s page (Named name End)).octets ≡ length page.octets + length (wire name)
unfolding write
name_long s page name plain =
    length-append page.octets (name_text s page.known (length page.octets) name)
    ∙ ap (λ l. length page.octets + length l) (name_full s page name plain)

name_plain : (s : Spelling) (page : Page) (name : List (List ℕ)) → IsPlain s page → IsPlain s (write s page (Named name End))
unfolding write
name_plain s page name plain = record {
  compresses = plain.compresses;
  known = ap (λ (known : Known). known_after s known (length page.octets) name) plain.known
      ∙ known_after-none s (length page.octets) name plain.compresses;
}

-- a field is as long as its octets, a name only where it is written in full
field_long : (s : Spelling) (page : Page) (field : Field) → (may_point (kind_of field) ≡ true → IsPlain s page)
    → length (write s page (written_field field End)).octets ≡ length page.octets + length (field_octets field)
field_long s page (compressible name) plain = name_long s page name (plain refl)
field_long s page (number8 n) plain = octets_long s page (field_octets (number8 n))
field_long s page (number16 n) plain = octets_long s page (field_octets (number16 n))
field_long s page (number32 n) plain = octets_long s page (field_octets (number32 n))
field_long s page (ipv4 octets) plain = octets_long s page octets
field_long s page (ipv6 octets) plain = octets_long s page octets
field_long s page (uncompressed name) plain = octets_long s page (wire name)
field_long s page (string octets) plain = octets_long s page (field_octets (string octets))
field_long s page (strings each) plain = octets_long s page (field_octets (strings each))
field_long s page (tag octets) plain = octets_long s page (field_octets (tag octets))
field_long s page (rest_text octets) plain = octets_long s page octets
field_long s page (rest16 octets) plain = octets_long s page octets
field_long s page (rest64 octets) plain = octets_long s page octets

field_plain : (s : Spelling) (page : Page) (field : Field) → IsPlain s page → IsPlain s (write s page (written_field field End))
field_plain s page (compressible name) plain = name_plain s page name plain
field_plain s page (number8 n) plain = octets_plain s page (field_octets (number8 n)) plain
field_plain s page (number16 n) plain = octets_plain s page (field_octets (number16 n)) plain
field_plain s page (number32 n) plain = octets_plain s page (field_octets (number32 n)) plain
field_plain s page (ipv4 octets) plain = octets_plain s page octets plain
field_plain s page (ipv6 octets) plain = octets_plain s page octets plain
field_plain s page (uncompressed name) plain = octets_plain s page (wire name) plain
field_plain s page (string octets) plain = octets_plain s page (field_octets (string octets)) plain
field_plain s page (strings each) plain = octets_plain s page (field_octets (strings each)) plain
field_plain s page (tag octets) plain = octets_plain s page (field_octets (tag octets)) plain
field_plain s page (rest_text octets) plain = octets_plain s page octets plain
field_plain s page (rest16 octets) plain = octets_plain s page octets plain
field_plain s page (rest64 octets) plain = octets_plain s page octets plain

or_first : (a b : Bool) → a ≡ true → (a || b) ≡ true
or_first true b is = refl
or_first false b is = absurd (cc)

or_second : (a b : Bool) → b ≡ true → (a || b) ≡ true
or_second true b is = refl
or_second false b is = is

row_long : (s : Spelling) (page : Page) (row : List Field) → (list_any may_point (map kind_of row) ≡ true → IsPlain s page)
    → length (write s page (written_parts row)).octets ≡ length page.octets + length (octets row)
unfolding write
row_long s page [] plain = omega arith
row_long s page (field ∷ row) plain =
    let middle : Page = write s page (written_field field End) in
    let here = field_long s page field (λ points. plain (or_first (may_point (kind_of field)) (list_any may_point (map kind_of row)) points)) in
    let on = row_long s middle row (λ points. field_plain s page field (plain (or_second (may_point (kind_of field)) (list_any may_point (map kind_of row)) points))) in
    let whole : length (write s page (written_parts (field ∷ row))).octets ≡ length (write s middle (written_parts row)).octets =
    ap (λ (p : Page). length p.octets) (write-field s page field (written_parts row)) in
    omega (arith, whole, here, on, length-append (field_octets field) (octets row))

-- the octets of a row, where pointers are out of the question
pub row_composed : (compress : Bool) (row : List Field) (len : ℕ) → (compress ≡ true → list_any may_point (map kind_of row) ≡ false)
    → len ≡ length (octets row) → IsComposedLength compress (written_parts row) len
row_composed true row len none is = record {
  composed = λ s page plain. row_long s page row (λ points. absurd (let none = none refl in cc)) ∙ ap (λ n. length page.octets + n) (sym is);
}
row_composed false row len none is = record {
  composed = λ s page plain.
      let full = plain refl in
      row_long s page row (λ points. record { compresses = full.0; known = full.1 }) ∙ ap (λ n. length page.octets + n) (sym is);
}

pub if_some : {T : Type 0} {P Q : T → Type 0} (result : Option T) → ((value : T) → P value → Q value) → IfSome result P → IfSome result Q
if_some (Some value) then fact = then value fact
if_some None then fact = tt

-- a name among the parts of a row is a field that may be written with a pointer
pub row_named : (row : List Field) → has_name (written_parts row) ≡ list_any may_point (map kind_of row)
row_named [] = refl
row_named (compressible name ∷ row) = refl
row_named (number8 n ∷ row) = row_named row
row_named (number16 n ∷ row) = row_named row
row_named (number32 n ∷ row) = row_named row
row_named (ipv4 octets ∷ row) = row_named row
row_named (ipv6 octets ∷ row) = row_named row
row_named (uncompressed name ∷ row) = row_named row
row_named (string octets ∷ row) = row_named row
row_named (strings each ∷ row) = row_named row
row_named (tag octets ∷ row) = row_named row
row_named (rest_text octets ∷ row) = row_named row
row_named (rest16 octets ∷ row) = row_named row
row_named (rest64 octets ∷ row) = row_named row

-- a row in full is as long as its octets
pub row_in_full : (row : List Field) → length (write in_full (page_of [] []) (written_parts row)).octets ≡ length (octets row)
row_in_full row =
    let long = row_long in_full (page_of [] []) row (λ points. record { compresses = refl; known = refl }) in
    omega (arith, long)

-- there is no length where a name may be a pointer
pub untold_named : (compress : Bool) (row : List Field) → compress ≡ true → list_any may_point (map kind_of row) ≡ true
    → IsNone {T = ℕ} None ↔ IsUntold compress (written_parts row)
untold_named compress row asks named = (
  (λ none. inl (asks, row_named row ∙ named)),
  (λ untold. refl),
)

-- otherwise there is one exactly if it is not too long
pub untold_long : (compress : Bool) (row : List Field) (result : Option ℕ)
    → (compress ≡ true → list_any may_point (map kind_of row) ≡ false)
    → IfSome result (λ len. len ≡ length (octets row))
    → IfSome result (λ len. len ≤ 65535)
    → IfNone result (65535 < length (octets row))
    → IsNone result ↔ IsUntold compress (written_parts row)
untold_long compress row None none same few long = (
  (λ is. inr (rw (row_in_full row) long)),
  (λ untold. refl),
)
untold_long compress row (Some len) none same few long = (
  (λ is. absurd (cc)),
  (λ untold. absurd (elim untold [
    | inl it ↦ let asks = it.0 in let named = it.1 in let is = row_named row in let not = none asks in cc
    | inr past ↦ let is = row_in_full row in omega (arith, past, is, same, few)
  ])),
)
