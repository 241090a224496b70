-- A record without a name in its data that may be compressed is written behind its owner as it is stored.
use Rattle.std.proofs.Common.{◌≡◌, ◌==◌, ◌+◌, ◌-◌, ◌≤◌, ◌<◌, ◌^◌, ℕ, Bool, true, false, Option, Some, None, List, [], ◌∷◌, ◌++◌, length, map, take, drop, refl, sym, ap, ◌∙◌, arith, append_assoc, append-nil, length-append}
use Rattle.std.specs.Prelude.{if◌then◌else◌}
use Rattle.std.proofs.lemmas.Bool.Decides.{nat_tests}
use Rattle.std.proofs.lemmas.List.{drop_at, length-drop, take_all}
use Rattle.std.specs.Int.{to_be_bytes, w16}
use Rattle.dns_octets.specs.Builder.{Known}
use Rattle.dns_name.specs.Spelling.{Spelling, name_text}
use Rattle.dns_label.specs.Name.{wire}
use Rattle.dns_name.specs.Page.{Page, Parts, with_name, with_octets, write}
use Rattle.dns_name.specs.Page.Parts.{End, Octets, Named}
use Rattle.dns_compression_laws.proofs.Tails.{behind, tail, write_is}
use Rattle.dns_rdata.specs.Fields.{Field, IsData, Kind, field_octets, kind_of, kinds_in, octets, table}
use Rattle.dns_rdata.specs.Fields.{number8, number16, number32, ipv4, ipv6, compressible, uncompressed, string, strings, tag, rest_text, rest16, rest64}
use Rattle.dns_rdata.specs.Fields.IsData.{typed, unknown}
use Rattle.dns_rdata.specs.Written.{may_point, written_field, written_parts}
use Rattle.dns_header.specs.Head.{after_length, fixed_octets, record_parts as parts_with}
use Rattle.dns_header.specs.Written.{data_length}
use Rattle.dns_message.specs.Record.{record_octets, record_parts}
use Rattle.dns_message.specs.Record.IsWritten.{fields as in_row, untold}
use Rattle.zone_records.specs.Record.{Record}
use Rattle.zone_send.specs.SpelledSending.{may_have_pointer, IsWrittenAs}

joined : (fixed d : List ℕ) (known : Known)
    → behind (fixed ++ after_length d) (record { octets = []; known = known })
    ≡ behind fixed (behind (to_be_bytes w16 (length (d ++ [])) ++ (d ++ [])) (record { octets = []; known = known }))
joined fixed d known =
    let more : d ++ [] ≡ d = append-nil d in
    let same : (fixed ++ after_length d) ++ [] ≡ fixed ++ ((to_be_bytes w16 (length (d ++ [])) ++ (d ++ [])) ++ []) =
    append_assoc fixed (after_length d) [] ∙ ap (λ (l : List ℕ). fixed ++ ((to_be_bytes w16 (length l) ++ l) ++ [])) (sym more) in
    λ i. record { octets = same i; known = known }

-- the octets after the owner, at once or with their count written over two zeros
pub at_once : (s : Spelling) (page : Page) (owner : List (List ℕ)) (rtype class ttl : ℕ) (d : List ℕ)
    → write s page (Named owner (Octets (fixed_octets rtype class ttl ++ after_length d) End))
    ≡ write s page (parts_with owner rtype class ttl (Octets d End))
at_once s page owner rtype class ttl d =
    let fixed : List ℕ = fixed_octets rtype class ttl in
    let parts : Parts = Named owner (Octets (fixed ++ after_length d) End) in
    let place : ℕ = length page.octets in
    let tails : tail s page.known place parts ≡ tail s page.known place (parts_with owner rtype class ttl (Octets d End)) =
    ap (behind _) (joined fixed d _) in
    write_is s page parts ∙ ap (behind page.octets) tails ∙ sym (write_is s page (parts_with owner rtype class ttl (Octets d End)))

-- a field that is no name is octets
field_parts : (field : Field) (more : Parts) → may_point (kind_of field) ≡ false → written_field field more ≡ Octets (field_octets field) more
field_parts (number8 n) more plain = refl
field_parts (number16 n) more plain = refl
field_parts (number32 n) more plain = refl
field_parts (ipv4 octets) more plain = refl
field_parts (ipv6 octets) more plain = refl
field_parts (compressible name) more plain = absurd (cc)
field_parts (uncompressed name) more plain = refl
field_parts (string octets) more plain = refl
field_parts (strings each) more plain = refl
field_parts (tag octets) more plain = refl
field_parts (rest_text octets) more plain = refl
field_parts (rest16 octets) more plain = refl
field_parts (rest64 octets) more plain = refl

-- whether no field of these kinds may be written with a pointer
abbrev all_plain : List Kind → Bool
all_plain [] = true
all_plain (kind ∷ kinds) = if may_point kind then false else all_plain kinds

-- whether each row of a table is of a type that may have a pointer, or has only fields that have none
abbrev table_plain : List (ℕ × List Kind) → Bool
table_plain [] = true
table_plain (row ∷ rows) = if (if may_have_pointer row.0 then true else all_plain row.1) then table_plain rows else false

not_then : (test rest : Bool) → (if test then false else rest) ≡ true → (test ≡ false) × (rest ≡ true)
not_then true rest is = absurd (let e : false ≡ true = is in cc)
not_then false rest is = (refl, is)

else_of : (test rest : Bool) → (if test then true else rest) ≡ true → test ≡ false → rest ≡ true
else_of true rest is not = absurd (cc)
else_of false rest is not = is

both_of : (first rest : Bool) → (if first then rest else false) ≡ true → (first ≡ true) × (rest ≡ true)
both_of true rest is = (refl, is)
both_of false rest is = absurd (let e : false ≡ true = is in cc)

row_or_rows : (test : Bool) (first kinds : List Kind) (rest : Option (List Kind)) → (if test then Some first else rest) ≡ Some kinds
    → (test ≡ true → all_plain first ≡ true) → (rest ≡ Some kinds → all_plain kinds ≡ true) → all_plain kinds ≡ true
row_or_rows true first kinds rest is here there =
    let same : first ≡ kinds = let e : Some first ≡ Some kinds = is in cc in ap all_plain (sym same) ∙ here refl
row_or_rows false first kinds rest is here there = there is

kinds_plain : (rtype : ℕ) (rows : List (ℕ × List Kind)) (kinds : List Kind) → table_plain rows ≡ true → may_have_pointer rtype ≡ false
    → kinds_in rows rtype ≡ Some kinds → all_plain kinds ≡ true
kinds_plain rtype [] kinds all not is = absurd (let e : None ≡ Some kinds = is in cc)
kinds_plain rtype (row ∷ rows) kinds all not is =
    let both = both_of (if may_have_pointer row.0 then true else all_plain row.1) (table_plain rows) all in
    row_or_rows (rtype == row.0) row.1 kinds (kinds_in rows rtype) is
    (λ test. let same : rtype ≡ row.0 = grind (arith, nat_tests) in
    else_of (may_have_pointer row.0) (all_plain row.1) both.0 (ap may_have_pointer (sym same) ∙ not))
    (λ there. kinds_plain rtype rows kinds both.1 not there)

-- fields that are no names are their octets
row_tail : (s : Spelling) (row : List Field) → all_plain (map kind_of row) ≡ true → (known : Known) (place : ℕ)
    → tail s known place (written_parts row) ≡ tail s known place (Octets (octets row) End)
row_tail s [] plain known place = refl
row_tail s (field ∷ row) plain known place =
    let first : List ℕ = field_octets field in
    let both = not_then (may_point (kind_of field)) (all_plain (map kind_of row)) plain in
    ap (tail s known place) (field_parts field (written_parts row) both.0)
    ∙ ap (behind first) (row_tail s row both.1 known (place + length first))
    ∙ λ i. record { octets = sym (append_assoc first (octets row) []) i; known = known }

-- a record is written by the parts of its data
same_parts : (s : Spelling) (page : Page) (r : Record) (first second : Parts)
    → ((known : Known) (place : ℕ) → tail s known place first ≡ tail s known place second)
    → write s page (record_parts r first) ≡ write s page (record_parts r second)
same_parts s page r first second same =
    let place : ℕ = length page.octets in
    let tails : tail s page.known place (record_parts r first) ≡ tail s page.known place (record_parts r second) =
    ap (λ (t : Page). behind (name_text s page.known place r.owner) (behind (fixed_octets r.rtype r.class r.ttl)
    (behind (to_be_bytes w16 (length t.octets) ++ t.octets) (record { octets = []; known = t.known })))) (same _ _) in
    write_is s page (record_parts r first) ∙ ap (behind page.octets) tails ∙ sym (write_is s page (record_parts r second))

-- data of a type without a name that may be compressed is written as it is stored
pub opaque_written : (s : Spelling) (r : Record) → may_have_pointer r.rtype ≡ false → IsData r.rtype r.rdata
    → IsWrittenAs s r (record_parts r (Octets r.rdata End))
opaque_written s r none_has (typed row is data_is) = record {
  given = record_parts r (written_parts row);
  is_written = in_row row is data_is;
  same = λ page. same_parts s page r (Octets r.rdata End) (written_parts row)
      (λ known place. ap (λ (l : List ℕ). tail s known place (Octets l End)) data_is
      ∙ sym (row_tail s row (kinds_plain r.rtype table (map kind_of row) refl none_has is.kinds) known place));
}
opaque_written s r none_has (unknown none short) = record {
  given = record_parts r (Octets r.rdata End);
  is_written = untold none;
  same = λ page. refl;
}

-- what is stored behind the owner
pub behind_owner_is : (r : Record) (whole : List ℕ) (len : ℕ) → whole ≡ record_octets r → len ≡ length (wire r.owner)
    → take (length whole - len) (drop len whole) ≡ fixed_octets r.rtype r.class r.ttl ++ after_length r.rdata
behind_owner_is r whole len is long =
    let fixed : List ℕ = fixed_octets r.rtype r.class r.ttl in
    let counted : List ℕ = after_length r.rdata in
    let stored : whole ≡ wire r.owner ++ (fixed ++ counted) = is ∙ append_assoc (wire r.owner) fixed counted in
    take_all (length whole - len) (drop len whole) (omega (arith, length-drop len whole))
    ∙ ap (drop len) stored ∙ drop_at (wire r.owner) (fixed ++ counted) len (sym long)

pub stored_written : (s : Spelling) (page : Page) (r : Record) (owner : List (List ℕ)) (more : List ℕ) → owner ≡ r.owner
    → more ≡ fixed_octets r.rtype r.class r.ttl ++ after_length r.rdata
    → write s page (Named owner (Octets more End)) ≡ write s page (record_parts r (Octets r.rdata End))
stored_written s page r owner more is more_is =
    ap (λ (o : List (List ℕ)). write s page (Named o (Octets more End))) is
    ∙ ap (λ (m : List ℕ). write s page (Named r.owner (Octets m End))) more_is
    ∙ at_once s page r.owner r.rtype r.class r.ttl r.rdata

-- data whose length can be counted
pub opaque_counted : (s : Spelling) (page : Page) (r : Record) → length r.rdata < 2 ^ 16
    → data_length s page (record { owner = r.owner; rtype = r.rtype; class = r.class; ttl = r.ttl; rdata = Octets r.rdata End }) ≤ 65535
unfolding write
opaque_counted s page r few =
    let front : Page = with_octets (with_name s page r.owner) (fixed_octets r.rtype r.class r.ttl) in
    omega (arith, few, length-append (front.octets ++ 0 ∷ 0 ∷ []) r.rdata, length-append front.octets (0 ∷ 0 ∷ []))
