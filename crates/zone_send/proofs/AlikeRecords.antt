-- What a reader gets from a record that is written by a spelling.
use Rattle.std.proofs.Common.{◌≡◌, ℕ, ◌<◌, ◌^◌, Bool, true, false, List, [], ◌∷◌, length, map, refl, sym, ap, ◌∙◌, subst, arith, length-append}
use Rattle.std.specs.Prelude.{Some, if◌then◌else◌}
use Rattle.std.specs.List.{AllByRecursion, AllZip}
use Rattle.std.specs.Char.{to_ascii_lowercase}
use Rattle.dns_label.specs.Name.{IsName, wire, low}
use Rattle.dns_wire.proofs.LowNames.{length-wire-low}
use Rattle.dns_name.specs.Spelling.{Spelling, folded}
use Rattle.dns_name.specs.Page.{Parts}
use Rattle.dns_name.specs.Page.Parts.{End, Octets, Named, Counted}
use Rattle.dns_header.specs.Head.{fixed_octets}
use Rattle.dns_rdata.specs.Fields.{Field, Kind, kind_of, field_octets, octets, lowered, IsField, IsRow}
use Rattle.dns_rdata.specs.Fields.Field.{number8, number16, number32, ipv4, ipv6, compressible, uncompressed, string, strings, tag, rest_text, rest16, rest64}
use Rattle.dns_rdata.specs.Written.{written_field, written_parts}
use Rattle.dns_rdata.specs.Shown.{TagsAreSome}
use Rattle.dns_rdata.specs.DataOctets.{IsSpellable}
use Rattle.dns_rdata.proofs.ComposedRows.{same_octets}
use Rattle.dns_message.specs.Record.{IsRecord, IsWritten, record_parts}
use Rattle.dns_message.specs.Record.IsWritten.{fields, untold}
use Rattle.dns_compression_laws.specs.Joined.{join_parts}
use Rattle.dns_compression_laws.specs.Alike.{AreAlike}
use Rattle.dns_compression_laws.specs.Alike.AreAlike.{end as alike_end, octets as alike_octets, named as alike_named, counted as alike_counted}
use Rattle.dns_compression_laws.proofs.ReadParts.{exact_parts}
use Rattle.dns_compression_laws.proofs.SameNames.{same_name}
use Rattle.zone_records.specs.Record.{Record}
use Rattle.zone_send.specs.SpelledSent.{IsNear, IsNearField}
use Rattle.zone_send.specs.SpelledSent.IsNearData.{same as same_data, fields as near_fields}

-- Names that are the same to a spelling are equal if it does not fold case, and equal in lower case always.
module _ (s : Spelling) (name other : List (List ℕ)) (same : map (folded s) name ≡ map (folded s) other) where
  pub exact_name : s.folds ≡ false → name ≡ other
  exact_name exact =
      let parts : Named name End ≡ Named other End = exact_parts s (Named name End) (Named other End) exact (alike_named same alike_end) in cc

  pub low_same : low name ≡ low other
  low_same = by_case s.folds refl
    where
      by_case : (folds : Bool) → s.folds ≡ folds → low name ≡ low other
      by_case true is =
          let form : Bool → List ℕ → List ℕ = λ folds octets. if folds then map to_ascii_lowercase octets else octets in
          let P : Bool → Type 0 = λ folds. map (form folds) name ≡ map (form folds) other in
          subst P is same
      by_case false is = ap low (exact_name is)

-- a reader gets the row `others` from the row `row`
pub record IsTakenRow (s : Spelling) (row others : List Field) : Type 0 where
  pub kinds : map kind_of others ≡ map kind_of row
  pub each : AllByRecursion IsField others
  pub long : length (octets others) ≡ length (octets row)
  pub near : AllZip IsNearField row others
  pub exact : s.folds ≡ false → row ≡ others
  pub lower : map lowered row ≡ map lowered others
  pub tags : TagsAreSome row → TagsAreSome others

-- the row that a reader gets from the parts
record TakenRow (s : Spelling) (row : List Field) (inside : Parts) : Type 0 where
  others : List Field
  parts_are : inside ≡ written_parts others
  taken : IsTakenRow s row others

module _ (s : Spelling) where
  name_taken : (name other : List (List ℕ)) (row others : List Field) → map (folded s) name ≡ map (folded s) other → IsName name
      → IsTakenRow s row others → IsTakenRow s (compressible name ∷ row) (compressible other ∷ others)
  name_taken name other row others same is t =
      let lows : low name ≡ low other = low_same s name other same in
      let is_other : IsName other = same_name s name other same is in
      let long = ap (λ (n : List (List ℕ)). length (wire n)) lows in
      record {
        kinds = ap (λ (kinds : List Kind). kind_of (compressible other) ∷ kinds) t.kinds;
        each = (is_other, t.each);
        long = omega (
          arith,
          long,
          t.long,
          length-wire-low name is,
          length-wire-low other is_other,
          length-append (wire name) (octets row),
          length-append (wire other) (octets others),
        );
        near = (lows, t.near);
        exact = λ exact i. compressible (exact_name s name other same exact i) ∷ t.exact exact i;
        lower = λ i. compressible (lows i) ∷ t.lower i;
        tags = λ some. ((λ is. absurd (let no : compressible other ≡ tag [] = is in cc)), t.tags some.1);
      }

  field_taken : (field : Field) (row others : List Field) → IsField field → IsNearField field field → IsTakenRow s row others
      → IsTakenRow s (field ∷ row) (field ∷ others)
  field_taken field row others is near t = record {
    kinds = ap (λ (kinds : List Kind). kind_of field ∷ kinds) t.kinds;
    each = (is, t.each);
    long = omega (arith, t.long, length-append (field_octets field) (octets row), length-append (field_octets field) (octets others));
    near = (near, t.near);
    exact = λ exact. ap (λ (l : List Field). field ∷ l) (t.exact exact);
    lower = ap (λ (l : List Field). lowered field ∷ l) t.lower;
    tags = λ some. (some.0, t.tags some.1);
  }

  behind_name : (name : List (List ℕ)) (row : List Field) {inside : Parts} → IsName name
      → ((read : Parts) → AreAlike s (written_parts row) read → TakenRow s row read)
      → AreAlike s (Named name (written_parts row)) inside → TakenRow s (compressible name ∷ row) inside
  behind_name name row is onward (alike_named {other = other} {others = read} same alike) =
      let t = onward read alike in
      record {
        others = compressible other ∷ t.others;
        parts_are = ap (Named other) t.parts_are;
        taken = name_taken name other row t.others same is t.taken;
      }

  behind_octets : (field : Field) (row : List Field) {inside : Parts} → IsField field → IsNearField field field
      → ((parts : Parts) → Octets (field_octets field) parts ≡ written_field field parts)
      → ((read : Parts) → AreAlike s (written_parts row) read → TakenRow s row read)
      → AreAlike s (Octets (field_octets field) (written_parts row)) inside → TakenRow s (field ∷ row) inside
  behind_octets field row is near plain onward (alike_octets {others = read} _ alike) =
      let t = onward read alike in
      record {
        others = field ∷ t.others;
        parts_are = ap (Octets (field_octets field)) t.parts_are ∙ plain (written_parts t.others);
        taken = field_taken field row t.others is near t.taken;
      }

  behind_nothing : {inside : Parts} → AreAlike s End inside → TakenRow s [] inside
  behind_nothing alike_end = record {
    others = [];
    parts_are = refl;
    taken = record { kinds = refl; each = tt; long = refl; near = tt; exact = λ exact. refl; lower = refl; tags = λ some. tt };
  }

  taken_row : (row : List Field) → AllByRecursion IsField row → (inside : Parts) → AreAlike s (written_parts row) inside
      → TakenRow s row inside
  taken_row [] each inside alike = behind_nothing alike
  taken_row (compressible name ∷ row) each inside alike = behind_name name row each.0 (taken_row row each.1) alike
  taken_row (uncompressed name ∷ row) each inside alike =
      behind_octets (uncompressed name) row each.0 refl (λ p. refl) (taken_row row each.1) alike
  taken_row (number8 n ∷ row) each inside alike = behind_octets (number8 n) row each.0 refl (λ p. refl) (taken_row row each.1) alike
  taken_row (number16 n ∷ row) each inside alike = behind_octets (number16 n) row each.0 refl (λ p. refl) (taken_row row each.1) alike
  taken_row (number32 n ∷ row) each inside alike = behind_octets (number32 n) row each.0 refl (λ p. refl) (taken_row row each.1) alike
  taken_row (ipv4 text ∷ row) each inside alike = behind_octets (ipv4 text) row each.0 refl (λ p. refl) (taken_row row each.1) alike
  taken_row (ipv6 text ∷ row) each inside alike = behind_octets (ipv6 text) row each.0 refl (λ p. refl) (taken_row row each.1) alike
  taken_row (string text ∷ row) each inside alike = behind_octets (string text) row each.0 refl (λ p. refl) (taken_row row each.1) alike
  taken_row (strings texts ∷ row) each inside alike = behind_octets (strings texts) row each.0 refl (λ p. refl) (taken_row row each.1) alike
  taken_row (tag text ∷ row) each inside alike = behind_octets (tag text) row each.0 refl (λ p. refl) (taken_row row each.1) alike
  taken_row (rest_text text ∷ row) each inside alike = behind_octets (rest_text text) row each.0 refl (λ p. refl) (taken_row row each.1) alike
  taken_row (rest16 text ∷ row) each inside alike = behind_octets (rest16 text) row each.0 refl (λ p. refl) (taken_row row each.1) alike
  taken_row (rest64 text ∷ row) each inside alike = behind_octets (rest64 text) row each.0 refl (λ p. refl) (taken_row row each.1) alike

-- the row of the other record's data, given the row of the first record's data
pub record TakenAsRow (r other : Record) (row : List Field) : Type 0 where
  pub others : List Field
  pub is_row : IsRow r.rtype others
  pub octets_are : other.rdata ≡ octets others
  pub lower : map lowered row ≡ map lowered others

-- a reader gets the record `other` from the record `r`
pub record IsTaken (s : Spelling) (r other : Record) : Type 0 where
  pub lawful : IsRecord other
  pub near : IsNear r other
  pub exact : s.folds ≡ false → r ≡ other
  pub spellable : IsSpellable r.rtype r.rdata → IsSpellable other.rtype other.rdata
  pub rows : (row : List Field) → IsRow r.rtype row → r.rdata ≡ octets row → TakenAsRow r other row

-- the record that a reader gets from parts with more parts after it, and the parts after it
pub record TakenParts (s : Spelling) (r : Record) (more read : Parts) : Type 0 where
  pub other : Record
  pub data_parts : Parts
  pub rest : Parts
  pub is_written : IsWritten other (record_parts other data_parts)
  pub taken : IsTaken s r other
  pub alike : AreAlike s more rest
  pub read_is : read ≡ Named other.owner (Octets (fixed_octets other.rtype other.class other.ttl) (Counted data_parts rest))

-- parts with the shape of a record's parts
record Headed (s : Spelling) (owner : List (List ℕ)) (text : List ℕ) (inner more read : Parts) : Type 0 where
  other : List (List ℕ)
  inside : Parts
  rest : Parts
  same : map (folded s) owner ≡ map (folded s) other
  within : AreAlike s inner inside
  alike : AreAlike s more rest
  read_is : read ≡ Named other (Octets text (Counted inside rest))

headed : {s : Spelling} {owner : List (List ℕ)} {text : List ℕ} {inner more read : Parts}
    → AreAlike s (Named owner (Octets text (Counted inner more))) read → Headed s owner text inner more read
headed (alike_named {other = other} same (alike_octets _ (alike_counted {inside = inside} {others = rest} within alike))) = record {
  other = other;
  inside = inside;
  rest = rest;
  same = same;
  within = within;
  alike = alike;
  read_is = refl;
}

unknown_alike : {s : Spelling} {text : List ℕ} {inside : Parts} → AreAlike s (Octets text End) inside → inside ≡ Octets text End
unknown_alike (alike_octets _ alike_end) = refl

-- the record with another owner and other data
abbrev with_data : Record → List (List ℕ) → List ℕ → Record
with_data r owner rdata = record { owner = owner; rtype = r.rtype; class = r.class; ttl = r.ttl; rdata = rdata }

same_record : (r : Record) (owner : List (List ℕ)) (rdata : List ℕ) → r.owner ≡ owner → r.rdata ≡ rdata → r ≡ with_data r owner rdata
same_record r owner rdata owners data_are =
    λ i. record { owner = owners i; rtype = r.rtype; class = r.class; ttl = r.ttl; rdata = data_are i }

module _ (s : Spelling) (r : Record) (is_record : IsRecord r) (owner : List (List ℕ)) (same : map (folded s) r.owner ≡ map (folded s) owner) where
  lawful_with : (rdata : List ℕ) → length rdata < 2 ^ 16 → IsRecord (with_data r owner rdata)
  lawful_with rdata short = record {
    owner = same_name s r.owner owner same is_record.owner;
    rtype = is_record.rtype;
    class = is_record.class;
    ttl = is_record.ttl;
    rdata = short;
  }

  -- data of fields
  typed_taken : (row others : List Field) → IsRow r.rtype row → IsRow r.rtype others → r.rdata ≡ octets row → IsTakenRow s row others
      → IsTaken s r (with_data r owner (octets others))
  typed_taken row others is_row is_row' octets_are t = record {
    lawful = lawful_with (octets others) is_row'.short;
    near = record {
      owner = low_same s r.owner owner same;
      rtype = refl;
      class = refl;
      ttl = refl;
      rdata = near_fields row others is_row is_row' octets_are refl t.near;
    };
    exact = λ exact.
        same_record r owner (octets others) (exact_name s r.owner owner same exact) (octets_are ∙ ap octets (t.exact exact));
    spellable = λ some found is_found found_are.
        subst TagsAreSome (sym (same_octets r.rtype others found is_row' is_found found_are)) (t.tags (some row is_row octets_are));
    rows = λ found is_found found_are. record {
      others = others;
      is_row = is_row';
      octets_are = refl;
      lower = ap (map lowered) (same_octets r.rtype row found is_row is_found (sym octets_are ∙ found_are)) ∙ t.lower;
    };
  }

  -- unknown data
  unknown_taken : IsTaken s r (with_data r owner r.rdata)
  unknown_taken = record {
    lawful = lawful_with r.rdata is_record.rdata;
    near = record { owner = low_same s r.owner owner same; rtype = refl; class = refl; ttl = refl; rdata = same_data refl };
    exact = λ exact. same_record r owner r.rdata (exact_name s r.owner owner same exact) refl;
    spellable = λ some. some;
    rows = λ found is_found found_are. record { others = found; is_row = is_found; octets_are = found_are; lower = refl };
  }

-- A reader gets a record from the parts that a writer gives for one.
pub taken_parts : (s : Spelling) (r : Record) {parts : Parts} (more read : Parts) → IsRecord r → IsWritten r parts
    → AreAlike s (join_parts parts more) read → TakenParts s r more read
taken_parts s r more read is_record (fields row is_row octets_are) alike =
    let h : Headed s r.owner (fixed_octets r.rtype r.class r.ttl) (written_parts row) more read = headed alike in
    let t = taken_row s row is_row.each h.inside h.within in
    let is_row' : IsRow r.rtype t.others = record {
      kinds = is_row.kinds ∙ ap Some (sym t.taken.kinds);
      each = t.taken.each;
      short = omega (arith, t.taken.long, is_row.short);
    } in
    record {
      other = with_data r h.other (octets t.others);
      data_parts = written_parts t.others;
      rest = h.rest;
      is_written = fields t.others is_row' refl;
      taken = typed_taken s r is_record h.other h.same row t.others is_row is_row' octets_are t.taken;
      alike = h.alike;
      read_is = h.read_is ∙ ap (λ (p : Parts). Named h.other (Octets (fixed_octets r.rtype r.class r.ttl) (Counted p h.rest))) t.parts_are;
    }
taken_parts s r more read is_record (untold none) alike =
    let h : Headed s r.owner (fixed_octets r.rtype r.class r.ttl) (Octets r.rdata End) more read = headed alike in
    record {
      other = with_data r h.other r.rdata;
      data_parts = Octets r.rdata End;
      rest = h.rest;
      is_written = untold none;
      taken = unknown_taken s r is_record h.other h.same;
      alike = h.alike;
      read_is = h.read_is
          ∙ ap (λ (p : Parts). Named h.other (Octets (fixed_octets r.rtype r.class r.ttl) (Counted p h.rest))) (unknown_alike h.within);
    }
