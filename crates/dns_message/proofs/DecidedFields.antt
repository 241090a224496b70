-- Whether fields, or data of a type, are at a place of a message is decided.
use Rattle.std.proofs.Common.{◌≡◌, ◌+◌, ◌≤◌, ◌<◌, ◌^◌, ◌⊎◌, ℕ, zero, suc, w16, w32, List, [], ◌∷◌, ◌++◌, length, take, drop, get_or, map, Some, None, refl, sym, ◌∙◌, ap, subst, arith, inl, inr, length-drop, length-append}
use Rattle.std.specs.Prelude.{Option}
use Rattle.std.specs.Int.{from_be_bytes}
use Rattle.std.proofs.lemmas.Bool.{cases_lt, cases_eq}
use Rattle.std.proofs.lemmas.List.{take_at, take-append-drop, length-take-le}
use Rattle.std.proofs.lemmas.Nat.{from_be_bytes-to_be_bytes_2, from_be_bytes-to_be_bytes_4}
use Rattle.dns_label.specs.Spelled as names
use Rattle.dns_name.specs.Page.{Parts}
use Rattle.dns_name.specs.Page.Parts.{End, Octets}
use Rattle.dns_name.specs.SpelledParts.{SpellsParts}
use Rattle.dns_rdata.specs.CharStr.{StartsWithString, string_wire}
use Rattle.dns_rdata.specs.Fields.{Kind, Number8, Number16, Number32, Ipv4, Ipv6, Compressible, Uncompressed, String, Strings, Tag, RestText, Rest16, Rest64}
use Rattle.dns_rdata.specs.Fields.{Field, number8, number16, number32, ipv4, ipv6, compressible, uncompressed, string, strings, tag, rest_text, rest16, rest64, kind_of, kinds_of, field_octets, octets, IsField}
use Rattle.dns_rdata.specs.Reading.{read_field, ReadsField, ReadsFields, ReadsRow, IsSoleField, NoField, NoFields}
use Rattle.dns_rdata.specs.Strings.{AreStringOctets}
use Rattle.dns_rdata.proofs.FieldKinds.{of_number8, of_number16, of_number32, of_ipv4, of_ipv6}
use Rattle.dns_rdata.proofs.ReadFields.{IsFixed, opened, octets_read, fixed_sole, fixed_none, number8_fixed, number16_fixed, number32_fixed, ipv4_fixed, ipv6_fixed, name_read, compressible_sole, uncompressed_sole, no_compressible, no_uncompressed}
use Rattle.dns_rdata.proofs.ReadParts.{some_left, within, row_read, no_first, no_others, nothing_read, none_left}
use Rattle.dns_rdata.proofs.ReadStrings.{string_read, string_sole, tag_sole, no_string, no_tag, all_read}
use Rattle.dns_rdata.proofs.ReadEach.{none_read}
use Rattle.dns_rdata.proofs.StringsOf.{AreMade, made_more, made_less, none_made, nothing_made, strings_made, strings_some, made_strings}
use Rattle.dns_rdata.proofs.ComposedRows.{EndWell, Fit, fits, sole_fields}
use Rattle.dns_builder.specs.Decision.{Decision}
use Rattle.dns_builder.specs.DecidedNames.{Named, decide-named}

-- what holds, or does not
abbrev pub Decided : Type 0 → Type 0
Decided P = P ⊎ (P → ⊥)

decided_below : (n bound : ℕ) → Decided (n < bound)
decided_below n bound = elim (cases_lt n bound) [ inl small ↦ inl small | inr large ↦ inr (λ small. omega arith) ]

octets_more : (x y : ℕ) (xs ys : List ℕ) → Decided (x ≡ y) → Decided (xs ≡ ys) → Decided (x ∷ xs ≡ y ∷ ys)
octets_more x y xs ys (inl same) (inl rest) = inl (cc (same, rest))
octets_more x y xs ys (inl same) (inr apart) = inr (λ e. apart (cc (e)))
octets_more x y xs ys (inr apart) rest = inr (λ e. apart (cc (e)))

octets_decided : (xs ys : List ℕ) → Decided (xs ≡ ys)
octets_decided [] [] = inl refl
octets_decided [] (y ∷ ys) = inr (λ e. cc)
octets_decided (x ∷ xs) [] = inr (λ e. cc)
octets_decided (x ∷ xs) (y ∷ ys) = octets_more x y xs ys (cases_eq x y) (octets_decided xs ys)

-- a field of the kind, the only one at the place
record FieldAt (message : List ℕ) (place : ℕ) (its : Kind) : Type 0 where
  field : Field
  next : ℕ
  kind : kind_of field ≡ its
  reads : ReadsField message place field next
  alone : IsSoleField message place field next

abbrev FieldDecided : List ℕ → ℕ → Kind → Type 0
FieldDecided message place its = FieldAt message place its ⊎ NoField message place its

-- fields of a kind that are determined by their octets
record IsMade (its : Kind) (made : List ℕ → Field) : Type 0 where
  kind : (text : List ℕ) → kind_of (made text) ≡ its
  back : (field : Field) → kind_of field ≡ its → IsField field → made (field_octets field) ≡ field
  good : (text : List ℕ) → Decided (IsField (made text))

-- the octets of a field at a place
front_stands : {its : Kind} {size : ℕ} {message : List ℕ} {place next : ℕ} → IsFixed its size → (field : Field) → kind_of field ≡ its
    → ReadsField message place field next → take size (drop place message) ≡ field_octets field
front_stands {its} {size} {message} {place} {next} fixed field is reads =
    let there = opened (subst (λ (p : Parts). SpellsParts message place p next) (fixed.read field is) reads.spelled) in
    ap (take size) there.at ∙ take_at (field_octets field) there.rest size (fixed.long field is reads.is_field)

fixed_by : {its : Kind} {size : ℕ} {made : List ℕ → Field} → IsFixed its size → IsMade its made → (message : List ℕ) (place : ℕ)
    (front : List ℕ) → front ≡ take size (drop place message) → place + size ≤ length message → Decided (IsField (made front))
    → Decided (field_octets (made front) ≡ front) → FieldDecided message place its
fixed_by {its} {size} {made} fixed makes message place front is room (inl good) (inl same) =
    let kind = makes.kind front in
    let held = octets_read message place (place + size) size (field_octets (made front)) (same ∙ is) room refl in
    let P : Parts → Type 0 = λ parts. SpellsParts message place parts (place + size) in
    let reads : ReadsField message place (made front) (place + size) =
    record { is_field = good; spelled = subst P (sym (fixed.read (made front) kind)) held } in
    inl (record { field = made front; next = place + size; kind = kind; reads = reads; alone = fixed_sole fixed kind reads })
fixed_by {made = made} fixed makes message place front is room (inl good) (inr apart) = inr (λ field next kind reads.
    let stands = is ∙ front_stands fixed field kind reads in
    let one : made front ≡ field = ap made stands ∙ makes.back field kind reads.is_field in
    apart (ap field_octets one ∙ sym stands))
fixed_by {made = made} fixed makes message place front is room (inr bad) same = inr (λ field next kind reads.
    let stands = is ∙ front_stands fixed field kind reads in
    let one : made front ≡ field = ap made stands ∙ makes.back field kind reads.is_field in
    bad (subst (λ f. IsField f) (sym one) reads.is_field))

fixed_decided : {its : Kind} {size : ℕ} {made : List ℕ → Field} → IsFixed its size → IsMade its made → (message : List ℕ) (place : ℕ)
    → FieldDecided message place its
fixed_decided {its} {size} {made} fixed makes message place = elim (cases_lt (length message) (place + size)) [
  | inl short ↦ inr (fixed_none fixed short)
  | inr room ↦ (
      let front : List ℕ = take size (drop place message) in
      fixed_by fixed makes message place front refl room (makes.good front) (octets_decided (field_octets (made front)) front))
]

number8_made : IsMade Number8 (λ text. number8 (get_or text 0 0))
number8_made = record {
  kind = λ text. refl;
  back = λ f is. of_number8 (λ f. IsField f → number8 (get_or (field_octets f) 0 0) ≡ f) f (λ n small. refl) is;
  good = λ text. decided_below (get_or text 0 0) (2 ^ 8);
}

number16_made : IsMade Number16 (λ text. number16 (from_be_bytes w16 text))
number16_made = record {
  kind = λ text. refl;
  back = λ f is. of_number16 (λ f. IsField f → number16 (from_be_bytes w16 (field_octets f)) ≡ f) f
      (λ n small. ap number16 (from_be_bytes-to_be_bytes_2 n small)) is;
  good = λ text. decided_below (from_be_bytes w16 text) (2 ^ 16);
}

number32_made : IsMade Number32 (λ text. number32 (from_be_bytes w32 text))
number32_made = record {
  kind = λ text. refl;
  back = λ f is. of_number32 (λ f. IsField f → number32 (from_be_bytes w32 (field_octets f)) ≡ f) f
      (λ n small. ap number32 (from_be_bytes-to_be_bytes_4 n small)) is;
  good = λ text. decided_below (from_be_bytes w32 text) (2 ^ 32);
}

ipv4_made : IsMade Ipv4 ipv4
ipv4_made = record {
  kind = λ text. refl;
  back = λ f is. of_ipv4 (λ f. IsField f → ipv4 (field_octets f) ≡ f) f (λ text long. refl) is;
  good = λ text. cases_eq (length text) 4;
}

ipv6_made : IsMade Ipv6 ipv6
ipv6_made = record {
  kind = λ text. refl;
  back = λ f is. of_ipv6 (λ f. IsField f → ipv6 (field_octets f) ≡ f) f (λ text long. refl) is;
  good = λ text. cases_eq (length text) 16;
}

-- names
name_fits : {message : List ℕ} {pointers place next : ℕ} {name : List (List ℕ)} → names.EncodesName message pointers place name next
    → next ≤ length message
name_fits {message} {place = place} (names.root rest at) = let some = some_left message place at in omega arith
name_fits (names.label rest at is_label parent) = name_fits parent
name_fits {message} {place = place} (names.pointer first second after rest at both back name) =
    omega (arith, ap (length {A = ℕ}) at, length-drop place message)

compressible_decided : (message : List ℕ) (place : ℕ) → Decision (Named message place) → FieldDecided message place Compressible
compressible_decided message place (Decision.yes n) = inl (record {
  field = compressible n.name;
  next = n.next;
  kind = refl;
  reads = record { is_field = n.reads.is_name; spelled = name_read n.reads (name_fits n.reads.spelled) };
  alone = compressible_sole n.reads;
})
compressible_decided message place (Decision.no none) =
    inr (no_compressible (λ name next reads. none (record { name = name; next = next; reads = reads })))

uncompressed_decided : (message : List ℕ) (place : ℕ) → Decision (Named message place) → FieldDecided message place Uncompressed
uncompressed_decided message place (Decision.yes n) = inl (record {
  field = uncompressed n.name;
  next = n.next;
  kind = refl;
  reads = record { is_field = n.reads.is_name; spelled = name_read n.reads (name_fits n.reads.spelled) };
  alone = uncompressed_sole n.reads;
})
uncompressed_decided message place (Decision.no none) =
    inr (no_uncompressed (λ name next reads. none (record { name = name; next = next; reads = reads })))

-- a string at the start of octets
record StringAt (text : List ℕ) : Type 0 where
  first : List ℕ
  rest : List ℕ
  starts : StartsWithString text first rest

abbrev NoString : List ℕ → Type 0
NoString text = (first rest : List ℕ) → StartsWithString text first rest → ⊥

long_string : (n : ℕ) (text : List ℕ) → 255 < n → NoString (n ∷ text)
long_string n text long first rest starts =
    let is = starts.spelled in
    let same : n ≡ length first = cc in
    omega (arith, long, same, starts.short)

cut_string : (n : ℕ) (text : List ℕ) → length text < n → NoString (n ∷ text)
cut_string n text few first rest starts =
    let is = starts.spelled in
    let same : n ≡ length first = cc in
    let tail : text ≡ first ++ rest = cc in
    omega (arith, few, same, ap (length {A = ℕ}) tail, length-append first rest)

whole_string : (n : ℕ) (text : List ℕ) → n ≤ 255 → n ≤ length text → StringAt (n ∷ text)
whole_string n text short enough =
    let long : length (take n text) ≡ n = length-take-le n text enough in
    let parts : take n text ++ drop n text ≡ text = take-append-drop n text in record {
      first = take n text;
      rest = drop n text;
      starts = record { spelled = λ i. sym long i ∷ sym parts i; short = omega (arith, long, short) };
    }

string_at : (text : List ℕ) → StringAt text ⊎ NoString text
string_at [] = inr (λ first rest starts. let is = starts.spelled in cc)
string_at (n ∷ text) = elim (cases_lt 255 n) [
  | inl long ↦ inr (long_string n text long)
  | inr short ↦ elim (cases_lt (length text) n) [
    | inl few ↦ inr (cut_string n text few)
    | inr enough ↦ inl (whole_string n text short enough)
  ]
]

string_room : (message : List ℕ) (place : ℕ) (s : StringAt (drop place message)) → place + length (string_wire s.first) ≤ length message
string_room message place s =
    omega (arith, ap (length {A = ℕ}) s.starts.spelled, length-append (string_wire s.first) s.rest, length-drop place message)

string_decided : (message : List ℕ) (place : ℕ) → StringAt (drop place message) ⊎ NoString (drop place message)
    → FieldDecided message place String
string_decided message place (inl s) =
    let end : ℕ = place + length (string_wire s.first) in
    let held : SpellsParts message place (Octets (string_wire s.first) End) end =
    string_read {message = message} {place = place} s.starts refl (string_room message place s) in
    inl (record {
      field = string s.first;
      next = end;
      kind = refl;
      reads = record { is_field = s.starts.short; spelled = held };
      alone = string_sole held;
    })
string_decided message place (inr none) = inr (no_string none)

tag_decided : (message : List ℕ) (place : ℕ) → StringAt (drop place message) ⊎ NoString (drop place message)
    → FieldDecided message place Tag
tag_decided message place (inl s) =
    let end : ℕ = place + length (string_wire s.first) in
    let held : SpellsParts message place (Octets (string_wire s.first) End) end =
    string_read {message = message} {place = place} s.starts refl (string_room message place s) in
    inl (record {
      field = tag s.first;
      next = end;
      kind = refl;
      reads = record { is_field = s.starts.short; spelled = held };
      alone = tag_sole held;
    })
tag_decided message place (inr none) = inr (no_tag none)

-- strings that make up octets
made_by : (text : List ℕ) → 0 < length text → StringAt text ⊎ NoString text → ((s : StringAt text) → Decided (AreMade s.rest))
    → Decided (AreMade text)
made_by text some (inr none) behind = inr (none_made text none some)
made_by text some (inl s) behind = elim (behind s) [
  | inl made ↦ inl (made_more text s.first s.rest s.starts made)
  | inr not_made ↦ inr (λ made. not_made (made_less text s.first s.rest s.starts made))
]

made_decided : (count : ℕ) (text : List ℕ) → length text ≤ count → Decided (AreMade text)
made_decided count [] few = inl nothing_made
made_decided zero (n ∷ text) few = absurd (omega arith)
made_decided (suc count) (n ∷ text) few =
    made_by (n ∷ text) (omega arith) (string_at (n ∷ text)) (λ s. made_decided count s.rest
    (omega (arith, few, ap (length {A = ℕ}) s.starts.spelled, length-append (string_wire s.first) s.rest)))

strings_octets : (text : List ℕ) → Decided (AreStringOctets text)
strings_octets [] = inr (λ are. strings_some [] are refl)
strings_octets (n ∷ text) = elim (made_decided (length (n ∷ text)) (n ∷ text) (omega arith)) [
  | inl made ↦ inl (made_strings (n ∷ text) (omega arith) made)
  | inr not_made ↦ inr (λ are. not_made (strings_made (n ∷ text) are))
]

-- fields of the kinds, and nothing after them
record FieldsAt (message : List ℕ) (place : ℕ) (kinds : List Kind) : Type 0 where
  row : List Field
  kinds_are : map kind_of row ≡ kinds
  reads : ReadsFields message place row

abbrev FieldsDecided : List ℕ → ℕ → List Kind → Type 0
FieldsDecided message place kinds = FieldsAt message place kinds ⊎ NoFields message place kinds

beyond : {message : List ℕ} {place : ℕ} (kinds : List Kind) → length message < place → NoFields message place kinds
beyond kinds past row are reads = let front = within reads.spelled in omega arith

nothing_decided : (message : List ℕ) (place : ℕ) → FieldsDecided message place []
nothing_decided message place = elim (cases_lt (length message) place) [
  | inl past ↦ inr (beyond [] past)
  | inr front ↦ elim (cases_lt place (length message)) [
    | inl left ↦ inr (none_left left)
    | inr all ↦ inl (record { row = []; kinds_are = refl; reads = nothing_read (omega arith) })
  ]
]

strings_by : (message : List ℕ) (place : ℕ) → place ≤ length message → Decided (AreStringOctets (drop place message))
    → FieldsDecided message place (Strings ∷ [])
strings_by message place front (inl are) = inl (record {
  row = strings are.each ∷ [];
  kinds_are = refl;
  reads = record { each = (are.is_field, tt); spelled = all_read (sym are.written) front };
})
strings_by message place front (inr none) = inr (none_read message place none)

strings_decided : (message : List ℕ) (place : ℕ) → FieldsDecided message place (Strings ∷ [])
strings_decided message place = elim (cases_lt (length message) place) [
  | inl past ↦ inr (beyond (Strings ∷ []) past)
  | inr front ↦ strings_by message place front (strings_octets (drop place message))
]

-- a rest is all that remains
rest_decided : (rest : List ℕ → Field) (its : Kind) → ((text : List ℕ) → kind_of (rest text) ≡ its) → ((text : List ℕ) → IsField (rest text))
    → ((text : List ℕ) → read_field (rest text) End ≡ Octets text End) → (message : List ℕ) (place : ℕ)
    → FieldsDecided message place (its ∷ [])
rest_decided rest its kind good reads message place = elim (cases_lt (length message) place) [
  | inl past ↦ inr (beyond (its ∷ []) past)
  | inr front ↦ (
      let text : List ℕ = drop place message in
      let held : SpellsParts message place (Octets text End) (length message) = all_read refl front in
      let P : Parts → Type 0 = λ parts. SpellsParts message place parts (length message) in
      inl (record {
        row = rest text ∷ [];
        kinds_are = ap (λ k. k ∷ []) (kind text);
        reads = record { each = (good text, tt); spelled = subst P (sym (reads text)) held };
      }))
]

-- a field before others
behind_first : (its : Kind) (kinds : List Kind) (message : List ℕ) (place : ℕ) → ((next : ℕ) → FieldsDecided message next kinds)
    → FieldDecided message place its → FieldsDecided message place (its ∷ kinds)
behind_first its kinds message place behind (inr none) = inr (no_first kinds none)
behind_first its kinds message place behind (inl first) = elim (behind first.next) [
  | inl others ↦ inl (record {
    row = first.field ∷ others.row;
    kinds_are = cc (first.kind, others.kinds_are);
    reads = row_read first.reads others.reads;
  })
  | inr none ↦ inr (λ row are reads. no_others kinds first.alone none row (are ∙ ap (λ k. k ∷ kinds) (sym first.kind)) reads)
]

fields_decided : (message : List ℕ) (kinds : List Kind) (place : ℕ) → EndWell kinds → FieldsDecided message place kinds
fields_decided message [] place well = nothing_decided message place
fields_decided message (Strings ∷ []) place well = strings_decided message place
fields_decided message (RestText ∷ []) place well =
    rest_decided rest_text RestText (λ text. refl) (λ text. tt) (λ text. refl) message place
fields_decided message (Rest16 ∷ []) place well =
    rest_decided rest16 Rest16 (λ text. refl) (λ text. tt) (λ text. refl) message place
fields_decided message (Rest64 ∷ []) place well =
    rest_decided rest64 Rest64 (λ text. refl) (λ text. tt) (λ text. refl) message place
fields_decided message (Strings ∷ (its ∷ kinds)) place well = absurd well
fields_decided message (RestText ∷ (its ∷ kinds)) place well = absurd well
fields_decided message (Rest16 ∷ (its ∷ kinds)) place well = absurd well
fields_decided message (Rest64 ∷ (its ∷ kinds)) place well = absurd well
fields_decided message (Number8 ∷ kinds) place well =
    behind_first Number8 kinds message place (λ next. fields_decided message kinds next well)
    (fixed_decided number8_fixed number8_made message place)
fields_decided message (Number16 ∷ kinds) place well =
    behind_first Number16 kinds message place (λ next. fields_decided message kinds next well)
    (fixed_decided number16_fixed number16_made message place)
fields_decided message (Number32 ∷ kinds) place well =
    behind_first Number32 kinds message place (λ next. fields_decided message kinds next well)
    (fixed_decided number32_fixed number32_made message place)
fields_decided message (Ipv4 ∷ kinds) place well =
    behind_first Ipv4 kinds message place (λ next. fields_decided message kinds next well)
    (fixed_decided ipv4_fixed ipv4_made message place)
fields_decided message (Ipv6 ∷ kinds) place well =
    behind_first Ipv6 kinds message place (λ next. fields_decided message kinds next well)
    (fixed_decided ipv6_fixed ipv6_made message place)
fields_decided message (Compressible ∷ kinds) place well =
    behind_first Compressible kinds message place (λ next. fields_decided message kinds next well)
    (compressible_decided message place (decide-named message place))
fields_decided message (Uncompressed ∷ kinds) place well =
    behind_first Uncompressed kinds message place (λ next. fields_decided message kinds next well)
    (uncompressed_decided message place (decide-named message place))
fields_decided message (String ∷ kinds) place well =
    behind_first String kinds message place (λ next. fields_decided message kinds next well)
    (string_decided message place (string_at (drop place message)))
fields_decided message (Tag ∷ kinds) place well =
    behind_first Tag kinds message place (λ next. fields_decided message kinds next well)
    (tag_decided message place (string_at (drop place message)))

-- data of a type that has fields
pub record RowAt (rtype : ℕ) (message : List ℕ) (place : ℕ) : Type 0 where
  pub row : List Field
  pub reads : ReadsRow rtype message place row

-- the fields of such data
same_kinds : {rtype : ℕ} {message : List ℕ} {place : ℕ} (kinds : List Kind) → kinds_of rtype ≡ Some kinds → (at : RowAt rtype message place)
    → map kind_of at.row ≡ kinds
same_kinds kinds is at = let both : Some (map kind_of at.row) ≡ Some kinds = sym at.reads.is_row.kinds ∙ is in cc

as_fields : {rtype : ℕ} {message : List ℕ} {place : ℕ} (at : RowAt rtype message place) → ReadsFields message place at.row
as_fields at = record { each = at.reads.is_row.each; spelled = at.reads.spelled }

row_by_fields : (rtype : ℕ) (message : List ℕ) (place : ℕ) (kinds : List Kind) → kinds_of rtype ≡ Some kinds → EndWell kinds
    → FieldsDecided message place kinds → Decided (RowAt rtype message place)
row_by_fields rtype message place kinds is well (inr none) = inr (λ at. none at.row (same_kinds kinds is at) (as_fields at))
row_by_fields rtype message place kinds is well (inl found) = elim (cases_lt (length (octets found.row)) (2 ^ 16)) [
  | inl short ↦ inl (record {
    row = found.row;
    reads = record {
      is_row = record { kinds = is ∙ ap Some (sym found.kinds_are); each = found.reads.each; short = short };
      spelled = found.reads.spelled;
    };
  })
  | inr long ↦ inr (λ at.
      let ends_well = subst (λ kinds. EndWell kinds) (sym found.kinds_are) well in
      let alone = sole_fields message found.row place ends_well found.reads in
      let one : at.row ≡ found.row = alone.sole at.row (same_kinds kinds is at ∙ sym found.kinds_are) (as_fields at) in
      omega (arith, long, at.reads.is_row.short, ap (λ row. length (octets row)) one))
]

row_by_kinds : (rtype : ℕ) (message : List ℕ) (place : ℕ) (kinds : Option (List Kind)) → kinds_of rtype ≡ kinds
    → Decided (RowAt rtype message place)
row_by_kinds rtype message place None none =
    inr (λ at. let no : Some (map kind_of at.row) ≡ None = sym at.reads.is_row.kinds ∙ none in cc)
row_by_kinds rtype message place (Some kinds) is =
    let well : EndWell kinds = subst (λ kinds. Fit kinds) is (fits rtype) in
    row_by_fields rtype message place kinds is well (fields_decided message kinds place well)

pub row_decided : (rtype : ℕ) (message : List ℕ) (place : ℕ) → Decided (RowAt rtype message place)
row_decided rtype message place = row_by_kinds rtype message place (kinds_of rtype) refl
