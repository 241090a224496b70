-- A message spells at most one record at a place.
use Rattle.std.proofs.Common.{◌≡◌, ℕ, ◌+◌, List, ◌++◌, length, take, map, refl, sym, ap, ◌∙◌, subst, arith, Some, None}
use Rattle.std.specs.Int.{to_be_bytes, w16, w32}
use Rattle.dns_label.proofs.Spelling.{reads_one}
use Rattle.dns_rdata.specs.Fields.{Field, kind_of, kinds_of, octets, IsRow}
use Rattle.std.proofs.lemmas.List.{length-take-le}
use Rattle.dns_rdata.proofs.ComposedRows.{row_read_once}
use Rattle.dns_octets.proofs.Fronts.{same_fronts, same_number16, same_number32}
use Rattle.dns_name.specs.SpelledParts.{SpellsParts}
use Rattle.dns_name.specs.Page.{Parts}
use Rattle.dns_name.specs.Page.Parts.{End, Octets, Counted}
use Rattle.dns_message.specs.Record.{Record, IsRecord, IsRead, read_parts, record_parts}
use Rattle.dns_message.specs.Record.IsRead.{typed, unknown}
use Rattle.dns_message.proofs.Opened.{opened}

-- the type, class and time to live of a record
abbrev numbers : Record → List ℕ
numbers r = to_be_bytes w16 r.rtype ++ to_be_bytes w16 r.class ++ to_be_bytes w32 r.ttl

-- two records that are spelled at one place agree, except for their data: `message` and the places are those of the
-- data
record SameHead (r other : Record) (parts parts' : Parts) (next next' : ℕ) : Type 0 where
  owner : r.owner ≡ other.owner
  rtype : r.rtype ≡ other.rtype
  class : r.class ≡ other.class
  ttl : r.ttl ≡ other.ttl
  ends : next ≡ next'
  message : List ℕ
  place : ℕ
  end : ℕ
  held : SpellsParts message place parts end
  held' : SpellsParts message place parts' end
  whole : end ≡ length message

record SameNumbers (r other : Record) : Type 0 where
  rtype : r.rtype ≡ other.rtype
  class : r.class ≡ other.class
  ttl : r.ttl ≡ other.ttl

same_numbers : (r other : Record) → IsRecord r → IsRecord other → numbers r ≡ numbers other → SameNumbers r other
same_numbers r other good good' e = record {
  rtype = same_number16 r.rtype other.rtype good.rtype good'.rtype cc;
  class = same_number16 r.class other.class good.class good'.class cc;
  ttl = same_number32 r.ttl other.ttl good.ttl good'.ttl cc;
}

heads_one : {message : List ℕ} {place next next' : ℕ} (r other : Record) (parts parts' : Parts) → IsRecord r → IsRecord other
    → SpellsParts message place (record_parts r parts) next → SpellsParts message place (record_parts other parts') next'
    → SameHead r other parts parts' next next'
heads_one {message} {place} {next} {next'} r other parts parts' good good' spelled spelled' =
    let named = opened spelled in
    let named' = opened spelled' in
    let one = reads_one named.reads named'.reads in
    let P : ℕ → Type 0 = λ end. SpellsParts message end (Octets (numbers other) (Counted parts' End)) next' in
    let begins = opened named.behind in
    let begins' = opened (subst P (sym one.1) named'.behind) in
    let fronts = same_fronts (numbers r) (numbers other) begins.rest begins'.rest refl (sym begins.at ∙ begins'.at) in
    let same = same_numbers r other good good' fronts.0 in
    let counted = opened begins.behind in
    let counted' = opened begins'.behind in
    let marks = same_fronts (to_be_bytes w16 counted.count) (to_be_bytes w16 counted'.count) counted.rest counted'.rest refl
    (sym counted.at ∙ counted'.at) in
    let counts : counted'.count ≡ counted.count = sym (same_number16 counted.count counted'.count counted.small counted'.small marks.0) in
    let at : ℕ = named.end + 8 in
    let Q : ℕ → Type 0 = λ count. SpellsParts (take (named.end + 8 + 2 + count) message) (named.end + 8 + 2) parts' (named.end + 8 + 2 + count) in
    let ends : next ≡ named.end + 8 + 2 + counted.count = opened counted.behind in
    let ends' : next' ≡ named.end + 8 + 2 + counted'.count = opened counted'.behind in
    record {
      owner = one.0;
      rtype = same.rtype;
      class = same.class;
      ttl = same.ttl;
      ends = omega arith;
      message = take (named.end + 8 + 2 + counted.count) message;
      place = named.end + 8 + 2;
      end = named.end + 8 + 2 + counted.count;
      held = counted.held;
      held' = subst Q counts counted'.held;
      whole = sym (length-take-le (named.end + 8 + 2 + counted.count) message counted.within);
    }

-- unknown data at one place
unknown_one : {message : List ℕ} {place end : ℕ} (text text' : List ℕ) → SpellsParts message place (Octets text End) end
    → SpellsParts message place (Octets text' End) end → text ≡ text'
unknown_one {message} {place} {end} text text' spelled spelled' =
    let begins = opened spelled in
    let begins' = opened spelled' in
    let ends : end ≡ place + length text = opened begins.behind in
    let ends' : end ≡ place + length text' = opened begins'.behind in
    let fronts = same_fronts text text' begins.rest begins'.rest (omega arith) (sym begins.at ∙ begins'.at) in
    fronts.0

same_record : (r other : Record) → r.owner ≡ other.owner → r.rtype ≡ other.rtype → r.class ≡ other.class → r.ttl ≡ other.ttl
    → r.rdata ≡ other.rdata → r ≡ other
same_record r other owner rtype class ttl rdata =
    λ i. record { owner = owner i; rtype = rtype i; class = class i; ttl = ttl i; rdata = rdata i }

-- A message spells at most one record at a place.
pub record_one : {message : List ℕ} {place next next' : ℕ} {parts parts' : Parts} (r other : Record) → IsRecord r → IsRecord other
    → IsRead r parts → IsRead other parts' → SpellsParts message place parts next → SpellsParts message place parts' next'
    → (r ≡ other) × (next ≡ next')
record_one r other good good' (typed row is_row octets_are) (typed row' is_row' octets_are') spelled spelled' =
    let heads = heads_one r other (read_parts row) (read_parts row') good good' spelled spelled' in
    let P : List Field → ℕ → Type 0 = λ fields end. SpellsParts heads.message heads.place (read_parts fields) end in
    let one = row_read_once r.rtype heads.message heads.place row row'
    (record { is_row = is_row; spelled = subst (P row) heads.whole heads.held })
    (record { is_row = subst (λ n. IsRow n row') (sym heads.rtype) is_row'; spelled = subst (P row') heads.whole heads.held' }) in
    (same_record r other heads.owner heads.rtype heads.class heads.ttl (octets_are ∙ ap octets one ∙ sym octets_are'), heads.ends)
record_one r other good good' (typed row is_row octets_are) (unknown none) spelled spelled' =
    let heads = heads_one r other (read_parts row) (Octets other.rdata End) good good' spelled spelled' in
    let no : Some (map kind_of row) ≡ None = sym is_row.kinds ∙ ap kinds_of heads.rtype ∙ none in absurd cc
record_one r other good good' (unknown none) (typed row is_row octets_are) spelled spelled' =
    let heads = heads_one r other (Octets r.rdata End) (read_parts row) good good' spelled spelled' in
    let no : Some (map kind_of row) ≡ None = sym is_row.kinds ∙ sym (ap kinds_of heads.rtype) ∙ none in absurd cc
record_one r other good good' (unknown none) (unknown none') spelled spelled' =
    let heads = heads_one r other (Octets r.rdata End) (Octets other.rdata End) good good' spelled spelled' in
    let one = unknown_one r.rdata other.rdata heads.held heads.held' in
    (same_record r other heads.owner heads.rtype heads.class heads.ttl one, heads.ends)
