-- A record has one canonical form, and records in canonical form that compare as equal are one.
use Rattle.std.proofs.Common.{◌≡◌, ℕ, true, false, List, [], ◌∷◌, map, refl, sym, ap, ◌∙◌, nat_eq}
use Rattle.std.specs.Prelude.{Some, None}
use Rattle.std.specs.Char.{to_ascii_lowercase}
use Rattle.std.specs.Cmp.{unsigned_ties, unsigned_Decides}
use Rattle.std.specs.Cmp.Lexicographic.{pointwise, slice_cmp, texts_ties}
use Rattle.std.specs.Ordering.{is_eq, nat_cmp, ordering_then, eq_by_cmp}
use Rattle.std.specs.declared.cmp.Ordering.{Ordering}
use Rattle.std.specs.declared.cmp.Ordering.TheVariants.{Less, Equal, Greater}
use Rattle.std.proofs.lemmas.Str.Ascii.{lowercase-lowercase}
use lib.Pointwise.{pointwise_decides, bytes_decides}
use Rattle.dns_label.specs.Name.{low}
use Rattle.dns_wire.specs.Order.{labels_order}
use Rattle.dns_flat.specs.OrderLaws.{labels_ties}
use Rattle.dns_rdata.specs.Fields.{Field, IsRow, kind_of, kinds_of, canonical_octets}
use Rattle.dns_rdata.specs.OctetsForm.{IsCanonicalData, typed, unknown}
use Rattle.zone_records.proofs.ComposedRows.{same_octets}
use Rattle.zone_records.specs.Record.{Record}
use Rattle.zone_canonical.specs.Canonical.{IsCanonicalOf, canonical_cmp}

low_label : (label : List ℕ) → map to_ascii_lowercase (map to_ascii_lowercase label) ≡ map to_ascii_lowercase label
low_label [] = refl
low_label (octet ∷ label) = λ i. lowercase-lowercase octet i ∷ low_label label i

pub low-low : (name : List (List ℕ)) → low (low name) ≡ low name
low-low [] = refl
low-low (label ∷ name) = λ i. low_label label i ∷ low-low name i

no_kinds : (rtype : ℕ) (row : List Field) → IsRow rtype row → kinds_of rtype ≡ None → ⊥
no_kinds rtype row is none = let e : Some (map kind_of row) ≡ None = sym is.kinds ∙ none in cc

pub one_data : (rtype : ℕ) (data' one other : List ℕ) → IsCanonicalData rtype data' one → IsCanonicalData rtype data' other → one ≡ other
one_data rtype data' one other (typed row is are form) (typed row' is' are' form') =
    form ∙ ap canonical_octets (same_octets rtype row' row is' is (sym are' ∙ are)) ∙ sym form'
one_data rtype data' one other (typed row is are form) (unknown none form') = absurd (no_kinds rtype row is none)
one_data rtype data' one other (unknown none form) (typed row is are form') = absurd (no_kinds rtype row is none)
one_data rtype data' one other (unknown none form) (unknown none' form') = form ∙ sym form'

same_record : (one other : Record) → one.owner ≡ other.owner → one.rtype ≡ other.rtype → one.class ≡ other.class → one.ttl ≡ other.ttl
    → one.rdata ≡ other.rdata → one ≡ other
same_record one other owner rtype class ttl rdata = λ i. record {
  owner = owner i;
  rtype = rtype i;
  class = class i;
  ttl = ttl i;
  rdata = rdata i;
}

pub one_form : (r one other : Record) → IsCanonicalOf r one → IsCanonicalOf r other → one ≡ other
one_form r one other is is' =
    same_record one other (is.owner ∙ sym is'.owner) (is.rtype ∙ sym is'.rtype) (is.class ∙ sym is'.class) (is.ttl ∙ sym is'.ttl)
    (one_data r.rtype r.rdata one.rdata other.rdata is.rdata is'.rdata)

-- the owner of a record in canonical form is in lower case
pub form_low : (r form : Record) → IsCanonicalOf r form → low form.owner ≡ form.owner
form_low r form is = ap low is.owner ∙ low-low r.owner ∙ sym is.owner

pub both_tie : (p q : Ordering) → is_eq (ordering_then p q) ≡ true → (is_eq p ≡ true) × (is_eq q ≡ true)
both_tie Less q tie = absurd (let e : false ≡ true = tie in cc)
both_tie Equal q tie = (refl, tie)
both_tie Greater q tie = absurd (let e : false ≡ true = tie in cc)

pub number_tie : (m n : ℕ) → is_eq (nat_cmp m n) ≡ true → m ≡ n
number_tie m n tie = (unsigned_Decides m n).0 (unsigned_ties m n ∙ tie)

text_tie : (a b : List ℕ) → is_eq (slice_cmp nat_cmp a b) ≡ true → a ≡ b
text_tie a b tie = (bytes_decides a b).0 (texts_ties a b ∙ tie)

owner_tie : (a b : List (List ℕ)) → is_eq (labels_order a b) ≡ true → low a ≡ low b
owner_tie a b tie = (pointwise_decides {E = pointwise nat_eq} bytes_decides (low a) (low b)).0 (labels_ties a b ∙ tie)

-- forms that compare as equal are one
pub tied_forms : (one other : Record) → low one.owner ≡ one.owner → low other.owner ≡ other.owner
    → eq_by_cmp canonical_cmp one other ≡ true → one ≡ other
unfolding canonical_cmp
tied_forms one other lowered lowered' tie =
    let owner = both_tie _ _ tie in
    let rtype = both_tie _ _ owner.1 in
    let rdata = both_tie _ _ rtype.1 in
    let ttl = both_tie _ _ rdata.1 in
    same_record one other (sym lowered ∙ owner_tie one.owner other.owner owner.0 ∙ lowered') (number_tie one.rtype other.rtype rtype.0)
    (number_tie one.class other.class ttl.1) (number_tie one.ttl other.ttl ttl.0) (text_tie one.rdata other.rdata rdata.0)
