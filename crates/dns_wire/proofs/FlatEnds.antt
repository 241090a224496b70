-- Suffixes of names that are written out in octets.
use Rattle.std.proofs.Common.{◌≡◌, ◌≤◌, ◌<◌, ◌∙◌, ℕ, List, [], ◌∷◌, ◌++◌, length, map, ap, sym, arith, drop, length-append, IsTrue, Bool}
use Rattle.std.proofs.Math.Seq.{drop-append_seam}
use Rattle.std.specs.Char.{to_ascii_lowercase}
use Rattle.dns_label.specs.Name.{IsName, wire, low}
use Rattle.dns_label.specs.Labels.{labels_at}
use Rattle.dns_wire.specs.Flat.{IsWritten}
use Rattle.dns_wire.specs.Suffix.{EndsWith}
use Rattle.dns_wire.proofs.Case.{low_wire, wire_one}
use Rattle.dns_wire.proofs.LowNames.{length-wire-low}
use Rattle.dns_wire.proofs.Wire.{length-wire_is, length-wire-append}

-- what is left of a name after labels were taken off: it ends with the other name exactly if the whole name does
pub record Remains (name base : List (List ℕ)) (rest : List ℕ) : Type 0 where
  pub back : List (List ℕ)
  pub is_name : IsName back
  pub is : rest ≡ wire back
  pub keeps : EndsWith (low name) (low base) → EndsWith (low back) (low base)
  pub gives : EndsWith (low back) (low base) → EndsWith (low name) (low base)

-- a name with more octets than its suffix has labels before that
longer_by : (text : List ℕ) (parent base front : List (List ℕ)) → IsName (text ∷ parent) → IsName base
    → length (wire base) < length (wire (text ∷ parent)) → low (text ∷ parent) ≡ front ++ low base → EndsWith (low parent) (low base)
longer_by text parent base [] is_name is_base long is =
    let same = ap (λ l. length (wire l)) is in
    absurd (omega (arith, long, same, length-wire-low (text ∷ parent) is_name, length-wire-low base is_base))
longer_by text parent base (first ∷ front) is_name is_base long is = record { front = front; whole_is = cc }

longer : (text : List ℕ) (parent base : List (List ℕ)) → IsName (text ∷ parent) → IsName base
    → length (wire base) < length (wire (text ∷ parent)) → EndsWith (low (text ∷ parent)) (low base) → EndsWith (low parent) (low base)
longer text parent base is_name is_base long ends = longer_by text parent base ends.front is_name is_base long ends.whole_is

more : (text : List ℕ) (parent base : List (List ℕ)) → EndsWith (low parent) (low base) → EndsWith (low (text ∷ parent)) (low base)
more text parent base ends = record { front = map to_ascii_lowercase text ∷ ends.front; whole_is = ap (λ l. map to_ascii_lowercase text ∷ l) ends.whole_is }

parent_name : (text : List ℕ) (parent : List (List ℕ)) → IsName (text ∷ parent) → IsName parent
parent_name text parent is_name = record {
  labels = is_name.labels.1;
  short = let whole = is_name.short in omega (arith, whole, length-append text (wire parent));
}

-- the first label is taken off
step : (name base : List (List ℕ)) (rest behind new : List ℕ) (len : ℕ) (back : List (List ℕ)) → IsName back → rest ≡ wire back
    → (EndsWith (low name) (low base) → EndsWith (low back) (low base))
    → (EndsWith (low back) (low base) → EndsWith (low name) (low base))
    → IsName base → length (wire base) < length rest → rest ≡ len ∷ behind → new ≡ drop len behind → Remains name base new
step name base rest behind new len [] is_name is keeps gives is_base long split new_is =
    let one = ap length is in absurd (omega (arith, one, length-wire_is base))
step name base rest behind new len (text ∷ parent) is_name is keeps gives is_base long split new_is =
    let both : len ∷ behind ≡ length text ∷ text ++ wire parent = sym split ∙ is in
    let len_is : len ≡ length text = cc in
    let behind_is : behind ≡ text ++ wire parent = cc in
    let octets = ap length is in record {
      back = parent;
      is_name = parent_name text parent is_name;
      is = new_is ∙ ap (λ n. drop n behind) len_is ∙ ap (λ l. drop (length text) l) behind_is ∙ drop-append_seam text (wire parent);
      keeps = λ ends. longer text parent base is_name is_base (omega (arith, long, octets)) (keeps ends);
      gives = λ ends. gives (more text parent base ends);
    }

pub remains_step : {name : List (List ℕ)} {end rest behind new : List ℕ} {len : ℕ} → Remains name (labels_at end 0) rest → IsWritten end
    → length end < length rest → rest ≡ len ∷ behind → new ≡ drop len behind → Remains name (labels_at end 0) new
remains_step {name} {end} {rest} {behind} {new} {len} so_far written long split new_is =
    let whole = ap length written.whole in
    step name (labels_at end 0) rest behind new len so_far.back so_far.is_name so_far.is so_far.keeps so_far.gives written.is_name
    (omega (arith, long, whole)) split new_is

-- the first octet, and the number of octets that it says, can be taken off
fits : (rest behind base : List ℕ) (len : ℕ) (back : List (List ℕ)) → rest ≡ wire back → length base < length rest → 1 ≤ length base
    → rest ≡ len ∷ behind → len ≤ length behind
fits rest behind base len [] is long some split = let one = ap length is in absurd (omega (arith, one))
fits rest behind base len (text ∷ parent) is long some split =
    let both : len ∷ behind ≡ length text ∷ text ++ wire parent = sym split ∙ is in
    let len_is : len ≡ length text = cc in
    let behind_is : behind ≡ text ++ wire parent = cc in
    let octets = ap length behind_is in
    omega (arith, len_is, octets, length-append text (wire parent))

pub remains_fits : {name : List (List ℕ)} {end rest behind : List ℕ} {len : ℕ} → Remains name (labels_at end 0) rest → IsWritten end
    → length end < length rest → rest ≡ len ∷ behind → len ≤ length behind
remains_fits {name} {end} {rest} {behind} {len} so_far written long split =
    let whole = ap length written.whole in
    fits rest behind end len so_far.back so_far.is long (omega (arith, whole, length-wire_is (labels_at end 0))) split

-- a name with no more octets than its suffix is that suffix
no_front : (back base front : List (List ℕ)) → IsName back → IsName base → length (wire back) ≤ length (wire base)
    → low back ≡ front ++ low base → low back ≡ low base
no_front back base [] is_name is_base few is = is
no_front back base (first ∷ front) is_name is_base few is =
    let same = ap (λ l. length (wire l)) is in
    absurd (omega (
      arith,
      few,
      same,
      length-wire-low back is_name,
      length-wire-low base is_base,
      length-append first (wire (front ++ low base)),
      length-wire-append front (low base),
    ))

pub remains_told : {name : List (List ℕ)} {end rest : List ℕ} (result : Bool) → Remains name (labels_at end 0) rest → IsWritten end
    → length rest ≤ length end
    → (IsTrue result → map to_ascii_lowercase rest ≡ map to_ascii_lowercase end)
    → (map to_ascii_lowercase rest ≡ map to_ascii_lowercase end → IsTrue result)
    → (IsTrue result → EndsWith (low name) (low (labels_at end 0))) × (EndsWith (low name) (low (labels_at end 0)) → IsTrue result)
remains_told {name} {end} {rest} result so_far written few on from =
    let base = labels_at end 0 in
    let a : map to_ascii_lowercase rest ≡ wire (low so_far.back) = ap (map to_ascii_lowercase) so_far.is ∙ low_wire so_far.back so_far.is_name.labels in
    let b : map to_ascii_lowercase end ≡ wire (low base) = ap (map to_ascii_lowercase) written.whole ∙ low_wire base written.is_name.labels in
    let short = ap length so_far.is in
    let whole = ap length written.whole in (
      λ yes. so_far.gives (record { front = []; whole_is = wire_one (low so_far.back) (low base) (sym a ∙ on yes ∙ b) }),
      λ ends. from (a ∙ ap wire (no_front so_far.back base (so_far.keeps ends).front so_far.is_name written.is_name (omega (arith, few, short, whole)) (so_far.keeps ends).whole_is) ∙ sym b),
    )
