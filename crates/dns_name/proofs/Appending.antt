-- The labels of a name, appended one by one.
use Rattle.std.proofs.Common.{◌≡◌, ◌≤◌, ℕ, ◌⊎◌, Option, List, [], ◌∷◌, ◌++◌, length, refl, sym, ◌∙◌, ap, subst, arith, inl, inr, length-append, append_assoc}
use Rattle.std.proofs.lemmas.List.{append-nil}
use Rattle.dns_octets.specs.Builder.{Known, GrowsTo, IsWithin, IsPast}
use Rattle.dns_octets.proofs.Grows.{GrowsTo-same}
use Rattle.dns_label.specs.Name.{wire, labels_wire, with_root}
use Rattle.dns_wire.proofs.Wire.{labels_wire-with_root}
use Rattle.dns_name.proofs.Growth.{GrowsTo-trans, IsPast-more}

-- these of all labels are left, and only the others follow what was there
pub record Appends (old now : List ℕ) (old_known known : Known) (all left : List (List ℕ)) (old_bound bound : Option ℕ) : Type 0 where
  pub written : now ++ labels_wire left ≡ old ++ labels_wire all
  pub same_known : known ≡ old_known
  pub grows : GrowsTo old old_known now known
  pub same_bound : bound ≡ old_bound
  pub fits : (left ≡ all) ⊎ IsWithin old_bound (length now)

pub appends_none : (old : List ℕ) (known : Known) (all left : List (List ℕ)) (bound : Option ℕ) → left ≡ all
    → Appends old old known known all left bound bound
appends_none old known all left bound same = record {
  written = ap (λ l. old ++ labels_wire l) same;
  same_known = refl;
  grows = GrowsTo-same old known old known refl refl;
  same_bound = refl;
  fits = inl same;
}

within_same : (bound other : Option ℕ) (len : ℕ) → bound ≡ other → IsWithin bound len → IsWithin other len
within_same bound other len same within = subst (λ b. IsWithin b len) same within

-- one label more
pub appends_more : {old now next : List ℕ} {old_known known more : Known} {all left rest : List (List ℕ)} {old_bound bound new_bound : Option ℕ}
    (label : List ℕ) → Appends old now old_known known all left old_bound bound → left ≡ label ∷ rest → next ≡ now ++ length label ∷ label
    → more ≡ known → GrowsTo now known next more → new_bound ≡ bound → IsWithin bound (length next)
    → Appends old next old_known more all rest old_bound new_bound
appends_more {now = now} {rest = rest} {old_bound = old_bound} {bound = bound} label is left next same grows bounds within = record {
  written = ap (λ l. l ++ labels_wire rest) next ∙ append_assoc now (length label ∷ label) (labels_wire rest)
      ∙ ap (λ l. now ++ labels_wire l) (sym left) ∙ is.written;
  same_known = same ∙ is.same_known;
  grows = GrowsTo-trans is.grows grows;
  same_bound = bounds ∙ is.same_bound;
  fits = inr (within_same bound old_bound _ is.same_bound within);
}

-- if the next label is past the bound, so is the whole
pub appends_past : {old now : List ℕ} {old_known known : Known} {left rest : List (List ℕ)} {old_bound bound : Option ℕ}
    (name : List (List ℕ)) (label : List ℕ) → Appends old now old_known known (with_root name) left old_bound bound → left ≡ label ∷ rest
    → IsPast bound (length (now ++ length label ∷ label)) → IsPast old_bound (length (old ++ wire name))
appends_past {old} {now} {left = left} {rest = rest} {old_bound} {bound} name label is left_is past =
    let long : length (now ++ length label ∷ label) ≤ length (old ++ wire name) =
    omega (
      arith,
      ap (length {A = ℕ}) is.written,
      length-append now (labels_wire left),
      length-append old (labels_wire (with_root name)),
      ap (λ l. length (labels_wire l)) left_is,
      length-append label (labels_wire rest),
      length-append now (length label ∷ label),
      ap (length {A = ℕ}) (labels_wire-with_root name),
      length-append old (wire name),
    ) in
    IsPast-more old_bound _ _ long (subst (λ b. IsPast b (length (now ++ length label ∷ label))) is.same_bound past)

-- all labels are written
pub appends_all : {old now : List ℕ} {old_known known : Known} {left : List (List ℕ)} {old_bound bound : Option ℕ}
    (name : List (List ℕ)) → Appends old now old_known known (with_root name) left old_bound bound → left ≡ []
    → now ≡ old ++ wire name
appends_all {old} {now} name is none =
    sym (append-nil now) ∙ ap (λ l. now ++ labels_wire l) (sym none) ∙ is.written ∙ ap (λ l. old ++ l) (labels_wire-with_root name)
