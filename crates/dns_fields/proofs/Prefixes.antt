-- What octets begin with, and what decides how they compare with others.
use Rattle.std.proofs.Common.{◌≡◌, ℕ, List, [], ◌∷◌, ◌++◌, map, refl, sym, ◌∙◌, ap, subst, append_assoc, append-nil}
use Rattle.std.specs.Prelude.{◌≢◌}
use Rattle.std.specs.declared.cmp.Ordering.{Ordering}
use Rattle.std.specs.declared.cmp.Ordering.TheVariants.{Less, Equal, Greater}
use Rattle.std.specs.Ordering.{ordering_then, nat_cmp}
use Rattle.std.specs.Cmp.{nat_cmp_is, ranked}
use Rattle.std.specs.Cmp.Lexicographic.{slice_cmp}
use Rattle.std.specs.Char.{to_ascii_lowercase}
use Rattle.std.proofs.lemmas.List.{map-append}
use Rattle.dns_label.specs.Composed.{label_wire, low_label}
use Rattle.dns_label.specs.Name.{wire, labels_wire, with_root, low}
use Rattle.dns_name.proofs.Wire.{labels_wire-with_root}
use Rattle.dns_fields.specs.Prefix.{Decides}

then_same : (o a b : Ordering) → (o ≡ Equal → a ≡ b) → ordering_then o a ≡ ordering_then o b
then_same Less a b same = refl
then_same Equal a b same = same refl
then_same Greater a b same = refl

-- where others don't begin with the front, it decides
pub differs : (front others : List ℕ) → ((rest : List ℕ) → others ≢ front ++ rest) → (behind : List ℕ)
    → slice_cmp nat_cmp (front ++ behind) others ≡ slice_cmp nat_cmp front others
differs [] others never behind = absurd (never others refl)
differs (x ∷ front) [] never behind = refl
differs (x ∷ front) (y ∷ others) never behind =
    then_same (nat_cmp x y) _ _ (λ level.
    let same : x ≡ y = ranked x y Equal (sym level) in
    differs front others (λ rest is. never rest (cc (same, is))) behind)

-- the same front on both sides decides nothing
pub same_front : (front rest others : List ℕ) → slice_cmp nat_cmp (front ++ rest) (front ++ others) ≡ slice_cmp nat_cmp rest others
same_front [] rest others = refl
same_front (x ∷ front) rest others =
    ap (λ o. ordering_then o (slice_cmp nat_cmp (front ++ rest) (front ++ others))) (sym (nat_cmp_is x x Equal refl))
    ∙ same_front front rest others

-- what decides still does if more follows it, and after a front that is the same
pub decides_longer : (front more others : List ℕ) (order : Ordering) → Decides front others order → Decides (front ++ more) others order
decides_longer front more others order by = record {
  decides = λ behind. ap (λ l. slice_cmp nat_cmp l others) (append_assoc front more behind) ∙ by.decides (more ++ behind);
}

pub decides_behind : (done front rest others : List ℕ) (order : Ordering) → others ≡ done ++ rest → Decides front rest order
    → Decides (done ++ front) others order
decides_behind done front rest others order is by = record {
  decides = λ behind.
      ap (λ l. slice_cmp nat_cmp l others) (append_assoc done front behind)
      ∙ ap (slice_cmp nat_cmp (done ++ (front ++ behind))) is
      ∙ same_front done (front ++ behind) rest ∙ by.decides behind;
}

-- the octets begin as the front does, up to what is left of it and the rest of them
pub record IsBegun (front left octets rest : List ℕ) : Type 0 where
  pub done : List ℕ
  pub front_is : front ≡ done ++ left
  pub octets_are : octets ≡ done ++ rest

-- so they do before the first label of a name, one label later, and after the last
pub begun_none : (name labels : List (List ℕ)) (octets : List ℕ) → labels ≡ with_root name
    → IsBegun (wire (low name)) (labels_wire (low labels)) octets octets
begun_none name labels octets are = record {
  done = [];
  front_is = sym (ap (λ (l : List (List ℕ)). labels_wire (low l)) are
      ∙ ap labels_wire (map-append (map to_ascii_lowercase) name ([] ∷ []))
      ∙ labels_wire-with_root (low name));
  octets_are = refl;
}

pub begun_more : (front octets rest behind label : List ℕ) (labels left : List (List ℕ))
    → IsBegun front (labels_wire (low labels)) octets rest → labels ≡ label ∷ left
    → rest ≡ label_wire (low_label label) ++ behind
    → IsBegun front (labels_wire (low left)) octets behind
begun_more front octets rest behind label labels left begun are is = record {
  done = begun.done ++ label_wire (low_label label);
  front_is = begun.front_is ∙ ap (λ (l : List (List ℕ)). begun.done ++ labels_wire (low l)) are
      ∙ sym (append_assoc begun.done (label_wire (low_label label)) (labels_wire (low left)));
  octets_are = begun.octets_are ∙ ap (λ l. begun.done ++ l) is
      ∙ sym (append_assoc begun.done (label_wire (low_label label)) behind);
}

pub begun_decided : (front octets rest label : List ℕ) (labels left : List (List ℕ)) (order : Ordering)
    → IsBegun front (labels_wire (low labels)) octets rest → labels ≡ label ∷ left
    → Decides (label_wire (low_label label)) rest order → Decides front octets order
begun_decided front octets rest label labels left order begun are by =
    let whole : front ≡ begun.done ++ (label_wire (low_label label) ++ labels_wire (low left)) =
    begun.front_is ∙ ap (λ (l : List (List ℕ)). begun.done ++ labels_wire (low l)) are in
    subst (λ (l : List ℕ). Decides l octets order) (sym whole)
    (decides_behind begun.done (label_wire (low_label label) ++ labels_wire (low left)) rest octets order begun.octets_are
    (decides_longer (label_wire (low_label label)) (labels_wire (low left)) rest order by))

pub begun_all : (front octets rest : List ℕ) (labels : List (List ℕ))
    → IsBegun front (labels_wire (low labels)) octets rest → labels ≡ [] → octets ≡ front ++ rest
begun_all front octets rest labels begun none =
    let whole : front ≡ begun.done =
    begun.front_is ∙ ap (λ (l : List (List ℕ)). begun.done ++ labels_wire (low l)) none ∙ append-nil begun.done in
    begun.octets_are ∙ ap (λ l. l ++ rest) (sym whole)
