-- A remembered suffix is read again at its place.
use Rattle.std.proofs.Common.{◌≡◌, ◌<◌, ℕ, suc, List, [], ◌∷◌, ◌++◌, length, map, refl, sym, ◌∙◌, ap, subst, arith, length-append, append-nil}
use Rattle.std.specs.Coded.{Coded-set, coded_ℕ, coded_list}
use mathlib.Core.Logic.{∥∥₁_elim}
use Rattle.dns_octets.specs.Builder.{Standing, Known}
use Rattle.dns_label.specs.Name.{wire}
use Rattle.dns_label.specs.Spelled.{DecodesName}
use Rattle.dns_label.specs.Labels.{labels_at}
use Rattle.dns_label.proofs.Spelling.{labels_at-reads}
use Rattle.dns_wire.proofs.Case.{wire_one}
use Rattle.dns_name.specs.Spelling.{Spelling, folded, remembered_form}
use Rattle.dns_name.specs.Remembered.{IsKnown, IsSound}
use Rattle.dns_compression_laws.proofs.Standings.{standings_read}
use Rattle.dns_compression_laws.proofs.SameNames.{same_name, length-same}

-- the name that is read at the place of a suffix
pub record IsThere (s : Spelling) (octets : List ℕ) (standing : Standing) : Type 0 where
  pub name : List (List ℕ)
  pub reads : DecodesName octets standing.place name standing.stop
  pub suffix_is : standing.suffix ≡ remembered_form s name

few_labels : (name : List (List ℕ)) → length name < length (wire name)
few_labels [] = omega arith
few_labels (text ∷ name) = omega (arith, few_labels name, length-append text (wire name))

pub there : (s : Spelling) (known : Known) (octets : List ℕ) → IsSound s known octets → (standing : Standing) → IsKnown standing known
    → IsThere s octets standing
there s known octets sound standing is =
    let stands = sound.each standing is in
    let at = standings_read s known octets [] sound (suc standing.stop) standing is (omega arith) in
    let forms : map (folded s) at.name ≡ map (folded s) stands.name =
    wire_one (map (folded s) at.name) (map (folded s) stands.name) (sym at.suffix_is ∙ stands.suffix_is) in
    let found = at.reads 255 (omega (arith, length-same s at.name stands.name forms, few_labels stands.name, stands.is_name.short)) in
    record {
      name = found.read;
      reads = subst (λ l. DecodesName l standing.place found.read standing.stop) (append-nil octets)
          (record { spelled = found.spelled; is_name = same_name s stands.name found.read (sym forms ∙ found.same) stands.is_name });
      suffix_is = at.suffix_is ∙ ap wire found.same;
    }

-- and so is the suffix
pub suffix_read : (s : Spelling) (known : Known) (octets : List ℕ) → ∥ IsSound s known octets ∥₁ → (standing : Standing) → IsKnown standing known
    → remembered_form s (labels_at octets standing.place) ≡ standing.suffix
suffix_read s known octets sound standing is =
    ∥∥₁_elim sound (Coded-set (coded_list coded_ℕ) _ _) (λ sound.
    let found = there s known octets sound standing is in
    ap (remembered_form s) (labels_at-reads found.reads) ∙ sym found.suffix_is)
