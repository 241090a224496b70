-- What a contract sees of an uncertain name with a suffix.
use Rattle.std.specs.Prelude.{◌≡◌, List, ℕ, Option, ◌++◌, length, refl}
use Rattle.dns_label.specs.Name.{labels_wire, wire, with_root}
use Rattle.dns_name.specs.Chain.{StandsInOne}
use Rattle.dns_name.specs.ChainLaws.{rooted_behind}
use Rattle.dns_name.specs.ChainParts.{left_of, right_of}
use Rattle.dns_name.specs.Parsed.{LabelsStandAt}
use Rattle.dns_name.specs.Relative.{StandsIn as stands_in_relative}
use Rattle.dns_text.specs.declared.uncertain.chain.UncertainChain.{UncertainChain}
use Rattle.dns_text.specs.declared.uncertain.chain.UncertainChain.TheVariants.{Absolute, Relative}

-- the labels, given those of the suffix
abbrev pub labels_in : {O R : Type 0} {ghosts others : _} → (R → List (List ℕ)) → UncertainChain O R ghosts others → List (List ℕ)
labels_in labels (Absolute name) = with_root name
labels_in labels (Relative chain) = left_of chain ++ labels (right_of chain)

-- the label with this number is at this place
abbrev pub StandsIn : {O R : Type 0} {ghosts others : _} → (R → List (List ℕ)) → (R → ℕ → Option ℕ → Type 0)
    → UncertainChain O R ghosts others → ℕ → Option ℕ → Type 0
StandsIn labels stands (Absolute name) index place = LabelsStandAt (wire name) (with_root name) index place
StandsIn labels stands (Relative chain) index place =
    StandsInOne (stands_in_relative (labels_wire (left_of chain)) (left_of chain)) (stands (right_of chain)) (length (left_of chain)) index place

-- the labels without the root's, given those of a suffix that is absolute
abbrev pub name_in : {O R : Type 0} {ghosts others : _} → (R → List (List ℕ)) → UncertainChain O R ghosts others → List (List ℕ)
name_in own (Absolute name) = name
name_in own (Relative chain) = left_of chain ++ own (right_of chain)

-- the root's label stays last
pub rooted_in : {O R : Type 0} {ghosts others : _} (labels own : R → List (List ℕ)) → ((suffix : R) → labels suffix ≡ with_root (own suffix))
    → (chain : UncertainChain O R ghosts others) → labels_in labels chain ≡ with_root (name_in own chain)
rooted_in labels own is (Absolute name) = refl
rooted_in labels own is (Relative chain) = rooted_behind (left_of chain) (own (right_of chain)) (is (right_of chain))
