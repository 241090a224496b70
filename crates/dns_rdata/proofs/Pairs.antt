-- How two values of data compare: of one type, both unknown, or of two kinds.
use Rattle.std.proofs.Common.{◌≡◌, ℕ, Bool, true, false, List, nat_eq, ◌&&◌, refl, sym, ◌∙◌, ap, rules}
use Rattle.std.proofs.lemmas.Bool.Decides.{Decides-eqb}
use Rattle.std.specs.Cmp.{nat_cmp_is}
use Rattle.std.specs.Cmp.Lexicographic.{slice_cmp, nat_list_cmp_total}
use Rattle.std.specs.Cmp.Rules.{comparing}
use Rattle.std.specs.declared.cmp.Ordering.{Ordering}
use Rattle.std.specs.declared.cmp.Ordering.TheVariants.{Less, Equal, Greater}
use Rattle.std.specs.Ordering.{is_eq, ordering_reverse, ordering_then, nat_cmp, bool_cmp}
use Rattle.dns_name.specs.Unknown.{UnknownData, unknown_eq, unknown_cmp}
use Rattle.dns_fields.specs.Fields.{Field}
use Rattle.dns_fields.specs.Alike.{rows_eq, rows_cmp}
use Rattle.dns_rdata.specs.Data.{Data, typed, unknown_data, number_of, is_unknown, AreOfOneKind, data_eq, data_cmp}

equal_number : (n : ℕ) → nat_eq n n ≡ true
equal_number n = (Decides-eqb n n).1 refl

tied_number : (n : ℕ) → nat_cmp n n ≡ Equal
tied_number n = sym (nat_cmp_is n n Equal refl)

number_ties : (m n : ℕ) → nat_eq m n ≡ is_eq (nat_cmp m n)
number_ties m n = Prim.search (comparing, rules)

other_number : (m n : ℕ) → (m ≡ n → ⊥) → nat_cmp m n ≡ Equal → ⊥
other_number m n differs is = differs ((Decides-eqb m n).0 (number_ties m n ∙ ap is_eq is))

is_not : (b : Bool) → (b ≡ true → ⊥) → b ≡ false
is_not true differs = absurd (differs refl)
is_not false differs = refl

never : (b : Bool) → false ≡ (b && false)
never true = refl
never false = refl

both_true : (a b : Bool) → (a && b) ≡ (a && (b && true))
both_true true true = refl
both_true true false = refl
both_true false b = refl

by_first : (first some other : Ordering) → (first ≡ Equal → ⊥) → ordering_then first some ≡ ordering_then first other
by_first Less some other differs = refl
by_first Equal some other differs = absurd (differs refl)
by_first Greater some other differs = refl

then_equal : (first order : Ordering) → ordering_then first order ≡ ordering_then first (ordering_then order Equal)
then_equal first Less = refl
then_equal first Equal = refl
then_equal first Greater = refl

-- of one type
pub same_eq : (number : ℕ) (row other : List Field) → rows_eq row other ≡ data_eq (typed number row) (typed number other)
unfolding rows_eq data_eq
same_eq number row other = rw (equal_number number) refl

pub same_cmp : (number : ℕ) (row other : List Field) → rows_cmp row other ≡ data_cmp (typed number row) (typed number other)
unfolding rows_cmp data_cmp
same_cmp number row other = rw (tied_number number) refl

-- unknown data
pub unknown_data_eq : (one two : UnknownData) → unknown_eq one two ≡ data_eq (unknown_data one) (unknown_data two)
unfolding data_eq
unknown_data_eq one two = both_true _ _

pub unknown_data_cmp : (one two : UnknownData) → unknown_cmp one two ≡ data_cmp (unknown_data one) (unknown_data two)
unfolding data_cmp
unknown_data_cmp one two = then_equal _ _

-- of two kinds
pub unlike_eq : (one two : Data) → (AreOfOneKind one two → ⊥) → false ≡ data_eq one two
unfolding data_eq
unlike_eq (typed number row) (typed other fields) unlike =
    let differs : nat_eq number other ≡ false = is_not (nat_eq number other) (λ is. unlike ((Decides-eqb number other).0 is)) in
    rw differs refl
unlike_eq (typed number row) (unknown_data other) unlike = never (nat_eq number other.number)
unlike_eq (unknown_data unknown) (typed other fields) unlike = never (nat_eq unknown.number other)
unlike_eq (unknown_data unknown) (unknown_data other) unlike = absurd (unlike tt)

pub unlike_cmp : (one two : Data) → (AreOfOneKind one two → ⊥)
    → ordering_then (nat_cmp (number_of one) (number_of two)) (bool_cmp (is_unknown one) (is_unknown two)) ≡ data_cmp one two
unfolding data_cmp
unlike_cmp (typed number row) (typed other fields) unlike =
    by_first (nat_cmp number other) _ _ (other_number number other unlike)
unlike_cmp (typed number row) (unknown_data other) unlike = refl
unlike_cmp (unknown_data unknown) (typed other fields) unlike = refl
unlike_cmp (unknown_data unknown) (unknown_data other) unlike = absurd (unlike tt)

-- octets in the other order
pub turned : (one two : List ℕ) → ordering_reverse (slice_cmp nat_cmp two one) ≡ slice_cmp nat_cmp one two
turned one two = sym (nat_list_cmp_total.antisymm one two)
