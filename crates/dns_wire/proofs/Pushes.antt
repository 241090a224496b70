-- What is appended to a name while it is built.
use Rattle.std.proofs.Common.{◌≡◌, ℕ, ◌+◌, ◌<◌, ◌≤◌, true, false, List, [], ◌∷◌, ◌++◌, length, set, refl, sym, ◌∙◌, ap, subst, arith, append-nil, length-append, rules}
use borrow.Author.Tests.{tests}
use Rattle.std.specs.Prelude.{◌==◌, Option, Some, None, Result, Ok, Err, unwrap_or}
use Rattle.std.specs.List.{AllByRecursion}
use Rattle.dns_label.specs.Name.{IsLabel, labels_wire}
use Rattle.dns_label.specs.Composed.{label_wire}
use Rattle.dns_wire.specs.Built.{Built, StandsFor, labels_built, built_len, open_len, with_octets, with_label}
use Rattle.dns_wire.specs.declared.push_error.PushError.{PushError}
use Rattle.dns_wire.specs.declared.push_error.PushError.TheVariants.{LongLabel, LongName, ShortBuf}
use Rattle.dns_wire.proofs.Wire.{length-labels_wire_more}
use Rattle.dns_wire.proofs.Builds.{stands_len, stands_label, stands_ended, stands_begun, stands_more, each_back}

pub none_of : (n : ℕ) → (n == 0) ≡ true → n ≡ 0
none_of n is = search (rules, tests)

pub some_of : (n : ℕ) → (n == 0) ≡ false → 0 < n
some_of n is = search (rules, tests)

pub no_octets : (octets : List ℕ) → length octets ≡ 0 → octets ≡ []
no_octets [] none = refl
no_octets (octet ∷ octets) none = absurd (omega arith)

-- the open label has at most 63 octets
pub open_short : (octets : List ℕ) (head : Option ℕ) (finished : List (List ℕ)) (begun : Option (List ℕ))
    → StandsFor octets head (record { finished = finished; begun = begun }) → length (unwrap_or begun []) ≤ 63
open_short octets head finished None stands = omega arith
open_short octets head finished (Some text) stands = (each_back finished (text ∷ []) stands.each).0.short

-- a whole label
pub stands_labelled : (octets new : List ℕ) (head : Option ℕ) (built : Built) (label : List ℕ) → StandsFor octets head built
    → new ≡ octets ++ label_wire label → 0 < length label → length label ≤ 63 → length octets + 1 + length label ≤ 254
    → StandsFor new None (with_label built label)
stands_labelled octets new head built [] stands is some short few = absurd (omega arith)
stands_labelled octets new head built (octet ∷ label) stands is some short few =
    let P : List ℕ → Type 0 = λ o. StandsFor o None (with_label built (octet ∷ label)) in
    subst P (sym is) (stands_label octets head built (octet ∷ label) stands (record { some = some; short = short }) few)

pub stands_unlabelled : (octets : List ℕ) (head : Option ℕ) (built : Built) (label : List ℕ) → StandsFor octets head built → label ≡ []
    → StandsFor octets None (with_label built label)
stands_unlabelled octets head built label stands none =
    let P : List ℕ → Type 0 = λ l. StandsFor octets None (with_label built l) in
    subst P (sym none) (stands_ended octets head built stands)

pub labelled_short : (octets : List ℕ) (built : Built) (label : List ℕ) → StandsFor octets None (with_label built label) → length label ≤ 63
labelled_short octets built [] stands = omega arith
labelled_short octets built (octet ∷ label) stands =
    let P : List (List ℕ) → Type 0 = λ l. AllByRecursion IsLabel l in
    let all = subst P (append-nil (labels_built built ++ (octet ∷ label) ∷ [])) stands.each in
    (each_back (labels_built built) ((octet ∷ label) ∷ []) all).0.short

-- the two length errors, for sizes that are equal to known ones
pub name_fault : {A : Type 0} (size known : ℕ) → size ≡ known → (A → 254 < known) × (254 < known → A) → (A → 254 < size) × (254 < size → A)
name_fault size known is fault =
    let P : ℕ → Type 0 = λ n. 254 < n in
    (λ a. subst P (sym is) (fault.0 a), λ over. fault.1 (subst P is over))

pub label_fault : {A : Type 0} (size known len count : ℕ) → size ≡ known → len ≡ count → (A → (known ≤ 254) × (63 < count)) × ((known ≤ 254) × (63 < count) → A)
    → (A → (size ≤ 254) × (63 < len)) × ((size ≤ 254) × (63 < len) → A)
label_fault {A} size known len count is same fault = (on, back)
  where
    on : A → (size ≤ 254) × (63 < len)
    on a = let told = fault.0 a in (omega (arith, is, told.0), omega (arith, same, told.1))

    back : (size ≤ 254) × (63 < len) → A
    back told = fault.1 (omega (arith, is, told.0), omega (arith, same, told.1))

-- neither of them
pub no_name_fault : {T : Type 0} (result : Result T PushError) (size : ℕ) → (result ≡ Err LongName → ⊥) → size ≤ 254
    → (result ≡ Err LongName → 254 < size) × (254 < size → result ≡ Err LongName)
no_name_fault result size none few = (λ is. absurd (none is), λ over. absurd (omega arith))

pub no_label_fault : {T : Type 0} (result : Result T PushError) (size len : ℕ) → (result ≡ Err LongLabel → ⊥) → (size ≤ 254 → len ≤ 63)
    → (result ≡ Err LongLabel → (size ≤ 254) × (63 < len)) × ((size ≤ 254) × (63 < len) → result ≡ Err LongLabel)
no_label_fault result size len none few = (λ is. absurd (none is), λ over. absurd (omega (arith, over.0, over.1, few over.0)))

-- octets appended to an open label
pub record OpenMore (octets : List ℕ) (place : ℕ) (built : Built) (more : List ℕ) : Type 0 where
  pub size : built_len (with_octets built more) ≡ length octets + length more
  pub count : place + 1 + open_len built ≡ length octets
  pub stands : (count : ℕ) → count ≡ open_len built + length more → count ≤ 63 → length octets + length more ≤ 254
      → StandsFor (set (octets ++ more) place count) (Some place) (with_octets built more)

open_some : (octets : List ℕ) (place : ℕ) (finished : List (List ℕ)) (begun : Option (List ℕ)) (more : List ℕ)
    → StandsFor octets (Some place) (record { finished = finished; begun = begun }) → 0 < length more
    → OpenMore octets place (record { finished = finished; begun = begun }) more
open_some octets place finished None more stands some = let no = stands.place in cc
open_some octets place finished (Some text) [] stands some = absurd (omega arith)
open_some octets place finished (Some text) (octet ∷ more) stands some =
    let at : place ≡ length (labels_wire finished) = let e = stands.place in cc in
    let size = length-labels_wire_more finished text in
    let grown = length-labels_wire_more finished (text ++ octet ∷ more) in
    let long = stands_len octets (Some place) (record { finished = finished; begun = Some text }) stands in
    let joined = length-append text (octet ∷ more) in
    record {
      size = omega (arith, grown, size, long, joined);
      count = omega (arith, size, long, at);
      stands = λ count is short few. stands_more octets place finished text (octet ∷ more) count stands is short few;
    }

pub open_more : (octets : List ℕ) (head : Option ℕ) (place : ℕ) (built : Built) (more : List ℕ) → StandsFor octets head built → head ≡ Some place
    → 0 < length more → OpenMore octets place built more
open_more octets head place built more stands is some =
    let P : Option ℕ → Type 0 = λ h. StandsFor octets h built in
    open_some octets place built.finished built.begun more (subst P is stands) some

-- octets that begin a label
pub record OpenNew (octets : List ℕ) (built : Built) (more : List ℕ) : Type 0 where
  pub size : built_len (with_octets built more) ≡ length octets + 1 + length more
  pub none : open_len built ≡ 0
  pub stands : (new : List ℕ) (len : ℕ) → new ≡ octets ++ label_wire more → len ≡ length octets → length more ≤ 63 → length octets + 1 + length more ≤ 254
      → StandsFor new (Some len) (with_octets built more)

open_none : (octets : List ℕ) (finished : List (List ℕ)) (begun : Option (List ℕ)) (more : List ℕ)
    → StandsFor octets None (record { finished = finished; begun = begun }) → 0 < length more
    → OpenNew octets (record { finished = finished; begun = begun }) more
open_none octets finished (Some text) more stands some = let no = stands.place in cc
open_none octets finished None [] stands some = absurd (omega arith)
open_none octets finished None (octet ∷ more) stands some =
    let grown = length-labels_wire_more finished (octet ∷ more) in
    let whole : octets ≡ labels_wire finished = stands.whole ∙ ap labels_wire (append-nil finished) in
    record {
      size = omega (arith, grown, ap (length {A = ℕ}) whole);
      none = refl;
      stands = λ new len is at short few.
          let P : List ℕ → Type 0 = λ o. StandsFor o (Some len) (record { finished = finished; begun = Some (octet ∷ more) }) in
          subst P (sym is) (stands_begun octets finished (octet ∷ more) len stands (record { some = some; short = short }) at few);
    }

pub open_new : (octets : List ℕ) (head : Option ℕ) (built : Built) (more : List ℕ) → StandsFor octets head built → head ≡ None
    → 0 < length more → OpenNew octets built more
open_new octets head built more stands is some =
    let P : Option ℕ → Type 0 = λ h. StandsFor octets h built in
    open_none octets built.finished built.begun more (subst P is stands) some

-- a value is no error
pub ok_no_error : {T : Type 0} (result : Result T PushError) (value : T) (error : PushError) → result ≡ Ok value → result ≡ Err error → ⊥
ok_no_error result value error is are = let no : Ok value ≡ Err error = sym is ∙ are in cc

pub other_error : {T : Type 0} (one other : PushError) → (one ≡ other → ⊥) → (result : Result T PushError) → result ≡ Err one → result ≡ Err other → ⊥
other_error {T} one other none result is are = none (same (sym is ∙ are))
  where
    same : (let P : Result T PushError = Err one in P) ≡ Err other → one ≡ other
    same e = cc

pub name_no_label : LongName ≡ LongLabel → ⊥
name_no_label is = cc

pub short_no_label : ShortBuf ≡ LongLabel → ⊥
short_no_label is = cc

pub short_no_name : ShortBuf ≡ LongName → ⊥
short_no_name is = cc

-- octets that are written to the open label
pub stands_put : (octets grown new : List ℕ) (head : Option ℕ) (place : ℕ) (built : Built) (more : List ℕ) (count : ℕ) → StandsFor octets head built
    → head ≡ Some place → 0 < length more → grown ≡ octets ++ more → new ≡ set grown place count
    → count ≡ open_len built + length more → count ≤ 63 → length octets + length more ≤ 254 → StandsFor new head (with_octets built more)
stands_put octets grown new head place built more count stands is some grows sets long short few =
    let open_ = open_more octets head place built more stands is some in
    let P : Option ℕ → Type 0 = λ h. StandsFor new h (with_octets built more) in
    let Q : List ℕ → Type 0 = λ o. StandsFor o (Some place) (with_octets built more) in
    subst P (sym is) (subst Q (sym (sets ∙ ap (λ o. set o place count) grows)) (open_.stands count long short few))
