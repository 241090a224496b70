-- A record header is written, and then the data.
use Rattle.std.proofs.Common.{◌≡◌, ℕ, List, ◌++◌, length, refl, ◌∙◌, ap, arith, length-append}
use Rattle.std.specs.Prelude.{Result, Ok, Err, Option, OnOk, OnErr}
use Rattle.dns_octets.specs.Builder.{Known, GrowsTo, IsPast}
use Rattle.dns_name.specs.Spelling.{Spelling, name_text, known_after}
use Rattle.dns_name.specs.Page.{Page, Parts, write}
use Rattle.dns_name.specs.Page.Parts.{End, Octets, Named, Counted}
use Rattle.dns_name.specs.RecordData.{page_of}
use Rattle.dns_octets.proofs.Grows.{GrowsTo-append, GrowsTo-same}
use Rattle.dns_name.proofs.Growth.{IsPast-more, IsPast-from}
use Rattle.dns_name.proofs.WrittenParts.{page_same, write-long}

pub on_ok : {T E P Q : Type 0} (result : Result T E) → (P → Q) → OnOk result P → OnOk result Q
on_ok (Ok value) then fact = then fact
on_ok (Err error) then fact = _

-- a name and octets after it
pub front-is : (s : Spelling) (octets : List ℕ) (known : Known) (name : List (List ℕ)) (more : List ℕ) {middle new : List ℕ} {known_middle known_new : Known}
    → middle ≡ octets ++ name_text s known (length octets) name → known_middle ≡ known_after s known (length octets) name
    → new ≡ middle ++ more → known_new ≡ known_middle
    → page_of new known_new ≡ write s (page_of octets known) (Named name (Octets more End))
unfolding write
front-is s octets known name more middle_is known_is new_is same =
    page_same (new_is ∙ ap (λ l. l ++ more) middle_is) (same ∙ known_is)

-- the name alone is no longer
pub past_name : (s : Spelling) (octets : List ℕ) (known : Known) (name : List (List ℕ)) (more : List ℕ) (bound : Option ℕ)
    → IsPast bound (length (octets ++ name_text s known (length octets) name))
    → IsPast bound (length (write s (page_of octets known) (Named name (Octets more End))).octets)
unfolding write
past_name s octets known name more bound =
    IsPast-more bound _ _ (omega (arith, length-append (octets ++ name_text s known (length octets) name) more))

-- the data after that
pub whole-is : (s : Spelling) (page middle new : Page) (name : List (List ℕ)) (more : List ℕ) (data' : Parts)
    → middle ≡ write s page (Named name (Octets more End)) → new ≡ write s middle (Counted data' End)
    → new ≡ write s page (Named name (Octets more (Counted data' End)))
unfolding write
whole-is s page middle new name more data' middle_is new_is = new_is ∙ ap (λ p. write s p (Counted data' End)) middle_is

pub past_front : (s : Spelling) (page : Page) (name : List (List ℕ)) (more : List ℕ) (data' : Parts) (bound : Option ℕ)
    → IsPast bound (length (write s page (Named name (Octets more End))).octets)
    → IsPast bound (length (write s page (Named name (Octets more (Counted data' End)))).octets)
past_front s page name more data' bound =
    let middle : Page = write s page (Named name (Octets more End)) in
    IsPast-more bound _ _
    (omega (arith, write-long s middle (Counted data' End), ap (λ (p : Page). length p.octets) (whole-is s page middle _ name more data' refl refl)))

pub past_whole : (s : Spelling) (page middle : Page) (name : List (List ℕ)) (more : List ℕ) (data' : Parts) (bound other : Option ℕ)
    → middle ≡ write s page (Named name (Octets more End)) → other ≡ bound
    → IsPast other (length (write s middle (Counted data' End)).octets)
    → IsPast bound (length (write s page (Named name (Octets more (Counted data' End)))).octets)
past_whole s page middle name more data' bound other is same =
    IsPast-from bound other _ _ same (omega (arith, ap (λ (p : Page). length p.octets) (whole-is s page middle _ name more data' is refl)))

pub past_slice : (s : Spelling) (octets : List ℕ) (known : Known) (name : List (List ℕ)) (more : List ℕ) {middle : List ℕ} (bound other : Option ℕ)
    → middle ≡ octets ++ name_text s known (length octets) name → other ≡ bound → IsPast other (length (middle ++ more))
    → IsPast bound (length (write s (page_of octets known) (Named name (Octets more End))).octets)
unfolding write
past_slice s octets known name more bound other is same = IsPast-from bound other _ _ same (omega (arith, ap (λ l. length (l ++ more)) is))

-- octets are appended, all or none
pub grows-all : {T E : Type 0} (result : Result T E) (old new more : List ℕ) (known same : Known) → OnOk result (new ≡ old ++ more)
    → OnErr result (new ≡ old) → same ≡ known → GrowsTo old known new same
grows-all (Ok value) old new more known same ok err is = GrowsTo-append _ _ _ _ _ ok is
grows-all (Err error) old new more known same ok err is = GrowsTo-same _ _ _ _ err is
