-- Questions that are written: a name, and four octets after it.
use Rattle.std.proofs.Common.{true, false, ◌≡◌, ◌≤◌, ◌+◌, ℕ, List, ◌++◌, length, refl, ◌∙◌, ap, arith, length-append}
use Rattle.std.specs.Prelude.{Option}
use Rattle.dns_octets.specs.Builder.{Known, IsPast}
use Rattle.dns_name.specs.Spelling.{Spelling, name_text, known_after}
use Rattle.dns_name.specs.Page.{write}
use Rattle.dns_name.specs.Page.Parts.{End, Octets, Named}
use Rattle.dns_name.specs.RecordData.{page_of}
use Rattle.dns_name.proofs.Growth.{IsPast-more, IsPast-from}
use Rattle.dns_name.proofs.WrittenParts.{page_same}
use Rattle.dns_wire.specs.Skip.{Skips}
use Rattle.dns_wire.proofs.Skipping.{skips-one}
use Rattle.dns_label.specs.Spelled.{DecodesName}
use Rattle.dns_label.proofs.Spelling.{reads_one}
use Rattle.dns_header.specs.Question.{Question, ReadsQuestion, SkipsQuestion}

-- the octets of a name with four after it
pub written : (s : Spelling) (old : List ℕ) (known : Known) (name : List (List ℕ)) (four octets mid new : List ℕ) (more most : Known)
    → mid ≡ old ++ name_text s known (length old) name → more ≡ known_after s known (length old) name → new ≡ mid ++ octets → octets ≡ four → most ≡ more
    → page_of new most ≡ write s (page_of old known) (Named name (Octets four End))
unfolding write
written s old known name four octets mid new more most named remembered added is same =
    page_same (added ∙ ap (λ l. mid ++ l) is ∙ ap (λ l. l ++ four) named) (same ∙ remembered)

-- a bound that is already past after the name
pub past_name : (bound : Option ℕ) (s : Spelling) (old : List ℕ) (known : Known) (name : List (List ℕ)) (four : List ℕ)
    → IsPast bound (length (old ++ name_text s known (length old) name))
    → IsPast bound (length (write s (page_of old known) (Named name (Octets four End))).octets)
unfolding write
past_name bound s old known name four past =
    IsPast-more bound _ _ (omega (arith, length-append (old ++ name_text s known (length old) name) four)) past

pub past_four : (bound other : Option ℕ) (s : Spelling) (old : List ℕ) (known : Known) (name : List (List ℕ)) (four octets mid : List ℕ)
    → other ≡ bound → mid ≡ old ++ name_text s known (length old) name → octets ≡ four → IsPast other (length (mid ++ octets))
    → IsPast bound (length (write s (page_of old known) (Named name (Octets four End))).octets)
unfolding write
past_four bound other s old known name four octets mid same named is past =
    IsPast-from bound other _ _ same (omega (arith, ap (λ l. length (l ++ four)) named, ap (λ l. length (mid ++ l)) is)) past

-- a question is read only with the name at its place
pub no_question : (message text : List ℕ) (place here there : ℕ) (name : List (List ℕ)) → DecodesName message place name here → text ≡ message
    → there ≤ here + 2 → (there + 2 ≤ length text → false ≡ true) → (q : Question) (next : ℕ) → ReadsQuestion message place q next → ⊥
no_question message text place here there name reads same near short q next asks =
    let ends = (reads_one asks.name reads).1 in
    let no = short (omega (arith, ends, near, asks.whole, ap (length {A = ℕ}) same)) in cc

pub nothing_to_skip : (message text : List ℕ) (place here : ℕ) → Skips message 254 place here → text ≡ message
    → (here + 4 ≤ length text → false ≡ true) → (next : ℕ) → SkipsQuestion message place next → ⊥
nothing_to_skip message text place here skips same short next asks =
    let ends = skips-one asks.name skips refl in
    let no = short (omega (arith, ends, asks.whole, ap (length {A = ℕ}) same)) in cc
