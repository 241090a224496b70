-- The page of a message that is built: its header, and its items as they are written after any header.
use Rattle.std.proofs.Common.{◌≡◌, ◌≤◌, ◌<◌, ◌+◌, ◌*◌, ℕ, List, [], ◌++◌, length, take, drop, sym, ◌∙◌, ap, arith, length-append, length-drop, append_assoc}
use Rattle.std.specs.Int.{from_be_bytes, w16}
use Rattle.std.proofs.lemmas.List.{take-append-le, drop-append-le}
use Rattle.dns_octets.specs.Builder.{Known, GrowsTo}
use Rattle.dns_name.specs.Spelling.{Spelling}
use Rattle.dns_name.specs.Page.{Page, Parts, write}
use Rattle.dns_name.specs.RecordData.{page_of}
use Rattle.dns_octets.specs.Numbers.{number_at}
use Rattle.dns_builder.specs.Built.{Built, Draft, IsDraftOf, count_at, counts_octets, header_octets, built_page, write_all, starts_behind}
use Rattle.dns_builder.specs.Steps.{counted_at}
use Rattle.dns_builder.proofs.SameBehind.{SameBehind, same_all, same_starts, same_none}
use Rattle.dns_builder.proofs.Grown.{IsGrown, write_grows, all_grows}
use Rattle.dns_builder.proofs.Counts.{four_counts, number_of_count}
use Rattle.dns_builder.proofs.Sections.{items_of, length-starts, count_few}

length-header : (built : Built) → length built.header ≡ 4 → length (header_octets built) ≡ 12
length-header built four = omega (arith, length-append built.header (counts_octets built.sections))

same_counts : (sections : List (List Parts)) (count : ℕ → ℕ) → ((number : ℕ) → count_at number sections ≡ count number)
    → counts_octets sections ≡ four_counts count
same_counts sections count same = λ i. four_counts (λ number. same number i)

-- a header with other counts
pub recounted : (header rest : List ℕ) (sections others : List (List Parts)) (count : ℕ → ℕ) (change : List ℕ → List ℕ)
    → change (header ++ (counts_octets sections ++ rest)) ≡ header ++ (four_counts count ++ rest)
    → ((number : ℕ) → count_at number others ≡ count number)
    → change ((header ++ counts_octets sections) ++ rest) ≡ (header ++ counts_octets others) ++ rest
recounted header rest sections others count change changed same =
    ap change (append_assoc header (counts_octets sections) rest) ∙ changed
    ∙ ap (λ l. header ++ (l ++ rest)) (sym (same_counts others count same)) ∙ sym (append_assoc header (counts_octets others) rest)

-- a page with the items of `other` after the header of `built`, when a change turns one header into the other
pub page_rewritten : (s : Spelling) (built other : Built) (page : Page) (change : List ℕ → List ℕ)
    → length built.header ≡ 4 → length other.header ≡ 4
    → page ≡ write_all s (page_of (header_octets built) []) (items_of other.sections)
    → ((rest : List ℕ) → change (header_octets built ++ rest) ≡ header_octets other ++ rest)
    → page_of (change page.octets) page.known ≡ built_page s other
page_rewritten s built other page change four other_four is changes =
    ap (λ (p : Page). page_of (change p.octets) p.known) is
    ∙ λ i. page_of ((ap change same.octets ∙ changes same.tail ∙ sym same.twin_octets) i) (sym same.known i)
  where
    same : SameBehind (header_octets built) (header_octets other) (write_all s (page_of (header_octets built) []) (items_of other.sections)) (built_page s other)
    same = same_all s (items_of other.sections)
        (length-header built four ∙ sym (length-header other other_four))
        (same_none (header_octets built) (header_octets other))

-- sections begin at the same places after another header
pub starts_headed : (s : Spelling) (built other : Built) (sections : List (List Parts)) → length built.header ≡ 4 → length other.header ≡ 4
    → starts_behind s (page_of (header_octets other) []) sections ≡ starts_behind s (page_of (header_octets built) []) sections
starts_headed s built other sections four other_four =
    same_starts s sections (length-header built four ∙ sym (length-header other other_four)) (same_none (header_octets built) (header_octets other))

-- the number of sections that were started
pub length-begun : {s : Spelling} {built : Built} {draft : Draft} → IsDraftOf s built draft → length draft.starts ≡ length built.sections
length-begun {s} {built} is =
    ap (length {A = ℕ}) is.starts ∙ length-starts s (page_of (header_octets built) []) built.sections

-- what follows the header
pub page_behind : {s : Spelling} {built : Built} {draft : Draft} → IsDraftOf s built draft → IsGrown (page_of (header_octets built) []) draft.page
page_behind {s} {built} is =
    rw is.page (all_grows s (page_of (header_octets built) []) (items_of built.sections))

-- the counts are those of the sections
pub counted_is : {s : Spelling} {built : Built} {draft : Draft} (number : ℕ) → IsDraftOf s built draft → number < 4
    → counted_at number draft ≡ count_at number built.sections
counted_is {s} {built} {draft} number is few =
    let grows = page_behind is in
    ap (λ l. number_at l (4 + 2 * number)) (grows.octets ∙ append_assoc built.header (counts_octets built.sections) grows.tail)
    ∙ number_of_count built.header grows.tail (λ k. count_at k built.sections) number is.header few (count_few built.sections number is.few)

-- and stay so if more is written after them
pub number_grown : {old new : List ℕ} {known more : Known} (place : ℕ) → GrowsTo old known new more → place + 2 ≤ length old
    → number_at new place ≡ number_at old place
number_grown {old} place grows within =
    ap (from_be_bytes w16)
    (ap (λ l. take 2 (drop place l)) grows.octets ∙ ap (take 2) (drop-append-le place old grows.tail (omega arith))
    ∙ take-append-le 2 (drop place old) grows.tail (omega (arith, length-drop place old)))

pub counted_written : {s : Spelling} {built : Built} {draft : Draft} (number : ℕ) (item : Parts) → IsDraftOf s built draft → number < 4
    → number_at (write s draft.page item).octets (4 + 2 * number) ≡ counted_at number draft
counted_written {s} {built} {draft} number item is few =
    number_grown (4 + 2 * number) (write_grows s draft.page item)
    (let grows = page_behind is in
    omega (arith, ap (length {A = ℕ}) grows.octets, length-append (header_octets built) grows.tail, length-header built is.header))
