-- Sections are dropped: the page is cut back to their start, and their counts are zero.
use Rattle.std.proofs.Common.{◌≡◌, ◌<◌, ◌≤◌, ◌+◌, ◌-◌, ◌*◌, ℕ, List, [], ◌++◌, length, take, drop, refl, sym, ◌∙◌, ap, subst, arith}
use Rattle.std.specs.Prelude.{replicate, slice_index}
use Rattle.dns_octets.specs.Builder.{Known, StandsBetween, before}
use Rattle.dns_name.specs.Spelling.{Spelling}
use Rattle.dns_name.specs.Page.{Page, Parts}
use Rattle.dns_name.specs.RecordData.{page_of}
use Rattle.dns_name.specs.Remembered.{IsKnown, patched}
use Rattle.dns_name.proofs.Known.{each_known}
use Rattle.dns_name.proofs.Spelled.{StopsBefore}
use Rattle.dns_name.proofs.Growth.{take_grown, before_grown}
use Rattle.dns_name.proofs.WrittenParts.{page_same}
use Rattle.dns_builder.specs.Built.{Built, Draft, IsDraftOf, count_at, header_octets, write_all}
use Rattle.dns_builder.specs.Steps.{going_to, sections_to}
use Rattle.dns_builder.proofs.Grown.{IsGrown, all_grows}
use Rattle.dns_builder.proofs.Counts.{patched_zero}
use Rattle.dns_builder.proofs.Sections.{items_of, write_all-append, count_to, few_to, items_back, starts_back, start_back}
use Rattle.dns_builder.proofs.DraftPages.{recounted, page_rewritten, starts_headed, length-begun}

-- nothing that is remembered stops after the page, if nothing was remembered before
stops_within : {page grown : Page} → page.known ≡ [] → IsGrown page grown → StopsBefore (length grown.octets) grown.known
stops_within {page} {grown} none grows standing is =
    (each_known (StandsBetween (length page.octets) (length grown.octets)) grows.added grows.between standing
    (subst (IsKnown standing) (grows.known ∙ ap (λ (k : Known). k ++ grows.added) none) is)).ends

-- a page that has grown is cut back
cut_back : {page grown : Page} → StopsBefore (length page.octets) page.known → IsGrown page grown
    → page_of (take (length page.octets) grown.octets) (before (length page.octets) grown.known) ≡ page
cut_back within grows = page_same (take_grown grows) (before_grown within grows)

pub went_back : {s : Spelling} {built : Built} {draft : Draft} (count : ℕ) (new : Draft) → IsDraftOf s built draft
    → count < length draft.starts → count ≤ 4
    → new.page ≡ page_of (patched (take (slice_index draft.starts count) draft.page.octets) (4 + 2 * count) (replicate (8 - 2 * count) 0))
    (before (slice_index draft.starts count) draft.page.known)
    → new.starts ≡ take count draft.starts
    → IsDraftOf s (going_to count built) new
went_back {s} {built} {draft} count new is begun few page starts = record {
  header = is.header;
  few = few_to count built.sections is.few;
  page = page ∙ ap (λ n. page_of (change (take n draft.page.octets)) (before n draft.page.known)) start
      ∙ ap (λ (p : Page). page_of (change p.octets) p.known) (cut_back (stops_within refl (all_grows s front items)) grows)
      ∙ page_rewritten s built (going_to count built) kept change is.header is.header refl changes;
  starts = starts ∙ ap (take count) is.starts ∙ sym (starts_back s front count built.sections (omega (arith, within)))
      ∙ sym (starts_headed s built (going_to count built) (sections_to count built.sections) is.header is.header);
}
  where
    within : count < length built.sections
    within = omega (arith, length-begun is)

    front : Page
    front = page_of (header_octets built) []

    items : List Parts
    items = items_of (sections_to count built.sections)

    kept : Page
    kept = write_all s front items

    change : List ℕ → List ℕ
    change octets = patched octets (4 + 2 * count) (replicate (8 - 2 * count) 0)

    start : slice_index draft.starts count ≡ length kept.octets
    start = ap (λ l. slice_index l count) is.starts ∙ start_back s front count built.sections within

    whole : draft.page ≡ write_all s kept (items_of (drop count built.sections))
    whole = is.page ∙ ap (write_all s front) (items_back count built.sections (omega (arith, within))) ∙ write_all-append s front items _

    grows : IsGrown kept draft.page
    grows = rw whole (all_grows s kept (items_of (drop count built.sections)))

    changes : (rest : List ℕ) → change (header_octets built ++ rest) ≡ header_octets (going_to count built) ++ rest
    changes rest =
        recounted built.header rest built.sections (sections_to count built.sections) _ change
        (patched_zero built.header rest (λ k. count_at k built.sections) count is.header few) (count_to count built.sections)
