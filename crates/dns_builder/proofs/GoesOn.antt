-- Empty sections are started.
use Rattle.std.proofs.Common.{◌≡◌, ◌≤◌, ◌+◌, ◌-◌, ℕ, [], ◌++◌, length, sym, ◌∙◌, arith}
use Rattle.std.specs.Prelude.{replicate}
use Rattle.dns_name.specs.Spelling.{Spelling}
use Rattle.dns_name.specs.RecordData.{page_of}
use Rattle.dns_builder.specs.Built.{Built, Draft, IsDraftOf, header_octets, built_page, write_all, starts_behind}
use Rattle.dns_builder.specs.Steps.{going_to, sections_to}
use Rattle.dns_builder.proofs.Counts.{four_counts}
use Rattle.dns_builder.proofs.Sections.{few_to, items_on, count_on, starts_on}
use Rattle.dns_builder.proofs.DraftPages.{starts_headed, length-begun}

pub went_on : {s : Spelling} {built : Built} {draft : Draft} (count : ℕ) (new : Draft) → IsDraftOf s built draft
    → length draft.starts ≤ count → new.page ≡ draft.page
    → new.starts ≡ draft.starts ++ replicate (count - length draft.starts) (length draft.page.octets)
    → IsDraftOf s (going_to count built) new
went_on {s} {built} {draft} count new is begun page starts = record {
  header = is.header;
  few = few_to count built.sections is.few;
  page = page ∙ is.page ∙ sym same;
  starts = starts ∙ more ∙ sym (starts_on s (page_of (header_octets built) []) count built.sections within)
      ∙ sym (starts_headed s built (going_to count built) (sections_to count built.sections) is.header is.header);
}
  where
    within : length built.sections ≤ count
    within = omega (arith, length-begun is)

    same : built_page s (going_to count built) ≡ built_page s built
    same = λ i. write_all s (page_of (built.header ++ four_counts (λ k. count_on count built.sections k within i)) [])
        (items_on count built.sections within i)

    more : draft.starts ++ replicate (count - length draft.starts) (length draft.page.octets)
        ≡ starts_behind s (page_of (header_octets built) []) built.sections
        ++ replicate (count - length built.sections) (length (built_page s built).octets)
    more = λ i. is.starts i ++ replicate (count - length-begun is i) (length (is.page i).octets)
