-- One item more in the last section that was started.
use Rattle.std.proofs.Common.{◌≡◌, ◌<◌, ◌+◌, ◌*◌, ℕ, suc, List, [], ◌∷◌, ◌++◌, length, refl, sym, ◌∙◌, ap, subst, arith}
use Rattle.std.specs.Int.{to_be_bytes, w16}
use Rattle.dns_name.specs.Spelling.{Spelling}
use Rattle.dns_name.specs.Page.{Page, Parts, write}
use Rattle.dns_name.specs.RecordData.{page_of}
use Rattle.dns_name.specs.Remembered.{patched}
use Rattle.dns_octets.specs.Numbers.{number_at}
use Rattle.dns_builder.specs.Built.{Built, Draft, IsDraftOf, count_at, counts_octets, header_octets, write_all, starts_behind}
use Rattle.dns_builder.specs.Steps.{with_item, onto_last, counted_at}
use Rattle.dns_builder.proofs.Counts.{patched_count}
use Rattle.dns_builder.proofs.Sections.{AreFew, items_of, write_all-append, items_onto, count_onto, starts_onto, few_onto}
use Rattle.dns_builder.proofs.DraftPages.{recounted, page_rewritten, starts_headed, length-begun, counted_is, counted_written}

-- a page with a count overwritten
abbrev pub counted_page : Page → ℕ → ℕ → Page
counted_page page number count = page_of (patched page.octets (4 + 2 * number) (to_be_bytes w16 count)) page.known

-- the first section, apart from those after it
onto : {s : Spelling} (built : Built) (items : List Parts) (sections : List (List Parts)) (draft : Draft) (item : Parts) (new : Draft)
    → built.sections ≡ items ∷ sections → IsDraftOf s built draft → length sections < 4
    → count_at (length sections) (items ∷ sections) < 65535
    → new.page ≡ counted_page (write s draft.page item) (length sections) (suc (count_at (length sections) (items ∷ sections)))
    → new.starts ≡ draft.starts
    → IsDraftOf s (record { header = built.header; sections = onto_last items sections item }) new
onto {s} built items sections draft item new are is few room page starts = record {
  header = is.header;
  few = few_onto items sections item (subst AreFew are is.few) room;
  page = page ∙ page_rewritten s built pushed (write s draft.page item) change is.header is.header written changes;
  starts = starts ∙ is.starts ∙ ap (starts_behind s (page_of (header_octets built) [])) are
      ∙ sym (starts_onto s (page_of (header_octets built) []) items sections item)
      ∙ sym (starts_headed s built pushed (onto_last items sections item) is.header is.header);
}
  where
    pushed : Built
    pushed = record { header = built.header; sections = onto_last items sections item }

    more : ℕ
    more = suc (count_at (length sections) (items ∷ sections))

    change : List ℕ → List ℕ
    change octets = patched octets (4 + 2 * length sections) (to_be_bytes w16 more)

    written : write s draft.page item ≡ write_all s (page_of (header_octets built) []) (items_of (onto_last items sections item))
    written = ap (λ (p : Page). write s p item) (is.page ∙ ap (λ (l : List (List Parts)). write_all s (page_of (header_octets built) []) (items_of l)) are)
        ∙ sym (write_all-append s (page_of (header_octets built) []) (items_of (items ∷ sections)) (item ∷ []))
        ∙ ap (write_all s (page_of (header_octets built) [])) (sym (items_onto items sections item))

    changes : (rest : List ℕ) → change (header_octets built ++ rest) ≡ header_octets pushed ++ rest
    changes rest =
        ap (λ (l : List (List Parts)). change ((built.header ++ counts_octets l) ++ rest)) are
        ∙ recounted built.header rest (items ∷ sections) (onto_last items sections item) _ change
        (patched_count built.header rest (λ k. count_at k (items ∷ sections)) (length sections) more is.header few)
        (count_onto items sections item)

-- an item is written, and its section counts one more
pub pushed : {s : Spelling} {built : Built} {draft : Draft} (number count : ℕ) (item : Parts) (new : Draft) → IsDraftOf s built draft
    → length draft.starts ≡ number + 1 → number < 4 → counted_at number draft < 65535 → count ≡ counted_at number draft + 1
    → new.page ≡ counted_page (write s draft.page item) number count → new.starts ≡ draft.starts
    → IsDraftOf s (with_item built item) new
pushed {s} {built} {draft} number count item new is begun few room more page starts = by_sections built.sections refl
  where
    by_sections : (sections : List (List Parts)) → built.sections ≡ sections → IsDraftOf s (with_item built item) new
    by_sections [] are = absurd (omega (arith, length-begun is, ap (length {A = List Parts}) are))
    by_sections (items ∷ sections) are =
        let last : number ≡ length sections = omega (arith, length-begun is, ap (length {A = List Parts}) are) in
        let counted : counted_at number draft ≡ count_at (length sections) (items ∷ sections) =
        counted_is number is few ∙ ap (count_at number) are ∙ ap (λ n. count_at n (items ∷ sections)) last in
        let counts : count ≡ suc (count_at (length sections) (items ∷ sections)) = omega arith in
        subst (λ l. IsDraftOf s (with_item (record { header = built.header; sections = l }) item) new) (sym are)
        (onto built items sections draft item new are is (omega arith) (omega arith)
        (page ∙ ap (λ n. counted_page (write s draft.page item) n count) last
        ∙ ap (λ n. counted_page (write s draft.page item) (length sections) n) counts) starts)

-- the same if the count is read after the item is written
pub pushed_on : {s : Spelling} {built : Built} {draft : Draft} (number : ℕ) (item : Parts) (written new : Draft) → IsDraftOf s built draft
    → written.page ≡ write s draft.page item → written.starts ≡ draft.starts
    → length draft.starts ≡ number + 1 → number < 4 → counted_at number written < 65535
    → new.page ≡ counted_page written.page number (counted_at number written + 1) → new.starts ≡ written.starts
    → IsDraftOf s (with_item built item) new
pushed_on {s} {built} {draft} number item written new is item_written same begun few room page starts =
    pushed number (counted_at number written + 1) item new is begun few (subst (λ n. n < 65535) counted room) (ap (λ n. n + 1) counted)
    (page ∙ ap (λ (p : Page). counted_page p number (counted_at number written + 1)) item_written) (starts ∙ same)
  where
    counted : counted_at number written ≡ counted_at number draft
    counted = ap (λ (p : Page). number_at p.octets (4 + 2 * number)) item_written ∙ counted_written number item is few
