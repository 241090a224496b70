-- Another header instead of the first four octets.
use Rattle.std.proofs.Common.{◌≡◌, ℕ, List, ◌++◌, length, sym, ◌∙◌, ap, append_assoc}
use Rattle.dns_name.specs.Spelling.{Spelling}
use Rattle.dns_name.specs.RecordData.{page_of}
use Rattle.dns_name.specs.Remembered.{patched}
use Rattle.dns_builder.specs.Built.{Built, Draft, IsDraftOf, counts_octets, header_octets}
use Rattle.dns_builder.specs.Steps.{with_header}
use Rattle.dns_builder.proofs.Patches.{patched_front}
use Rattle.dns_builder.proofs.DraftPages.{page_rewritten, starts_headed}

pub headed : {s : Spelling} {built : Built} {draft : Draft} (header : List ℕ) (new : Draft) → IsDraftOf s built draft → length header ≡ 4
    → new.page ≡ page_of (patched draft.page.octets 0 header) draft.page.known → new.starts ≡ draft.starts
    → IsDraftOf s (with_header built header) new
headed {s} {built} {draft} header new is four page starts = record {
  header = four;
  few = is.few;
  page = page ∙ page_rewritten s built (with_header built header) draft.page (λ l. patched l 0 header) is.header four is.page changes;
  starts = starts ∙ is.starts ∙ sym (starts_headed s built (with_header built header) built.sections is.header four);
}
  where
    changes : (rest : List ℕ) → patched (header_octets built ++ rest) 0 header ≡ header_octets (with_header built header) ++ rest
    changes rest =
        let counts : List ℕ = counts_octets built.sections in
        ap (λ l. patched l 0 header) (append_assoc built.header counts rest)
        ∙ patched_front built.header header (counts ++ rest) (is.header ∙ sym four)
        ∙ sym (append_assoc header counts rest)
