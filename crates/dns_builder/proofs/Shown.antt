-- The header and the counts of a builder's message.
use Rattle.std.proofs.Common.{◌≡◌, ◌++◌, ◌∙◌, take, drop, refl, ap, append_assoc}
use Rattle.std.proofs.lemmas.List.{take_at, drop_at}
use Rattle.dns_name.specs.Spelling.{Spelling}
use Rattle.dns_builder.specs.Built.{Built, Draft, IsDraftOf, counts_octets}
use Rattle.dns_builder.proofs.DraftPages.{page_behind}

-- the header
pub header_is : {s : Spelling} {built : Built} {draft : Draft} → IsDraftOf s built draft → take 4 draft.page.octets ≡ built.header
header_is {s} {built} {draft} is =
    let grows = page_behind is in
    ap (take 4) (grows.octets ∙ append_assoc built.header (counts_octets built.sections) grows.tail)
    ∙ take_at built.header (counts_octets built.sections ++ grows.tail) 4 is.header

-- the counts
pub counts_are : {s : Spelling} {built : Built} {draft : Draft} → IsDraftOf s built draft
    → take 8 (drop 4 draft.page.octets) ≡ counts_octets built.sections
counts_are {s} {built} {draft} is =
    let grows = page_behind is in
    ap (λ l. take 8 (drop 4 l)) (grows.octets ∙ append_assoc built.header (counts_octets built.sections) grows.tail)
    ∙ ap (take 8) (drop_at built.header (counts_octets built.sections ++ grows.tail) 4 is.header)
    ∙ take_at (counts_octets built.sections) grows.tail 8 refl
