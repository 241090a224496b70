-- The page of a message that is built is the spelled message of its group.
use Rattle.std.proofs.Common.{◌≡◌, ℕ, suc, ◌+◌, ◌-◌, ◌≤◌, List, [], ◌∷◌, ◌++◌, length, map, refl, sym, ap, ◌∙◌, arith, append-nil, length-append}
use Rattle.std.specs.Int.{to_be_bytes, w16}
use Rattle.std.specs.List.{push}
use Rattle.std.proofs.lemmas.List.{map-append}
use Rattle.dns_name.specs.Spelling.{Spelling}
use Rattle.dns_name.specs.Page.{Page, Parts, with_octets, with_name, write}
use Rattle.dns_name.specs.Page.Parts.{End, Named, Counted}
use Rattle.dns_name.specs.RecordData.{page_of}
use Rattle.dns_header.specs.Head.{fixed_octets}
use Rattle.dns_header.specs.Header.{answer_header}
use Rattle.dns_header.specs.Question.{question_parts}
use Rattle.dns_header.specs.Written.{Written, parts_of, data_length}
use Rattle.dns_compression_laws.specs.Groups.{items}
use Rattle.dns_builder.specs.Built.{header_octets, built_page, write_all}
use Rattle.dns_builder.proofs.Cleared.{patched-long}
use Rattle.dns_builder.proofs.Grown.{grown_longer, write_grows}
use Rattle.dns_builder.proofs.SameBehind.{same_write, same_all, same_none, same_length}
use Rattle.dns_builder.proofs.Sections.{write_all-append}
use Rattle.zone_records.specs.Record.{Record}
use Rattle.zone_core.specs.Query.{AxfrQuery, question_of}
use Rattle.zone_send.specs.Spelled.{spelled_size}
use Rattle.zone_send.specs.SpelledSent.{spelled_message}
use Rattle.zone_send.specs.Sending.{header_front}
use Rattle.zone_send.specs.SpelledSending.{answer_built}
use Rattle.zone_send.proofs.GrownPages.{write-join}

-- the items of a group are written one after another
write-items : (s : Spelling) (item : Record → Parts) (page : Page) (group : List Record)
    → write s page (items item group) ≡ write_all s page (map item group)
unfolding write
write-items s item page [] = refl
write-items s item page (r ∷ group) = write-join s page (item r) (items item group) ∙ write-items s item (write s page (item r)) group

pub length-items : (item : Record → Parts) (group : List Record) → length (map item group) ≡ length group
length-items item [] = refl
length-items item (r ∷ group) = ap suc (length-items item group)

-- a header that counts this number of answers
abbrev counted_header : AxfrQuery → ℕ → List ℕ
counted_header query answers =
    header_front query ++ (to_be_bytes w16 1 ++ to_be_bytes w16 answers ++ to_be_bytes w16 0 ++ to_be_bytes w16 0)

-- the query's question after a header
abbrev asked_page : Spelling → AxfrQuery → List ℕ → Page
asked_page s query header = write s (page_of header []) (question_parts (question_of query))

written_message : (s : Spelling) (query : AxfrQuery) (item : Record → Parts) (group : List Record)
    → spelled_message s query item group ≡ (write_all s (asked_page s query (counted_header query (length group))) (map item group)).octets
unfolding write
written_message s query item group =
    let header : List ℕ = answer_header query.id query.recursion (length group) in
    ap (λ (p : Page). p.octets)
    (write-join s (page_of header []) (question_parts (question_of query)) (items item group)
    ∙ write-items s item (asked_page s query header) group)

-- the page of a message that is built
pub page_is : (s : Spelling) (query : AxfrQuery) (item : Record → Parts) (group : List Record)
    → (built_page s (answer_built query (map item group))).octets ≡ spelled_message s query item group
page_is s query item group =
    ap (λ (l : List Parts). (write_all s (asked_page s query (counted_header query (length (map item group)))) l).octets) (append-nil (map item group))
    ∙ ap (λ n. (write_all s (asked_page s query (counted_header query n)) (map item group)).octets) (length-items item group)
    ∙ sym (written_message s query item group)

-- the answers and one more
with_more : (query : AxfrQuery) (item : Record → Parts) (group : List Record) (r : Record)
    → (question_parts (question_of query) ∷ map item group ++ []) ++ item r ∷ [] ≡ question_parts (question_of query) ∷ map item (push group r) ++ []
with_more query item group r =
    ap (λ (l : List Parts). question_parts (question_of query) ∷ l)
    (ap (λ (l : List Parts). l ++ item r ∷ []) (append-nil (map item group)) ∙ sym (map-append item group (r ∷ []))
    ∙ sym (append-nil (map item (push group r))))

-- how many octets the message has with one more record, though it does not count it yet
pub length_more : (s : Spelling) (query : AxfrQuery) (item : Record → Parts) (group : List Record) (r : Record) (page : Page)
    → page ≡ built_page s (answer_built query (map item group))
    → length (write s page (item r)).octets ≡ spelled_size s query item (push group r)
length_more s query item group r page is =
    let old : List ℕ = header_octets (answer_built query (map item group)) in
    let new : List ℕ = header_octets (answer_built query (map item (push group r))) in
    let all : List Parts = question_parts (question_of query) ∷ map item (push group r) ++ [] in
    let one : write s page (item r) ≡ write_all s (page_of old []) all =
    ap (λ (p : Page). write s p (item r)) is
    ∙ sym (write_all-append s (page_of old []) (question_parts (question_of query) ∷ map item group ++ []) (item r ∷ []))
    ∙ ap (write_all s (page_of old [])) (with_more query item group r) in
    ap (λ (p : Page). length p.octets) one ∙ sym (same_length {front = old} {other = new} refl (same_all s all refl (same_none old new)))
    ∙ ap (length {A = ℕ}) (page_is s query item (push group r))

-- a message is no shorter with one more record
pub size_more : (s : Spelling) (query : AxfrQuery) (item : Record → Parts) (group : List Record) (r : Record)
    → spelled_size s query item group ≤ spelled_size s query item (push group r)
size_more s query item group r =
    let page : Page = built_page s (answer_built query (map item group)) in
    omega (
      arith,
      ap (length {A = ℕ}) (page_is s query item group),
      length_more s query item group r page refl,
      grown_longer (write_grows s page (item r)),
    )

-- how many octets the question takes after any header
pub length_asked : (s : Spelling) (query : AxfrQuery) (item : Record → Parts) (page : Page) (header : List ℕ) → length header ≡ 12
    → page ≡ page_of header [] → length (write s page (question_parts (question_of query))).octets ≡ spelled_size s query item []
length_asked s query item page header twelve is =
    let other : List ℕ = counted_header query 0 in
    ap (λ (p : Page). length (write s p (question_parts (question_of query))).octets) is
    ∙ sym (same_length {front = header} {other = other} twelve (same_write s (question_parts (question_of query)) twelve (same_none header other)))
    ∙ sym (ap (length {A = ℕ}) (written_message s query item []))

-- a record adds at least eight octets to a page, which is then no shorter than the record's data
pub record_long : (s : Spelling) (page : Page) (w : Written) → length page.octets + 8 ≤ length (write s page (parts_of w)).octets
unfolding write
record_long s page w =
    let named : Page = with_name s page w.owner in
    let fixed : List ℕ = fixed_octets w.rtype w.class w.ttl in
    let eight : length fixed ≡ 8 = refl in
    omega (
      arith,
      grown_longer (write_grows s page (Named w.owner End)),
      grown_longer (write_grows s (with_octets named fixed) (Counted w.rdata End)),
      length-append named.octets fixed,
      eight,
    )

pub data_shorter : (s : Spelling) (page : Page) (w : Written) → data_length s page w ≤ length (write s page (parts_of w)).octets
unfolding write
data_shorter s page w =
    let front : Page = with_octets (with_name s page w.owner) (fixed_octets w.rtype w.class w.ttl) in
    let marked : Page = with_octets front (0 ∷ 0 ∷ []) in
    let inner : Page = write s marked w.rdata in
    let count : List ℕ = to_be_bytes w16 (length inner.octets - (length front.octets + 2)) in
    let whole : List ℕ = (write s page (parts_of w)).octets in
    omega (
      arith,
      grown_longer (write_grows s marked w.rdata),
      length-append front.octets (0 ∷ 0 ∷ []),
      patched-long (length front.octets) inner.octets count whole refl (omega (
        arith,
        grown_longer (write_grows s marked w.rdata),
        length-append front.octets (0 ∷ 0 ∷ []),
      )),
    )
