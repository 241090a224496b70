-- A page only grows as further parts are written on it, whatever the spelling and the length of the page. The size
-- depends on the length of a header, not on its content.
use Rattle.std.proofs.Common.{◌≡◌, ℕ, ◌+◌, ◌≤◌, List, [], ◌∷◌, ◌++◌, length, refl, sym, ap, ◌∙◌, arith, length-append}
use Rattle.dns_name.specs.Spelling.{Spelling}
use Rattle.dns_name.specs.Page.{Page, Parts, with_octets, with_name, with_count, write}
use Rattle.dns_name.specs.Page.Parts.{End, Octets, Named, Counted}
use Rattle.dns_name.specs.RecordData.{page_of}
use Rattle.dns_name.proofs.WrittenParts.{write-long}
use Rattle.dns_compression_laws.proofs.Tails.{tail, write_is}
use Rattle.dns_compression_laws.specs.Cost.{written}
use Rattle.dns_compression_laws.specs.Joined.{join_parts}
use Rattle.dns_compression_laws.specs.Groups.{items, group_size}

-- parts that are joined are written one after another
pub write-join : (s : Spelling) (page : Page) (parts more : Parts) → write s page (join_parts parts more) ≡ write s (write s page parts) more
unfolding write
write-join s page End more = refl
write-join s page (Octets text parts) more = write-join s (with_octets page text) parts more
write-join s page (Named name parts) more = write-join s (with_name s page name) parts more
write-join s page (Counted inner parts) more =
    write-join s (with_count (length page.octets) (write s (with_octets page (0 ∷ 0 ∷ [])) inner)) parts more

-- further elements make a page no shorter
items_grow : {X : Type 0} (s : Spelling) (item : X → Parts) (page : Page) (xs more : List X)
    → length (write s page (items item xs)).octets ≤ length (write s page (items item (xs ++ more))).octets
unfolding write
items_grow s item page [] more = write-long s page (items item more)
items_grow s item page (x ∷ xs) more =
    rw (write-join s page (item x) (items item xs), write-join s page (item x) (items item (xs ++ more)))
    (items_grow s item (write s page (item x)) xs more)

-- how many octets a header and the parts after it take
octets_after : (s : Spelling) (header : List ℕ) (parts : Parts)
    → length (written s (Octets header parts)) ≡ length header + length (tail s [] (length header) parts).octets
unfolding write
octets_after s header parts =
    ap (λ (page : Page). length page.octets) (write_is s (page_of header []) parts)
    ∙ length-append header (tail s [] (length header) parts).octets

-- so a header of the same length takes as many
pub other_header : (s : Spelling) (header other : List ℕ) (parts : Parts) → length header ≡ length other
    → length (written s (Octets header parts)) ≡ length (written s (Octets other parts))
other_header s header other parts same =
    octets_after s header parts
    ∙ ap (λ (n : ℕ). n + length (tail s [] n parts).octets) same
    ∙ sym (octets_after s other parts)

-- A message for more elements is no shorter, if the headers of all messages have the same length.
pub group_grows : {X : Type 0} (s : Spelling) (header : List X → List ℕ) (behind : Parts) (item : X → Parts)
    → ((group other : List X) → length (header group) ≡ length (header other)) → (xs more : List X)
    → group_size s (λ group. Octets (header group) behind) item xs ≤ group_size s (λ group. Octets (header group) behind) item (xs ++ more)
unfolding write
group_grows s header behind item long xs more =
    let begun : Page = page_of (header (xs ++ more)) [] in
    let grown : length (write s begun (join_parts behind (items item xs))).octets ≤ length (write s begun (join_parts behind (items item (xs ++ more)))).octets =
    rw (write-join s begun behind (items item xs), write-join s begun behind (items item (xs ++ more)))
    (items_grow s item (write s begun behind) xs more) in
    let same = other_header s (header xs) (header (xs ++ more)) (join_parts behind (items item xs)) (long xs (xs ++ more)) in
    omega (arith, grown, same)
