-- What parts add to a page depends on its length and on what is remembered, not on its octets.
use Rattle.std.proofs.Common.{◌≡◌, ℕ, ◌+◌, ◌-◌, List, [], ◌∷◌, ◌++◌, length, take, drop, sym, ap, ◌∙◌, arith, append_assoc, append-nil, length-append}
use Rattle.std.specs.Int.{to_be_bytes, w16}
use Rattle.std.proofs.Math.Seq.{drop-append_seam, take-append_seam}
use Rattle.dns_octets.specs.Builder.{Known}
use Rattle.dns_name.specs.Spelling.{Spelling, name_text, known_after}
use Rattle.dns_name.specs.Remembered.{patched}
use Rattle.dns_name.specs.Page.{Page, Parts, with_octets, with_count, write, with_name as page_with_name}
use Rattle.dns_name.specs.Page.Parts.{End, Octets, Named, Counted}

-- a page with octets before it
abbrev pub behind : List ℕ → Page → Page
behind front page = record { octets = front ++ page.octets; known = page.known }

-- what parts add after a place, and what is remembered then
abbrev pub tail : Spelling → Known → ℕ → Parts → Page
tail s known place End = record { octets = []; known = known }
tail s known place (Octets more parts) = behind more (tail s known (place + length more) parts)
tail s known place (Named name parts) =
    behind (name_text s known place name) (tail s (known_after s known place name) (place + length (name_text s known place name)) parts)
tail s known place (Counted inner parts) =
    behind (to_be_bytes w16 (length (tail s known (place + 2) inner).octets) ++ (tail s known (place + 2) inner).octets)
    (tail s (tail s known (place + 2) inner).known (place + 2 + length (tail s known (place + 2) inner).octets) parts)

behind_both : (a b : List ℕ) (page : Page) → behind (a ++ b) page ≡ behind a (behind b page)
behind_both a b page = λ i. record { octets = append_assoc a b page.octets i; known = page.known }

-- two octets of zero are overwritten
over_mark : (o t : List ℕ) (a b : ℕ) → patched ((o ++ 0 ∷ 0 ∷ []) ++ t) (length o) (a ∷ b ∷ []) ≡ o ++ (a ∷ b ∷ t)
over_mark o t a b =
    let front : take (length o) ((o ++ 0 ∷ 0 ∷ []) ++ t) ≡ o = ap (take (length o)) (append_assoc o (0 ∷ 0 ∷ []) t) ∙ take-append_seam o (0 ∷ 0 ∷ t) in
    let long : length o + 2 ≡ length (o ++ 0 ∷ 0 ∷ []) = sym (length-append o (0 ∷ 0 ∷ [])) in
    let back : drop (length o + 2) ((o ++ 0 ∷ 0 ∷ []) ++ t) ≡ t = ap (λ (n : ℕ). drop n ((o ++ 0 ∷ 0 ∷ []) ++ t)) long ∙ drop-append_seam (o ++ 0 ∷ 0 ∷ []) t in
    λ i. front i ++ (a ∷ b ∷ back i)

counted_over : (o : List ℕ) (t : Page) → with_count (length o) (behind (o ++ 0 ∷ 0 ∷ []) t) ≡ behind o (behind (to_be_bytes w16 (length t.octets)) t)
counted_over o t =
    let long : length ((o ++ 0 ∷ 0 ∷ []) ++ t.octets) - (length o + 2) ≡ length t.octets = omega (arith, length-append (o ++ 0 ∷ 0 ∷ []) t.octets, length-append o (0 ∷ 0 ∷ [])) in
    let octets : patched ((o ++ 0 ∷ 0 ∷ []) ++ t.octets) (length o) (to_be_bytes w16 (length ((o ++ 0 ∷ 0 ∷ []) ++ t.octets) - (length o + 2))) ≡ o ++ (to_be_bytes w16 (length t.octets) ++ t.octets) =
    ap (λ (n : ℕ). patched ((o ++ 0 ∷ 0 ∷ []) ++ t.octets) (length o) (to_be_bytes w16 n)) long ∙ over_mark o t.octets _ _ in
    λ i. record { octets = octets i; known = t.known }

-- Parts add their tail.
pub write_is : (s : Spelling) (page : Page) (parts : Parts) → write s page parts ≡ behind page.octets (tail s page.known (length page.octets) parts)
unfolding write
write_is s page End = λ i. record { octets = sym (append-nil page.octets) i; known = page.known }
write_is s page (Octets more parts) =
    write_is s (with_octets page more) parts ∙ behind_both page.octets more _
    ∙ ap (λ (n : ℕ). behind page.octets (behind more (tail s page.known n parts))) (length-append page.octets more)
write_is s page (Named name parts) =
    let text : List ℕ = name_text s page.known (length page.octets) name in
    write_is s (page_with_name s page name) parts ∙ behind_both page.octets text _
    ∙ ap (λ (n : ℕ). behind page.octets (behind text (tail s (known_after s page.known (length page.octets) name) n parts))) (length-append page.octets text)
write_is s page (Counted inner parts) =
    let o : List ℕ = page.octets in
    let t : Page = tail s page.known (length o + 2) inner in
    let mark : List ℕ = to_be_bytes w16 (length t.octets) in
    let inside : write s (with_octets page (0 ∷ 0 ∷ [])) inner ≡ behind (o ++ 0 ∷ 0 ∷ []) t =
    write_is s (with_octets page (0 ∷ 0 ∷ [])) inner
    ∙ ap (λ (n : ℕ). behind (o ++ 0 ∷ 0 ∷ []) (tail s page.known n inner)) (length-append o (0 ∷ 0 ∷ [])) in
    let next : with_count (length o) (write s (with_octets page (0 ∷ 0 ∷ [])) inner) ≡ behind o (behind mark t) =
    ap (with_count (length o)) inside ∙ counted_over o t in
    let long : length (o ++ (mark ++ t.octets)) ≡ length o + 2 + length t.octets = omega (arith, length-append o (mark ++ t.octets)) in
    ap (λ (p : Page). write s p parts) next
    ∙ write_is s (behind o (behind mark t)) parts
    ∙ behind_both o (mark ++ t.octets) _
    ∙ ap (λ (n : ℕ). behind o (behind (mark ++ t.octets) (tail s t.known n parts))) long
