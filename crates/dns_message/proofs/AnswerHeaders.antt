-- The header of an answer is its fields and counts.
use Rattle.std.proofs.Common.{◌≡◌, ℕ, ◌<◌, ◌^◌, Bool, true, false, List, [], ◌∷◌, ◌++◌, length, drop, refl, sym, ap, ◌∙◌, arith, length-drop}
use Rattle.std.specs.Int.{to_be_bytes, w16}
use Rattle.std.proofs.lemmas.Nat.{from_be_bytes-to_be_bytes_2}
use Rattle.dns_header.specs.Header.{answer_header}
use Rattle.dns_header.specs.HeaderFields.{fields_of, header_octets}
use Rattle.dns_header.specs.HeaderCounts.{counts_of, counts_in, counts_octets}
use Rattle.dns_header.proofs.Fields.{octets_by_fields}
use Rattle.dns_message.specs.Answer.{answer_fields, answer_counts}
use Rattle.dns_message.proofs.Numbers.{AreOctets, octet_at, number16}

pub answer_length : (id : ℕ) (recursion : Bool) (answers : ℕ) → length (answer_header id recursion answers) ≡ 12
answer_length id recursion answers = refl

pub says_fields : (id : ℕ) (recursion : Bool) (answers : ℕ) → id < 2 ^ 16
    → fields_of (answer_header id recursion answers) ≡ answer_fields id recursion
says_fields id true answers small = λ i. record (answer_fields id true) { id = from_be_bytes-to_be_bytes_2 id small i }
says_fields id false answers small = λ i. record (answer_fields id false) { id = from_be_bytes-to_be_bytes_2 id small i }

pub says_counts : (id : ℕ) (recursion : Bool) (answers : ℕ) → answers < 2 ^ 16
    → counts_in (answer_header id recursion answers) ≡ answer_counts answers
says_counts id recursion answers few = λ i. record (answer_counts answers) { an = from_be_bytes-to_be_bytes_2 answers few i }

nothing_left : (text : List ℕ) → length text ≡ 0 → text ≡ []
nothing_left [] none = refl
nothing_left (x ∷ text) none = absurd (omega arith)

-- eight octets are the four counts
counts_are : (text : List ℕ) → AreOctets text → length text ≡ 8 → text ≡ counts_octets (counts_of text)
counts_are text each eight =
    let first = number16 text 0 2 each refl (omega arith) in
    let second = number16 text 2 4 each refl (omega arith) in
    let third = number16 text 4 6 each refl (omega arith) in
    let fourth = number16 text 6 8 each refl (omega arith) in
    let none : drop 8 text ≡ [] = nothing_left (drop 8 text) (omega (arith, length-drop 8 text)) in
    let c = counts_of text in
    first.1 ∙ ap (λ l. to_be_bytes w16 c.qd ++ l)
    (second.1 ∙ ap (λ l. to_be_bytes w16 c.an ++ l)
    (third.1 ∙ ap (λ l. to_be_bytes w16 c.ns ++ l)
    (fourth.1 ∙ ap (λ l. to_be_bytes w16 c.ar ++ l) none)))

octets_said : (id : ℕ) (recursion : Bool) (answers : ℕ)
    → header_octets (answer_fields id recursion) ++ counts_octets (answer_counts answers) ≡ answer_header id recursion answers
octets_said id true answers = refl
octets_said id false answers = refl

-- twelve octets with these fields and counts are the header
pub is_answer_header : (header : List ℕ) (id : ℕ) (recursion : Bool) (answers : ℕ) → AreOctets header → length header ≡ 12
    → fields_of header ≡ answer_fields id recursion → counts_in header ≡ answer_counts answers
    → header ≡ answer_header id recursion answers
is_answer_header [] id recursion answers each twelve said counted = absurd (omega arith)
is_answer_header (a ∷ []) id recursion answers each twelve said counted = absurd (omega arith)
is_answer_header (a ∷ b ∷ []) id recursion answers each twelve said counted = absurd (omega arith)
is_answer_header (a ∷ b ∷ c ∷ []) id recursion answers each twelve said counted = absurd (omega arith)
is_answer_header (a ∷ b ∷ c ∷ d ∷ counts) id recursion answers each twelve said counted =
    let front : List ℕ = a ∷ b ∷ c ∷ d ∷ [] in
    let small : AreOctets front = (each.0, (each.1.0, (each.1.1.0, (each.1.1.1.0, tt)))) in
    let is_front : front ≡ header_octets (answer_fields id recursion) =
    sym (octets_by_fields front refl (octet_at front small)) ∙ ap header_octets said in
    let is_counts : counts ≡ counts_octets (answer_counts answers) =
    counts_are counts each.1.1.1.1 (omega arith) ∙ ap counts_octets counted in
    (λ i. is_front i ++ is_counts i) ∙ octets_said id recursion answers
