-- What a message begins with, as composed: header, counts and one question.
use Rattle.std.proofs.Common.{◌≡◌, ℕ, List, [], ◌∷◌, ◌++◌, length, sym, ap, ◌∙◌, append_assoc}
use Rattle.std.specs.Int.{to_be_bytes, w16}
use Rattle.dns_label.specs.Name.{wire}
use Rattle.dns_name.specs.Page.{Page, write}
use Rattle.dns_name.specs.Page.Parts.{End, Octets, Named}
use Rattle.dns_name.specs.RecordData.{page_of}
use Rattle.dns_name.specs.Spelling.{plain}
use Rattle.dns_name.proofs.Spelled.{plain_text, plain_known}
use Rattle.dns_header.specs.HeaderCounts.{counts_of, counts_octets}
use Rattle.dns_header.specs.Question.{Question, question_octets, question_parts}
use Rattle.zone_core.specs.Query.{one_question}

-- a name written in full, and octets after it
named_page : (old : List ℕ) (name : List (List ℕ)) (numbers : List ℕ)
    → write plain (page_of old []) (Named name (Octets numbers End)) ≡ page_of (old ++ (wire name ++ numbers)) []
unfolding write
named_page old name numbers =
    (λ i. page_of ((old ++ plain_text (length old) name i) ++ numbers) (plain_known (length old) name i))
    ∙ ap (λ (l : List ℕ). page_of l []) (append_assoc old (wire name) numbers)

question_page : (old : List ℕ) (q : Question) → write plain (page_of old []) (question_parts q) ≡ page_of (old ++ question_octets q) []
question_page old q =
    let qtype = to_be_bytes w16 q.qtype in
    let qclass = to_be_bytes w16 q.qclass in
    named_page old q.name (qtype ++ qclass) ∙ ap (λ (l : List ℕ). page_of (old ++ l) []) (sym (append_assoc (wire q.name) qtype qclass))

pub question_behind : (old new : List ℕ) (q : Question) → page_of new [] ≡ write plain (page_of old []) (question_parts q)
    → new ≡ old ++ question_octets q
question_behind old new q is = ap (λ (p : Page). p.octets) (is ∙ question_page old q)

-- the counts with one question
pub counts_one : (clear counts : List ℕ) → clear ≡ 0 ∷ 0 ∷ 0 ∷ 0 ∷ 0 ∷ 0 ∷ 0 ∷ 0 ∷ [] → counts_of counts ≡ record (counts_of clear) { qd = 1 }
    → counts ≡ counts_octets (counts_of counts) → counts ≡ one_question
counts_one clear counts clear_is set is =
    is ∙ ap counts_octets (set ∙ ap (λ (l : List ℕ). record (counts_of l) { qd = 1 }) clear_is)
