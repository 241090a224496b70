-- A question is read exactly if it is spelled.
use Rattle.std.proofs.Common.{◌≡◌, ℕ, ◌+◌, ◌<◌, ◌^◌, List, ◌++◌, length, take, drop, refl, sym, ap, ◌∙◌, subst, arith, length-drop}
use Rattle.std.specs.Int.{to_be_bytes, from_be_bytes, w16}
use Rattle.std.proofs.lemmas.Nat.{from_be_bytes-to_be_bytes_2}
use Rattle.dns_label.proofs.Spelling.{drop_behind}
use Rattle.dns_name.specs.SpelledParts.{SpellsParts}
use Rattle.dns_name.specs.SpelledParts.SpellsParts.{nothing, octets, named}
use Rattle.dns_name.specs.Page.Parts.{End}
use Rattle.dns_octets.specs.Numbers.{number_at}
use Rattle.dns_header.specs.Question.{Question, ReadsQuestion, question_parts}
use Rattle.dns_message.proofs.Numbers.{AreOctets, number16}
use Rattle.dns_message.proofs.Opened.{opened}

pub question_spelled : (message : List ℕ) (place next : ℕ) (q : Question) → AreOctets message → ReadsQuestion message place q next
    → SpellsParts message place (question_parts q) next × (q.qtype < 2 ^ 16) × (q.qclass < 2 ^ 16)
question_spelled message place next q each reads =
    let first = number16 message reads.behind (reads.behind + 2) each refl (omega (arith, reads.whole)) in
    let second = number16 message (reads.behind + 2) (reads.behind + 4) each (omega arith) reads.whole in
    let at : drop reads.behind message ≡ to_be_bytes w16 q.qtype ++ (to_be_bytes w16 q.qclass ++ drop (reads.behind + 4) message) =
    first.1 ∙ ap (λ l. to_be_bytes w16 (number_at message reads.behind) ++ l) second.1
    ∙ (λ i. to_be_bytes w16 (sym reads.qtype i) ++ (to_be_bytes w16 (sym reads.qclass i) ++ drop (reads.behind + 4) message)) in
    let P : ℕ → Type 0 = λ end. SpellsParts message (reads.behind + 4) End end in
    let ends : SpellsParts message (reads.behind + 4) End next = subst P (sym reads.ends) (nothing reads.whole) in (
      named reads.behind reads.name (octets (drop (reads.behind + 4) message) at ends),
      subst (λ n. n < 2 ^ 16) (sym reads.qtype) first.0,
      subst (λ n. n < 2 ^ 16) (sym reads.qclass) second.0,
    )

pub question_read : (message : List ℕ) (place next : ℕ) (q : Question) → SpellsParts message place (question_parts q) next
    → q.qtype < 2 ^ 16 → q.qclass < 2 ^ 16 → ReadsQuestion message place q next
question_read message place next q spelled small small' =
    let named = opened spelled in
    let begins = opened named.behind in
    let at : drop named.end message ≡ to_be_bytes w16 q.qtype ++ (to_be_bytes w16 q.qclass ++ begins.rest) = begins.at in
    let at' : drop (named.end + 2) message ≡ to_be_bytes w16 q.qclass ++ begins.rest =
    drop_behind message named.end (named.end + 2) (to_be_bytes w16 q.qtype) (to_be_bytes w16 q.qclass ++ begins.rest) at refl in
    record {
      behind = named.end;
      name = named.reads;
      whole = omega (arith, length-drop named.end message, ap (length {A = ℕ}) at);
      qtype = sym (from_be_bytes-to_be_bytes_2 q.qtype small) ∙ ap (λ l. from_be_bytes w16 (take 2 l)) (sym at);
      qclass = sym (from_be_bytes-to_be_bytes_2 q.qclass small') ∙ ap (λ l. from_be_bytes w16 (take 2 l)) (sym at');
      ends = opened begins.behind;
    }
