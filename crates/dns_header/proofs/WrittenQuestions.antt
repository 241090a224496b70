-- Questions whose names are written out are read.
use Rattle.std.proofs.Common.{◌≡◌, ℕ, ◌+◌, ◌<◌, ◌≤◌, ◌^◌, List, ◌++◌, length, take, drop, refl, sym, ap, ◌∙◌, arith, append_assoc, length-append, length-drop}
use Rattle.std.specs.Int.{to_be_bytes, from_be_bytes, w16}
use Rattle.std.proofs.lemmas.Nat.{from_be_bytes-to_be_bytes_2}
use Rattle.dns_label.specs.Name.{IsName, wire}
use Rattle.dns_label.specs.Spelled.{DecodesName}
use Rattle.dns_label.proofs.Spelling.{drop_behind, spelled-written}
use Rattle.dns_header.specs.Question.{Question, ReadsQuestion, question_octets}

-- a name that is written out is read
pub reads-written : (message : List ℕ) (place : ℕ) (name : List (List ℕ)) (rest : List ℕ) → drop place message ≡ wire name ++ rest
    → IsName name → DecodesName message place name (place + length (wire name))
reads-written message place name rest at is = record {
  spelled = spelled-written message 255 place name rest at is.labels;
  is_name = is;
}

-- what is at a place ends within the message
pub within_message : (message : List ℕ) (place : ℕ) (front rest : List ℕ) → drop place message ≡ front ++ rest
    → place ≤ length message → place + length front + length rest ≡ length message
within_message message place front rest at within =
    omega (arith, length-drop place message, ap length at, length-append front rest)

-- A question that is written out is read.
pub question-written : (message : List ℕ) (place : ℕ) (q : Question) (rest : List ℕ) → drop place message ≡ question_octets q ++ rest
    → place ≤ length message → IsName q.name → q.qtype < 2 ^ 16 → q.qclass < 2 ^ 16
    → ReadsQuestion message place q (place + length (question_octets q))
question-written message place q rest at within name small small' =
    let numbers : List ℕ = to_be_bytes w16 q.qtype ++ (to_be_bytes w16 q.qclass ++ rest) in
    let here : drop place message ≡ wire q.name ++ numbers =
    at ∙ ap (λ l. l ++ rest) (append_assoc (wire q.name) (to_be_bytes w16 q.qtype) (to_be_bytes w16 q.qclass))
    ∙ append_assoc (wire q.name) (to_be_bytes w16 q.qtype ++ to_be_bytes w16 q.qclass) rest in
    let long = length-append (wire q.name) (to_be_bytes w16 q.qtype ++ to_be_bytes w16 q.qclass) in
    let parted = ap length (append_assoc (wire q.name) (to_be_bytes w16 q.qtype) (to_be_bytes w16 q.qclass)) in
    let room = within_message message place (wire q.name) numbers here within in
    let behind : drop (place + length (wire q.name)) message ≡ numbers = drop_behind message place _ (wire q.name) numbers here refl in
    let behind' : drop (place + length (wire q.name) + 2) message ≡ to_be_bytes w16 q.qclass ++ rest =
    drop_behind message (place + length (wire q.name)) _ (to_be_bytes w16 q.qtype) (to_be_bytes w16 q.qclass ++ rest) behind refl in
    record {
      behind = place + length (wire q.name);
      name = reads-written message place q.name numbers here name;
      whole = omega arith;
      qtype = sym (from_be_bytes-to_be_bytes_2 q.qtype small) ∙ ap (λ l. from_be_bytes w16 (take 2 l)) (sym behind);
      qclass = sym (from_be_bytes-to_be_bytes_2 q.qclass small') ∙ ap (λ l. from_be_bytes w16 (take 2 l)) (sym behind');
      ends = omega (arith, long, parted);
    }
