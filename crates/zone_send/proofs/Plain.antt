-- The size of a message with its names written out: that of the header and question, and of each record.
use Rattle.std.proofs.Common.{◌≡◌, ℕ, ◌+◌, List, ◌++◌, length, refl, arith, length-append, ap, ◌∙◌}
use Rattle.std.specs.Prelude.{flat_map}
use Rattle.std.proofs.lemmas.List.Concat.{flat_map-append}
use Rattle.dns_header.specs.Header.{answer_header}
use Rattle.dns_header.specs.Question.{question_octets}
use Rattle.dns_message.specs.Record.{Record, record_octets}
use Rattle.zone_core.specs.Cutting.{Grows}
use Rattle.zone_core.specs.Query.{AxfrQuery, question_of}
use Rattle.zone_send.specs.Sent.{size}

-- the header takes twelve octets
pub length-header : (query : AxfrQuery) (answers : ℕ) → length (answer_header query.id query.recursion answers) ≡ 12
length-header query answers = refl

pub size_is : (query : AxfrQuery) (group : List Record)
    → size query group ≡ 12 + length (question_octets (question_of query)) + length (flat_map record_octets group)
size_is query group =
    omega (arith, length-append (question_octets (question_of query)) (flat_map record_octets group))

pub records_append : (front back : List Record)
    → length (flat_map record_octets (front ++ back)) ≡ length (flat_map record_octets front) + length (flat_map record_octets back)
records_append front back =
    ap length (flat_map-append record_octets front back) ∙ length-append (flat_map record_octets front) (flat_map record_octets back)

pub size_grows : (query : AxfrQuery) → Grows (size query)
size_grows query = record {
  front = λ xs more. omega (arith, size_is query xs, size_is query (xs ++ more), records_append xs more);
  back = λ more xs. omega (arith, size_is query xs, size_is query (more ++ xs), records_append more xs);
}
