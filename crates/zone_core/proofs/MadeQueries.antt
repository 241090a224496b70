-- A composed query is read as that query.
use Rattle.std.proofs.Common.{◌≡◌, ℕ, ◌+◌, ◌<◌, ◌^◌, List, [], ◌++◌, length, drop, false, refl, sym, subst, arith, append-nil}
use Rattle.std.specs.Prelude.{◌≢◌}
use Rattle.std.proofs.lemmas.Nat.{from_be_bytes-to_be_bytes_2}
use Rattle.dns_label.specs.Name.{IsName}
use Rattle.dns_header.specs.Question.{ReadsQuestion, question_octets}
use Rattle.dns_header.proofs.WrittenQuestions.{question-written}
use Rattle.zone_records.specs.Zone.{any_class}
use Rattle.zone_core.specs.Query.{AxfrQuery, IsQuery, question_of, query_octets}

pub made_query : (query : AxfrQuery) → query.recursion ≡ false → query.id < 2 ^ 16 → IsName query.name → query.class < 2 ^ 16
    → query.class ≢ any_class → IsQuery (query_octets query) query
made_query query plain id name class known =
    let question : List ℕ = question_octets (question_of query) in
    let here : drop 12 (query_octets query) ≡ question ++ [] = sym (append-nil question) in
    let long : length (query_octets query) ≡ 12 + length question = omega arith in
    let read = question-written (query_octets query) 12 (question_of query) [] here (omega (arith, long)) name (omega arith) class in
    let P : ℕ → Type 0 = λ next. ReadsQuestion (query_octets query) 12 (question_of query) next in
    record {
      header = record {
        long = omega (arith, long);
        query = refl;
        opcode = refl;
        counts = record { questions = refl; answers = refl; authority = refl; additional = refl };
      };
      id = sym (from_be_bytes-to_be_bytes_2 query.id id);
      recursion = plain;
      question = subst P (sym long) read;
      class_known = known;
    }
