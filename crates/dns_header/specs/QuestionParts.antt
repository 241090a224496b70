-- What a contract sees of a question.
use Rattle.std.specs.Prelude.{◌≡◌, ℕ, List, Result, Ok, Err, MatchResult}
use Rattle.dns_header.specs.Question as spec
use Rattle.dns_header.specs.declared.question.Question.{Question}

abbrev pub qname_of : {N : Type 0} → Question N → N
qname_of question = question.qname

-- the question, where `name` gives the labels of its name
abbrev pub question_of : {N : Type 0} → (N → List (List ℕ)) → Question N → spec.Question
question_of name question = record { name = name question.qname; qtype = question.qtype; qclass = question.qclass }

-- The result is the source with its name converted; `gives` relates a name and the result of its conversion.
abbrev pub IsConverted : {N Source E : Type 0} → (Source → Result N E → Type 0) → Question Source → Result (Question N) E → Type 0
IsConverted gives source result =
    MatchResult result
    (λ made. gives source.qname (Ok made.qname) × (made.qtype ≡ source.qtype) × (made.qclass ≡ source.qclass))
    (λ error. gives source.qname (Err error))
