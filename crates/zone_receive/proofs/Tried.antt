-- Streams that answer a query, tried on octets that are written out.
use Rattle.std.proofs.Common.{◌≡◌, ℕ, true, false, List, [], ◌∷◌, ◌++◌, inr, refl, arith}
use Rattle.dns_label.specs.Name.{IsName}
use Rattle.dns_label.specs.Spelled.EncodesName.{label, root}
use Rattle.dns_header.specs.Question.{ReadsQuestion}
use Rattle.dns_rdata.specs.Fields.{Field, IsRow, number32, compressible, octets}
use Rattle.dns_rdata.specs.Fields.IsData.{typed}
use Rattle.dns_message.specs.Record.{ReadsRecord}
use Rattle.dns_message.proofs.AsWritten.{plain_read}
use Rattle.dns_message.proofs.Spellable.{spellable_unless_caa}
use Rattle.zone_records.specs.Record.{Record}
use Rattle.zone_core.specs.Frames.{frame}
use Rattle.zone_core.specs.Query.{AxfrQuery}
use Rattle.zone_core.specs.Transfer.{IsAnswer}
use Rattle.zone_core.specs.Transfer.SpellsRecords.{none, one}
use Rattle.zone_receive.specs.Receiving.{HasBadMessage, IsHeard}
use Rattle.zone_receive.specs.Receiving.Stage.{Begun, Fresh}
use Rattle.zone_receive.specs.declared.error.ReceiveError.TheVariants.{Id, Short}
use Rattle.zone_receive.proofs.OneOfThree.{bad_one}

one_label : (octet : ℕ) → IsName ((octet ∷ []) ∷ [])
one_label octet = record { labels = (record { some = omega arith; short = omega arith }, tt); short = omega arith }

-- `a. IN AXFR`
abbrev pub query : AxfrQuery
query = record { id = 4660; recursion = false; name = (97 ∷ []) ∷ []; class = 1 }

abbrev soa_row : List Field
soa_row =
    compressible ((98 ∷ []) ∷ []) ∷ compressible ((99 ∷ []) ∷ []) ∷ number32 1 ∷ number32 2 ∷ number32 3 ∷ number32 4 ∷ number32 5 ∷ []

-- `a. 60 IN SOA b. c. 1 2 3 4 5`
abbrev pub soa : Record
soa = record { owner = (97 ∷ []) ∷ []; rtype = 6; class = 1; ttl = 60; rdata = octets soa_row }

soa_is_row : IsRow 6 soa_row
soa_is_row = record {
  kinds = refl;
  each = (one_label 98, (one_label 99, (omega arith, (omega arith, (omega arith, (omega arith, (omega arith, tt)))))));
  short = omega arith;
}

-- an answer with the question and this record
abbrev pub answer : List ℕ
answer =
    18 ∷ 52 ∷ 132 ∷ 0 ∷ 0 ∷ 1 ∷ 0 ∷ 1 ∷ 0 ∷ 0 ∷ 0 ∷ 0 ∷ 1 ∷ 97 ∷ 0 ∷ 0 ∷ 252 ∷ 0 ∷ 1
    ∷ 1 ∷ 97 ∷ 0 ∷ 0 ∷ 6 ∷ 0 ∷ 1 ∷ 0 ∷ 0 ∷ 0 ∷ 60 ∷ 0 ∷ 26 ∷ 1 ∷ 98 ∷ 0 ∷ 1 ∷ 99 ∷ 0
    ∷ 0 ∷ 0 ∷ 0 ∷ 1 ∷ 0 ∷ 0 ∷ 0 ∷ 2 ∷ 0 ∷ 0 ∷ 0 ∷ 3 ∷ 0 ∷ 0 ∷ 0 ∷ 4 ∷ 0 ∷ 0 ∷ 0 ∷ 5 ∷ []

asks : ReadsQuestion answer 12 (record { name = (97 ∷ []) ∷ []; qtype = 252; qclass = 1 }) 19
asks = record {
  behind = 15;
  name = record { spelled = label _ refl (record { some = omega arith; short = omega arith }) (root _ refl); is_name = one_label 97 };
  whole = omega arith;
  qtype = refl;
  qclass = refl;
  ends = refl;
}

has_soa : ReadsRecord answer 19 soa 58
has_soa = plain_read soa [] (record {
  owner = one_label 97;
  rtype = omega arith;
  class = omega arith;
  ttl = omega arith;
  rdata = omega arith;
}) (typed soa_row soa_is_row refl) refl

is_answer : IsAnswer query true answer (soa ∷ [])
is_answer = record {
  header = record {
    long = omega arith;
    id = refl;
    response = refl;
    opcode = refl;
    rcode = refl;
    counts = record { questions = omega arith; authority = refl; additional = refl };
  };
  place = 19;
  asked = inr (refl, record { name = (97 ∷ []) ∷ []; qtype = 252; qclass = 1 }, asks, record { name = refl; qtype = refl; qclass = refl });
  counted = refl;
  spelled = one 58 has_soa none;
}

-- After the answer's frame of 60 octets and one octet of the next: the SOA is read, and the frame of one octet is open.
pub hears_the_soa : IsHeard (record { query = query; records = soa ∷ []; open_frame = 0 ∷ []; stage = Begun }) (frame answer ++ 0 ∷ [])
hears_the_soa = record {
  messages = answer ∷ [];
  splits = record { each = (omega arith, tt); whole = refl; partial = tt };
  groups = (soa ∷ []) ∷ [];
  answers = (is_answer, tt);
  joins = refl;
  still_open = (
    refl,
    refl,
    (
      record {
        class = refl;
        under = record { front = []; whole_is = refl };
        spellable = spellable_unless_caa 6 soa.rdata (λ caa. omega (arith, caa));
      },
      tt,
    ),
    tt,
  );
  stage = refl;
}

-- A whole frame does not stay open: its message is read.
pub reads_each_frame : IsHeard (record { query = query; records = []; open_frame = frame answer; stage = Fresh }) (frame answer) → ⊥
reads_each_frame is = let short = is.splits.partial in omega (arith, short)

-- a frame without octets, and then the header of an answer to another query: its id is 4661
abbrev pub two_faults : List ℕ
two_faults = 0 ∷ 0 ∷ 0 ∷ 12 ∷ 18 ∷ 53 ∷ 132 ∷ 0 ∷ 0 ∷ 0 ∷ 0 ∷ 0 ∷ 0 ∷ 0 ∷ 0 ∷ 0 ∷ []

-- The first message, of no octets, is too short for a header.
pub first_is_short : HasBadMessage query two_faults Short
first_is_short = record {
  messages = [];
  each = tt;
  bad = [];
  fits = omega arith;
  behind = _;
  whole = refl;
  groups = [];
  answers = tt;
  still_open = tt;
  fault = omega arith;
}

-- The wrong id of the second message is not the fault of the stream: the first message is at fault.
pub no_later_fault : HasBadMessage query two_faults Id → ⊥
no_later_fault is = let same : Short ≡ Id = bad_one query two_faults Short Id first_is_short is in cc
