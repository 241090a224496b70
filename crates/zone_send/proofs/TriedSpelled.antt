-- What is sent with names under a tree's pointers, tried on a zone of one record: `a. 60 IN SOA b. c. 1 2 3 4 5`.
use Rattle.std.proofs.Common.{◌≡◌, ℕ, List, [], ◌∷◌, ◌++◌, length, refl, sym, ◌∙◌, ap, subst, arith, append-nil}
use Rattle.std.specs.List.{AllZip}
use Rattle.dns_label.specs.Name.{IsName}
use Rattle.dns_name.specs.Spelling.{tree_spelling, name_text, known_after, split_from}
use Rattle.dns_name.specs.Page.{Parts, write}
use Rattle.dns_name.specs.Page.Parts.{End}
use Rattle.dns_header.specs.Header.{answer_header}
use Rattle.dns_rdata.specs.Fields.{Field, IsRow}
use Rattle.dns_rdata.specs.Fields.Field.{compressible, number32}
use Rattle.dns_message.specs.Record.{IsWritten, record_parts, written_parts}
use Rattle.dns_message.specs.Record.IsWritten.{fields}
use Rattle.dns_message.proofs.WrittenItems.{written_one}
use Rattle.dns_compression_laws.specs.Cost.{written}
use Rattle.dns_compression_laws.specs.Free.{IsFree, Stand}
use Rattle.dns_compression_laws.specs.Free.IsOneOf.{first, later}
use Rattle.dns_compression_laws.specs.Free.SpellsFreely.{counted, named, nothing, octets}
use Rattle.dns_compression_laws.specs.Free.SpellsNameFreely.{label, pointer, root}
use Rattle.dns_compression_laws.specs.Groups.{group_parts}
use Rattle.dns_compression_laws.specs.Joined.{join_parts}
use Rattle.dns_compression_laws.proofs.OwnSpelling.{own_is_free}
use Rattle.zone_records.specs.Record.{Record}
use Rattle.zone_core.specs.Cutting.{joined}
use Rattle.zone_core.specs.Frames.{frame}
use Rattle.zone_core.proofs.Framing.{whole_frames_one}
use Rattle.zone_send.specs.Best.{IsBest, IsShortest}
use Rattle.zone_send.specs.Spelled.{answer_head, spelled_size, IsFreeAnswer}
use Rattle.zone_send.specs.SpelledSent.{IsSpelledSent, spelled_message}
use Rattle.zone_core.specs.declared.spelling.Spelling.TheVariants.{Tree}
use Rattle.zone_send.proofs.Best.{tree_best}
use Rattle.zone_send.proofs.SentOnce.{sent_once}
use Rattle.zone_send.proofs.TriedZone.{soa, query}

one_label : (octet : ℕ) → IsName ((octet ∷ []) ∷ [])
one_label octet = record { labels = (record { some = omega arith; short = omega arith }, tt); short = omega arith }

abbrev soa_row : List Field
soa_row =
    compressible ((98 ∷ []) ∷ []) ∷ compressible ((99 ∷ []) ∷ []) ∷ number32 1 ∷ number32 2 ∷ number32 3 ∷ number32 4 ∷ number32 5 ∷ []

soa_is_row : IsRow 6 soa_row
soa_is_row = record {
  kinds = refl;
  each = (one_label 98, (one_label 99, (omega arith, (omega arith, (omega arith, (omega arith, (omega arith, tt)))))));
  short = omega arith;
}

soa_parts : Parts
soa_parts = record_parts soa (written_parts soa_row)

soa_written : IsWritten soa soa_parts
unfolding soa_parts
soa_written = fields soa_row soa_is_row refl

-- the five numbers of the SOA
abbrev numbers : List ℕ
numbers = 0 ∷ 0 ∷ 0 ∷ 1 ∷ 0 ∷ 0 ∷ 0 ∷ 2 ∷ 0 ∷ 0 ∷ 0 ∷ 3 ∷ 0 ∷ 0 ∷ 0 ∷ 4 ∷ 0 ∷ 0 ∷ 0 ∷ 5 ∷ []

-- the header of an answer with this number of records, the question, and the SOA: its owner points to the question's
-- name
abbrev front : ℕ → List ℕ
front count =
    18 ∷ 52 ∷ 132 ∷ 0 ∷ 0 ∷ 1 ∷ 0 ∷ count ∷ 0 ∷ 0 ∷ 0 ∷ 0 ∷ 1 ∷ 97 ∷ 0 ∷ 0 ∷ 252 ∷ 0 ∷ 1
    ∷ 192 ∷ 12 ∷ 0 ∷ 6 ∷ 0 ∷ 1 ∷ 0 ∷ 0 ∷ 0 ∷ 60 ∷ 0 ∷ 26 ∷ 1 ∷ 98 ∷ 0 ∷ 1 ∷ 99 ∷ 0 ∷ numbers

-- 57 octets, and the SOA again in 36: all of its names are pointers
abbrev shortest : List ℕ
shortest = front 2 ++ 192 ∷ 12 ∷ 0 ∷ 6 ∷ 0 ∷ 1 ∷ 0 ∷ 0 ∷ 0 ∷ 60 ∷ 0 ∷ 24 ∷ 192 ∷ 31 ∷ 192 ∷ 34 ∷ numbers

-- its second SOA writes `c.` again, which takes an octet more
abbrev longer : List ℕ
longer = front 2 ++ 192 ∷ 12 ∷ 0 ∷ 6 ∷ 0 ∷ 1 ∷ 0 ∷ 0 ∷ 0 ∷ 60 ∷ 0 ∷ 25 ∷ 192 ∷ 31 ∷ 1 ∷ 99 ∷ 0 ∷ numbers

-- the message of the SOA twice, given its parts
message_with : Parts → List ℕ
message_with parts = written tree_spelling (join_parts (answer_head query (soa ∷ soa ∷ [])) (join_parts parts (join_parts parts End)))

is_shortest : message_with soa_parts ≡ shortest
unfolding message_with soa_parts write name_text known_after split_from
is_shortest = refl

size_is : spelled_size tree_spelling query (λ r. soa_parts) (soa ∷ soa ∷ []) ≡ 93
unfolding message_with
size_is = ap (length {A = ℕ}) is_shortest

-- One message of 93 octets carries the SOA and the SOA again.
pub sent : IsSpelledSent tree_spelling (soa ∷ []) query 512 (frame shortest)
unfolding message_with
sent = record {
  item = λ r. soa_parts;
  each = (soa_written, tt);
  groups = (soa ∷ soa ∷ []) ∷ [];
  cut = record {
    fits = record { cut = record { nonempty = (tt, tt); joins = refl }; small = (omega (arith, size_is), tt) };
    full = (tt, tt);
  };
  framed = ap (λ (m : List ℕ). frame m ++ []) (sym is_shortest);
}

-- They are not sent in two messages of 57 octets, one each.
pub no_two_messages : IsSpelledSent tree_spelling (soa ∷ []) query 512 (frame (front 1) ++ frame (front 1)) → ⊥
no_two_messages other =
    let same : frame shortest ≡ frame (front 1) ++ frame (front 1) =
    sent_once Tree (soa ∷ []) query 512 (frame shortest) (frame (front 1) ++ frame (front 1)) sent other in
    cc

-- No message of them has fewer octets than 93, and no stream has fewer messages than one.
pub is_best : IsBest (soa ∷ []) query 512 (frame shortest)
is_best = tree_best query (soa ∷ []) 512 (frame shortest) (omega arith) sent

-- a suffix of one label, at its place
abbrev stand : ℕ → ℕ → Stand
stand octet place = record { label = octet ∷ []; parent = []; place = place }

-- `longer` spells the same parts: each of its pointers goes to the same suffix, written before.
longer_is_free : IsFree longer (group_parts (answer_head query) (λ r. soa_parts) (soa ∷ soa ∷ []))
unfolding soa_parts
longer_is_free = record {
  after = _;
  spelled =
      octets _ _ refl
      (named (stand 97 12 ∷ []) 15 (label (97 ∷ []) _ refl (root _ refl))
      (octets _ _ refl
      (named (stand 97 19 ∷ []) 21 (pointer 192 12 _ (stand 97 12) refl (omega arith) refl first)
      (octets _ _ refl
      (counted 26 _ _ refl (omega arith)
      (named (stand 98 31 ∷ []) 34 (label (98 ∷ []) _ refl (root _ refl))
      (named (stand 99 34 ∷ []) 37 (label (99 ∷ []) _ refl (root _ refl))
      (octets _ _ refl (octets _ _ refl (octets _ _ refl (octets _ _ refl (octets _ _ refl (nothing (omega arith)))))))))
      (named (stand 97 57 ∷ []) 59 (pointer 192 12 _ (stand 97 12) refl (omega arith) refl (later (later (later first))))
      (octets _ _ refl
      (counted 25 _ _ refl (omega arith)
      (named (stand 98 69 ∷ []) 71 (pointer 192 31 _ (stand 98 31) refl (omega arith) refl (later (later first)))
      (named (stand 99 71 ∷ []) 74 (label (99 ∷ []) _ refl (root _ refl))
      (octets _ _ refl (octets _ _ refl (octets _ _ refl (octets _ _ refl (octets _ _ refl (nothing (omega arith)))))))))
      (nothing (omega arith))))))))));
}

beaten : (item : Record → Parts) → IsWritten soa (item soa) → IsShortest query item longer (soa ∷ soa ∷ []) → ⊥
unfolding message_with
beaten item given is =
    let same : item soa ≡ soa_parts = written_one soa (item soa) soa_parts given soa_written in
    let rival : List ℕ = spelled_message tree_spelling query item (soa ∷ soa ∷ []) in
    let free : IsFreeAnswer query item rival (soa ∷ soa ∷ []) = record {
      header = answer_header query.id query.recursion 2;
      twelve = refl;
      spelled = own_is_free tree_spelling refl (group_parts (answer_head query) item (soa ∷ soa ∷ []));
    } in
    let size : length rival ≡ 93 = ap (λ (parts : Parts). length (message_with parts)) same ∙ ap (length {A = ℕ}) is_shortest in
    omega (arith, is.shortest rival free, size)

one_group : (item : Record → Parts) (groups : List (List Record)) → IsWritten soa (item soa) → joined groups ≡ soa ∷ soa ∷ []
    → AllZip (IsShortest query item) (longer ∷ []) groups → ⊥
one_group item [] given joins each = absurd each
one_group item (group ∷ []) given joins each =
    beaten item given (subst (λ (g : List Record). IsShortest query item longer g) (sym (append-nil group) ∙ joins) each.0)
one_group item (group ∷ (next ∷ groups)) given joins each = absurd each.1

-- A stream of the message of 94 octets is not a best one: the one of 93 is shorter.
pub no_longer_message : IsBest (soa ∷ []) query 512 (frame longer) → ⊥
no_longer_message is =
    let one : is.messages ≡ longer ∷ [] =
    whole_frames_one is.messages (longer ∷ []) is.framable (omega arith, tt) (sym is.whole ∙ sym (append-nil (frame longer))) in
    one_group is.item is.groups is.each.0 is.cut.joins (subst (λ (ms : List (List ℕ)). AllZip (IsShortest query is.item) ms is.groups) one is.shortest)
