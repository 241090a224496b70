-- Parts whose names are written out are spelled, whatever is around them.
use Rattle.std.proofs.Common.{◌≡◌, ℕ, ◌+◌, ◌<◌, ◌≤◌, ◌^◌, List, [], ◌++◌, length, take, drop, refl, sym, ap, ◌∙◌, subst, arith, append_assoc, append-nil, length-append, length-take-le}
use Rattle.std.specs.Prelude.{⊤}
use Rattle.std.specs.Int.{to_be_bytes, w16}
use Rattle.std.proofs.lemmas.List.{drop-take, take_at}
use Rattle.dns_label.specs.Name.{IsName, wire}
use Rattle.dns_label.proofs.Spelling.{drop_behind}
use Rattle.dns_name.specs.SpelledParts.{SpellsParts}
use Rattle.dns_header.proofs.WrittenQuestions.{reads-written, within_message}
use Rattle.dns_message.proofs.Plain.{plain}
use Rattle.dns_name.specs.Page.{Parts}
use Rattle.dns_name.specs.Page.Parts.{End, Octets, Named, Counted}
use Rattle.dns_name.specs.SpelledParts.SpellsParts.{nothing, octets, named, counted}

-- parts that can be written: their names are names, and each of their counts fits two octets
abbrev pub AreWritable : Parts → Type 0
AreWritable End = ⊤
AreWritable (Octets text parts) = AreWritable parts
AreWritable (Named name parts) = IsName name × AreWritable parts
AreWritable (Counted inner parts) = (length (plain inner) < 2 ^ 16) × AreWritable inner × AreWritable parts

-- the octets that a length counts are the end of the message up to there
counted_octets : (message : List ℕ) (place count : ℕ) (inner rest : List ℕ) → drop place message ≡ inner ++ rest → count ≡ length inner
    → drop place (take (place + count) message) ≡ inner ++ []
counted_octets message place count inner rest at counts =
    drop-take place count message ∙ ap (take count) at ∙ take_at inner rest count (sym counts) ∙ sym (append-nil inner)

pub spells-written : (message : List ℕ) (place : ℕ) (parts : Parts) (rest : List ℕ) → drop place message ≡ plain parts ++ rest
    → place ≤ length message → AreWritable parts → SpellsParts message place parts (place + length (plain parts))
spells-written message place End rest at within can =
    let P : ℕ → Type 0 = λ next. SpellsParts message place End next in
    subst P (omega arith) (nothing within)
spells-written message place (Octets text parts) rest at within can =
    let here : drop place message ≡ text ++ (plain parts ++ rest) = at ∙ append_assoc text (plain parts) rest in
    let behind : drop (place + length text) message ≡ plain parts ++ rest = drop_behind message place _ text (plain parts ++ rest) here refl in
    let room = within_message message place text (plain parts ++ rest) here within in
    let goes = spells-written message (place + length text) parts rest behind (omega arith) can in
    let P : ℕ → Type 0 = λ next. SpellsParts message place (Octets text parts) next in
    subst P (omega (arith, length-append text (plain parts))) (octets (plain parts ++ rest) here goes)
spells-written message place (Named name parts) rest at within can =
    let here : drop place message ≡ wire name ++ (plain parts ++ rest) = at ∙ append_assoc (wire name) (plain parts) rest in
    let behind : drop (place + length (wire name)) message ≡ plain parts ++ rest = drop_behind message place _ (wire name) (plain parts ++ rest) here refl in
    let room = within_message message place (wire name) (plain parts ++ rest) here within in
    let goes = spells-written message (place + length (wire name)) parts rest behind (omega arith) can.1 in
    let P : ℕ → Type 0 = λ next. SpellsParts message place (Named name parts) next in
    subst P (omega (arith, length-append (wire name) (plain parts)))
    (named (place + length (wire name)) (reads-written message place name (plain parts ++ rest) here can.0) goes)
spells-written message place (Counted inner parts) rest at within can =
    let mark : List ℕ = to_be_bytes w16 (length (plain inner)) in
    let here : drop place message ≡ mark ++ (plain inner ++ (plain parts ++ rest)) =
    at ∙ append_assoc mark (plain inner ++ plain parts) rest ∙ ap (λ l. mark ++ l) (append_assoc (plain inner) (plain parts) rest) in
    let inside : drop (place + 2) message ≡ plain inner ++ (plain parts ++ rest) = drop_behind message place (place + 2) mark (plain inner ++ (plain parts ++ rest)) here refl in
    let behind : drop (place + 2 + length (plain inner)) message ≡ plain parts ++ rest = drop_behind message (place + 2) _ (plain inner) (plain parts ++ rest) inside refl in
    let room = within_message message place mark (plain inner ++ (plain parts ++ rest)) here within in
    let fits : place + 2 + length (plain inner) ≤ length message = omega (arith, room, length-append (plain inner) (plain parts ++ rest)) in
    let counts = counted_octets message (place + 2) (length (plain inner)) (plain inner) (plain parts ++ rest) inside refl in
    let front : place + 2 ≤ length (take (place + 2 + length (plain inner)) message) = omega (arith, length-take-le (place + 2 + length (plain inner)) message fits) in
    let held = spells-written (take (place + 2 + length (plain inner)) message) (place + 2) inner [] counts front can.1 in
    let goes = spells-written message (place + 2 + length (plain inner)) parts rest behind fits can.2 in
    let P : ℕ → Type 0 = λ next. SpellsParts message place (Counted inner parts) next in
    subst P (omega (arith, length-append mark (plain inner ++ plain parts), length-append (plain inner) (plain parts)))
    (counted (length (plain inner)) (plain inner ++ (plain parts ++ rest)) here can.0 fits held goes)
