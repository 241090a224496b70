-- Texts of absolute names whose octets are printed as themselves: the octets behind the first, with a dot behind each label.
use Rattle.std.proofs.Common.{◌≡◌, ℕ, ◌+◌, ◌-◌, ◌<◌, ◌≤◌, zero, suc, List, [], ◌∷◌, ◌++◌, length, take, drop, set, get_or, refl, sym, ap, subst, ◌∙◌, arith, append_assoc, length-append, length-drop}
use Rattle.std.proofs.lemmas.List.{take_at, drop_at, drop-drop, set_split, set-append_right, get_or-append-add, length-take-le, take_rest}
use Rattle.std.proofs.lemmas.Str.{IsAscii-append}
use Rattle.std.specs.Prelude.{IsAscii}
use Rattle.std.specs.List.{prefix_len}
use Rattle.dns_label.specs.Labels.{labels_at}
use Rattle.dns_label.specs.Name.{wire}
use Rattle.dns_label.specs.Printed.{is_printed_as_itself, printed_labels, printed_name}
use Rattle.dns_label.proofs.PlainLabels.{ArePlain, front_plain, printed_label-plain, IsAscii-plain}
use Rattle.dns_wire.specs.Flat.{IsWritten}
use Rattle.dns_flat.specs.PrintedLabels.{with_ends}

-- the labels with this octet behind each
abbrev spread : ℕ → List (List ℕ) → List ℕ
spread mark [] = []
spread mark (label ∷ name) = label ++ mark ∷ spread mark name

wire_behind : (name : List (List ℕ)) (rest : List ℕ) → drop 1 (wire name ++ rest) ≡ drop 1 (wire name) ++ rest
wire_behind [] rest = refl
wire_behind (label ∷ name) rest = refl

with_ends-first : (mark : ℕ) (label rest : List ℕ) (name : List (List ℕ))
    → with_ends mark (label ∷ name) (label ++ rest) ≡ label ++ mark ∷ with_ends mark name (drop 1 rest)
with_ends-first mark label rest name =
    let behind : drop (length label + 1) (label ++ rest) ≡ drop 1 rest =
    sym (drop-drop 1 (length label) (label ++ rest)) ∙ ap (drop 1) (drop_at label rest (length label) refl) in
    ap (λ l. l ++ mark ∷ with_ends mark name (drop (length label + 1) (label ++ rest))) (take_at label rest (length label) refl)
    ∙ ap (λ l. label ++ mark ∷ with_ends mark name l) behind

with_ends-wire : (mark : ℕ) (name : List (List ℕ)) (rest : List ℕ)
    → with_ends mark name (drop 1 (wire name) ++ rest) ≡ spread mark name ++ rest
with_ends-wire mark [] rest = refl
with_ends-wire mark (label ∷ name) rest =
    ap (λ l. with_ends mark (label ∷ name) l) (append_assoc label (wire name) rest)
    ∙ with_ends-first mark label (wire name ++ rest) name
    ∙ ap (λ l. label ++ mark ∷ with_ends mark name l) (wire_behind name rest)
    ∙ ap (λ l. label ++ mark ∷ l) (with_ends-wire mark name rest)
    ∙ sym (append_assoc label (mark ∷ spread mark name) rest)

with_ends-spread : (mark other : ℕ) (name : List (List ℕ)) (rest : List ℕ)
    → with_ends mark name (spread other name ++ rest) ≡ spread mark name ++ rest
with_ends-spread mark other [] rest = refl
with_ends-spread mark other (label ∷ name) rest =
    ap (λ l. with_ends mark (label ∷ name) l) (append_assoc label (other ∷ spread other name) rest)
    ∙ with_ends-first mark label (other ∷ (spread other name ++ rest)) name
    ∙ ap (λ l. label ++ mark ∷ l) (with_ends-spread mark other name rest)
    ∙ sym (append_assoc label (mark ∷ spread mark name) rest)

length-spread : (mark : ℕ) (name : List (List ℕ)) → length (spread mark name) + 1 ≡ length (wire name)
length-spread mark [] = refl
length-spread mark (label ∷ name) =
    omega (arith, length-spread mark name, length-append label (mark ∷ spread mark name), length-append label (wire name))

plain_front : (label rest : List ℕ) → ArePlain (label ++ rest) → ArePlain label
plain_front [] rest each = tt
plain_front (octet ∷ label) rest each = (each.0, plain_front label rest each.1)

plain_behind : (label rest : List ℕ) → ArePlain (label ++ rest) → ArePlain rest
plain_behind [] rest each = each
plain_behind (octet ∷ label) rest each = plain_behind label rest each.1

printed_spread : (other : ℕ) (name : List (List ℕ)) → ArePlain (spread other name) → printed_labels name ≡ spread 46 name
printed_spread other [] each = refl
printed_spread other (label ∷ name) each =
    ap (λ l. l ++ 46 ∷ printed_labels name) (printed_label-plain label (plain_front label (other ∷ spread other name) each))
    ∙ ap (λ l. label ++ 46 ∷ l) (printed_spread other name (plain_behind label (other ∷ spread other name) each).1)

dot_ascii : (text : List ℕ) → IsAscii text → IsAscii (46 ∷ text)
dot_ascii text is zero = omega arith
dot_ascii text is (suc i) = is i

none_ascii : IsAscii []
none_ascii i = omega arith

spread_ascii : (other : ℕ) (name : List (List ℕ)) → ArePlain (spread other name) → IsAscii (spread 46 name)
spread_ascii other [] each = none_ascii
spread_ascii other (label ∷ name) each =
    IsAscii-append label (46 ∷ spread 46 name) (IsAscii-plain label (plain_front label (other ∷ spread other name) each))
    (dot_ascii (spread 46 name) (spread_ascii other name (plain_behind label (other ∷ spread other name) each).1))

-- a text that is made in this way is the name's
pub record IsMade (name : List (List ℕ)) (text : List ℕ) : Type 0 where
  pub printed : text ≡ printed_name name
  pub ascii : IsAscii text

pub made_of : (other : ℕ) (name : List (List ℕ)) (octets behind rest marked text : List ℕ) → octets ≡ wire name → behind ≡ drop 1 octets
    → 0 < length behind → marked ≡ with_ends other name (behind ++ rest) → length behind ≤ prefix_len is_printed_as_itself marked
    → text ≡ with_ends 46 name marked → IsMade name (take (length behind) text)
made_of other [] octets behind rest marked text is behind_is some marked_is plain text_is =
    absurd (omega (arith, ap (length {A = ℕ}) behind_is, ap (λ l. length (drop 1 l)) is))
made_of other (label ∷ parent) octets behind rest marked text is behind_is some marked_is plain text_is =
    let name : List (List ℕ) = label ∷ parent in
    let size : length behind ≡ length (spread other name) =
    omega (arith, ap (length {A = ℕ}) behind_is, length-drop 1 octets, ap (length {A = ℕ}) is, length-spread other name) in
    let size_on : length (spread 46 name) ≡ length behind = omega (arith, length-spread 46 name, length-spread other name, size) in
    let spread_is : marked ≡ spread other name ++ rest =
    marked_is ∙ ap (λ l. with_ends other name (l ++ rest)) (behind_is ∙ ap (drop 1) is) ∙ with_ends-wire other name rest in
    let whole : text ≡ spread 46 name ++ rest =
    text_is ∙ ap (λ l. with_ends 46 name l) spread_is ∙ with_ends-spread 46 other name rest in
    let shown : take (length behind) text ≡ spread 46 name =
    ap (take (length behind)) whole ∙ take_at (spread 46 name) rest (length behind) size_on in
    let run : length (spread other name) ≤ prefix_len is_printed_as_itself (spread other name ++ rest) =
    omega (arith, size, plain, ap (prefix_len is_printed_as_itself) spread_is) in
    let each = front_plain (spread other name) rest run in
    let Q : List ℕ → Type 0 = λ l. IsAscii l in
    record { printed = shown ∙ sym (printed_spread other name each); ascii = subst Q (sym shown) (spread_ascii other name each) }

pub made : {octets copied marked text : List ℕ} (rest : List ℕ) → IsWritten octets → copied ≡ take (length octets - 1) (drop 1 octets)
    → 0 < length (take (length octets - 1) (drop 1 octets)) → marked ≡ with_ends 97 (labels_at octets 0) (copied ++ rest)
    → length (take (length octets - 1) (drop 1 octets)) ≤ prefix_len is_printed_as_itself marked
    → text ≡ with_ends 46 (labels_at octets 0) marked
    → IsMade (labels_at octets 0) (take (length (take (length octets - 1) (drop 1 octets))) text)
made {octets} {copied} {marked} {text} rest written copied_is some marked_is plain text_is =
    made_of 97 (labels_at octets 0) octets (take (length octets - 1) (drop 1 octets)) rest marked text written.whole (take_rest octets 1) some
    (marked_is ∙ ap (λ l. with_ends 97 (labels_at octets 0) (l ++ rest)) copied_is) plain text_is

abbrev first_len : List (List ℕ) → ℕ
first_len [] = 0
first_len (label ∷ name) = length label

wire_first : (name : List (List ℕ)) → get_or (wire name) 0 0 ≡ first_len name
wire_first [] = refl
wire_first (label ∷ name) = refl

-- an octet was put behind the labels before a place, the end of the next
pub record Marking (mark : ℕ) (name : List (List ℕ)) (octets old text : List ℕ) (place : ℕ) : Type 0 where
  pub rest : List (List ℕ)
  pub passed : List ℕ
  pub front : List ℕ
  pub back : List ℕ
  pub octets_are : octets ≡ passed ++ wire rest
  pub text_is : text ≡ front ++ back
  pub same : length passed ≡ length front
  pub here : place ≡ length front + first_len rest
  pub long : length (wire rest) ≤ length back + 1
  pub will : with_ends mark name old ≡ front ++ with_ends mark rest back

pub marking_none : (mark : ℕ) (name : List (List ℕ)) (octets old : List ℕ) (place : ℕ) → octets ≡ wire name
    → length octets ≤ length old + 1 → place ≡ get_or octets 0 0 → Marking mark name octets old old place
marking_none mark name octets old place is long at = record {
  rest = name;
  passed = [];
  front = [];
  back = old;
  octets_are = is;
  text_is = refl;
  same = refl;
  here = at ∙ ap (λ l. get_or l 0 0) is ∙ wire_first name ∙ omega arith;
  long = omega (arith, ap (length {A = ℕ}) is);
  will = refl;
}

pub wire_some : (name : List (List ℕ)) → 0 < length (wire name)
wire_some [] = omega arith
wire_some (label ∷ name) = omega arith

joined : (front taken : List ℕ) (mark : ℕ) (back : List ℕ)
    → front ++ (taken ++ mark ∷ back) ≡ (front ++ (taken ++ mark ∷ [])) ++ back
joined front taken mark back =
    ap (λ l. front ++ l) (sym (append_assoc taken (mark ∷ []) back)) ∙ sym (append_assoc front (taken ++ mark ∷ []) back)

marked_next : (front back : List ℕ) (mark place count : ℕ) → place ≡ length front + count → count < length back
    → set (front ++ back) place mark ≡ (front ++ (take count back ++ mark ∷ [])) ++ drop (count + 1) back
marked_next front back mark place count at within =
    set-append_right front back (length front) place mark refl (omega arith)
    ∙ ap (λ k. front ++ set back k mark) {x = place - length front} {y = count} (omega arith)
    ∙ ap (λ l. front ++ l) (set_split back count mark within)
    ∙ ap (λ k. front ++ (take count back ++ mark ∷ drop k back)) {x = suc count} {y = count + 1} (omega arith)
    ∙ joined front (take count back) mark (drop (count + 1) back)

on_by : (mark : ℕ) (name : List (List ℕ)) (octets old text : List ℕ) (place read : ℕ) (rest : List (List ℕ)) (passed front back : List ℕ)
    → octets ≡ passed ++ wire rest → text ≡ front ++ back → length passed ≡ length front → place ≡ length front + first_len rest
    → length (wire rest) ≤ length back + 1 → with_ends mark name old ≡ front ++ with_ends mark rest back
    → place + 1 < length octets → read ≡ get_or octets (place + 1) 0 → Marking mark name octets old (set text place mark) (place + (read + 1))
on_by mark name octets old text place read [] passed front back octets_are text_is same here long will within at =
    absurd (omega (arith, ap (length {A = ℕ}) octets_are, length-append passed (wire [])))
on_by mark name octets old text place read (label ∷ more) passed front back octets_are text_is same here long will within at =
    let count : ℕ = length label in
    let size : count + length (wire more) ≤ length back = omega (arith, length-append label (wire more)) in
    let some : 0 < length (wire more) = wire_some more in
    let in_back : count < length back = omega arith in
    let passed_on : List ℕ = passed ++ (count ∷ label) in
    let front_on : List ℕ = front ++ (take count back ++ mark ∷ []) in
    let octets_on : octets ≡ passed_on ++ wire more = octets_are ∙ sym (append_assoc passed (count ∷ label) (wire more)) in
    let passed_len : length passed_on ≡ length passed + (count + 1) = omega (arith, length-append passed (count ∷ label)) in
    let front_len : length front_on ≡ length front + (count + 1) =
    omega (arith, length-append front (take count back ++ mark ∷ []), length-append (take count back) (mark ∷ []), length-take-le count back (omega arith)) in
    let next : place + 1 ≡ length passed_on + 0 = omega arith in
    let read_is : read ≡ first_len more =
    at ∙ ap (λ l. get_or l (place + 1) 0) octets_on ∙ ap (λ k. get_or (passed_on ++ wire more) k 0) next
    ∙ get_or-append-add passed_on (wire more) 0 0 ∙ wire_first more in
    record {
      rest = more;
      passed = passed_on;
      front = front_on;
      back = drop (count + 1) back;
      octets_are = octets_on;
      text_is = ap (λ l. set l place mark) text_is ∙ marked_next front back mark place count here in_back;
      same = omega arith;
      here = omega arith;
      long = omega (arith, length-drop (count + 1) back);
      will = will ∙ joined front (take count back) mark (with_ends mark more (drop (count + 1) back));
    }

pub marking_on : {mark : ℕ} {name : List (List ℕ)} {octets old text : List ℕ} {place : ℕ} (read : ℕ)
    → Marking mark name octets old text place → place + 1 < length octets → read ≡ get_or octets (place + 1) 0
    → Marking mark name octets old (set text place mark) (place + (read + 1))
marking_on {mark} {name} {octets} {old} {text} {place} read here within at =
    on_by mark name octets old text place read here.rest here.passed here.front here.back here.octets_are here.text_is here.same
    here.here here.long here.will within at

all_by : (mark : ℕ) (name : List (List ℕ)) (octets old text : List ℕ) (place : ℕ) (rest : List (List ℕ)) (passed front back : List ℕ)
    → octets ≡ passed ++ wire rest → text ≡ front ++ back → length passed ≡ length front → place ≡ length front + first_len rest
    → with_ends mark name old ≡ front ++ with_ends mark rest back → length octets ≤ place + 1 → text ≡ with_ends mark name old
all_by mark name octets old text place [] passed front back octets_are text_is same here will past = text_is ∙ sym will
all_by mark name octets old text place (label ∷ more) passed front back octets_are text_is same here will past =
    let some : 0 < length (wire more) = wire_some more in
    absurd (omega (arith, ap (length {A = ℕ}) octets_are, length-append passed (wire (label ∷ more)), length-append label (wire more)))

-- behind all of them
pub marking_all : {mark : ℕ} {name : List (List ℕ)} {octets old text : List ℕ} {place : ℕ}
    → Marking mark name octets old text place → length octets ≤ place + 1 → text ≡ with_ends mark name old
marking_all {mark} {name} {octets} {old} {text} {place} here past =
    all_by mark name octets old text place here.rest here.passed here.front here.back here.octets_are here.text_is here.same here.here
    here.will past
