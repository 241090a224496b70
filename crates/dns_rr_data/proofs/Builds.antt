-- Octets that hold strings while they are built.
use Rattle.std.proofs.Common.{◌≡◌, ℕ, zero, suc, ◌+◌, ◌*◌, ◌<◌, ◌≤◌, List, [], ◌∷◌, ◌++◌, length, take, drop, set, refl, sym, ◌∙◌, ap, subst, arith, append_assoc, append-nil, length-append, length-take, length-drop}
use Rattle.std.specs.Prelude.{Option, Some, None}
use Rattle.std.specs.List.{AllByRecursion, concat, flat_map}
use Rattle.std.proofs.Math.Seq.{take-append_seam, drop-append_seam}
use Rattle.std.proofs.lemmas.Grind.{flat_map-append}
use Rattle.std.proofs.lemmas.List.{drop-drop, take-append-drop}
use Rattle.std.proofs.lemmas.List.Folds.{concat-append}
use Rattle.dns_text.specs.CharStr.{string_wire}
use Rattle.dns_fields.specs.Fields.{IsString}
use Rattle.dns_fields.specs.Strings.{strings_of}
use Rattle.dns_fields.proofs.StringsOf.{strings_of-written}
use Rattle.dns_rr_data.specs.Built.{Built, GoesOn, IsCut, StandsFor, AddsText, built_of, open_string, open_place, some_strings, strings_built, strings_len, text_len}

abbrev pub IsFull : List ℕ → Type 0
IsFull string = length string ≡ 255

-- what is before the rest of a text is appended as full strings
pub record Taken (text rest old now : List ℕ) : Type 0 where
  pub full : List (List ℕ)
  pub whole : text ≡ concat full ++ rest
  pub each : AllByRecursion IsFull full
  pub written : now ≡ old ++ flat_map string_wire full

all_more : (P : List ℕ → Type 0) (front back : List (List ℕ)) → AllByRecursion P front → AllByRecursion P back → AllByRecursion P (front ++ back)
all_more P [] back each all = all
all_more P (string ∷ front) back each all = (each.0, all_more P front back each.1 all)

pub taken_more : {text rest old now behind new : List ℕ} (string : List ℕ) → Taken text rest old now → rest ≡ string ++ behind → length string ≡ 255
    → new ≡ now ++ string_wire string → Taken text behind old new
taken_more {text = text} {old = old} {behind = behind} string taken is long on = record {
  full = taken.full ++ string ∷ [];
  whole = taken.whole ∙ ap (λ l. concat taken.full ++ l) is ∙ sym (append_assoc (concat taken.full) string behind)
      ∙ ap (λ l. l ++ behind) (sym (concat-append taken.full (string ∷ []) ∙ ap (λ l. concat taken.full ++ l) (append-nil string)));
  each = all_more IsFull taken.full (string ∷ []) taken.each (long, tt);
  written = on ∙ ap (λ l. l ++ string_wire string) taken.written ∙ append_assoc old (flat_map string_wire taken.full) (string_wire string)
      ∙ ap (λ l. old ++ l) (sym (flat_map-append string_wire taken.full (string ∷ []) ∙ ap (λ l. flat_map string_wire taken.full ++ l) (append-nil (string_wire string))));
}

pub open_one : (rest : List ℕ) → 0 < length rest → open_string rest ≡ rest ∷ []
open_one [] some = absurd (omega arith)
open_one (octet ∷ rest) some = refl

pub open_at : (place : ℕ) (rest : List ℕ) → 0 < length rest → open_place place rest ≡ Some place
open_at place [] some = absurd (omega arith)
open_at place (octet ∷ rest) some = refl

-- an octet is changed at its place
set_parts : (octets more : List ℕ) (place octet : ℕ) → place < length octets
    → set (octets ++ more) place octet ≡ take place octets ++ octet ∷ (drop (place + 1) octets ++ more)
set_parts [] more place octet within = absurd (omega arith)
set_parts (first ∷ octets) more zero octet within = refl
set_parts (first ∷ octets) more (suc place) octet within =
    let on : suc (place + 1) ≡ suc place + 1 = omega arith in
    ap (λ l. first ∷ l) (set_parts octets more place octet (omega arith))
    ∙ ap (λ (n : ℕ). first ∷ (take place octets ++ octet ∷ (drop n (first ∷ octets) ++ more))) on

-- the open string goes on, and stays open
pub adds_open : {mid new : List ℕ} (old text : List ℕ) (place count : ℕ) → place < length old → mid ≡ old ++ text → new ≡ set mid place count
    → count ≡ length (drop (place + 1) old ++ text) → 0 < count → count < 255
    → AddsText (take place old) (drop (place + 1) old ++ text) new (Some place)
adds_open old text place count within on is size some short =
    let rest = drop (place + 1) old ++ text in
    let one = open_one rest (omega (arith, size)) in
    let at : length (take place old) ≡ place = omega (arith, length-take place old) in
    record {
      full = [];
      rest = rest;
      cut = record { whole = refl; each = tt; short = omega (arith, size) };
      written = is ∙ ap (λ (l : List ℕ). set l place count) on ∙ set_parts old text place count within
          ∙ ap (λ (n : ℕ). take place old ++ n ∷ rest) size
          ∙ ap (λ l. take place old ++ l) (sym (append-nil (string_wire rest)))
          ∙ ap (λ l. take place old ++ flat_map string_wire l) (sym one);
      place = sym (open_at (length (take place old) + 0) rest (omega (arith, size)) ∙ ap Some (omega (arith, at)));
    }

-- the open string is full, and others follow
pub adds_full : {mid behind new : List ℕ} {head : Option ℕ} (old first others : List ℕ) (place : ℕ) → place < length old → mid ≡ old ++ first
    → AddsText mid others behind head → new ≡ set behind place 255 → length (drop (place + 1) old ++ first) ≡ 255
    → AddsText (take place old) (drop (place + 1) old ++ (first ++ others)) new head
adds_full {mid = mid} {behind = behind} {head = head} old first others place within on adds is size =
    let begun = drop (place + 1) old in
    let front = take place old in
    let string = begun ++ first in
    let more = flat_map string_wire (adds.full ++ open_string adds.rest) in
    let at : length front ≡ place = omega (arith, length-take place old) in
    let all : length mid ≡ place + 256 =
    omega (arith, ap (length {A = ℕ}) on, length-append old first, length-append begun first, length-drop (place + 1) old) in
    let seam : length front + strings_len (string ∷ adds.full) ≡ length mid + strings_len adds.full =
    omega (arith, length-append (string_wire string) (flat_map string_wire adds.full)) in
    record {
      full = string ∷ adds.full;
      rest = adds.rest;
      cut = record {
        whole = sym (append_assoc begun first others) ∙ ap (λ l. string ++ l) adds.cut.whole ∙ sym (append_assoc string (concat adds.full) adds.rest);
        each = (size, adds.cut.each);
        short = adds.cut.short;
      };
      written = is ∙ ap (λ (l : List ℕ). set l place 255) (adds.written ∙ ap (λ l. l ++ more) on ∙ append_assoc old first more)
          ∙ set_parts old (first ++ more) place 255 within
          ∙ ap (λ l. front ++ 255 ∷ l) (sym (append_assoc begun first more))
          ∙ ap (λ (n : ℕ). front ++ n ∷ (string ++ more)) (sym size);
      place = adds.place ∙ ap (λ (n : ℕ). open_place n adds.rest) (sym seam);
    }

-- how many octets a text has as strings
full_len : (full : List (List ℕ)) → AllByRecursion IsFull full
    → (length (concat full) ≡ 255 * length full) × (strings_len full ≡ 256 * length full)
full_len [] each = (refl, refl)
full_len (string ∷ full) each =
    let others = full_len full each.1 in (
      omega (arith, each.0, others.0, length-append string (concat full)),
      omega (arith, each.0, others.1, length-append string (flat_map string_wire full)),
    )

open_len : (rest : List ℕ) → 0 < length rest → strings_len (open_string rest) ≡ 1 + length rest
open_len [] some = absurd (omega arith)
open_len (octet ∷ rest) some = omega (arith, ap (length {A = ℕ}) (append-nil (string_wire (octet ∷ rest))))

rest_len : (count : ℕ) (rest : List ℕ) → length rest < 255
    → 256 * count + strings_len (open_string rest) ≡ text_len (255 * count + length rest)
rest_len count [] short = omega arith
rest_len count (octet ∷ rest) short = omega (arith, open_len (octet ∷ rest) (omega arith))

pub cut_len : {text rest : List ℕ} {full : List (List ℕ)} → IsCut text full rest → strings_len (full ++ open_string rest) ≡ text_len (length text)
cut_len {text = text} {rest = rest} {full = full} cut =
    let fulls = full_len full cut.each in
    let size : 255 * length full + length rest ≡ length text =
    omega (arith, fulls.0, ap (length {A = ℕ}) cut.whole, length-append (concat full) rest) in
    ap (length {A = ℕ}) (flat_map-append string_wire full (open_string rest))
    ∙ length-append (flat_map string_wire full) (flat_map string_wire (open_string rest))
    ∙ ap (λ (n : ℕ). n + strings_len (open_string rest)) fulls.1
    ∙ rest_len (length full) rest cut.short ∙ ap text_len size

pub adds_len : {old text new : List ℕ} {head : Option ℕ} → AddsText old text new head → length new ≡ length old + text_len (length text)
adds_len {old = old} adds =
    ap (length {A = ℕ}) adds.written ∙ length-append old (flat_map string_wire (adds.full ++ open_string adds.rest))
    ∙ ap (λ (n : ℕ). length old + n) (cut_len adds.cut)

pub parted : (text front back : List ℕ) (n : ℕ) → front ≡ take n text → back ≡ drop n text → text ≡ front ++ back
parted text front back n is behind = sym (take-append-drop n text) ∙ ap (λ l. l ++ drop n text) (sym is) ∙ ap (λ l. front ++ l) (sym behind)

-- what is appended is cut off again
pub cut_back : {len : ℕ} (old first mid now : List ℕ) → mid ≡ old ++ first → take (length mid) now ≡ mid → len ≡ length old → take len now ≡ old
cut_back old first mid now on kept is =
    let tail = drop (length mid) now in
    let whole : now ≡ old ++ (first ++ tail) =
    sym (take-append-drop (length mid) now) ∙ ap (λ l. l ++ tail) (kept ∙ on) ∙ append_assoc old first tail in
    ap (λ (n : ℕ). take n now) is ∙ ap (take (length old)) whole ∙ take-append_seam old (first ++ tail)

-- what a contract sees is what the octets stand for
front_wire : (octets : List ℕ) (closed : List (List ℕ)) (text : List ℕ) → octets ≡ flat_map string_wire (closed ++ text ∷ [])
    → octets ≡ flat_map string_wire closed ++ string_wire text
front_wire octets closed text is =
    is ∙ flat_map-append string_wire closed (text ∷ []) ∙ ap (λ l. flat_map string_wire closed ++ l) (append-nil (string_wire text))

-- where a string is open
pub record IsOpen (octets : List ℕ) (place : ℕ) (built : Built) : Type 0 where
  pub at : place ≡ strings_len built.closed
  pub front : take place octets ≡ flat_map string_wire built.closed
  pub behind : drop (place + 1) octets ≡ built.begun
  pub some : 0 < length built.begun
  pub size : length octets ≡ place + 1 + length built.begun

pub stands_open : (octets : List ℕ) (place : ℕ) (built : Built) → StandsFor octets (Some place) built → IsOpen octets place built
stands_open octets place built stands = by built.begun built.closed stands.whole stands.place
  where
    by : (begun : List ℕ) (closed : List (List ℕ)) → octets ≡ flat_map string_wire (closed ++ open_string begun) → Some place ≡ open_place (strings_len closed) begun
        → IsOpen octets place (record { closed = closed; begun = begun })
    by [] closed whole is = let no : Some place ≡ None = is in absurd (cc)
    by (octet ∷ begun) closed whole is =
        let text = octet ∷ begun in
        let wire = front_wire octets closed text whole in
        let at : place ≡ strings_len closed = let is : Some place ≡ Some (strings_len closed) = is in cc in
        let ends = flat_map string_wire closed in
        record {
          at = at;
          front = ap (λ (n : ℕ). take n octets) at ∙ ap (take (length ends)) wire ∙ take-append_seam ends (string_wire text);
          behind = ap (λ (n : ℕ). drop (n + 1) octets) at ∙ sym (drop-drop 1 (length ends) octets)
              ∙ ap (drop 1) (ap (drop (length ends)) wire ∙ drop-append_seam ends (string_wire text));
          some = omega arith;
          size = omega (arith, at, ap (length {A = ℕ}) wire, length-append ends (string_wire text));
        }

-- where none is
pub stands_closed : (octets : List ℕ) (built : Built) → StandsFor octets None built → (octets ≡ flat_map string_wire built.closed) × (built.begun ≡ [])
stands_closed octets built stands = by built.begun built.closed stands.whole stands.place
  where
    by : (begun : List ℕ) (closed : List (List ℕ)) → octets ≡ flat_map string_wire (closed ++ open_string begun) → None ≡ open_place (strings_len closed) begun
        → (octets ≡ flat_map string_wire closed) × (begun ≡ [])
    by [] closed whole is = (whole ∙ ap (flat_map string_wire) (append-nil closed), refl)
    by (octet ∷ begun) closed whole is = let no : None ≡ Some (strings_len closed) = is in absurd (cc)

pub stands_is : (octets : List ℕ) (head : Option ℕ) (built : Built) → StandsFor octets head built → built_of octets head ≡ built
stands_is octets None built stands =
    let here = stands_closed octets built stands in
    let P : List (List ℕ) → Built = λ l. record { closed = l; begun = [] } in
    let Q : List ℕ → Built = λ l. record { closed = built.closed; begun = l } in
    ap P (ap strings_of here.0 ∙ strings_of-written built.closed) ∙ ap Q (sym here.1)
stands_is octets (Some place) built stands =
    let here = stands_open octets place built stands in
    let P : List (List ℕ) → Built = λ l. record { closed = l; begun = drop (place + 1) octets } in
    let Q : List ℕ → Built = λ l. record { closed = built.closed; begun = l } in
    ap P (ap strings_of here.front ∙ strings_of-written built.closed) ∙ ap Q here.behind

pub stands_here : (octets : List ℕ) (head : Option ℕ) (built : Built) → StandsFor octets head built → StandsFor octets head (built_of octets head)
stands_here octets head built stands =
    let P : Built → Type 0 = λ b. StandsFor octets head b in subst P (sym (stands_is octets head built stands)) stands

pub stands_seen : {octets : List ℕ} {head : Option ℕ} {view built : Built} → view ≡ built → StandsFor octets head view → StandsFor octets head built
stands_seen {octets = octets} {head = head} is stands = let P : Built → Type 0 = λ b. StandsFor octets head b in subst P is stands

pub stands_nothing : (octets : List ℕ) → octets ≡ [] → StandsFor octets None (record { closed = []; begun = [] })
stands_nothing octets none = record {
  each = tt;
  short = omega arith;
  whole = none;
  few = omega (arith, ap (length {A = ℕ}) none);
  place = refl;
}

open_strings : (begun : List ℕ) → length begun < 255 → AllByRecursion IsString (open_string begun)
open_strings [] short = tt
open_strings (octet ∷ begun) short = (omega arith, tt)

full_strings : (full : List (List ℕ)) → AllByRecursion IsFull full → AllByRecursion IsString full
full_strings [] each = tt
full_strings (string ∷ full) each = (omega (arith, each.0), full_strings full each.1)

pub strings_each : {octets : List ℕ} {head : Option ℕ} {built : Built} → StandsFor octets head built → AllByRecursion IsString (strings_built built)
strings_each {built = built} stands = all_more IsString built.closed (open_string built.begun) stands.each (open_strings built.begun stands.short)

-- with no string open, these are all
pub stands_whole : {octets : List ℕ} (each : List (List ℕ)) → AllByRecursion IsString each → octets ≡ flat_map string_wire each
    → length octets ≤ 65535 → StandsFor octets None (record { closed = each; begun = [] })
stands_whole each short is few = record {
  each = short;
  short = omega arith;
  whole = is ∙ ap (flat_map string_wire) (sym (append-nil each));
  few = few;
  place = refl;
}

pub stands_ended : {octets : List ℕ} {head : Option ℕ} {built : Built} → StandsFor octets head built
    → StandsFor octets None (record { closed = strings_built built; begun = [] })
stands_ended {built = built} stands = stands_whole (strings_built built) (strings_each stands) stands.whole stands.few

pub string_more : {octets new : List ℕ} {head : Option ℕ} {built : Built} (string : List ℕ) → StandsFor octets head built → new ≡ octets ++ string_wire string
    → new ≡ flat_map string_wire (strings_built built ++ string ∷ [])
string_more {built = built} string stands is =
    is ∙ ap (λ l. l ++ string_wire string) stands.whole
    ∙ ap (λ l. flat_map string_wire (strings_built built) ++ l) (sym (append-nil (string_wire string)))
    ∙ sym (flat_map-append string_wire (strings_built built) (string ∷ []))

pub stands_string : {octets new : List ℕ} {head : Option ℕ} {built : Built} (string : List ℕ) → StandsFor octets head built → IsString string
    → new ≡ octets ++ string_wire string → length new ≤ 65535
    → StandsFor new None (record { closed = strings_built built ++ string ∷ []; begun = [] })
stands_string {built = built} string stands short is few =
    stands_whole (strings_built built ++ string ∷ []) (all_more IsString (strings_built built) (string ∷ []) (strings_each stands) (short, tt))
    (string_more string stands is) few

-- the open string goes on
pub stands_adds : {octets new : List ℕ} {head next : Option ℕ} (built : Built) (text : List ℕ) → StandsFor octets head built
    → (adds : AddsText (flat_map string_wire built.closed) (built.begun ++ text) new next) → length new ≤ 65535
    → StandsFor new next (record { closed = built.closed ++ adds.full; begun = adds.rest })
stands_adds built text stands adds few = record {
  each = all_more IsString built.closed adds.full stands.each (full_strings adds.full adds.cut.each);
  short = adds.cut.short;
  whole = adds.written ∙ sym (flat_map-append string_wire built.closed (adds.full ++ open_string adds.rest))
      ∙ ap (flat_map string_wire) (sym (append_assoc built.closed adds.full (open_string adds.rest)));
  few = few;
  place = adds.place
      ∙ ap (λ (n : ℕ). open_place n adds.rest) (sym (ap (length {A = ℕ}) (flat_map-append string_wire built.closed adds.full) ∙ length-append (flat_map string_wire built.closed) (flat_map string_wire adds.full)));
}

pub adds_going : {new : List ℕ} {next : Option ℕ} (built : Built) (text : List ℕ)
    → (adds : AddsText (flat_map string_wire built.closed) (built.begun ++ text) new next)
    → GoesOn built text (record { closed = built.closed ++ adds.full; begun = adds.rest })
adds_going built text adds = record { full = adds.full; cut = adds.cut; closed = refl }

pub adds_seen : {old other text more new : List ℕ} {next : Option ℕ} → old ≡ other → text ≡ more → AddsText old text new next → AddsText other more new next
adds_seen {other = other} {text = text} {new = new} {next = next} is same adds =
    let P : List ℕ → Type 0 = λ l. AddsText l text new next in
    let Q : List ℕ → Type 0 = λ l. AddsText other l new next in
    subst Q same (subst P is adds)

pub put_closed : {octets new : List ℕ} {head next : Option ℕ} (built : Built) (text : List ℕ) → StandsFor octets head built → head ≡ None
    → AddsText octets text new next → AddsText (flat_map string_wire built.closed) (built.begun ++ text) new next
put_closed {octets = octets} built text stands is adds =
    let P : Option ℕ → Type 0 = λ h. StandsFor octets h built in
    let here = stands_closed octets built (subst P is stands) in
    adds_seen here.0 (ap (λ l. l ++ text) (sym here.1)) adds

pub open_here : {octets : List ℕ} {head : Option ℕ} {place : ℕ} {built : Built} → StandsFor octets head built → head ≡ Some place → IsOpen octets place built
open_here {octets = octets} {place = place} {built = built} stands is =
    let P : Option ℕ → Type 0 = λ h. StandsFor octets h built in stands_open octets place built (subst P is stands)

pub put_open : {octets new : List ℕ} {place : ℕ} {next : Option ℕ} (built : Built) (text : List ℕ) → IsOpen octets place built
    → AddsText (take place octets) (drop (place + 1) octets ++ text) new next → AddsText (flat_map string_wire built.closed) (built.begun ++ text) new next
put_open built text here adds = adds_seen here.front (ap (λ l. l ++ text) here.behind) adds

pub stands_put : {octets new : List ℕ} {head next : Option ℕ} (built : Built) (text : List ℕ) → StandsFor octets head built
    → AddsText (flat_map string_wire built.closed) (built.begun ++ text) new next → length new ≤ 65535
    → StandsFor new next (built_of new next)
stands_put {new = new} {next = next} built text stands adds few = stands_here new next _ (stands_adds built text stands adds few)

pub goes_put : {octets new : List ℕ} {head next : Option ℕ} (built : Built) (text : List ℕ) → StandsFor octets head built
    → AddsText (flat_map string_wire built.closed) (built.begun ++ text) new next → length new ≤ 65535
    → GoesOn built text (built_of new next)
goes_put {new = new} {next = next} built text stands adds few =
    let P : Built → Type 0 = λ b. GoesOn built text b in
    subst P (sym (stands_is new next _ (stands_adds built text stands adds few))) (adds_going built text adds)

-- how many octets there are with a string more
pub string_size : {octets : List ℕ} {head : Option ℕ} {built : Built} (string : List ℕ) → StandsFor octets head built
    → strings_len (strings_built built ++ string ∷ []) ≡ length octets + 1 + length string
string_size {octets = octets} string stands =
    let size = ap (length {A = ℕ}) (string_more {new = octets ++ string_wire string} string stands refl) in
    omega (arith, size, length-append octets (string_wire string))

-- at least one string, of a text that is not too long
some_few : (each : List (List ℕ)) → strings_len each ≤ 65535 → strings_len (some_strings each) ≤ 65535
some_few [] few = omega arith
some_few (string ∷ each) few = few

pub filled_few : {old text new filled : List ℕ} {head : Option ℕ} → AddsText old text new head → old ≡ []
    → ((each : List (List ℕ)) → new ≡ flat_map string_wire each → filled ≡ flat_map string_wire (some_strings each))
    → text_len (length text) ≤ 65535 → length filled ≤ 65535
filled_few adds none fills few =
    let each = adds.full ++ open_string adds.rest in
    let filled = fills each (adds.written ∙ ap (λ l. l ++ flat_map string_wire each) none) in
    let fits = some_few each (omega (arith, cut_len adds.cut, few)) in
    omega (arith, ap (length {A = ℕ}) filled, fits)
