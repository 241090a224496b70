-- Relative names whose labels are written over octets, each after its length.
use Rattle.std.proofs.Common.{◌≡◌, ◌+◌, ◌-◌, ◌<◌, ◌≤◌, ℕ, zero, suc, true, false, List, [], ◌∷◌, ◌++◌, length, take, drop, map, set, get_or, refl, sym, ◌∙◌, ap, subst, arith, append_assoc, append-nil, length-append, length-take}
use Rattle.std.proofs.Math.Seq.{drop-append-add, take-append-add, take-append_seam}
use Rattle.std.proofs.lemmas.List.{drop-drop, drop-take, length-drop, length-take-le, take-append-drop, take-append-le, take-take, take_all}
use Rattle.std.proofs.lemmas.List.Concat.{flat_map-append}
use Rattle.std.specs.List.{AllByRecursion, flat_map, list_all, prefix_len}
use Rattle.std.specs.Prelude.{◌≢◌, Some}
use Rattle.dns_label.specs.declared.symbol.Symbol.{Symbol}
use Rattle.dns_label.specs.declared.symbol.Symbol.TheVariants.{Char, SimpleEscape, DecimalEscape}
use Rattle.dns_label.specs.Name.{IsLabel, IsName, wire, labels_wire}
use Rattle.dns_label.specs.NameText.{IsRelativeText, is_dot}
use Rattle.dns_label.specs.Symbol.{IsSymbol, octet, spelled}
use Rattle.dns_flat.proofs.Chains.{joined_name}
use Rattle.dns_name.specs.Remembered.{patched}
use Rattle.dns_wire.specs.Unescaped.{is_unescaped}
use Rattle.dns_wire.proofs.Drafts.{labels_more}
use Rattle.dns_wire.proofs.Parts.{Reading, parts_end, reading_here, reading-dot, reading-octet, some_taken}
use Rattle.dns_wire.proofs.UnescapedTexts.{length_written}
use Rattle.dns_wire.proofs.Wire.{labels_wire-append, length-labels_wire_more, length-wire_is}
use Rattle.dns_entry_scanner.specs.AppendedName.{EscapeAt, HasBehind}
use Rattle.dns_entry_scanner.specs.NameInText.{SpellsUnder}
use Rattle.dns_entry_scanner.proofs.ChainedNames.{wire-append}
use Rattle.dns_entry_scanner.proofs.OneLabel.{each_unescaped, near_run, read_on, spelled_chars}
use Rattle.dns_entry_scanner.proofs.RoomBehind.{has_over}

-- the octet at a place
pub drop_here : (start : ℕ) (text : List ℕ) → start < length text → drop start text ≡ get_or text start 0 ∷ drop (start + 1) text
drop_here start [] within = absurd (omega (arith, within))
drop_here zero (first ∷ text) within = refl
drop_here (suc start) (first ∷ text) within =
    let at : suc (start + 1) ≡ suc start + 1 = omega arith in
    drop_here start text (omega (arith, within)) ∙ ap (λ n. get_or text start 0 ∷ drop n (first ∷ text)) at

-- what is behind a front of a text's rest
pub drop_behind : (text front behind : List ℕ) (start : ℕ) → drop start text ≡ front ++ behind → start ≤ length text
    → drop (length text - length behind) text ≡ behind
drop_behind text front behind start is within =
    let at : length text - length behind ≡ start + (length front + 0) =
    omega (arith, ap (length {A = ℕ}) is, length-append front behind, length-drop start text, within) in
    ap (λ n. drop n text) at ∙ sym (drop-drop (length front + 0) start text) ∙ ap (drop (length front + 0)) is ∙ drop-append-add front behind 0

-- a part of a text is a front of what the longer text has from there on
pub part_front : (text from : List ℕ) (start count : ℕ) → text ≡ take (length text) from → start + count ≤ length text
    → take count (drop start text) ≡ take count (drop start from)
part_front text from start count begins within =
    let parts : length text ≡ start + (length text - start) = omega (arith, within) in
    ap (λ l. take count (drop start l)) (begins ∙ ap (λ n. take n from) parts)
    ∙ ap (take count) (drop-take start (length text - start) from)
    ∙ take-take count (length text - start) (drop start from) (omega (arith, within))

-- a symbol that begins with a backslash is no dot
pub escape_other : (symbol : Symbol) (behind rest : List ℕ) → IsSymbol symbol → 92 ∷ rest ≡ spelled symbol ++ behind → is_dot symbol ≡ false
escape_other (Char c) behind rest is written = let e : c ≡ 92 = cc in absurd (is.1 e)
escape_other (SimpleEscape c) behind rest is written = refl
escape_other (DecimalEscape n) behind rest is written = refl

pub spelled_long : (symbol : Symbol) → 0 < length (spelled symbol)
spelled_long (Char c) = omega arith
spelled_long (SimpleEscape c) = omega arith
spelled_long (DecimalEscape n) = omega arith

dot_symbol : IsSymbol (Char 46)
dot_symbol = ((omega arith, omega arith), λ (e : 46 ≡ 92). omega arith)

-- The labels that have ended are written behind the old octets, then an octet in the place of the open label's length, and its octets.
pub record LabelsWritten (text rest old octets : List ℕ) (head place : ℕ) : Type 0 where
  pub done : List (List ℕ)
  pub begun : List ℕ
  pub before : ℕ
  pub others : List ℕ
  pub symbols : List Symbol
  pub labels : AllByRecursion IsLabel done
  pub reading : Reading symbols done begun
  pub whole : text ≡ flat_map spelled symbols ++ rest
  pub written : octets ≡ (old ++ labels_wire done) ++ before ∷ (begun ++ others)
  pub at_head : head ≡ length old + length (labels_wire done)
  pub at_place : place ≡ head + 1 + length begun

record FirstOf (octets : List ℕ) : Type 0 where
  pub first : ℕ
  pub others : List ℕ
  pub is : octets ≡ first ∷ others

first_of : (octets : List ℕ) → 0 < length octets → FirstOf octets
first_of [] some = absurd (omega (arith, some))
first_of (octet ∷ octets) some = record { first = octet; others = octets; is = refl }

pub labels_begun : (text octets : List ℕ) (front : ℕ) → front < length octets → LabelsWritten text text (take front octets) octets front (front + 1)
labels_begun text octets front within =
    let some = first_of (drop front octets) (omega (arith, length-drop front octets, within)) in
    let old : List ℕ = take front octets in record {
      done = [];
      begun = [];
      before = some.first;
      others = some.others;
      symbols = [];
      labels = tt;
      reading = reading_here;
      whole = refl;
      written = sym (take-append-drop front octets) ∙ ap (λ l. old ++ l) some.is ∙ ap (λ l. l ++ some.first ∷ some.others) (sym (append-nil old));
      at_head = omega (arith, length-take-le front octets (omega (arith, within)));
      at_place = omega arith;
    }

-- octets of the open label are written, and others of any value behind them
pub labels_on : (text rest behind old octets new run extra : List ℕ) (head place end : ℕ) (more : List Symbol)
    → (is : LabelsWritten text rest old octets head place) → Reading (is.symbols ++ more) is.done (is.begun ++ run)
    → rest ≡ flat_map spelled more ++ behind → place + length run + length extra ≤ length octets
    → new ≡ patched octets place (run ++ extra) → end ≡ place + length run → LabelsWritten text behind old new head end
labels_on text rest behind old octets new run extra head place end more is reading spells within patches ends =
    let done = is.done in
    let before : List ℕ = old ++ labels_wire done in
    let front : List ℕ = before ++ is.before ∷ is.begun in
    let whole : octets ≡ front ++ is.others = is.written ∙ sym (append_assoc before (is.before ∷ is.begun) is.others) in
    let at : place ≡ length front =
    omega (arith, is.at_head, is.at_place, length-append before (is.before ∷ is.begun), length-append old (labels_wire done)) in
    let size : length octets ≡ length front + length is.others = ap (length {A = ℕ}) whole ∙ length-append front is.others in
    let has : HasBehind (length is.others) front octets = record { others = is.others; long = refl; is = whole } in
    let over = has_over front (run ++ extra) octets new (length is.others) (length is.others - length (run ++ extra)) place has
    (omega (arith, at, size, within, length-append run extra)) at patches in
    let others : List ℕ = extra ++ over.others in record {
      done = done;
      begun = is.begun ++ run;
      before = is.before;
      others = others;
      symbols = is.symbols ++ more;
      labels = is.labels;
      reading = reading;
      whole =
          is.whole ∙ ap (λ l. flat_map spelled is.symbols ++ l) spells ∙ sym (append_assoc (flat_map spelled is.symbols) (flat_map spelled more) behind)
          ∙ ap (λ l. l ++ behind) (sym (flat_map-append spelled is.symbols more));
      written =
          over.is ∙ append_assoc front (run ++ extra) over.others ∙ ap (λ l. front ++ l) (append_assoc run extra over.others)
          ∙ append_assoc before (is.before ∷ is.begun) (run ++ others) ∙ ap (λ l. before ++ is.before ∷ l) (sym (append_assoc is.begun run others));
      at_head = is.at_head;
      at_place = omega (arith, ends, is.at_place, length-append is.begun run);
    }

pub labels_run : (text old octets new extra : List ℕ) (head place start end : ℕ)
    → LabelsWritten text (drop start text) old octets head place → list_all is_unescaped (take (end - start) (drop start text)) ≡ true
    → start ≤ end → end ≤ length text → place + length (take (end - start) (drop start text)) + length extra ≤ length octets
    → new ≡ patched octets place (take (end - start) (drop start text) ++ extra)
    → LabelsWritten text (drop end text) old new head (place + (end - start))
labels_run text old octets new extra head place start end is all from within enough patches =
    let run : List ℕ = take (end - start) (drop start text) in
    let at : start + (end - start) ≡ end = omega (arith, from) in
    let long = length-take-le (end - start) (drop start text) (omega (arith, from, within, length-drop start text)) in
    labels_on text (drop start text) (drop end text) old octets new run extra head place _ (map Char run) is
    (read_on is.symbols is.done is.begun run is.reading (each_unescaped run all))
    (sym (take-append-drop (end - start) (drop start text)) ∙ ap (λ l. run ++ l) (drop-drop (end - start) start text ∙ ap (λ n. drop n text) at)
    ∙ ap (λ l. l ++ drop end text) (sym (spelled_chars run)))
    enough patches (omega (arith, long))

pub labels_escape : (text old octets new : List ℕ) (head place start value end : ℕ)
    → LabelsWritten text (drop start text) old octets head place → EscapeAt text start value end → place < length octets
    → new ≡ patched octets place (value ∷ []) → LabelsWritten text (drop end text) old new head (place + 1)
labels_escape text old octets new head place start value end is found enough patches =
    let symbol = found.symbol in
    let P : ℕ → Type 0 = λ n. Reading (is.symbols ++ symbol ∷ []) is.done (is.begun ++ n ∷ []) in
    labels_on text (drop start text) (drop end text) old octets new (value ∷ []) [] head place _ (symbol ∷ []) is
    (subst P found.stands (reading-octet is.symbols is.done is.begun symbol is.reading found.is_symbol found.other))
    (found.written ∙ ap (λ l. l ++ drop end text) (sym (append-nil (spelled symbol))))
    (omega (arith, enough)) patches refl

-- the open label's length is written, as it has ended
wire_ended : (old : List ℕ) (done : List (List ℕ)) (begun others : List ℕ)
    → (old ++ labels_wire done) ++ length begun ∷ (begun ++ others) ≡ (old ++ labels_wire (done ++ begun ∷ [])) ++ others
wire_ended old done begun others =
    sym (append_assoc (old ++ labels_wire done) (length begun ∷ begun) others)
    ∙ ap (λ l. l ++ others) (append_assoc old (labels_wire done) (length begun ∷ begun)
    ∙ ap (λ l. old ++ l) (ap (λ l. labels_wire done ++ length begun ∷ l) (sym (append-nil begun)) ∙ sym (labels_wire-append done (begun ∷ []))))

length_put : (text rest old octets new : List ℕ) (head place : ℕ) (is : LabelsWritten text rest old octets head place)
    → new ≡ set octets head (place - head - 1) → new ≡ (old ++ labels_wire (is.done ++ is.begun ∷ [])) ++ is.others
length_put text rest old octets new head place is sets =
    sets ∙ ap (λ l. set l head (place - head - 1)) is.written
    ∙ length_written old (labels_wire is.done) (is.begun ++ is.others) is.before (place - head - 1) head is.at_head
    ∙ ap (λ n. (old ++ labels_wire is.done) ++ n ∷ (is.begun ++ is.others)) {y = length is.begun} (omega (arith, is.at_place))
    ∙ wire_ended old is.done is.begun is.others

pub labels_dot : (text behind old octets new : List ℕ) (head place : ℕ) (rest : List ℕ) → (is : LabelsWritten text rest old octets head place)
    → rest ≡ 46 ∷ behind → 0 < place - head - 1 → place - head - 1 ≤ 63 → new ≡ set octets head (place - head - 1) → place < length octets
    → LabelsWritten text behind old new place (place + 1)
labels_dot text behind old octets new head place rest is dot some short sets enough =
    let before : List ℕ = old ++ labels_wire is.done in
    let size : length octets ≡ length old + length (labels_wire is.done) + 1 + length is.begun + length is.others =
    omega (arith, ap (length {A = ℕ}) is.written, length-append before (is.before ∷ (is.begun ++ is.others)), length-append old (labels_wire is.done), length-append is.begun is.others) in
    let next = first_of is.others (omega (arith, size, enough, is.at_head, is.at_place)) in
    let is_label : IsLabel is.begun = record { some = omega (arith, some, is.at_place); short = omega (arith, short, is.at_place) } in
    let labels : List (List ℕ) = is.done ++ is.begun ∷ [] in record {
      done = labels;
      begun = [];
      before = next.first;
      others = next.others;
      symbols = is.symbols ++ Char 46 ∷ [];
      labels = labels_more is.done is.begun is.labels is_label;
      reading =
          reading-dot is.symbols is.done is.begun (Char 46) is.reading dot_symbol refl
          (some_taken is.symbols is.done is.begun is.reading (omega (arith, some, is.at_place)));
      whole =
          is.whole ∙ ap (λ l. flat_map spelled is.symbols ++ l) dot ∙ sym (append_assoc (flat_map spelled is.symbols) (46 ∷ []) behind)
          ∙ ap (λ l. l ++ behind) (sym (flat_map-append spelled is.symbols (Char 46 ∷ [])));
      written = length_put text rest old octets new head place is sets ∙ ap (λ l. (old ++ labels_wire labels) ++ l) next.is;
      at_head = omega (arith, is.at_head, is.at_place, length-labels_wire_more is.done is.begun);
      at_place = omega arith;
    }

-- The labels of the whole text are written.
pub record LabelsEnded (text old octets : List ℕ) (end : ℕ) : Type 0 where
  pub labels : List (List ℕ)
  pub more : ℕ
  pub spells : IsRelativeText text labels
  pub has : HasBehind more (old ++ labels_wire labels) octets
  pub at : end ≡ length old + length (labels_wire labels)

pub labels_ended : (text old octets new : List ℕ) (head place : ℕ) (rest : List ℕ) → (is : LabelsWritten text rest old octets head place)
    → rest ≡ [] → 0 < place - head - 1 → place - head - 1 ≤ 63 → new ≡ set octets head (place - head - 1) → LabelsEnded text old new place
labels_ended text old octets new head place rest is none some short sets =
    let is_label : IsLabel is.begun = record { some = omega (arith, some, is.at_place); short = omega (arith, short, is.at_place) } in record {
      labels = is.done ++ is.begun ∷ [];
      more = length is.others;
      spells = record {
        parts = record {
          symbols = is.symbols;
          each = is.reading.each;
          written = is.whole ∙ ap (λ l. flat_map spelled is.symbols ++ l) none ∙ append-nil (flat_map spelled is.symbols);
          between = parts_end is.symbols is.done is.begun is.reading;
        };
        each = labels_more is.done is.begun is.labels is_label;
      };
      has = record { others = is.others; long = refl; is = length_put text rest old octets new head place is sets };
      at = omega (arith, is.at_head, is.at_place, length-labels_wire_more is.done is.begun);
    }

-- The origin is written behind them, and what is left is cut.
pub cut_behind : (room more : ℕ) (front octets new : List ℕ) (most : ℕ) → HasBehind more front octets → room ≤ more → most ≡ length front + room
    → new ≡ take most octets → HasBehind room front new
cut_behind room more front octets new most has enough at cuts = record {
  others = take room has.others;
  long = length-take-le room has.others (omega (arith, has.long, enough));
  is = cuts ∙ ap (take most) has.is ∙ ap (λ n. take n (front ++ has.others)) at ∙ take-append-add front has.others room;
}

-- what `append_under` returns
abbrev pub IsAppended : List ℕ → List (List ℕ) → ℕ → List ℕ → List ℕ → Type 0
IsAppended text origin room old new = (name : List (List ℕ)) × SpellsUnder (Some origin) text name × IsName name × HasBehind room (old ++ wire name) new

pub under_origin : (text : List ℕ) (labels origin : List (List ℕ)) (old written patch new octets : List ℕ) (more room end most : ℕ) → text ≢ 64 ∷ []
    → IsRelativeText text labels → length (labels_wire labels) ≤ 1 + length text → IsName origin → length text + length (wire origin) ≤ 254
    → HasBehind more (old ++ labels_wire labels) written → octets ≡ wire origin → end ≡ length old + length (labels_wire labels)
    → length octets + room ≤ more → patch ≡ patched written end octets → most ≡ end + length octets + room → new ≡ take most patch
    → IsAppended text origin room old new
under_origin text labels origin old written patch new octets more room end most other spells short named fits has is at enough patches until cuts =
    let front : List ℕ = old ++ labels_wire labels in
    let size = ap (length {A = ℕ}) is in
    let long = length-append old (labels_wire labels) in
    let is_name : IsName labels = record { labels = spells.each; short = omega (arith, length-wire_is labels, short, fits, length-wire_is origin) } in
    let whole = has_over front octets written patch more (more - length octets) end has (omega (arith, enough)) (omega (arith, at, long)) patches in
    let cut = cut_behind room (more - length octets) (front ++ octets) patch new most whole (omega (arith, enough))
    (omega (arith, until, at, long, length-append front octets)) cuts in
    let P : List ℕ → Type 0 = λ l. HasBehind room l new in (
      labels ++ origin,
      SpellsUnder.relative other spells (joined_name labels origin is_name named (omega (arith, short, fits))),
      joined_name labels origin is_name named (omega (arith, short, fits)),
      subst P (append_assoc old (labels_wire labels) octets ∙ ap (λ l. old ++ l) (wire-append labels origin is)) cut,
    )

-- the octets before the labels stay
pub kept_front : (front : ℕ) (entry new more : List ℕ) → front ≤ length entry → new ≡ take front entry ++ more → take front new ≡ take front entry
kept_front front entry new more within is =
    ap (take front) is ∙ ap (λ n. take n (take front entry ++ more)) (sym (length-take-le front entry within))
    ∙ take-append_seam (take front entry) more

pub written_front : (text rest entry octets : List ℕ) (front head place : ℕ) → LabelsWritten text rest (take front entry) octets head place
    → front ≤ length entry → take front octets ≡ take front entry
written_front text rest entry octets front head place is within =
    kept_front front entry octets (labels_wire is.done ++ is.before ∷ (is.begun ++ is.others)) within
    (is.written ∙ append_assoc (take front entry) (labels_wire is.done) (is.before ∷ (is.begun ++ is.others)))

pub ended_front : (text entry octets : List ℕ) (front end : ℕ) → LabelsEnded text (take front entry) octets end → front ≤ length entry
    → take front octets ≡ take front entry
ended_front text entry octets front end is within =
    kept_front front entry octets (labels_wire is.labels ++ is.has.others) within
    (is.has.is ∙ append_assoc (take front entry) (labels_wire is.labels) is.has.others)

pub any_front : (count front : ℕ) (old new : List ℕ) → HasBehind count old new → front ≡ length old → take front new ≡ old
any_front count front old new has at = ap (take front) has.is ∙ ap (λ n. take n (old ++ has.others)) at ∙ take-append_seam old has.others

-- a run of octets of the longer text, as far as the text goes
pub near_part : (text from : List ℕ) (most start end whole : ℕ) → text ≡ take (length text) from → length text ≤ most → start ≤ end
    → end ≤ length text → end ≤ whole → whole ≡ start + prefix_len is_unescaped (drop start (take most from))
    → list_all is_unescaped (take (end - start) (drop start text)) ≡ true
near_part text from most start end whole begins far behind within less run =
    let parts : most ≡ start + (most - start) = omega (arith, behind, within, far) in
    let near : drop start (take most from) ≡ take (most - start) (drop start from) =
    ap (λ n. drop start (take n from)) parts ∙ drop-take start (most - start) from in
    ap (list_all is_unescaped) (part_front text from start (end - start) begins (omega (arith, behind, within)))
    ∙ near_run is_unescaped (end - start) (most - start) (drop start from) (omega (arith, within, far))
    (omega (arith, less, run, ap (prefix_len is_unescaped) near))
