-- Names in text without escapes: labels are taken off the front, each with its dot, and written after their lengths.
use Rattle.std.proofs.Common.{◌≡◌, ℕ, ◌+◌, ◌-◌, ◌<◌, ◌≤◌, Bool, true, false, cond, suc, List, [], ◌∷◌, ◌++◌, length, map, take, drop, set, refl, sym, ◌∙◌, ap, subst, arith, append_assoc, append-nil, length-append}
use Rattle.std.proofs.lemmas.Bool.Decides.{nat_tests}
use Rattle.std.specs.Prelude.{◌==◌, ◌||◌, nat_lt, not}
use Rattle.std.specs.List.{AllByRecursion, flat_map, prefix_len}
use Rattle.std.proofs.lemmas.List.{take-append-drop, drop-drop, length-drop, length-take-le, set-append_right}
use Rattle.std.proofs.lemmas.List.Sums.{prefix_len-le-length}
use Rattle.std.proofs.lemmas.List.Concat.{flat_map-append}
use Rattle.dns_label.specs.declared.symbol.Symbol.{Symbol}
use Rattle.dns_label.specs.declared.symbol.Symbol.TheVariants.{Char}
use Rattle.dns_label.specs.Name.{IsLabel, IsName, wire, labels_wire}
use Rattle.dns_label.specs.NameText.{HasParts, IsAbsoluteText, parts_of}
use Rattle.dns_label.specs.Symbol.{spelled}
use Rattle.dns_wire.specs.Unescaped.{IsUnescaped, is_unescaped, StartsWithUnescapedLabel}
use Rattle.dns_wire.proofs.OctetTexts.{dot_symbol, plain_char}
use Rattle.dns_wire.proofs.Parts.{Reading, reading_here, reading-octet, reading-dot}
use Rattle.dns_wire.proofs.Wire.{labels_wire-append, labels_wire-with_root}

-- the test agrees with the relation
pub unescaped_sound : (octet : ℕ) → is_unescaped octet ≡ true → IsUnescaped octet
unescaped_sound octet is = grind (arith, nat_tests)

-- the octets that are none, by the marks of their lanes
pub unescaped_not : (octet : ℕ)
    → not (not ((nat_lt octet 32 || nat_lt 126 octet) || ((octet == 46) || (octet == 92)))) ≡ not (is_unescaped octet)
unescaped_not octet = grind (arith, nat_tests)

-- the octets of a run
each_next : (octet : ℕ) (text : List ℕ) (test : Bool) → is_unescaped octet ≡ test → AllByRecursion IsUnescaped (take (prefix_len is_unescaped text) text)
    → AllByRecursion IsUnescaped (take (cond test (1 + prefix_len is_unescaped text) 0) (octet ∷ text))
each_next octet text true is each =
    let P : ℕ → Type 0 = λ n. AllByRecursion IsUnescaped (take n (octet ∷ text)) in
    let more : suc (prefix_len is_unescaped text) ≡ 1 + prefix_len is_unescaped text = omega arith in
    subst P more (unescaped_sound octet is, each)
each_next octet text false is each = tt

run_each : (text : List ℕ) → AllByRecursion IsUnescaped (take (prefix_len is_unescaped text) text)
run_each [] = tt
run_each (octet ∷ text) = each_next octet text (is_unescaped octet) refl (run_each text)

-- A run with a dot after it is a label.
pub label_found : (text label behind : List ℕ) (start end : ℕ) → end ≡ start + prefix_len is_unescaped (drop start text) → start ≤ length text
    → label ≡ take (end - start) (drop start text) → drop end text ≡ 46 ∷ behind → 0 < length label → length label ≤ 63
    → StartsWithUnescapedLabel (drop start text) label (drop (start + length label + 1) text)
label_found text label behind start end is_end within is dot some short =
    let rest : List ℕ = drop start text in
    let counted : length label ≡ end - start =
    ap (length {A = ℕ}) is ∙ length-take-le (end - start) rest (omega (arith, length-drop start text, is_end, prefix_len-le-length is_unescaped rest)) in
    let next : end + 1 ≡ start + length label + 1 = omega (arith, counted, is_end) in
    let front : label ≡ take (prefix_len is_unescaped rest) rest = is ∙ ap (λ n. take n rest) (omega (arith, is_end)) in
    let P : List ℕ → Type 0 = λ l. AllByRecursion IsUnescaped l in
    record {
      is_label = record { some = some; short = short };
      each = subst P (sym front) (run_each rest);
      whole =
          sym (take-append-drop (prefix_len is_unescaped rest) rest) ∙ ap (λ l. l ++ drop (prefix_len is_unescaped rest) rest) (sym front)
          ∙ ap (λ l. label ++ l) (drop-drop (prefix_len is_unescaped rest) start text ∙ ap (λ n. drop n text) (sym is_end)
          ∙ dot ∙ ap (λ l. 46 ∷ l) (ap (drop 1) (sym dot) ∙ drop-drop 1 end text ∙ ap (λ n. drop n text) next));
    }

-- the symbols of a label's octets
spelled_chars : (label : List ℕ) → flat_map spelled (map Char label) ≡ label
spelled_chars [] = refl
spelled_chars (octet ∷ label) = ap (λ l. octet ∷ l) (spelled_chars label)

reading-label : (symbols : List Symbol) (done : List (List ℕ)) (begun label : List ℕ) → Reading symbols done begun
    → AllByRecursion IsUnescaped label → Reading (symbols ++ map Char label) done (begun ++ label)
reading-label symbols done begun [] reading each =
    let P : List Symbol → Type 0 = λ s. Reading s done (begun ++ []) in
    let Q : List ℕ → Type 0 = λ b. Reading symbols done b in
    subst P (sym (append-nil symbols)) (subst Q (sym (append-nil begun)) reading)
reading-label symbols done begun (octet ∷ label) reading each =
    let P : List Symbol → Type 0 = λ s. Reading s done (begun ++ octet ∷ label) in
    let Q : List ℕ → Type 0 = λ b. Reading ((symbols ++ Char octet ∷ []) ++ map Char label) done b in
    subst P (append_assoc symbols (Char octet ∷ []) (map Char label)) (
    subst Q (append_assoc begun (octet ∷ []) label)
    (reading-label (symbols ++ Char octet ∷ []) done (begun ++ octet ∷ []) label
    (reading-octet symbols done begun (Char octet) reading each.0.0 (plain_char octet each.0.1)) each.1)
    )

-- labels were taken, each with its dot, and written
pub record LabelsTaken (text rest octets : List ℕ) : Type 0 where
  pub done : List (List ℕ)
  pub symbols : List Symbol
  pub labels : AllByRecursion IsLabel done
  pub reading : Reading symbols done []
  pub whole : text ≡ flat_map spelled symbols ++ rest
  pub written : octets ≡ labels_wire done
  pub counted : length octets + length rest ≡ length text

pub labels_none : (text octets : List ℕ) → octets ≡ [] → LabelsTaken text text octets
labels_none text octets none = record {
  done = [];
  symbols = [];
  labels = tt;
  reading = reading_here;
  whole = refl;
  written = none;
  counted = omega (arith, ap (length {A = ℕ}) none);
}

labels_more : (done : List (List ℕ)) (label : List ℕ) → AllByRecursion IsLabel done → IsLabel label
    → AllByRecursion IsLabel (done ++ label ∷ [])
labels_more [] label each is = (is, tt)
labels_more (first ∷ done) label each is = (each.0, labels_more done label each.1 is)

some_symbols : (symbols : List Symbol) (label : List ℕ) → 0 < length label → symbols ++ map Char label ≡ [] → ⊥
some_symbols [] [] some none = omega arith
some_symbols [] (octet ∷ label) some none = cc
some_symbols (symbol ∷ symbols) label some none = cc

pub labels_next : (text rest octets label behind new : List ℕ) → LabelsTaken text rest octets → StartsWithUnescapedLabel rest label behind
    → new ≡ octets ++ (length label ∷ label) → LabelsTaken text behind new
labels_next text rest octets label behind new taken front is_new =
    let s : List Symbol = taken.symbols ++ map Char label in
    let before : List ℕ = flat_map spelled taken.symbols in
    let in_label : flat_map spelled s ≡ before ++ label =
    flat_map-append spelled taken.symbols (map Char label) ∙ ap (λ l. before ++ l) (spelled_chars label) in
    let with_dot : flat_map spelled (s ++ Char 46 ∷ []) ≡ (before ++ label) ++ 46 ∷ [] =
    flat_map-append spelled s (Char 46 ∷ []) ∙ ap (λ l. l ++ 46 ∷ []) in_label in
    record {
      done = taken.done ++ label ∷ [];
      symbols = s ++ Char 46 ∷ [];
      labels = labels_more taken.done label taken.labels front.is_label;
      reading =
          reading-dot s taken.done label (Char 46) (reading-label taken.symbols taken.done [] label taken.reading front.each)
          dot_symbol refl (some_symbols taken.symbols label front.is_label.some);
      whole =
          taken.whole ∙ ap (λ l. before ++ l) front.whole ∙ sym (append_assoc before label (46 ∷ behind))
          ∙ sym (append_assoc (before ++ label) (46 ∷ []) behind) ∙ ap (λ l. l ++ behind) (sym with_dot);
      written =
          is_new ∙ ap (λ l. l ++ (length label ∷ label)) taken.written
          ∙ ap (λ l. labels_wire taken.done ++ (length label ∷ l)) (sym (append-nil label))
          ∙ sym (labels_wire-append taken.done (label ∷ []));
      counted =
          omega (arith, taken.counted, ap (length {A = ℕ}) is_new, length-append octets (length label ∷ label), ap (length {A = ℕ}) front.whole, length-append label (46 ∷ behind));
    }

-- A length is written over the octet before a label.
pub length_written : (front taken rest : List ℕ) (before count place : ℕ) → place ≡ length front + length taken
    → set ((front ++ taken) ++ before ∷ rest) place count ≡ (front ++ taken) ++ count ∷ rest
length_written front taken rest before count place at =
    set-append_right (front ++ taken) (before ∷ rest) place place count (length-append front taken ∙ sym at) (omega arith)
    ∙ ap (λ k. (front ++ taken) ++ set (before ∷ rest) k count) {y = 0} (omega arith)

-- The name that is read if nothing is left.
pub record IsReadWhole (text octets : List ℕ) : Type 0 where
  pub name : List (List ℕ)
  pub is_name : IsName name
  pub written : octets ≡ wire name
  pub spells : IsAbsoluteText text name

some_done : (done : List (List ℕ)) → 0 < length (labels_wire done) → 0 < length done
some_done [] some = some
some_done (label ∷ done) some = omega arith

pub labels_whole : (text rest octets new : List ℕ) → LabelsTaken text rest octets → rest ≡ [] → 0 < length text → length text ≤ 254
    → new ≡ octets ++ 0 ∷ [] → IsReadWhole text new
labels_whole text rest octets new taken none some few pushed =
    let done : List (List ℕ) = taken.done in
    let symbols : List Symbol = taken.symbols in
    let is_wire : new ≡ wire done =
    pushed ∙ ap (λ l. l ++ 0 ∷ []) taken.written ∙ sym (labels_wire-append done ([] ∷ [])) ∙ labels_wire-with_root done in
    let counted : length octets ≡ length text = omega (arith, taken.counted, ap (length {A = ℕ}) none) in
    let long : 0 < length (labels_wire done) = omega (arith, counted, ap (length {A = ℕ}) taken.written) in
    let is_name : IsName done = record {
      labels = taken.labels;
      short = omega (arith, counted, ap (length {A = ℕ}) is_wire, ap (length {A = ℕ}) pushed, length-append octets (0 ∷ []));
    } in
    let parts : HasParts text (done ++ [] ∷ []) = record {
      symbols = symbols;
      each = taken.reading.each;
      written = taken.whole ∙ ap (λ l. flat_map spelled symbols ++ l) none ∙ append-nil (flat_map spelled symbols);
      between = ap parts_of (sym (append-nil symbols)) ∙ taken.reading.parts [];
    } in
    record { name = done; is_name = is_name; written = is_wire; spells = IsAbsoluteText.labels (some_done done long) parts is_name }
