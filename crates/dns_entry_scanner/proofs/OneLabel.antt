-- A text of one label without an escape, under an origin.
use Rattle.std.proofs.Common.{◌≡◌, ◌+◌, ◌<◌, ◌≤◌, ℕ, true, List, [], ◌∷◌, ◌++◌, Bool, length, map, take, zero, suc, cond, false, rules, refl, sym, ◌∙◌, ap, subst, arith, append_assoc, append-nil, length-append, length-take}
use borrow.Author.Tests.{tests}
use Rattle.std.proofs.lemmas.Bool.{and_from, and_parts}
use Rattle.std.proofs.lemmas.List.{take-take}
use Rattle.std.specs.List.{AllByRecursion, flat_map, list_all, prefix_len}
use Rattle.std.specs.Prelude.{◌≢◌}
use Rattle.dns_label.specs.declared.symbol.Symbol.{Symbol}
use Rattle.dns_label.specs.declared.symbol.Symbol.TheVariants.{Char}
use Rattle.dns_label.specs.Name.{IsName, wire}
use Rattle.dns_label.specs.NameText.{IsRelativeText, is_dot, parts_of}
use Rattle.dns_label.specs.Symbol.{is_plain, spelled}
use Rattle.dns_wire.specs.Unescaped.{IsUnescaped, is_unescaped}
use Rattle.dns_wire.proofs.Parts.{Reading, reading_here, reading-octet}
use Rattle.dns_wire.proofs.UnescapedTexts.{unescaped_sound}
use Rattle.dns_entry_scanner.specs.AppendedName.{OneLabelUnder, is_no_dot}
use Rattle.dns_entry_scanner.specs.NameInText.{SpellsUnder}

pub each_unescaped : (text : List ℕ) → list_all is_unescaped text ≡ true → AllByRecursion IsUnescaped text
each_unescaped [] all = tt
each_unescaped (octet ∷ text) all =
    let both = and_parts (is_unescaped octet) (list_all is_unescaped text) all in
    (unescaped_sound octet both.0, each_unescaped text both.1)

-- the octets at the start of a run
front_next : (test : ℕ → Bool) (n octet : ℕ) (text : List ℕ) (is : Bool) → test octet ≡ is → suc n ≤ cond is (1 + prefix_len test text) 0
    → (n ≤ prefix_len test text → list_all test (take n text) ≡ true) → list_all test (take (suc n) (octet ∷ text)) ≡ true
front_next test n octet text true is long on = and_from _ _ is (on (omega (arith, long)))
front_next test n octet text false is long on = absurd (omega (arith, long))

front_of_run : (test : ℕ → Bool) (n : ℕ) (text : List ℕ) → n ≤ prefix_len test text → list_all test (take n text) ≡ true
front_of_run test zero text long = refl
front_of_run test (suc n) [] long = refl
front_of_run test (suc n) (octet ∷ text) long = front_next test n octet text (test octet) refl long (front_of_run test n text)

pub near_run : (test : ℕ → Bool) (n most : ℕ) (text : List ℕ) → n ≤ most → n ≤ prefix_len test (take most text)
    → list_all test (take n text) ≡ true
near_run test n most text near long =
    ap (list_all test) (sym (take-take n most text near)) ∙ front_of_run test n (take most text) long

pub no_longer : (text from : List ℕ) → text ≡ take (length text) from → length text ≤ length from
no_longer text from begins = omega (arith, ap length begins, length-take (length text) from)

-- plain octets without a dot among them
pub unescaped_all : (text : List ℕ) → list_all is_plain text ≡ true → list_all is_no_dot text ≡ true
    → list_all is_unescaped text ≡ true
unescaped_all [] plain undotted = refl
unescaped_all (octet ∷ text) plain undotted =
    let here = and_parts (is_plain octet) (list_all is_plain text) plain in
    let other = and_parts (is_no_dot octet) (list_all is_no_dot text) undotted in
    and_from _ _ (and_from _ _ here.0 other.0) (unescaped_all text here.1 other.1)

-- each octet is a symbol that stands for itself
pub spelled_chars : (text : List ℕ) → flat_map spelled (map Char text) ≡ text
spelled_chars [] = refl
spelled_chars (octet ∷ text) = ap (λ l. octet ∷ l) (spelled_chars text)

not_dot : (octet : ℕ) → octet ≢ 46 → is_dot (Char octet) ≡ false
not_dot octet none = search (rules, tests)

pub read_on : (symbols : List Symbol) (done : List (List ℕ)) (begun text : List ℕ) → Reading symbols done begun → AllByRecursion IsUnescaped text
    → Reading (symbols ++ map Char text) done (begun ++ text)
read_on symbols done begun [] reading each =
    let P : List Symbol → Type 0 = λ s. Reading s done (begun ++ []) in
    let Q : List ℕ → Type 0 = λ b. Reading symbols done b in
    subst P (sym (append-nil symbols)) (subst Q (sym (append-nil begun)) reading)
read_on symbols done begun (octet ∷ text) reading each =
    let P : List Symbol → Type 0 = λ s. Reading s done (begun ++ octet ∷ text) in
    let Q : List ℕ → Type 0 = λ b. Reading ((symbols ++ Char octet ∷ []) ++ map Char text) done b in
    subst P (append_assoc symbols (Char octet ∷ []) (map Char text)) (
    subst Q (append_assoc begun (octet ∷ []) text)
    (read_on (symbols ++ Char octet ∷ []) done (begun ++ octet ∷ []) text
    (reading-octet symbols done begun (Char octet) reading each.0.0 (not_dot octet each.0.1)) each.1)
    )

label_text : (text : List ℕ) → list_all is_unescaped text ≡ true → 0 < length text → length text ≤ 63 → IsRelativeText text (text ∷ [])
label_text text all some short =
    let reading = read_on [] [] [] text reading_here (each_unescaped text all) in record {
      parts = record {
        symbols = map Char text;
        each = reading.each;
        written = sym (spelled_chars text);
        between = ap parts_of (sym (append-nil (map Char text))) ∙ reading.parts [] ∙ ap (λ l. l ∷ []) (append-nil text);
      };
      each = (record { some = some; short = short }, tt);
    }

pub label_under : (text : List ℕ) (origin : List (List ℕ)) (old with_len with_label new : List ℕ) → list_all is_unescaped text ≡ true
    → 0 < length text → length text ≤ 63 → text ≢ 64 ∷ [] → IsName origin → length text + length (wire origin) ≤ 254
    → with_len ≡ old ++ length text ∷ [] → with_label ≡ with_len ++ text → new ≡ with_label ++ wire origin
    → OneLabelUnder text origin old new
label_under text origin old with_len with_label new all some short other named fits first second third =
    let relative = label_text text all some short in
    let is_name : IsName (text ∷ origin) = record {
      labels = (record { some = some; short = short }, named.labels);
      short = omega (arith, length-append text (wire origin));
    } in record {
      spells = SpellsUnder.relative other relative is_name;
      is_name = is_name;
      behind = third ∙ ap (λ l. l ++ wire origin) (second ∙ ap (λ l. l ++ text) first ∙ append_assoc old (length text ∷ []) text)
          ∙ append_assoc old (length text ∷ text) (wire origin);
    }
