-- How the octets of values are printed.
use Rattle.std.proofs.Common.{◌≡◌, ◌≢◌, ◌-◌, ◌<◌, ◌≤◌, ◌^◌, ◌==◌, ◌||◌, ◌&&◌, not, nat_lt, cond, ℕ, zero, suc, Bool, true, false, List, [], ◌∷◌, ◌++◌, length, map, take, drop, decimal, All, Option, None, Some, refl, sym, ◌∙◌, ap, subst, arith, append-nil, length-drop, inl, inr, get_or}
use Rattle.std.proofs.lemmas.Bool.Decides.{nat_tests}
use Rattle.std.proofs.lemmas.Grind.{flat_map-append}
use Rattle.std.specs.Prelude.{codes, find, option_map, unwrap_or, IfSome}
use Rattle.std.specs.List.{AllByRecursion, flat_map, join_with_byte, list_all}
use Rattle.std.specs.Net.Addr.{segments_of}
use Rattle.std.specs.Net.Text.{ipv4_text, hex_groups_text}
use Rattle.std.specs.Str.Parse.{AllDigits}
use Rattle.std.proofs.lemmas.Bool.{and_parts}
use Rattle.std.proofs.lemmas.Str.Parse.{digit_from_value}
use Rattle.std.proofs.lemmas.Fmt.{decimal_is_IsNumeral}
use Rattle.std.proofs.NetLemmas.Texts.{AllSegments}
use Rattle.std.proofs.NetLemmas.Alphabet.{All-ipv4_text, All-hex_groups_text, IsDigitOrDot, IsHexOrColon}
use Rattle.dns_label.specs.Octets.{IsOctet}
use Rattle.dns_label.specs.Symbol.{is_printable}
use Rattle.dns_scan.specs.declared.encoding.base.Base.TheVariants.{SixtyFour}
use Rattle.dns_scan.specs.Encodings.{encoded_64}
use Rattle.dns_scan.proofs.Decoded.{each_append, each_weaker}
use Rattle.dns_scan.proofs.Encodings.{encoded_decodes}
use Rattle.dns_fields.proofs.PrintedTexts.{IsSafe, each_get, safe_decoded, segments_small}
use Rattle.dns_scan.specs.StringText.{unquoted_text}
use Rattle.dns_service_parameters.specs.declared.form.Form.{Form}
use Rattle.dns_service_parameters.specs.declared.form.Form.TheVariants.{Keys, Strings, Nothing, Number, Ipv4s, Ipv6s, Encoded, Plain}
use Rattle.dns_service_parameters.specs.Service.{name_of, table}
use Rattle.dns_service_parameters.specs.ServiceText.{SpellsKey, item_octet, key_text, list_text, number_word}
use Rattle.dns_service_parameters.specs.ServiceShown.{first_items, item_text, items, shown_items, take_item, take_size, take_string}

pub unquoted-append : (front behind : List ℕ) → unquoted_text (front ++ behind) ≡ unquoted_text front ++ unquoted_text behind
unquoted-append front behind = flat_map-append _ front behind

-- characters that are written as they are
abbrev pub IsBare : ℕ → Type 0
IsBare c = (43 ≤ c) × (c ≤ 122) × (c ≢ 44) × (c ≢ 59) × (c ≢ 92)

bare_item : (c : ℕ) → IsBare c → item_octet c ≡ c ∷ []
bare_item c is = let a = is.2 in let b = is.4 in let test : ((c == 44) || (c == 92)) ≡ false = grind (arith, nat_tests) in rw test refl

bare_symbol : (c : ℕ) → IsBare c → unquoted_text (c ∷ []) ≡ c ∷ []
bare_symbol c is =
    let low = is.0 in
    let high = is.1 in
    let b = is.3 in
    let d = is.4 in
    let printable : is_printable c ≡ true = grind (arith, nat_tests) in
    let marked : ((c == 32) || ((c == 34) || ((c == 40) || ((c == 41) || ((c == 59) || (c == 92)))))) ≡ false = grind (arith, nat_tests) in
    rw (printable, marked) refl

pub bare_items : (text : List ℕ) → AllByRecursion IsBare text → flat_map item_octet text ≡ text
bare_items [] bare = refl
bare_items (c ∷ text) bare = rw (bare_item c bare.0) (ap (λ (l : List ℕ). c ∷ l) (bare_items text bare.1))

pub bare_text : (text : List ℕ) → AllByRecursion IsBare text → unquoted_text text ≡ text
bare_text [] bare = refl
bare_text (c ∷ text) bare =
    unquoted-append (c ∷ []) text ∙ ap (λ (l : List ℕ). l ++ unquoted_text text) (bare_symbol c bare.0) ∙ ap (λ (l : List ℕ). c ∷ l) (bare_text text bare.1)

pub bare_both : (text : List ℕ) → AllByRecursion IsBare text → unquoted_text (flat_map item_octet text) ≡ text
bare_both text bare = ap unquoted_text (bare_items text bare) ∙ bare_text text bare

-- safe characters of a word
safe_symbol : (c : ℕ) → IsSafe c → unquoted_text (c ∷ []) ≡ c ∷ []
safe_symbol c is =
    let low = is.0.0 in
    let high = is.0.1 in
    let other = is.1 in
    let stands = is.2 in
    let printable : is_printable c ≡ true = grind (arith, nat_tests) in
    let marked : ((c == 32) || ((c == 34) || ((c == 40) || ((c == 41) || ((c == 59) || (c == 92)))))) ≡ false = grind (arith, nat_tests) in
    rw (printable, marked) refl

pub safe_text : (text : List ℕ) → AllByRecursion IsSafe text → unquoted_text text ≡ text
safe_text [] safe = refl
safe_text (c ∷ text) safe =
    unquoted-append (c ∷ []) text ∙ ap (λ (l : List ℕ). l ++ unquoted_text text) (safe_symbol c safe.0) ∙ ap (λ (l : List ℕ). c ∷ l) (safe_text text safe.1)

-- keys
is_bare : ℕ → Bool
is_bare c = nat_lt 42 c && (nat_lt c 123 && (not (c == 44) && (not (c == 59) && not (c == 92))))

bare_by : (c : ℕ) → is_bare c ≡ true → IsBare c
unfolding is_bare
bare_by c is = (grind (arith, nat_tests), grind (arith, nat_tests), grind (arith, nat_tests), grind (arith, nat_tests), grind (arith, nat_tests))

all_bare : (text : List ℕ) → list_all is_bare text ≡ true → AllByRecursion IsBare text
all_bare [] is = tt
all_bare (c ∷ text) is = let both = and_parts (is_bare c) (list_all is_bare text) is in (bare_by c both.0, all_bare text both.1)

rows_bare : AllByRecursion (λ (row : ℕ × List ℕ × Form). list_all is_bare row.1 ≡ true) table
unfolding is_bare
rows_bare = (refl, (refl, (refl, (refl, (refl, (refl, (refl, (refl, (refl, tt)))))))))

found_bare : (key : ℕ) (rows : List (ℕ × List ℕ × Form)) → AllByRecursion (λ (row : ℕ × List ℕ × Form). list_all is_bare row.1 ≡ true) rows
    → IfSome (option_map (λ row. row.1) (find (λ row. row.0 == key) rows)) (λ name. list_all is_bare name ≡ true)
found_bare key [] each = tt
found_bare key (row ∷ rows) each = by (found_bare key rows each.1) (row.0 == key)
  where
    by : IfSome (option_map (λ row. row.1) (find (λ row. row.0 == key) rows)) (λ name. list_all is_bare name ≡ true) → (b : Bool)
        → IfSome (option_map (λ row. row.1) (cond b (Some row) (find (λ row. row.0 == key) rows))) (λ name. list_all is_bare name ≡ true)
    by on true = each.0
    by on false = on

name_bare : (key : ℕ) → IfSome (name_of key) (λ name. list_all is_bare name ≡ true)
unfolding name_of
name_bare key = found_bare key table rows_bare

digits_bare : (ds : List ℕ) → AllDigits 10 ds → AllByRecursion IsBare ds
digits_bare [] each = tt
digits_bare (c ∷ ds) each =
    let range = digit_from_value c each.0 in
    ((omega (arith, range), omega (arith, range), (λ same. omega (arith, range, same)), (λ same. omega (arith, range, same)), (λ same. omega (arith, range, same))), digits_bare ds each.1)

pub decimal_bare : (n : ℕ) → n < 2 ^ 64 → AllByRecursion IsBare (decimal n)
decimal_bare n small = digits_bare (decimal n) (decimal_is_IsNumeral n small).0.1

word_bare : (key : ℕ) → key < 2 ^ 64 → AllByRecursion IsBare (number_word key)
unfolding is_bare
word_bare key small = each_append IsBare (codes "key") (decimal key) (all_bare (codes "key") refl) (decimal_bare key small)

pub key_bare : (key : ℕ) → key < 2 ^ 64 → AllByRecursion IsBare (key_text key)
key_bare key small = by (name_of key) (name_bare key)
  where
    by : (name : Option (List ℕ)) → IfSome name (λ name. list_all is_bare name ≡ true) → AllByRecursion IsBare (unwrap_or name (number_word key))
    by None is = word_bare key small
    by (Some name) is = all_bare name is

-- the words of keys
pub spelled_bare : (word : List ℕ) (key : ℕ) → SpellsKey word key → AllByRecursion IsBare word
spelled_bare word key (inl is) =
    all_bare word (subst (λ (o : Option (List ℕ)). IfSome o (λ name. list_all is_bare name ≡ true)) is (name_bare key))
spelled_bare word key (inr is) = subst (AllByRecursion IsBare) (sym is.0) (word_bare key (let small = is.1 in omega (arith, small)))

-- addresses
all_each : (P : ℕ → Type 0) (xs : List ℕ) → All P xs → AllByRecursion P xs
all_each P [] all = tt
all_each P (x ∷ xs) all = (all 0 x (omega arith), all_each P xs (λ k d within. all (suc k) d (omega arith)))

dot_bare : (c : ℕ) → IsDigitOrDot c → IsBare c
dot_bare c (inl range) = (omega (arith, range), omega (arith, range), (λ same. omega (arith, range, same)), (λ same. omega (arith, range, same)), (λ same. omega (arith, range, same)))
dot_bare c (inr is) = (omega (arith, is), omega (arith, is), (λ same. omega (arith, is, same)), (λ same. omega (arith, is, same)), (λ same. omega (arith, is, same)))

colon_bare : (c : ℕ) → IsHexOrColon c → IsBare c
colon_bare c (inl range) = (omega (arith, range), omega (arith, range), (λ same. omega (arith, range, same)), (λ same. omega (arith, range, same)), (λ same. omega (arith, range, same)))
colon_bare c (inr range) = (omega (arith, range), omega (arith, range), (λ same. omega (arith, range, same)), (λ same. omega (arith, range, same)), (λ same. omega (arith, range, same)))

pub ipv4_bare : (octets : List ℕ) → ((k : ℕ) → get_or octets k 0 < 2 ^ 8) → AllByRecursion IsBare (ipv4_text octets)
ipv4_bare octets small = each_weaker IsDigitOrDot IsBare (ipv4_text octets) dot_bare (all_each IsDigitOrDot (ipv4_text octets) (All-ipv4_text octets small))

-- octets by their places
pub octets_each : (octets : List ℕ) → ((k : ℕ) → get_or octets k 0 < 2 ^ 8) → AllByRecursion IsOctet octets
octets_each [] small = tt
octets_each (octet ∷ octets) small = (small 0, octets_each octets (λ k. small (suc k)))

pub ipv6_bare : (octets : List ℕ) → length octets ≡ 16 → ((k : ℕ) → get_or octets k 0 < 2 ^ 8) → AllByRecursion IsBare (hex_groups_text (segments_of octets))
ipv6_bare octets size small =
    let segments = segments_small octets 8 size (octets_each octets small) in
    let fits : AllSegments (segments_of octets) = λ k. each_get (2 ^ 16) (segments_of octets) (omega arith) segments.0 k in
    each_weaker IsHexOrColon IsBare (hex_groups_text (segments_of octets)) colon_bare
    (all_each IsHexOrColon (hex_groups_text (segments_of octets)) (All-hex_groups_text (segments_of octets) fits))

pub encoded_plain : (octets : List ℕ) → ((k : ℕ) → get_or octets k 0 < 2 ^ 8) → unquoted_text (encoded_64 octets) ≡ encoded_64 octets
encoded_plain octets small =
    let text = encoded_64 octets in
    safe_text text (safe_decoded SixtyFour text octets (encoded_decodes SixtyFour octets (octets_each octets small)))

-- items one by one
size_less : (size : ℕ) (octets : List ℕ) (split : List ℕ × List ℕ) → 0 < size → take_size size octets ≡ Some split
    → length split.1 < length octets
size_less size octets split some is = by (nat_lt (length octets) size) refl is
  where
    by : (b : Bool) → nat_lt (length octets) size ≡ b → cond b None (Some (take size octets, drop size octets)) ≡ Some split
        → length split.1 < length octets
    by true less is = absurd (cc)
    by false less is =
        let back : drop size octets ≡ split.1 = cc in
        let rest : length (drop size octets) ≡ length octets - size = length-drop size octets in
        let enough : size ≤ length octets = grind (arith, nat_tests) in
        let same = ap (length {A = ℕ}) back in omega (arith, rest, same)

string_less : (octets : List ℕ) (split : List ℕ × List ℕ) → take_string octets ≡ Some split → length split.1 < length octets
string_less [] split is = absurd (cc)
string_less (len ∷ octets) split is =
    let back : drop len octets ≡ split.1 = cc in
    let rest : length (drop len octets) ≡ length octets - len = length-drop len octets in
    let same = ap (length {A = ℕ}) back in omega (arith, rest, same)

pub item_less : (form : Form) (octets : List ℕ) (split : List ℕ × List ℕ) → take_item form octets ≡ Some split → length split.1 < length octets
item_less Keys octets split is = size_less 2 octets split (omega arith) is
item_less Strings octets split is = string_less octets split is
item_less Ipv4s octets split is = size_less 4 octets split (omega arith) is
item_less Ipv6s octets split is = size_less 16 octets split (omega arith) is
item_less Nothing octets split is = size_less 1 octets split (omega arith) is
item_less Number octets split is = size_less 1 octets split (omega arith) is
item_less Encoded octets split is = size_less 1 octets split (omega arith) is
item_less Plain octets split is = size_less 1 octets split (omega arith) is

none_in : (form : Form) → take_item form [] ≡ None
none_in Keys = refl
none_in Strings = refl
none_in Ipv4s = refl
none_in Ipv6s = refl
none_in Nothing = refl
none_in Number = refl
none_in Encoded = refl
none_in Plain = refl

no_items : (form : Form) (count : ℕ) → first_items form count [] ≡ []
unfolding first_items
no_items form zero = refl
no_items form (suc count) = ap (λ (o : Option (List ℕ × List ℕ)). unwrap_or (option_map (λ split. split.0 ∷ first_items form count split.1) o) []) (none_in form)

fuel : (form : Form) (count more : ℕ) (octets : List ℕ) → length octets ≤ count → length octets ≤ more
    → first_items form count octets ≡ first_items form more octets
unfolding first_items
fuel form count more [] few less = no_items form count ∙ sym (no_items form more)
fuel form zero more (octet ∷ octets) few less = absurd (omega arith)
fuel form (suc count) zero (octet ∷ octets) few less = absurd (omega arith)
fuel form (suc count) (suc more) (octet ∷ octets) few less = by (fuel form count more) (take_item form (octet ∷ octets)) refl
  where
    by : ((r : List ℕ) → length r ≤ count → length r ≤ more → first_items form count r ≡ first_items form more r) → (o : Option (List ℕ × List ℕ))
        → take_item form (octet ∷ octets) ≡ o
        → unwrap_or (option_map (λ split. split.0 ∷ first_items form count split.1) o) [] ≡ unwrap_or (option_map (λ split. split.0 ∷ first_items form more split.1) o) []
    by on None is = refl
    by on (Some split) is =
        let shorter = item_less form (octet ∷ octets) split is in
        ap (λ (l : List (List ℕ)). split.0 ∷ l) (on split.1 (omega (arith, shorter)) (omega (arith, shorter)))

pub items_none : (form : Form) (octets : List ℕ) → take_item form octets ≡ None → items form octets ≡ []
unfolding first_items
items_none form [] is = refl
items_none form (octet ∷ octets) is =
    ap (λ (o : Option (List ℕ × List ℕ)). unwrap_or (option_map (λ split. split.0 ∷ first_items form (length octets) split.1) o) []) is

pub items_some : (form : Form) (octets front behind : List ℕ) → take_item form octets ≡ Some (front, behind) → items form octets ≡ front ∷ items form behind
unfolding first_items
items_some form [] front behind is = let none = sym (none_in form) ∙ is in absurd (cc)
items_some form (octet ∷ octets) front behind is =
    let shorter = item_less form (octet ∷ octets) (front, behind) is in
    ap (λ (o : Option (List ℕ × List ℕ)). unwrap_or (option_map (λ split. split.0 ∷ first_items form (length octets) split.1) o) []) is
    ∙ ap (λ (l : List (List ℕ)). front ∷ l) (fuel form (length octets) (length behind) behind (omega (arith, shorter)) (omega arith))

-- the items behind the first, each behind a comma
abbrev pub item_shown : Form → List ℕ → List ℕ
item_shown form item = unquoted_text (flat_map item_octet (item_text form item))

abbrev pub behind_text : Form → List (List ℕ) → List ℕ
behind_text form each = flat_map (λ item. 44 ∷ item_shown form item) each

joined : (first : List ℕ) (others : List (List ℕ)) → join_with_byte 44 (first ∷ others) ≡ first ++ flat_map (λ item. 44 ∷ item) others
joined first [] = sym (append-nil first)
joined first (other ∷ others) = ap (λ (l : List ℕ). first ++ 44 ∷ l) (joined other others)

unquoted_behind : (form : Form) (each : List (List ℕ))
    → unquoted_text (flat_map (λ item. 44 ∷ item) (map (flat_map item_octet) (map (item_text form) each))) ≡ behind_text form each
unquoted_behind form [] = refl
unquoted_behind form (item ∷ each) =
    unquoted-append (44 ∷ flat_map item_octet (item_text form item)) (flat_map (λ item. 44 ∷ item) (map (flat_map item_octet) (map (item_text form) each)))
    ∙ ap (λ (l : List ℕ). 44 ∷ item_shown form item ++ l) (unquoted_behind form each)

pub first_shown : (form : Form) (octets front behind : List ℕ) → take_item form octets ≡ Some (front, behind)
    → item_shown form front ++ behind_text form (items form behind) ≡ unquoted_text (shown_items form octets)
first_shown form octets front behind is =
    let others = map (flat_map item_octet) (map (item_text form) (items form behind)) in
    sym (ap (λ (l : List (List ℕ)). unquoted_text (list_text (map (item_text form) l))) (items_some form octets front behind is)
    ∙ ap unquoted_text (joined (flat_map item_octet (item_text form front)) others)
    ∙ unquoted-append (flat_map item_octet (item_text form front)) (flat_map (λ item. 44 ∷ item) others)
    ∙ ap (λ (l : List ℕ). item_shown form front ++ l) (unquoted_behind form (items form behind)))

pub next_shown : (form : Form) (octets front behind : List ℕ) → take_item form octets ≡ Some (front, behind)
    → behind_text form (items form octets) ≡ 44 ∷ item_shown form front ++ behind_text form (items form behind)
next_shown form octets front behind is = ap (behind_text form) (items_some form octets front behind is)

pub none_shown : (form : Form) (octets : List ℕ) → take_item form octets ≡ None → unquoted_text (shown_items form octets) ≡ []
none_shown form octets is = ap (λ (l : List (List ℕ)). unquoted_text (list_text (map (item_text form) l))) (items_none form octets is)

-- the keys with a name
rows_low : (key : ℕ) (word : List ℕ) (rows : List (ℕ × List ℕ × Form)) → AllByRecursion (λ (row : ℕ × List ℕ × Form). row.0 < 9) rows
    → option_map (λ row. row.1) (find (λ row. row.0 == key) rows) ≡ Some word → key < 9
rows_low key word [] low is = absurd (cc)
rows_low key word (row ∷ rows) low is = by (rows_low key word rows low.1) (row.0 == key) refl is
  where
    by : (option_map (λ row. row.1) (find (λ row. row.0 == key) rows) ≡ Some word → key < 9) → (b : Bool) → (row.0 == key) ≡ b
        → option_map (λ row. row.1) (cond b (Some row) (find (λ row. row.0 == key) rows)) ≡ Some word → key < 9
    by on true same is = let first = low.0 in let equal : row.0 ≡ key = grind (arith, nat_tests) in omega (arith, first, equal)
    by on false same is = on is

table_low : AllByRecursion (λ (row : ℕ × List ℕ × Form). row.0 < 9) table
table_low = (omega arith, (omega arith, (omega arith, (omega arith, (omega arith, (omega arith, (omega arith, (omega arith, (omega arith, tt)))))))))

pub name_low : (key : ℕ) (word : List ℕ) → name_of key ≡ Some word → key < 9
unfolding name_of
name_low key word is = rows_low key word table table_low is
