-- The words that fields of further types are printed as: one character at least, and each is plain in a word.
use Rattle.std.proofs.Common.{◌≡◌, ◌+◌, ◌/◌, ◌%◌, ◌<◌, ◌≤◌, ◌^◌, ◌&&◌, ◌||◌, ◌==◌, ◌⊎◌, inl, inr, nat_lt, cond, find, ℕ, Bool, true, false, List, [], ◌∷◌, ◌++◌, length, drop, map, codes, decimal, Option, Some, None, option_map, refl, sym, ◌∙◌, ap, subst, arith}
use Rattle.std.specs.Prelude.{if◌then◌else◌}
use Rattle.std.proofs.lemmas.Bool.Decides.{nat_tests}
use Rattle.std.specs.Char.{is_ascii_digit}
use Rattle.std.specs.List.{AllByRecursion, AllZip, list_all}
use Rattle.dns_label.specs.Octets.{AreOctets}
use Rattle.dns_values.specs.Mnemonic.{Mnemonics, text_of, type_written, types}
use Rattle.dns_values.proofs.Words.{text_written-named, text_written-other}
use Rattle.dns_scan.specs.declared.encoding.base.Base.{Base}
use Rattle.dns_scan.specs.declared.encoding.base.Base.TheVariants.{Sixteen, ThirtyTwoHex, SixtyFour}
use Rattle.dns_scan.specs.Base.{Decodes, encoded}
use Rattle.dns_scan.specs.Token.{Token, unquoted}
use Rattle.dns_scan.proofs.Decoded.{each_append, each_weaker}
use Rattle.dns_scan.proofs.Encodings.{decodes_one, encoded_decodes}
use Rattle.dns_text.specs.DocumentRows.{WritesToken}
use Rattle.dns_fields.proofs.PrintedTexts.{IsSafe, bare_token, safe_decimal, safe_decoded, safe_no_quote}
use Rattle.dns_fields.proofs.PrintedTokens.{IsWritten, rest_written}
use Rattle.dns_field_texts.specs.Hardware.{hardware_written, small_digit}
use Rattle.dns_field_texts.specs.HashWords.{hash_written, salt_written}
use Rattle.dns_field_texts.specs.Location.{IsLocation, Location, Precision}
use Rattle.dns_field_texts.specs.LocationText.{IsMetres, IsNumeral, SpellsAltitude, SpellsAngle, SpellsArc, SpellsSize, location_words, usual_sizes}
use Rattle.dns_field_texts.specs.Time.{clock_written, date_written, is_moment, moment_of, moment_read, moment_written, time_of, time_read, time_written}
use Rattle.dns_field_texts.specs.TypeWords.{more_types, type_word_written}
use Rattle.dns_field_texts.proofs.LocationNumerals.{IsNear, all_first, all_rest, digit_near, metres_some, numeral_near, numeral_some}
use Rattle.dns_field_texts.proofs.LocationPrinted.{printed_scans}
use Rattle.dns_field_texts.proofs.Moments.{time_reads_back}
use Rattle.dns_field_texts.proofs.TypeWords.{type_word_written-named, type_word_written-other}

pub record IsSafeWord (text : List ℕ) : Type 0 where
  pub some : 0 < length text
  pub each : AllByRecursion IsSafe text

-- safe words are those of unquoted tokens
pub word_written : (text : List ℕ) → IsSafeWord text → IsWritten text
word_written [] is = absurd (let some = is.some in omega arith)
word_written (c ∷ text) is = (rest_written (c ∷ text) is.each).0

pub words_written : (texts : List (List ℕ)) → AllByRecursion IsSafeWord texts → AllByRecursion IsWritten texts
words_written [] each = tt
words_written (text ∷ texts) each = (word_written text each.0, words_written texts each.1)

pub words_bare : (texts : List (List ℕ)) (tokens : List Token) → AllByRecursion IsSafeWord texts → AllZip WritesToken tokens texts
    → tokens ≡ map unquoted texts
words_bare [] [] each writes = refl
words_bare [] (token ∷ tokens) each writes = absurd writes
words_bare (text ∷ texts) [] each writes = absurd writes
words_bare (text ∷ texts) (token ∷ tokens) each writes =
    let first : token ≡ unquoted text = bare_token writes.0 (safe_no_quote text each.0.each) in
    let others = words_bare texts tokens each.1 writes.1 in
    λ i. first i ∷ others i

-- digits, letters, points and minus signs
safe_from : (c : ℕ) → 41 < c → c ≤ 126 → (c ≡ 59 → ⊥) → (c ≡ 92 → ⊥) → IsSafe c
safe_from c low high semicolon backslash = ((omega arith, high), backslash, grind (arith, nat_tests))

safe_between : (c : ℕ) → 44 < c → c < 59 → IsSafe c
safe_between c low high = safe_from c (omega arith) (omega arith) (λ same. omega arith) (λ same. omega arith)

safe_letter : (c : ℕ) → 64 < c → c < 123 → (c ≡ 92 → ⊥) → IsSafe c
safe_letter c low high backslash = safe_from c (omega arith) (omega arith) (λ same. omega arith) backslash

safe_digits : (text : List ℕ) → list_all is_ascii_digit text ≡ true → AllByRecursion IsSafe text
safe_digits [] all = tt
safe_digits (c ∷ text) all =
    let near = digit_near c (all_first c text all) in
    (safe_between c (omega (arith, near)) (omega (arith, near)), safe_digits text (all_rest c text all))

-- words for types
abbrev is_sign : ℕ → Bool
is_sign c = (nat_lt 44 c && nat_lt c 59) || (nat_lt 64 c && nat_lt c 91)

abbrev is_word : List ℕ → Bool
is_word [] = false
is_word (c ∷ text) = list_all is_sign (c ∷ text)

and_left : (a b : Bool) → (a && b) ≡ true → a ≡ true
and_left true b e = refl
and_left false b e = e

and_right : (a b : Bool) → (a && b) ≡ true → b ≡ true
and_right true b e = e
and_right false b e = cc

sign_safe : (c : ℕ) → is_sign c ≡ true → IsSafe c
sign_safe c is = safe_from c (grind (arith, nat_tests)) (grind (arith, nat_tests)) (λ same. grind (arith, nat_tests)) (λ same. grind (arith, nat_tests))

signs_safe : (text : List ℕ) → list_all is_sign text ≡ true → AllByRecursion IsSafe text
signs_safe [] all = tt
signs_safe (c ∷ text) all = (sign_safe c (and_left _ _ all), signs_safe text (and_right _ _ all))

word_safe : (text : List ℕ) → is_word text ≡ true → IsSafeWord text
word_safe [] is = absurd (cc)
word_safe (c ∷ text) is = record { some = omega arith; each = signs_safe (c ∷ text) is }

-- a text that is found in a table of such words is one
found_safe : (table : Mnemonics) (number : ℕ) (text : List ℕ) → text_of table number ≡ Some text → list_all (λ row. is_word row.1) table ≡ true
    → IsSafeWord text
unfolding text_of
found_safe [] number text named all = absurd (cc)
found_safe (row ∷ rows) number text named all =
    elim (row.0 == number) as (λ v. option_map {T = ℕ × List ℕ} (λ row. row.1) (cond v (Some row) (find (λ row. row.0 == number) rows)) ≡ Some text
    → IsSafeWord text) [
      | true ↦ (λ e. let same : row.1 ≡ text = cc in subst IsSafeWord same (word_safe row.1 (and_left _ _ all)))
      | false ↦ (λ e. found_safe rows number text e (and_right _ _ all))
    ] named

more_words : list_all (λ row. is_word row.1) more_types ≡ true
unfolding more_types
more_words = refl

type_words : list_all (λ row. is_word row.1) types ≡ true
unfolding types
type_words = refl

numbered_safe : (number : ℕ) → number < 65536 → IsSafeWord (codes "TYPE" ++ decimal number)
numbered_safe number small = record {
  some = omega arith;
  each = each_append IsSafe (codes "TYPE") (decimal number) (signs_safe (codes "TYPE") refl) (safe_decimal number (omega arith));
}

written_safe : (number : ℕ) → number < 65536 → IsSafeWord (type_written number)
written_safe number small = by (text_of types number) refl
  where
    by : (text : Option (List ℕ)) → text_of types number ≡ text → IsSafeWord (type_written number)
    by (Some text) named =
        subst IsSafeWord (sym (text_written-named types (codes "TYPE") text number (sym named))) (found_safe types number text named type_words)
    by None unnamed = subst IsSafeWord (sym (text_written-other types (codes "TYPE") number (sym unnamed))) (numbered_safe number small)

pub type_safe : (number : ℕ) → number < 65536 → IsSafeWord (type_word_written number)
type_safe number small = by (text_of more_types number) refl
  where
    by : (text : Option (List ℕ)) → text_of more_types number ≡ text → IsSafeWord (type_word_written number)
    by (Some text) named = subst IsSafeWord (sym (type_word_written-named number text (sym named))) (found_safe more_types number text named more_words)
    by None unnamed = subst IsSafeWord (sym (type_word_written-other number (sym unnamed))) (written_safe number small)

-- times: what reads as a moment is digits
moment_digits : (text : List ℕ) (time : ℕ) → moment_read text ≡ Some time → list_all is_ascii_digit text ≡ true
unfolding moment_read
moment_digits text time reads =
    elim (list_all is_ascii_digit text) as (λ v. (if v && is_moment (moment_of text) then Some (time_of (moment_of text)) else None) ≡ Some time
    → v ≡ true) [
      | true ↦ (λ e. refl)
      | false ↦ (λ e. cc)
    ] reads

pub time_safe : (time : ℕ) → time < 2 ^ 32 → IsSafeWord (time_written time)
unfolding time_read time_written moment_written date_written clock_written
time_safe time small = record {
  some = omega arith;
  each = safe_digits (time_written time) (moment_digits (time_written time) time (time_reads_back time small));
}

-- salts and hashes
none_decodes : (base : Base) → Decodes base [] []
none_decodes Sixteen = encoded_decodes Sixteen [] tt
none_decodes ThirtyTwoHex = encoded_decodes ThirtyTwoHex [] tt
none_decodes SixtyFour = encoded_decodes SixtyFour [] tt

encoded_some : (base : Base) (octet : ℕ) (octets text : List ℕ) → Decodes base text (octet ∷ octets) → 0 < length text
encoded_some base octet octets [] decodes =
    let none : octet ∷ octets ≡ [] = decodes_one base [] [] (octet ∷ octets) (none_decodes base) decodes in absurd (cc)
encoded_some base octet octets (c ∷ text) decodes = omega arith

encoded_safe : (base : Base) (octet : ℕ) (octets : List ℕ) → AreOctets (octet ∷ octets) → IsSafeWord (encoded base (octet ∷ octets))
encoded_safe base octet octets are =
    let text : List ℕ = encoded base (octet ∷ octets) in
    let decodes = encoded_decodes base (octet ∷ octets) are in
    record { some = encoded_some base octet octets text decodes; each = safe_decoded base text (octet ∷ octets) decodes }

pub salt_safe : (salt : List ℕ) → AreOctets salt → IsSafeWord (salt_written salt)
salt_safe [] are = record { some = omega arith; each = (safe_between 45 (omega arith) (omega arith), tt) }
salt_safe (octet ∷ salt) are = encoded_safe Sixteen octet salt are

pub hash_safe : (hash : List ℕ) → AreOctets hash → 0 < length hash → IsSafeWord (hash_written hash)
hash_safe [] are some = absurd (omega arith)
hash_safe (octet ∷ hash) are some = encoded_safe ThirtyTwoHex octet hash are

-- hardware addresses
small_safe : (number : ℕ) → number < 16 → IsSafe (small_digit number)
small_safe number few = by (nat_lt number 10) refl
  where
    by : (low : Bool) → nat_lt number 10 ≡ low → IsSafe (if low then 48 + number else 87 + number)
    by true is = let less : number < 10 = grind (arith, nat_tests) in safe_between (48 + number) (omega arith) (omega arith)
    by false is =
        let least : 10 ≤ number = grind (arith, nat_tests) in safe_letter (87 + number) (omega arith) (omega arith) (λ same. omega arith)

pairs_safe : (octet : ℕ) (octets : List ℕ) → AreOctets (octet ∷ octets) → AllByRecursion IsSafe (hardware_written (octet ∷ octets))
pairs_safe octet [] are = (small_safe (octet / 16) (let few = are.0 in omega arith), (small_safe (octet % 16) (omega arith), tt))
pairs_safe octet (next ∷ octets) are = (
  small_safe (octet / 16) (let few = are.0 in omega arith),
  (small_safe (octet % 16) (omega arith), (safe_between 45 (omega arith) (omega arith), pairs_safe next octets are.1)),
)

pairs_some : (octet : ℕ) (octets : List ℕ) → 0 < length (hardware_written (octet ∷ octets))
pairs_some octet [] = omega arith
pairs_some octet (next ∷ octets) = omega arith

pub hardware_safe : (octets : List ℕ) → AreOctets octets → 0 < length octets → IsSafeWord (hardware_written octets)
hardware_safe [] are some = absurd (omega arith)
hardware_safe (octet ∷ octets) are some = record { some = pairs_some octet octets; each = pairs_safe octet octets are }

-- locations: what spells one is words
near_safe : (c : ℕ) → IsNear c → IsSafe c
near_safe c near = let low = near.0 in let high = near.1 in safe_between c (omega arith) (omega arith)

numeral_safe : {places value : ℕ} {text : List ℕ} → IsNumeral places text value → IsSafeWord text
numeral_safe {text = text} is = record { some = numeral_some is; each = each_weaker IsNear IsSafe text near_safe (numeral_near is) }

metres_safe : {value : ℕ} {text : List ℕ} → IsMetres text value → IsSafeWord text
metres_safe {value} {text} is = by is.unit
  where
    by : (text ≡ is.numeral) ⊎ (text ≡ is.numeral ++ codes "m") → IsSafeWord text
    by (inl same) = subst IsSafeWord (sym same) (numeral_safe is.is)
    by (inr same) = record {
      some = metres_some is;
      each = subst (AllByRecursion IsSafe) (sym same)
          (each_append IsSafe is.numeral (codes "m") (numeral_safe is.is).each (safe_letter 109 (omega arith) (omega arith) (λ e. omega arith), tt));
    }

altitude_safe : (altitude : ℕ) (text : List ℕ) → SpellsAltitude text altitude → IsSafeWord text
altitude_safe altitude text (centimetres, inl high) = metres_safe high.0
altitude_safe altitude text (centimetres, inr low) =
    subst IsSafeWord (sym low.1) (record { some = omega arith; each = (safe_between 45 (omega arith) (omega arith), (metres_safe low.2).each) })

angle_safe : (words : List (List ℕ)) (angle : ℕ) → SpellsAngle words angle → AllByRecursion IsSafeWord words
angle_safe [] angle is = absurd is
angle_safe (degree ∷ []) angle is = (numeral_safe is.spelled.0, tt)
angle_safe (degree ∷ minute ∷ []) angle is = (numeral_safe is.spelled.0, (numeral_safe is.spelled.1, tt))
angle_safe (degree ∷ minute ∷ second ∷ []) angle is = (numeral_safe is.spelled.0, (numeral_safe is.spelled.1, (numeral_safe is.spelled.2, tt)))
angle_safe (degree ∷ minute ∷ second ∷ more ∷ words) angle is = absurd is

words_append : (words others : List (List ℕ)) → AllByRecursion IsSafeWord words → AllByRecursion IsSafeWord others → AllByRecursion IsSafeWord (words ++ others)
words_append [] others each more = more
words_append (word ∷ words) others each more = (each.0, words_append words others each.1 more)

words_front : (words others : List (List ℕ)) → AllByRecursion IsSafeWord (words ++ others) → AllByRecursion IsSafeWord words
words_front [] others each = tt
words_front (word ∷ words) others each = (each.0, words_front words others each.1)

arc_safe : {most value : ℕ} {words : List (List ℕ)} (up down : ℕ) → IsSafe up → IsSafe down → SpellsArc most (up ∷ []) (down ∷ []) words value
    → AllByRecursion IsSafeWord words
arc_safe {value = value} up down up_safe down_safe arc =
    subst (AllByRecursion IsSafeWord) (sym arc.written)
    (words_append arc.front (arc.direction ∷ []) (angle_safe arc.front arc.angle arc.spelled) (by arc.is, tt))
  where
    by : ((arc.direction ≡ up ∷ []) × (value ≡ 2 ^ 31 + arc.angle)) ⊎ ((arc.direction ≡ down ∷ []) × (value + arc.angle ≡ 2 ^ 31)) → IsSafeWord arc.direction
    by (inl is) = subst IsSafeWord (sym is.0) (record { some = omega arith; each = (up_safe, tt) })
    by (inr is) = subst IsSafeWord (sym is.0) (record { some = omega arith; each = (down_safe, tt) })

sizes_safe : (words : List (List ℕ)) (sizes : List Precision) → AllZip SpellsSize words sizes → AllByRecursion IsSafeWord words
sizes_safe [] sizes each = tt
sizes_safe (word ∷ words) [] each = absurd each
sizes_safe (word ∷ words) (size ∷ sizes) each = (metres_safe each.0.metres, sizes_safe words sizes each.1)

texts_unquoted : (words : List (List ℕ)) → map (λ token. token.text) (map unquoted words) ≡ words
texts_unquoted [] = refl
texts_unquoted (word ∷ words) = ap (λ (l : List (List ℕ)). word ∷ l) (texts_unquoted words)

pub location_safe : (location : Location) → IsLocation location → AllByRecursion IsSafeWord (location_words location)
location_safe location is =
    let scans = printed_scans location is in
    let letter = λ (c : ℕ) (low : 64 < c) (high : c < 91). safe_letter c low (omega arith) (λ same. omega arith) in
    let rest : List (List ℕ) = drop (length scans.sizes) usual_sizes in
    let sizes =
    words_front scans.sizes rest
    (sizes_safe (scans.sizes ++ rest) (location.size ∷ location.horizontal ∷ location.vertical ∷ []) scans.sized.each) in
    let north = arc_safe 78 83 (letter 78 (omega arith) (omega arith)) (letter 83 (omega arith) (omega arith)) scans.north in
    let east = arc_safe 69 87 (letter 69 (omega arith) (omega arith)) (letter 87 (omega arith) (omega arith)) scans.east in
    let above = altitude_safe location.altitude scans.altitude scans.above in
    subst (AllByRecursion IsSafeWord) (sym scans.written ∙ texts_unquoted (location_words location))
    (words_append (scans.latitude ++ scans.longitude) (scans.altitude ∷ scans.sizes) (words_append scans.latitude scans.longitude north east)
    (above, sizes))
