-- The text that a value is printed as spells the value.
use Rattle.std.proofs.Common.{◌≡◌, ◌≢◌, ◌+◌, ◌-◌, ◌<◌, ◌≤◌, ◌^◌, ◌==◌, ◌||◌, cond, ℕ, Bool, true, false, List, [], ◌∷◌, ◌++◌, length, map, decimal, Option, None, Some, refl, sym, ◌∙◌, ap, subst, arith, append-nil, inl, inr}
use Rattle.std.proofs.lemmas.Fmt.{decimal_nonempty}
use Rattle.std.proofs.lemmas.List.Sorted.{IsPermutation-refl}
use Rattle.std.proofs.NetLemmas.Texts.{IsDotted-ipv4_text, IsColonHex-hex_groups_text}
use Rattle.std.specs.Prelude.{◌/◌, ◌%◌, ◌*◌, find, option_map, unwrap_or}
use Rattle.std.specs.List.{AllByRecursion, AllZip, concat, flat_map}
use Rattle.std.specs.Net.Addr.{segments_of}
use Rattle.std.specs.Net.Addr.{octets_of as octets_of_segments}
use Rattle.std.specs.Net.Grammar.{IsDotted}
use Rattle.std.specs.Net.Text.{ipv4_text, hex_groups_text}
use Rattle.dns_label.specs.Octets.{AreOctets, IsOctet}
use Rattle.dns_scan.specs.CharStr.{string_wire}
use Rattle.dns_scan.specs.declared.encoding.base.Base.TheVariants.{SixtyFour}
use Rattle.dns_scan.specs.Encodings.{Decodes64, encoded_64}
use Rattle.dns_scan.specs.Token.{Token}
use Rattle.dns_scan.proofs.Decoded.{each_append, each_weaker}
use Rattle.dns_scan.proofs.Encodings.{decodes_one, encoded_decodes}
use Rattle.dns_text.specs.DocumentRows.{WritesToken, quoted as between, unquoted as bare}
use Rattle.dns_fields.specs.Fields.{Field, IsField, field_octets, ipv4, ipv6, tag}
use Rattle.dns_fields.specs.Shown.{field_tokens}
use Rattle.dns_fields.proofs.PrintedRows.{each_split, safe_64}
use Rattle.dns_fields.proofs.PrintedTexts.{IsSafe, each_get, segments_small}
use Rattle.dns_fields.proofs.PrintedTokens.{row_has_tokens}
use Rattle.dns_service_parameters.specs.declared.form.Form.{Form}
use Rattle.dns_service_parameters.specs.declared.form.Form.TheVariants.{Plain}
use Rattle.dns_service_parameters.specs.Service.{IsParameter, IsValue, Parameter, Value, keys, strings, nothing, number, ipv4s, ipv6s, encoded, plain, form_at, form_of, name_of, table, value_octets}
use Rattle.dns_service_parameters.specs.ServiceRead.{other_items}
use Rattle.dns_service_parameters.specs.ServiceText.{IsIpv6, SpellsKey, SpellsParameter, SpellsValue, item_octet, key_text, list_text, number_word, value_text}
use Rattle.dns_service_parameters.proofs.ServiceItems.{list_split, text_behind}
use Rattle.dns_service_parameters.proofs.ServiceNames.{name_some}
use Rattle.dns_service_parameters.proofs.ServiceNumbers.{decimal_spelled}
use Rattle.dns_service_parameters.proofs.ServicePieces.{size_4, size_16, some_size}
use Rattle.dns_service_parameters.proofs.ServiceShown.{IsBare, decimal_bare, ipv4_bare, ipv6_bare, key_bare}

-- a text of octets that is not empty
pub record IsSomeText (text : List ℕ) : Type 0 where
  pub small : AreOctets text
  pub some : 0 < length text

pub bare_octets : (text : List ℕ) → AllByRecursion IsBare text → AreOctets text
bare_octets text each = each_weaker IsBare IsOctet text (λ c is. let high = is.1 in omega (arith, high)) each

-- lists of such texts
item_small : (marked : Bool) (octet : ℕ) → IsOctet octet → AreOctets (cond marked (92 ∷ octet ∷ []) (octet ∷ []))
item_small true octet small = (omega arith, (small, tt))
item_small false octet small = (small, tt)

items_small : (item : List ℕ) → AreOctets item → AreOctets (flat_map item_octet item)
items_small [] small = tt
items_small (octet ∷ item) small =
    each_append IsOctet (item_octet octet) (flat_map item_octet item) (item_small ((octet == 44) || (octet == 92)) octet small.0) (items_small item small.1)

item_some : (marked : Bool) (octet : ℕ) (item rest : List ℕ) → 0 < length ((cond marked (92 ∷ octet ∷ []) (octet ∷ []) ++ item) ++ rest)
item_some true octet item rest = omega arith
item_some false octet item rest = omega arith

list_small : (items : List (List ℕ)) → AllByRecursion IsSomeText items → AreOctets (list_text items)
list_small [] each = tt
list_small (item ∷ []) each = items_small item each.0.small
list_small (item ∷ next ∷ items) each =
    each_append IsOctet (flat_map item_octet item) (44 ∷ list_text (next ∷ items)) (items_small item each.0.small) (omega arith, list_small (next ∷ items) each.1)

list_some : (items : List (List ℕ)) → items ≢ [] → AllByRecursion IsSomeText items → IsSomeText (list_text items)
list_some [] some each = absurd (some refl)
list_some (item ∷ items) some each = record { small = list_small (item ∷ items) each; some = by item each.0.some }
  where
    by : (first : List ℕ) → 0 < length first → 0 < length (list_text (first ∷ items))
    by [] none = absurd (omega arith)
    by (octet ∷ first) above =
        subst (λ (l : List ℕ). 0 < length l) (sym (list_split (octet ∷ first) items))
        (item_some ((octet == 44) || (octet == 92)) octet (flat_map item_octet first) (other_items (text_behind items)))

-- the items' texts
module _ {A : Type 0} (P : A → Type 0) (text : A → List ℕ) where
  each_some : (each : List A) → ((a : A) → P a → IsSomeText (text a)) → AllByRecursion P each → AllByRecursion IsSomeText (map text each)
  each_some [] one all = tt
  each_some (a ∷ each) one all = (one a all.0, each_some each one all.1)

  map_some : (each : List A) → each ≢ [] → map text each ≢ []
  map_some [] some none = some refl
  map_some (a ∷ each) some none = cc

  texts_some : (each : List A) → each ≢ [] → ((a : A) → P a → IsSomeText (text a)) → AllByRecursion P each → IsSomeText (list_text (map text each))
  texts_some each some one all = list_some (map text each) (map_some each some) (each_some each one all)

  each_spelled : (Item : List ℕ → A → Type 0) (each : List A) → ((a : A) → P a → Item (text a) a) → AllByRecursion P each → AllZip Item (map text each) each
  each_spelled Item [] one all = tt
  each_spelled Item (a ∷ each) one all = (one a all.0, each_spelled Item each one all.1)

-- keys
key_spelled : (key : ℕ) → key < 2 ^ 16 → SpellsKey (key_text key) key
key_spelled key small = by (name_of key) refl
  where
    by : (name : Option (List ℕ)) → name_of key ≡ name → SpellsKey (unwrap_or name (number_word key)) key
    by None is = inr (refl, small)
    by (Some word) is = inl is

pub key_some : (key : ℕ) → 0 < length (key_text key)
key_some key = by (name_of key) refl
  where
    by : (name : Option (List ℕ)) → name_of key ≡ name → 0 < length (unwrap_or name (number_word key))
    by None is = omega arith
    by (Some word) is = name_some key word is

key_item : (key : ℕ) → key < 2 ^ 16 → IsSomeText (key_text key)
key_item key small = record { small = bare_octets (key_text key) (key_bare key (omega (arith, small))); some = key_some key }

-- strings
strings_items : (each : List (List ℕ)) → AllByRecursion (λ string. (0 < length string) × (length string ≤ 255)) each → AreOctets (flat_map string_wire each)
    → AllByRecursion IsSomeText each
strings_items [] all small = tt
strings_items (string ∷ each) all small =
    let both = each_split IsOctet (string_wire string) (flat_map string_wire each) small in
    (record { small = both.0.1; some = all.0.0 }, strings_items each all.1 both.1)

-- addresses
abbrev IsHeld : ℕ → List ℕ → Type 0
IsHeld size octets = (length octets ≡ size) × AreOctets octets

all_held : (size : ℕ) (each : List (List ℕ)) → AllByRecursion (λ octets. length octets ≡ size) each → AreOctets (concat each) → AllByRecursion (IsHeld size) each
all_held size [] all small = tt
all_held size (octets ∷ each) all small =
    let both = each_split IsOctet octets (concat each) small in ((all.0, both.0), all_held size each all.1 both.1)

written_some : {token : Token} {text : List ℕ} → WritesToken token text → 0 < length text
written_some (between are) = omega arith
written_some (bare are some) = some

first_some : (text : List ℕ) (tokens : List Token) → AllZip WritesToken tokens (text ∷ []) → 0 < length text
first_some text [] writes = absurd writes
first_some text (token ∷ tokens) writes = written_some writes.0

field_some : (field : Field) (text : List ℕ) → field_tokens field ≡ text ∷ [] → IsField field → (field ≡ tag [] → ⊥) → AreOctets (field_octets field) → 0 < length text
field_some field text one is other small =
    let has = row_has_tokens (field ∷ []) (is, tt) (other, tt) (each_append IsOctet (field_octets field) [] small tt) in
    first_some text has.0 (subst (λ (l : List (List ℕ)). AllZip WritesToken has.0 l) (append-nil (field_tokens field) ∙ one) has.1)

ipv4_item : (octets : List ℕ) → IsHeld 4 octets → IsSomeText (ipv4_text octets)
ipv4_item octets is = record {
  small = bare_octets (ipv4_text octets) (ipv4_bare octets (each_get 256 octets (omega arith) is.1));
  some = field_some (ipv4 octets) (ipv4_text octets) refl is.0 (λ same. cc) is.1;
}

ipv6_item : (octets : List ℕ) → IsHeld 16 octets → IsSomeText (hex_groups_text (segments_of octets))
ipv6_item octets is = record {
  small = bare_octets (hex_groups_text (segments_of octets)) (ipv6_bare octets is.0 (each_get 256 octets (omega arith) is.1));
  some = field_some (ipv6 octets) (hex_groups_text (segments_of octets)) refl is.0 (λ same. cc) is.1;
}

ipv4_spelled : (octets : List ℕ) → IsHeld 4 octets → IsDotted (ipv4_text octets) octets
ipv4_spelled octets is = IsDotted-ipv4_text octets is.0 (each_get 256 octets (omega arith) is.1)

high : (a b : ℕ) → b < 256 → (a * 256 + b) / 256 ≡ a
high a b small = omega arith

low : (a b : ℕ) → b < 256 → (a * 256 + b) % 256 ≡ b
low a b small = omega arith

segments_back : (octets : List ℕ) (pairs : ℕ) → length octets ≡ pairs + pairs → AreOctets octets → octets_of_segments (segments_of octets) ≡ octets
segments_back [] pairs even small = refl
segments_back (a ∷ []) pairs even small = absurd (omega (arith, even))
segments_back (a ∷ b ∷ octets) pairs even small =
    rw (high a b small.1.0, low a b small.1.0, segments_back octets (pairs - 1) (omega (arith, even)) small.1.1) refl

ipv6_spelled : (octets : List ℕ) → IsHeld 16 octets → IsIpv6 (hex_groups_text (segments_of octets)) octets
ipv6_spelled octets is =
    let segments = segments_small octets 8 is.0 is.1 in (
      segments_of octets,
      IsColonHex-hex_groups_text (segments_of octets) segments.1 (each_get (2 ^ 16) (segments_of octets) (omega arith) segments.0),
      sym (segments_back octets 8 is.0 is.1),
    )

-- base 64
decodes_back : (octets : List ℕ) → AreOctets octets → Decodes64 (encoded_64 octets) octets
decodes_back octets small = encoded_decodes SixtyFour octets small

encoded_item : (octets : List ℕ) → octets ≢ [] → AreOctets octets → IsSomeText (encoded_64 octets)
encoded_item octets some small = record {
  small = each_weaker IsSafe IsOctet (encoded_64 octets) (λ c is. let high = is.0.1 in omega (arith, high)) (safe_64 octets small);
  some = by (encoded_64 octets) refl;
}
  where
    by : (text : List ℕ) → encoded_64 octets ≡ text → 0 < length text
    by [] none =
        absurd (some (decodes_one SixtyFour [] [] octets (decodes_back [] tt)
        (subst (λ (l : List ℕ). Decodes64 l octets) none (decodes_back octets small))))
    by (c ∷ text) is = omega arith

-- a value, if it has octets
small_keys : (each : List ℕ) → AllByRecursion (λ key. (0 < key) × (key < 2 ^ 16)) each → AllByRecursion (λ key. key < 2 ^ 16) each
small_keys [] all = tt
small_keys (key ∷ each) all = (all.0.1, small_keys each all.1)

some_octets : (octets : List ℕ) → octets ≢ [] → 0 < length octets
some_octets [] some = absurd (some refl)
some_octets (octet ∷ octets) some = omega arith

pub text_some : (value : Value) → IsValue value → AreOctets (value_octets value) → value_octets value ≢ [] → IsSomeText (value_text value)
text_some (keys each) fits small some = texts_some (λ key. key < 2 ^ 16) key_text each fits.0 key_item (small_keys each fits.1)
text_some (strings each) fits small some = list_some each fits.0 (strings_items each fits.1 small)
text_some nothing fits small some = absurd (some refl)
text_some (number n) fits small some = record {
  small = bare_octets (decimal n) (decimal_bare n (omega (arith, fits)));
  some = decimal_nonempty n (omega (arith, fits));
}
text_some (ipv4s each) fits small some = texts_some (IsHeld 4) ipv4_text each fits.0 ipv4_item (all_held 4 each fits.1 small)
text_some (ipv6s each) fits small some =
    texts_some (IsHeld 16) (λ octets. hex_groups_text (segments_of octets)) each fits.0 ipv6_item (all_held 16 each fits.1 small)
text_some (encoded octets) fits small some = encoded_item octets fits small
text_some (plain octets) fits small some = record { small = small; some = some_octets octets some }

-- and if it has none
pub text_none : (value : Value) → IsValue value → value_octets value ≡ [] → value_text value ≡ []
text_none (keys []) fits none = refl
text_none (keys (key ∷ each)) fits none = absurd (cc)
text_none (strings []) fits none = refl
text_none (strings (string ∷ each)) fits none = absurd (cc)
text_none nothing fits none = refl
text_none (number n) fits none = absurd (cc)
text_none (ipv4s each) fits none = let some = some_size size_4 each fits.1 fits.0 in absurd (omega (arith, some, ap (length {A = ℕ}) none))
text_none (ipv6s each) fits none = let some = some_size size_16 each fits.1 fits.0 in absurd (omega (arith, some, ap (length {A = ℕ}) none))
text_none (encoded octets) fits none = absurd (fits none)
text_none (plain octets) fits none = none

pub value_spelled : (value : Value) → IsValue value → AreOctets (value_octets value) → SpellsValue (value_text value) value
value_spelled (keys each) fits small =
    (each, (map key_text each, refl, each_spelled (λ key. key < 2 ^ 16) key_text SpellsKey each key_spelled (small_keys each fits.1)), IsPermutation-refl each)
value_spelled (strings each) fits small = refl
value_spelled nothing fits small = refl
value_spelled (number n) fits small = decimal_spelled n fits
value_spelled (ipv4s each) fits small =
    (map ipv4_text each, refl, each_spelled (IsHeld 4) ipv4_text IsDotted each ipv4_spelled (all_held 4 each fits.1 small))
value_spelled (ipv6s each) fits small =
    let text : List ℕ → List ℕ = λ octets. hex_groups_text (segments_of octets) in
    (map text each, refl, each_spelled (IsHeld 16) text IsIpv6 each ipv6_spelled (all_held 16 each fits.1 small))
value_spelled (encoded octets) fits small = decodes_back octets small
value_spelled (plain octets) fits small = refl

-- a key without a name has a value of any octets
plain_at : (key : ℕ) → name_of key ≡ None → form_at key ≡ Plain
unfolding name_of form_at
plain_at key none = by (find (λ row. row.0 == key) table) none
  where
    by : (row : Option (ℕ × List ℕ × Form)) → option_map (λ row. row.1) row ≡ None → unwrap_or (option_map (λ row. row.2) row) Plain ≡ Plain
    by None is = refl
    by (Some row) is = absurd (cc)

plain_text : (value : Value) → form_of value ≡ Plain → value_text value ≡ value_octets value
plain_text (keys each) formed = absurd (cc)
plain_text (strings each) formed = absurd (cc)
plain_text nothing formed = refl
plain_text (number n) formed = absurd (cc)
plain_text (ipv4s each) formed = absurd (cc)
plain_text (ipv6s each) formed = absurd (cc)
plain_text (encoded octets) formed = absurd (cc)
plain_text (plain octets) formed = refl

pub parameter_spelled : (parameter : Parameter) → IsParameter parameter → AreOctets (value_octets parameter.value)
    → SpellsParameter (key_text parameter.key) (value_text parameter.value) parameter
parameter_spelled parameter is small = by (name_of parameter.key) refl
  where
    by : (name : Option (List ℕ)) → name_of parameter.key ≡ name
        → SpellsParameter (unwrap_or name (number_word parameter.key)) (value_text parameter.value) parameter
    by None none = inr (refl, plain_text parameter.value (is.formed ∙ plain_at parameter.key none))
    by (Some word) named = inl (named, value_spelled parameter.value is.fits small)
