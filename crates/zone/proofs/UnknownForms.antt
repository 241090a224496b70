-- Each row that states a record has a form with unknown data.
use Rattle.std.proofs.Common.{◌≡◌, ◌<◌, ◌≤◌, ◌^◌, ℕ, List, [], ◌∷◌, ◌++◌, length, Option, decimal, refl, sym, ◌∙◌, arith, append_assoc, append-nil}
use Rattle.dns_label.specs.Octets.{AreOctets}
use Rattle.dns_scan.specs.Encodings.{encoded_16}
use Rattle.dns_scan.specs.Token.{Token, IsEntry, IsWord, marker, unquoted}
use Rattle.dns_scan.specs.UnknownData.{IsUnknownData}
use Rattle.dns_scan.specs.declared.encoding.base.Base.TheVariants.{Sixteen}
use Rattle.dns_scan.proofs.Encodings.{text_decodes_only}
use Rattle.dns_text.specs.Rows.{TokenRow}
use Rattle.dns_fields.proofs.PrintedRows.{safe_16}
use Rattle.dns_fields.proofs.PrintedTexts.{number_back, safe_decimal, safe_plain}
use Rattle.dns_rdata.specs.DataOctets.{data_octets}
use Rattle.dns_zonefile.specs.Statement.{HasOwner, Names, Stated, StatesRecord}
use Rattle.dns_zonefile.specs.Statement.HasOwner.{last, own}
use Rattle.dns_zonefile.specs.Statement.Says.{resource}
use Rattle.zone.proofs.ShortData.{says_short}
use Rattle.zone.specs.Unknown.{IsUnknownForm}

-- the tokens before the data
front_of : {names : Names} {row : TokenRow} {owner : Option (List (List ℕ))} {tokens : List Token} (front data' : List Token)
    → HasOwner names row owner tokens → tokens ≡ front ++ data' → (head : List Token) × (row.tokens ≡ head ++ data')
front_of front data' last is = (front, is)
front_of front data' (own {text = text} spells) is = (unquoted text ∷ front, λ i. unquoted text ∷ is i)

-- the octets as one word, or none
abbrev words_of : List ℕ → List Token
words_of [] = []
words_of (octet ∷ octets) = unquoted (encoded_16 (octet ∷ octets)) ∷ []

words_joined : (octets : List ℕ) → AreOctets octets → IsEntry IsWord (words_of octets) (encoded_16 octets)
words_joined [] are = refl
words_joined (octet ∷ octets) are =
    let text = encoded_16 (octet ∷ octets) in (text, [], (refl, safe_plain text (safe_16 (octet ∷ octets) are)), refl, sym (append-nil text))

spells_unknown : (octets : List ℕ) → AreOctets octets → length octets < 2 ^ 16 → IsUnknownData (unquoted (decimal (length octets)) ∷ words_of octets) octets
spells_unknown octets are short = record {
  words = words_of octets;
  number = record {
    text = decimal (length octets);
    takes = record {
      token = unquoted (decimal (length octets));
      is = refl;
      fits = (refl, safe_plain (decimal (length octets)) (safe_decimal (length octets) (omega (arith, short))));
    };
    reads_as = number_back (2 ^ 16) (length octets) short (omega (arith, short));
  };
  text = encoded_16 octets;
  joined = words_joined octets are;
  decodes = (text_decodes_only Sixteen octets are).decodes;
}

pub some_form : {names : Names} {row : TokenRow} {stated : Stated} → StatesRecord names row stated → AreOctets (data_octets stated.rdata)
    → (other : TokenRow) × IsUnknownForm names row other
some_form {row = row} {stated = stated} says are =
    let octets = data_octets stated.rdata in
    let head = front_of (says.head.before ++ says.head.type_token ∷ []) says.data_tokens says.owner
    (says.head.is ∙ sym (append_assoc says.head.before (says.head.type_token ∷ []) says.data_tokens)) in
    let short : length octets ≤ 65535 = (says_short (resource says)).0 in
    let words = unquoted (decimal (length octets)) ∷ words_of octets in (
      record { blank_led = row.blank_led; tokens = head.0 ++ marker ∷ words },
      record {
        stated = stated;
        says = says;
        head = head.0;
        row_is = head.1;
        words = words;
        words_are = spells_unknown octets are (omega (arith, short));
        other_is = refl;
      },
    )
