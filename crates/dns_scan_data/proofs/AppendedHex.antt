-- Octets in base 16 that are appended as data.
use Rattle.std.proofs.Common.{◌≡◌, ◌≢◌, ◌<◌, ◌-◌, ◌+◌, ◌^◌, ◌++◌, ℕ, true, List, [], ◌∷◌, length, refl, sym, ◌∙◌, ap, subst, arith, append_assoc, append-nil, length-append}
use Rattle.std.specs.List.{AllByRecursion, list_all}
use Rattle.std.specs.Str.{chars}
use Rattle.std.proofs.lemmas.Bool.{and_parts}
use Rattle.std.proofs.lemmas.Bool.Decides.{nat_tests}
use Rattle.std.proofs.lemmas.Str.{chars-IsAscii}
use Rattle.dns_label.specs.Symbol.{is_plain}
use Rattle.dns_values.specs.Mnemonic.{number_spelled}
use Rattle.dns_scan.specs.declared.encoding.base.Base.TheVariants.{Sixteen}
use Rattle.dns_scan.specs.Base.{Decodes}
use Rattle.dns_scan.specs.Encodings.{Decodes16}
use Rattle.dns_scan.specs.Scans.{ScansWord}
use Rattle.dns_scan.specs.Token.{HasText, IsEntry, IsWord, Takes, Token}
use Rattle.dns_scan.specs.UnknownData.{IsUnknownData}
use Rattle.dns_scan.proofs.Decoded.{each_append}
use Rattle.dns_scan.proofs.Encodings.{Ascii, decodes_one, is_ascii}
use Rattle.dns_scan.proofs.Entries.{words_one}
use Rattle.dns_scan.proofs.UnknownWords.{one_word}
use Rattle.dns_fields.specs.Fields.{Rest16, rest16}
use Rattle.dns_scan_data.specs.Appended.{AppendsRow, GoesOn}
use Rattle.dns_scan_data.specs.AppendedHex.{AppendsHex, AppendsPairs, BeginsWithPairs, SpellsNoHex, SpellsPairs}
use Rattle.dns_scan_data.proofs.Appending.{Names}
use Rattle.dns_scan_data.proofs.HexDigits.{decodes_behind, none_behind, pairs_all, pairs_decode}

-- the text of words is ASCII
plain_ascii : (octet : ℕ) → is_plain octet ≡ true → octet < 128
plain_ascii octet plain = grind (arith, nat_tests)

plain_each : (text : List ℕ) → list_all is_plain text ≡ true → AllByRecursion Ascii text
plain_each [] plain = tt
plain_each (octet ∷ text) plain =
    let both = and_parts (is_plain octet) (list_all is_plain text) plain in (plain_ascii octet both.0, plain_each text both.1)

words_each : (tokens : List Token) (text : List ℕ) → IsEntry IsWord tokens text → AllByRecursion Ascii text
words_each [] text entry = subst (λ (l : List ℕ). AllByRecursion Ascii l) (sym entry) tt
words_each (token ∷ tokens) text entry =
    subst (λ (l : List ℕ). AllByRecursion Ascii l) (sym entry.4)
    (each_append Ascii entry.0 entry.1 (plain_each entry.0 entry.2.1) (words_each tokens entry.1 entry.3))

pub words_chars : (tokens : List Token) (text : List ℕ) → IsEntry IsWord tokens text → chars text ≡ text
words_chars tokens text entry = chars-IsAscii text (is_ascii text (words_each tokens text entry))

-- what was scanned and decoded
pub hex_appended : (tokens left : List Token) (text octets old new : List ℕ) → IsEntry IsWord tokens text → left ≡ []
    → Decodes16 text octets → new ≡ old ++ octets → AppendsHex tokens left old new
hex_appended tokens left text octets old new entry none decodes behind = record {
  text = text;
  octets = octets;
  entry = entry;
  decodes = subst (λ (l : List ℕ). Decodes16 l octets) (sym (words_chars tokens text entry)) decodes;
  none = none;
  behind = behind;
}

pub no_hex : (tokens : List Token) (text : List ℕ) → IsEntry IsWord tokens text → ((octets : List ℕ) → Decodes16 text octets → ⊥)
    → SpellsNoHex tokens
no_hex tokens text entry none other octets also decodes =
    let same : chars other ≡ text = words_chars tokens other also ∙ words_one tokens other text also entry in
    none octets (subst (λ (l : List ℕ). Decodes16 l octets) same decodes)

pub hex_gone : {tokens left : List Token} {old new : List ℕ} → AppendsHex tokens left old new → GoesOn old new
hex_gone appends = record { more = appends.octets; is = appends.behind }

-- the token whose text is digits in pairs
pub token_pairs : {tokens left : List Token} {text end old new : List ℕ} → Takes (HasText text) tokens left → end ≡ []
    → AppendsPairs text end old new → BeginsWithPairs tokens old new
token_pairs {left = left} takes none so = record {
  token = takes.token;
  left = left;
  is = takes.is;
  octets = so.octets;
  spells = subst (λ (l : List ℕ). SpellsPairs l so.octets) (sym takes.fits) (pairs_all so none);
  behind = so.behind;
}

-- words that were taken, before others in base 16
pub record TakesOn (tokens left : List Token) (old now : List ℕ) : Type 0 where
  pub on : (end : List Token) (new : List ℕ) → AppendsHex left end now new → AppendsHex tokens end old new
  pub none : SpellsNoHex left → SpellsNoHex tokens

pub takes_none : (tokens : List Token) (old : List ℕ) → TakesOn tokens tokens old old
takes_none tokens old = record { on = λ end new is. is; none = λ none. none }

pub takes_word : {tokens before left : List Token} {old now new : List ℕ} → TakesOn tokens before old now → (begins : BeginsWithPairs before now new)
    → (word : List ℕ) → Takes (IsWord word) before left → TakesOn tokens left old new
takes_word {before = before} {left} {now = now} so begins word takes =
    let both : begins.token ∷ begins.left ≡ takes.token ∷ left = sym begins.is ∙ takes.is in
    let first : begins.token ≡ takes.token = cc in
    let same : begins.token.text ≡ word = ap (λ (t : Token). t.text) (first ∙ takes.fits.0) in
    let spells : SpellsPairs word begins.octets = subst (λ (l : List ℕ). SpellsPairs l begins.octets) same begins.spells in record {
      on = λ end last is.
          let text = word ++ is.text in
          let entry : IsEntry IsWord before text =
          subst (λ (t : List Token). IsEntry IsWord t text) (sym takes.is) (word, is.text, takes.fits, is.entry, refl) in
          let decodes = subst (λ (l : List ℕ). Decodes16 l is.octets) (words_chars left is.text is.entry) is.decodes in
          so.on end last (record {
            text = text;
            octets = begins.octets ++ is.octets;
            entry = entry;
            decodes =
                subst (λ (l : List ℕ). Decodes16 l (begins.octets ++ is.octets)) (sym (words_chars before text entry))
                (decodes_behind word begins.octets is.text is.octets spells decodes);
            none = is.none;
            behind = is.behind ∙ ap (λ (l : List ℕ). l ++ is.octets) begins.behind ∙ append_assoc now begins.octets is.octets;
          });
      none = λ none. so.none (λ text octets entry decodes.
          let at = subst (λ (t : List Token). IsEntry IsWord t text) takes.is entry in
          let piece : at.0 ≡ word = ap (λ (t : Token). t.text) (sym at.2.0 ∙ takes.fits.0) in
          let whole_text : chars text ≡ word ++ at.1 = words_chars before text entry ∙ at.4 ∙ ap (λ (l : List ℕ). l ++ at.1) piece in
          none_behind word begins.octets at.1 spells
          (λ others is. none at.1 others at.3 (subst (λ (l : List ℕ). Decodes16 l others) (sym (words_chars left at.1 at.3)) is))
          octets (subst (λ (l : List ℕ). Decodes16 l octets) whole_text decodes));
    }

-- none is left
pub takes_all : {tokens left : List Token} {old now : List ℕ} → TakesOn tokens left old now → (end : List Token) → left ≡ [] → end ≡ []
    → AppendsHex tokens end old now
takes_all {left = left} {now = now} so end none ends =
    so.on end now (record {
      text = [];
      octets = [];
      entry = subst (λ (t : List Token). IsEntry IsWord t []) (sym none) refl;
      decodes = subst (λ (l : List ℕ). Decodes16 l []) (sym (words_chars [] [] refl)) (pairs_decode [] [] refl);
      none = ends;
      behind = sym (append-nil now);
    })

-- a token that is no word
pub no_word : {tokens : List Token} → (tokens ≡ [] → ⊥) → ((word : List ℕ) (left : List Token) → Takes (IsWord word) tokens left → ⊥)
    → SpellsNoHex tokens
no_word {tokens = []} some none text octets entry decodes = some refl
no_word {tokens = token ∷ tokens} some none text octets entry decodes =
    none entry.0 tokens (record { token = token; is = refl; fits = entry.2 })

-- the same as the last field of a row
pub hex_row : {names : Names} {tokens left : List Token} {old new : List ℕ} → AppendsHex tokens left old new
    → AppendsRow names (Rest16 ∷ []) tokens left old new
hex_row {left = left} {old} appends = record {
  row = rest16 appends.octets ∷ [];
  are = refl;
  scans = (left, (appends.text, appends.entry, appends.decodes, appends.none), refl);
  behind = appends.behind ∙ ap (λ (l : List ℕ). old ++ l) (sym (append-nil appends.octets));
}

-- the same behind the number of octets, as unknown data
pub appended_count : {tokens left : List Token} {old new : List ℕ} (appends : AppendsHex tokens left old new)
    → length new - length old ≡ length appends.octets
appended_count {old = old} appends =
    let lengths = ap (length {A = ℕ}) appends.behind ∙ length-append old appends.octets in omega (arith, lengths)

pub unknown_appended : {tokens words left : List Token} {number : ℕ} {old new : List ℕ} → ScansWord (number_spelled (2 ^ 16)) tokens number words
    → (appends : AppendsHex words left old new) → length new - length old ≡ number → IsUnknownData tokens appends.octets
unknown_appended {tokens} {words} scans appends count =
    let same = sym count ∙ appended_count appends in record {
      words = words;
      number = subst (λ (n : ℕ). ScansWord (number_spelled (2 ^ 16)) tokens n words) same scans;
      text = appends.text;
      joined = appends.entry;
      decodes = appends.decodes;
    }

pub other_count : {tokens words left : List Token} {number : ℕ} {old new : List ℕ} → ScansWord (number_spelled (2 ^ 16)) tokens number words
    → AppendsHex words left old new → length new - length old ≢ number → (octets : List ℕ) → IsUnknownData tokens octets → ⊥
other_count {tokens} {words} {left} {number} scans appends differs octets is =
    let one = one_word (number_spelled (2 ^ 16)) tokens is.words words (length octets) number is.number scans in
    let joined = subst (λ (l : List Token). IsEntry IsWord l is.text) one.lefts is.joined in
    let text = words_one words is.text appends.text joined appends.entry in
    let decodes = subst (λ (l : List ℕ). Decodes Sixteen (chars l) octets) text is.decodes in
    let same : appends.octets ≡ octets = decodes_one Sixteen (chars appends.text) octets appends.octets decodes appends.decodes in
    differs (appended_count appends ∙ ap (length {A = ℕ}) same ∙ one.values)

pub no_unknown_hex : {tokens words : List Token} {number : ℕ} → ScansWord (number_spelled (2 ^ 16)) tokens number words
    → SpellsNoHex words → (octets : List ℕ) → IsUnknownData tokens octets → ⊥
no_unknown_hex {tokens} {words} {number} scans none octets is =
    let one = one_word (number_spelled (2 ^ 16)) tokens is.words words (length octets) number is.number scans in
    none is.text octets (subst (λ (l : List Token). IsEntry IsWord l is.text) one.lefts is.joined) is.decodes
