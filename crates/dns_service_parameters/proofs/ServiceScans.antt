-- Tokens that are read as the word of a key and the text of its value.
use Rattle.std.proofs.Common.{◌≡◌, ◌≢◌, ◌<◌, ◌⊎◌, ℕ, Bool, true, false, List, [], ◌∷◌, ◌++◌, length, drop, refl, sym, ◌∙◌, ap, subst, append-nil, arith, inl, inr}
use Rattle.std.proofs.lemmas.Bool.{cases_Bool}
use Rattle.std.specs.Prelude.{◌↔◌, Option, None, Some, option_map, IfSome, IfNone}
use Rattle.dns_scan.specs.StringText.{Spells}
use Rattle.dns_scan.specs.Token.{Token, Takes, HasText, SpellsOctets, unquoted}
use Rattle.dns_field_texts.specs.Cut.{IsWithout}
use Rattle.dns_field_texts.proofs.LocationNumerals.{front_one, without_it}
use Rattle.dns_service_parameters.specs.declared.keys.KeyWord.{KeyWord}
use Rattle.dns_service_parameters.specs.declared.scan.Written.{Written}
use Rattle.dns_service_parameters.specs.Service.{IsParameter, Parameter, Value, form_at, value_octets}
use Rattle.dns_service_parameters.specs.ServiceRead.{IsKeyWord, NoParameter, ReadsNoValue, ReadsValue, TakesKey, TakesParameter, WritesValue}
use Rattle.dns_service_parameters.specs.ServiceText.{IsBare, IsQuoted, ScansParameter, SpellsKey, SpellsParameter, SpellsValue, TakesQuoted, TakesWord}
use Rattle.dns_service_parameters.proofs.ServiceListed.{small_key, spells_word}
use Rattle.dns_service_parameters.proofs.ServiceNames.{name_clear, name_number, name_one, number_clear, word_one}
use Rattle.dns_service_parameters.proofs.ServiceOne.{IsShaped, takes_one, text_of, word_clear}

-- a token that is split at the first `=`
abbrev pub assigned_text : Option (List ℕ) → List ℕ
assigned_text None = []
assigned_text (Some written) = 61 ∷ written

pub record IsSplit (tokens behind : List Token) (word : List ℕ) (written : Option (List ℕ)) : Type 0 where
  pub takes : Takes (IsBare (word ++ assigned_text written)) tokens behind
  pub clear : IsWithout 61 word

-- no quoted token is next if the test says so
pub unmarked : {tokens : List Token} (tested : Bool) → tested ≡ false → (tested ≡ true) ↔ ((left : List Token) × Takes (λ token. token.quoted ≡ true) tokens left)
    → (behind : List Token) → Takes (λ token. token.quoted ≡ true) tokens behind → ⊥
unmarked tested is tests behind takes = let bad : false ≡ true = sym is ∙ tests.1 (behind, takes) in cc

-- a token with a text that is not quoted
pub bare_taken : {tokens left : List Token} {text : List ℕ} → ((behind : List Token) → Takes (λ token. token.quoted ≡ true) tokens behind → ⊥)
    → Takes (HasText text) tokens left → Takes (IsBare text) tokens left
bare_taken {tokens} {left} {text} none takes = record { token = takes.token; is = takes.is; fits = by takes.token.quoted refl }
  where
    by : (quoted : Bool) → takes.token.quoted ≡ quoted → takes.token ≡ unquoted text
    by true is = absurd (none left (record { token = takes.token; is = takes.is; fits = is }))
    by false is = let fits = takes.fits in λ i. record { quoted = is i; text = fits i }

pub split_is : {B : Type 0} {tokens left : List Token} (now : B → List ℕ) (text word : List ℕ) (written : Option B) → Takes (IsBare text) tokens left
    → IsWithout 61 word → IfSome written (λ behind. text ≡ word ++ 61 ∷ now behind) → IfNone written (text ≡ word)
    → IsSplit tokens left word (option_map now written)
split_is {tokens = tokens} {left = left} now text word None takes clear some none =
    record { takes = subst (λ (l : List ℕ). Takes (IsBare l) tokens left) (none ∙ sym (append-nil word)) takes; clear = clear }
split_is {tokens = tokens} {left = left} now text word (Some written) takes clear some none =
    record { takes = subst (λ (l : List ℕ). Takes (IsBare l) tokens left) some takes; clear = clear }

-- what follows the word
abbrev pub Follows : Option (List ℕ) → List ℕ → List Token → List Token → Type 0
Follows None text behind left = (text ≡ []) × (left ≡ behind)
Follows (Some written) text behind left =
    ((0 < length written) × Spells written text × (left ≡ behind)) ⊎ ((written ≡ []) × TakesQuoted text behind left)

pub follows : {tokens behind left : List Token} {word text : List ℕ} (another : List ℕ) (written : Option (List ℕ)) → IsSplit tokens behind another written
    → IsWithout 61 word → TakesWord word text tokens left → (word ≡ another) × Follows written text behind left
follows {word = word} another None split clear (inl is) =
    let same = text_of is.0 split.takes in (same.0 ∙ append-nil another, (is.1, same.1))
follows {word = word} another None split clear (inr (inl is)) =
    absurd (without_it 61 word is.0 (subst (IsWithout 61) (sym (append-nil another) ∙ sym (text_of is.2 split.takes).0) split.clear))
follows {word = word} another None split clear (inr (inr is)) =
    absurd (without_it 61 word [] (subst (IsWithout 61) (sym (append-nil another) ∙ sym (text_of is.1 split.takes).0) split.clear))
follows {word = word} another (Some written) split clear (inl is) =
    absurd (without_it 61 another written (subst (IsWithout 61) (text_of is.0 split.takes).0 clear))
follows {word = word} {text = text} another (Some written) split clear (inr (inl is)) =
    let same = text_of is.2 split.takes in
    let cut = front_one 61 word another is.0 written clear split.clear same.0 in
    (cut.0, inl (subst (λ (l : List ℕ). 0 < length l) cut.1 is.1, subst (λ (l : List ℕ). Spells l text) cut.1 is.3, same.1))
follows {left = left} {word = word} {text = text} another (Some written) split clear (inr (inr is)) =
    let same = text_of is.1 split.takes in
    let cut = front_one 61 word another [] written clear split.clear same.0 in
    (cut.0, inr (sym cut.1, subst (λ (l : List Token). TakesQuoted text l left) same.1 is.2))

-- a parameter at the front of such tokens
pub shaped : (parameter : Parameter) → IsParameter parameter → IsShaped parameter
shaped parameter is = record { small = is.small; formed = is.formed; fits = is.fits }

record Begins (tokens behind : List Token) (word : List ℕ) (written : Option (List ℕ)) (parameter : Parameter) (left : List Token) : Type 0 where
  text : List ℕ
  spells : SpellsParameter word text parameter
  after : Follows written text behind left

begins : {tokens behind left : List Token} {word : List ℕ} {written : Option (List ℕ)} (parameter : Parameter) → IsSplit tokens behind word written
    → IsShaped parameter → ScansParameter parameter tokens left → Begins tokens behind word written parameter left
begins {word = word} {written = written} parameter split is scans =
    let same = follows word written split (word_clear scans.word scans.text parameter is scans.spells) scans.takes in
    record { text = scans.text; spells = subst (λ (w : List ℕ). SpellsParameter w scans.text parameter) same.0 scans.spells; after = same.1 }

key_of : (word text : List ℕ) (parameter : Parameter) → IsParameter parameter → SpellsParameter word text parameter → SpellsKey word parameter.key
key_of word text parameter is (inl spells) = inl spells.0
key_of word text parameter is (inr spells) = inr (spells.0, is.small)

pub unknown_word : {tokens behind : List Token} {word : List ℕ} {written : Option (List ℕ)} → IsSplit tokens behind word written
    → ((key : ℕ) → SpellsKey word key → ⊥) → NoParameter tokens
unknown_word {word = word} split none parameter left is scans =
    let found = begins parameter split (shaped parameter is) scans in none parameter.key (key_of word found.text parameter is found.spells)

pub no_text : {tokens behind : List Token} {word written : List ℕ} → IsSplit tokens behind word (Some written) → written ≡ []
    → ((text : List ℕ) (left : List Token) → TakesQuoted text behind left → ⊥) → NoParameter tokens
no_text {behind = behind} {written = written} split empty none parameter left is scans =
    let found = begins parameter split (shaped parameter is) scans in by found.text found.after
  where
    by : (text : List ℕ) → Follows (Some written) text behind left → ⊥
    by text (inl more) = let size = ap (length {A = ℕ}) empty in let some = more.0 in omega (arith, size, some)
    by text (inr more) = none text left more.1

pub bad_text : {tokens behind : List Token} {word written : List ℕ} → IsSplit tokens behind word (Some written) → written ≢ []
    → ((text : List ℕ) → Spells written text → ⊥) → NoParameter tokens
bad_text {behind = behind} {written = written} split some none parameter left is scans =
    let found = begins parameter split (shaped parameter is) scans in by found.text found.after
  where
    by : (text : List ℕ) → Follows (Some written) text behind left → ⊥
    by text (inl more) = none text more.1
    by text (inr more) = some more.0

-- no token
pub none_taken : {Fits : Token → Type 0} {tokens left : List Token} → tokens ≡ [] → Takes Fits tokens left → ⊥
none_taken none takes = let is : [] ≡ takes.token ∷ _ = sym none ∙ takes.is in cc

-- the token that is next
pub next_is : {Fits : Token → Type 0} {tokens left next : List Token} → Takes Fits tokens left → next ≡ drop 1 tokens → next ≡ left
next_is takes is = is ∙ ap (drop 1) takes.is

-- the quoted token that is next
pub quoted_taken : {tokens behind left : List Token} {written text : List ℕ} → Takes (λ token. token.quoted ≡ true) tokens behind
    → Takes (HasText written) tokens left → Spells written text → TakesQuoted text tokens left
quoted_taken {text = text} quoted takes spells =
    let whole = sym takes.is ∙ quoted.is in
    let token : takes.token ≡ quoted.token = cc in
    inl (record {
      token = takes.token;
      is = takes.is;
      fits = (ap (λ (t : Token). t.quoted) token ∙ quoted.fits, subst (λ (l : List ℕ). Spells l text) (sym takes.fits) spells);
    })

pub quoted_spells : {tokens behind left begin : List Token} {written text : List ℕ} → Takes (λ token. token.quoted ≡ true) tokens behind
    → Takes (HasText written) tokens left → TakesQuoted text tokens begin → Spells written text
quoted_spells {text = text} quoted takes (inl spells) =
    let whole = sym takes.is ∙ spells.is in
    let token : takes.token ≡ spells.token = cc in
    subst (λ (l : List ℕ). Spells l text) (sym (ap (λ (t : Token). t.text) token) ∙ takes.fits) spells.fits.1
quoted_spells {behind = behind} quoted takes (inr none) = absurd (none.0 behind quoted)

-- a quoted token begins no parameter
pub quoted_key : {tokens behind : List Token} → Takes (λ token. token.quoted ≡ true) tokens behind → NoParameter tokens
quoted_key {tokens} quoted parameter left is scans = by scans.takes
  where
    bad : {text : List ℕ} {others : List Token} → Takes (IsBare text) tokens others → ⊥
    bad bare =
        let whole = sym quoted.is ∙ bare.is in
        let token : quoted.token ≡ bare.token = cc in
        let is : true ≡ false = sym quoted.fits ∙ ap (λ (t : Token). t.quoted) (token ∙ bare.fits) in cc

    by : TakesWord scans.word scans.text tokens left → ⊥
    by (inl takes) = bad takes.0
    by (inr (inl takes)) = bad takes.2
    by (inr (inr takes)) = bad takes.1

-- the word of a key, and the text of its value
pub key_alone : {tokens behind left : List Token} {word text : List ℕ} {key : KeyWord} → IsSplit tokens behind word None → IsKeyWord word key → text ≡ []
    → left ≡ behind → TakesKey tokens left key text
key_alone {tokens = tokens} {behind = behind} {word = word} split is none same =
    let takes = subst (λ (l : List ℕ). Takes (IsBare l) tokens behind) (append-nil word) split.takes in
    record { word = word; is = is; takes = inl (subst (λ (l : List Token). Takes (IsBare word) tokens l) (sym same) takes, none) }

pub key_assigned : {tokens behind left : List Token} {word text written : List ℕ} {key : KeyWord} → IsSplit tokens behind word (Some written) → IsKeyWord word key
    → 0 < length written → Spells written text → left ≡ behind → TakesKey tokens left key text
key_assigned {tokens = tokens} {word = word} {written = written} split is some spells same = record {
  word = word;
  is = is;
  takes = inr (inl (written, some, subst (λ (l : List Token). Takes (IsBare (word ++ 61 ∷ written)) tokens l) (sym same) split.takes, spells));
}

pub key_before : {tokens behind left : List Token} {word text written : List ℕ} {key : KeyWord} → IsSplit tokens behind word (Some written) → IsKeyWord word key
    → written ≡ [] → TakesQuoted text behind left → TakesKey tokens left key text
key_before {tokens = tokens} {behind = behind} {word = word} split is none spells = record {
  word = word;
  is = is;
  takes = inr (inr (behind, subst (λ (l : List ℕ). Takes (IsBare (word ++ 61 ∷ l)) tokens behind) none split.takes, spells));
}

-- the value of a key
writes_named : (key : KeyWord) (text : List ℕ) (value : Value) → key.named ≡ true → SpellsValue text value → WritesValue key.named text value
writes_named key text value named spells = subst (λ (b : Bool). WritesValue b text value) (sym named) spells

writes_numbered : (key : KeyWord) (text : List ℕ) (value : Value) → key.named ≡ false → text ≡ value_octets value → WritesValue key.named text value
writes_numbered key text value numbered is = subst (λ (b : Bool). WritesValue b text value) (sym numbered) is

key_clear : (word : List ℕ) (key : KeyWord) → IsKeyWord word key → IsWithout 61 word
key_clear word key is = elim (cases_Bool key.named) [
  | inl named ↦ name_clear key.key word (is.named named)
  | inr numbered ↦ subst (IsWithout 61) (sym (is.numbered numbered).0) (number_clear key.key (is.numbered numbered).1)
]

no_value_here : (word text : List ℕ) (key : KeyWord) (parameter : Parameter) → IsParameter parameter → IsKeyWord word key → ReadsNoValue key text
    → SpellsParameter word text parameter → (key.named ≡ true) ⊎ (key.named ≡ false) → ⊥
no_value_here word text key parameter is key_is none (inl spells) (inl named) =
    let same = name_one parameter.key key.key word spells.0 (key_is.named named) in
    none parameter.value (is.formed ∙ ap form_at same) is.fits (writes_named key text parameter.value named spells.1)
no_value_here word text key parameter is key_is none (inl spells) (inr numbered) =
    name_number parameter.key key.key word spells.0 (key_is.numbered numbered).0
no_value_here word text key parameter is key_is none (inr spells) (inl named) =
    name_number key.key parameter.key word (key_is.named named) spells.0
no_value_here word text key parameter is key_is none (inr spells) (inr numbered) =
    let number = key_is.numbered numbered in
    let same = word_one parameter.key key.key is.small number.1 (sym spells.0 ∙ number.0) in
    none parameter.value (is.formed ∙ ap form_at same) is.fits (writes_numbered key text parameter.value numbered spells.1)

pub no_value : {tokens behind : List Token} {key : KeyWord} {text : List ℕ} → TakesKey tokens behind key text → ReadsNoValue key text → NoParameter tokens
no_value {tokens} {behind} {key} {text} takes none parameter left is scans =
    let same = takes_one scans.word takes.word scans.text text tokens left behind (word_clear scans.word scans.text parameter (shaped parameter is) scans.spells)
    (key_clear takes.word key takes.is) scans.takes takes.takes in
    let spells = subst (λ (w : List ℕ). SpellsParameter w text parameter) same.words
    (subst (λ (t : List ℕ). SpellsParameter scans.word t parameter) same.texts scans.spells) in
    no_value_here takes.word text key parameter is takes.is none spells (cases_Bool key.named)

spells_parameter : (word text : List ℕ) (key : KeyWord) (value : Value) → IsKeyWord word key → WritesValue key.named text value → (key.named ≡ true) ⊎ (key.named ≡ false)
    → SpellsParameter word text (record { key = key.key; value = value })
spells_parameter word text key value is writes (inl named) = inl (is.named named, subst (λ (b : Bool). WritesValue b text value) named writes)
spells_parameter word text key value is writes (inr numbered) = inr ((is.numbered numbered).0, subst (λ (b : Bool). WritesValue b text value) numbered writes)

pub parameter_read : {tokens behind : List Token} {key : KeyWord} {text : List ℕ} (written : Written) → TakesKey tokens behind key text
    → ReadsValue key text written.value.items → written.key ≡ key.key → TakesParameter tokens behind written
parameter_read {key = key} {text = text} written takes reads same = record {
  parameter = record { key = key.key; value = reads.value };
  scans = record {
    word = takes.word;
    text = text;
    takes = takes.takes;
    spells = spells_parameter takes.word text key reads.value takes.is reads.writes (cases_Bool key.named);
  };
  is = record {
    key = sym same;
    value = reads.is;
    small = small_key takes.word key.key (spells_word takes.word key takes.is);
    formed = reads.formed;
    fits = reads.fits;
  };
}
