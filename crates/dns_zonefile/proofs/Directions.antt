-- Directives, read token by token.
use Rattle.std.proofs.Common.{◌≡◌, ◌≢◌, ◌<◌, ◌≤◌, ◌^◌, ℕ, Bool, true, false, List, [], ◌∷◌, drop, length, map, Option, Some, None, Result, Ok, Err, IfOk, IfSome, slice_index, refl, sym, ◌∙◌, ap, subst, arith}
use Rattle.std.specs.Prelude.{◌↔◌}
use Rattle.std.specs.Result.{result_ok}
use Rattle.std.specs.Bool.{IsTrue}
use Rattle.std.specs.Char.{to_ascii_lowercase}
use Rattle.std.specs.Str.{IsAscii, IsNotAscii, IsUtf8}
use Rattle.std.proofs.lemmas.Str.{IsUtf8-from_ascii}
use Rattle.dns_values.specs.Mnemonic.{number_spelled}
use Rattle.dns_scan.specs.Scans.{ScansWord}
use Rattle.dns_scan.specs.Token.{Token, SameNames, Takes, SpellsOctets, unquoted}
use Rattle.dns_scan.proofs.TextsBack.{spells_one}
use Rattle.dns_zonefile.specs.Directive.{HasArguments, BeginsDirective, IsWordOf, word_of}
use Rattle.dns_zonefile.specs.Directive.HasArguments.{origin, ttl, include, include_at}
use Rattle.dns_zonefile.specs.Statement.{Directs, IsDirectiveWord, Names, Statement}
use Rattle.dns_zonefile.specs.Statement.Statement.{NameFile, SetOrigin, SetTtl}
use Rattle.dns_zonefile.specs.Statement.Directs.{origin as directs_origin, ttl as directs_ttl, include as directs_include, include_at as directs_include_at}
use Rattle.dns_zonefile.specs.declared.statement.directive.DirectiveWord.{DirectiveWord}
use Rattle.dns_zonefile.specs.declared.statement.directive.DirectiveWord.TheVariants.{Origin, Ttl, Include}

-- the token is unquoted, with this text
abbrev pub IsUnquoted : Token → Type 0
IsUnquoted token = (text : List ℕ) × (token ≡ unquoted text)

-- a word and what follows it are a directive
pub to_directs : {names : Names} {word : DirectiveWord} {token : Token} {tokens left : List Token} {statement : Statement}
    → IsUnquoted token → IsWordOf word token → HasArguments names word tokens statement left → left ≡ [] → Directs names (token ∷ tokens) statement
to_directs {names} {word} {token} bare is (origin {text = text} {name = name} {left = left} spells) none =
    subst (λ (l : List Token). Directs names (token ∷ unquoted text ∷ l) (SetOrigin name)) (sym none) (directs_origin (bare.0, bare.1, ap (λ (t : Token). map to_ascii_lowercase t.text) (sym bare.1) ∙ is) spells)
to_directs {names} {word} {token} bare is (ttl {token = second} {seconds = seconds} takes number) none =
    subst (λ (l : List Token). Directs names (token ∷ second ∷ l) (SetTtl seconds)) (sym none) (directs_ttl (bare.0, bare.1, ap (λ (t : Token). map to_ascii_lowercase t.text) (sym bare.1) ∙ is) takes number)
to_directs {token = token} bare is (include unquoted' spells ascii) none =
    directs_include (bare.0, bare.1, ap (λ (t : Token). map to_ascii_lowercase t.text) (sym bare.1) ∙ is) unquoted' spells ascii
to_directs {names} {word} {token} bare is (include_at {token = second} {path = path} {origin_text = text} {name = name} unquoted' spells ascii under) none =
    subst (λ (l : List Token). Directs names (token ∷ second ∷ unquoted text ∷ l) (NameFile path (Some name))) (sym none)
    (directs_include_at (bare.0, bare.1, ap (λ (t : Token). map to_ascii_lowercase t.text) (sym bare.1) ∙ is) unquoted' spells ascii under)

-- A directive is a word and what follows it.
pub record Behind (names : Names) (tokens : List Token) (statement : Statement) : Type 0 where
  pub word : DirectiveWord
  pub takes : Takes (IsWordOf word) tokens (drop 1 tokens)
  pub argues : HasArguments names word (drop 1 tokens) statement []

lowered : {word : List ℕ} {token : Token} → IsDirectiveWord word token → map to_ascii_lowercase token.text ≡ word
lowered is = ap (λ (t : Token). map to_ascii_lowercase t.text) is.1 ∙ is.2

pub of_directs : {names : Names} {tokens : List Token} {statement : Statement} → Directs names tokens statement → Behind names tokens statement
of_directs (directs_origin {word = word} is spells) =
    record { word = Origin; takes = record { token = word; is = refl; fits = lowered is }; argues = origin spells }
of_directs (directs_ttl {word = word} is takes number) =
    record { word = Ttl; takes = record { token = word; is = refl; fits = lowered is }; argues = ttl takes number }
of_directs (directs_include {word = word} is bare spells ascii) =
    record { word = Include; takes = record { token = word; is = refl; fits = lowered is }; argues = include bare spells ascii }
of_directs (directs_include_at {word = word} is bare spells ascii under) =
    record { word = Include; takes = record { token = word; is = refl; fits = lowered is }; argues = include_at bare spells ascii under }

words_differ : (word other : DirectiveWord) → word_of word ≡ word_of other → word ≡ other
words_differ Origin Origin same = refl
words_differ Origin Ttl same = let bad : ◌≡◌ {A = ℕ} 7 4 = ap (length {A = ℕ}) same in cc
words_differ Origin Include same = let bad : ◌≡◌ {A = ℕ} 7 8 = ap (length {A = ℕ}) same in cc
words_differ Ttl Origin same = let bad : ◌≡◌ {A = ℕ} 4 7 = ap (length {A = ℕ}) same in cc
words_differ Ttl Ttl same = refl
words_differ Ttl Include same = let bad : ◌≡◌ {A = ℕ} 4 8 = ap (length {A = ℕ}) same in cc
words_differ Include Origin same = let bad : ◌≡◌ {A = ℕ} 8 7 = ap (length {A = ℕ}) same in cc
words_differ Include Ttl same = let bad : ◌≡◌ {A = ℕ} 8 4 = ap (length {A = ℕ}) same in cc
words_differ Include Include same = refl

pub word_one : {word other : DirectiveWord} {tokens left rest : List Token} → Takes (IsWordOf word) tokens left
    → Takes (IsWordOf other) tokens rest → word ≡ other
word_one {word} {other} {left = left} {rest = rest} takes also =
    let both : takes.token ∷ left ≡ also.token ∷ rest = sym takes.is ∙ also.is in
    let first : takes.token ≡ also.token = cc in
    words_differ word other (sym takes.fits ∙ ap (λ (t : Token). map to_ascii_lowercase t.text) first ∙ also.fits)

-- no directive, if there is no such word, nothing is stated after it, or more comes after that
pub no_word : {names : Names} {tokens : List Token} {statement : Statement}
    → ((word : DirectiveWord) (left : List Token) → Takes (IsWordOf word) tokens left → ⊥) → Directs names tokens statement → ⊥
no_word {tokens = tokens} none directs = let is = of_directs directs in none is.word (drop 1 tokens) is.takes

pub no_argument : {names : Names} {word : DirectiveWord} {tokens left mid : List Token} {statement : Statement}
    → Takes (IsWordOf word) tokens left → mid ≡ drop 1 tokens
    → ((said : Statement) (more : List Token) → HasArguments names word mid said more → ⊥) → Directs names tokens statement → ⊥
no_argument {names} {word} {tokens} {statement = statement} takes at none directs =
    let is = of_directs directs in
    none statement [] (subst (λ (l : List Token). HasArguments names word l statement []) (sym at)
    (subst (λ (w : DirectiveWord). HasArguments names w (drop 1 tokens) statement []) (sym (word_one takes is.takes)) is.argues))

left_none : {names : Names} {word other : DirectiveWord} {tokens tokens' left left' : List Token} {statement statement' : Statement}
    → word ≡ other → tokens ≡ tokens' → HasArguments names word tokens statement left → HasArguments names other tokens' statement' left' → left' ≡ []
    → left ≡ []
left_none same at (origin {left = left} spells) (origin {left = left'} also) none = let both : left ≡ left' = cc in both ∙ none
left_none same at (origin spells) (ttl takes number) none = absurd cc
left_none same at (origin spells) (include bare path ascii) none = absurd cc
left_none same at (origin spells) (include_at bare path ascii under) none = absurd cc
left_none same at (ttl takes number) (origin also) none = absurd cc
left_none same at (ttl {left = left} takes number) (ttl {left = left'} also number') none = let both : left ≡ left' = cc in both ∙ none
left_none same at (ttl takes number) (include bare path ascii) none = absurd cc
left_none same at (ttl takes number) (include_at bare path ascii under) none = absurd cc
left_none same at (include bare path ascii) also none = refl
left_none same at (include_at bare path ascii under) (origin also) none = absurd cc
left_none same at (include_at bare path ascii under) (ttl takes number) none = absurd cc
left_none same at (include_at bare path ascii under) (include bare' path' ascii') none = absurd cc
left_none same at (include_at {left = left} bare path ascii under) (include_at {left = left'} bare' path' ascii' under') none =
    let both : left ≡ left' = cc in both ∙ none

pub nothing_left : {names : Names} {word : DirectiveWord} {tokens left mid more : List Token} {said statement : Statement}
    → Takes (IsWordOf word) tokens left → mid ≡ drop 1 tokens → HasArguments names word mid said more → more ≢ []
    → Directs names tokens statement → ⊥
nothing_left takes at argues some directs =
    let is = of_directs directs in
    some (left_none (word_one takes is.takes) at argues is.argues refl)

-- paths
pub ascii_or_not : (octets : List ℕ) → IsAscii octets → IsNotAscii octets → ⊥
ascii_or_not octets is not =
    let below : slice_index octets not.0 < 128 = is not.0 in
    let above : 128 ≤ slice_index octets not.0 = not.1 in
    omega (arith, below, above)

-- whether a directive begins
pub begins : {tokens left : List Token} {text rest : List ℕ} → tokens ≡ unquoted text ∷ left → text ≡ 36 ∷ rest → BeginsDirective tokens
begins {left = left} {rest = rest} is text = record { text = rest; others = left; is = is ∙ ap (λ (t : List ℕ). unquoted t ∷ left) text }

pub begins_not : {tokens left : List Token} {text : List ℕ} → tokens ≡ unquoted text ∷ left → ((rest : List ℕ) → text ≡ 36 ∷ rest → ⊥)
    → BeginsDirective tokens → ⊥
begins_not {left = left} {text = text} is none begins' =
    let both : unquoted text ∷ left ≡ unquoted (36 ∷ begins'.text) ∷ begins'.others = sym is ∙ begins'.is in
    let first : unquoted text ≡ unquoted (36 ∷ begins'.text) = cc in
    none begins'.text (ap (λ (t : Token). t.text) first)

pub begins_nothing : {tokens : List Token} → ((text : List ℕ) (left : List Token) → tokens ≡ unquoted text ∷ left → ⊥) → BeginsDirective tokens → ⊥
begins_nothing none begins' = none (36 ∷ begins'.text) begins'.others begins'.is

-- a token that is not quoted
pub bare : {tokens left : List Token} {text : List ℕ} → ((rest : List Token) → Takes (λ (t : Token). t.quoted ≡ true) tokens rest → ⊥)
    → Takes (λ (t : Token). t.text ≡ text) tokens left → tokens ≡ unquoted text ∷ left
bare {tokens} {left} {text} none takes = takes.is ∙ ap (λ (t : Token). t ∷ left) (by takes.token.quoted refl)
  where
    by : (quoted : Bool) → takes.token.quoted ≡ quoted → takes.token ≡ unquoted text
    by true is = absurd (none left (record { token = takes.token; is = takes.is; fits = is }))
    by false is = (λ i. record { quoted = is i; text = takes.fits i })

pub quoted_not_bare : {tokens left rest : List Token} {text : List ℕ} → Takes (λ (t : Token). t.quoted ≡ true) tokens rest
    → tokens ≡ unquoted text ∷ left → ⊥
quoted_not_bare {left = left} {rest = rest} {text = text} takes is =
    let both : takes.token ∷ rest ≡ unquoted text ∷ left = sym takes.is ∙ is in
    let first : takes.token ≡ unquoted text = cc in
    let bad : true ≡ false = sym takes.fits ∙ ap (λ (t : Token). t.quoted) first in cc

-- what follows `$include`
pub path_alone : {names : Names} {tokens mid behind left : List Token} {text path : List ℕ} → tokens ≡ unquoted text ∷ mid
    → Takes (SpellsOctets path) tokens behind → IsAscii path → behind ≡ [] → left ≡ behind → HasArguments names Include tokens (NameFile path None) left
path_alone {names} {tokens} {mid} {behind} {left} {text} {path} is takes ascii none at =
    let both : takes.token ∷ behind ≡ unquoted text ∷ mid = sym takes.is ∙ is in
    let first : takes.token ≡ unquoted text = cc in
    let whole : takes.token ∷ [] ≡ tokens = ap (λ (l : List Token). takes.token ∷ l) (sym none) ∙ sym takes.is in
    let ends : [] ≡ left = sym none ∙ sym at in
    let alone : HasArguments names Include (takes.token ∷ []) (NameFile path None) [] = include first takes.fits ascii in
    subst (λ (l : List Token). HasArguments names Include tokens (NameFile path None) l) ends
    (subst (λ (l : List Token). HasArguments names Include l (NameFile path None) []) whole alone)

pub path_and_origin : {names : Names} {tokens mid behind left : List Token} {text path origin_text : List ℕ} {name : List (List ℕ)}
    → tokens ≡ unquoted text ∷ mid → Takes (SpellsOctets path) tokens behind → IsAscii path → behind ≡ unquoted origin_text ∷ left
    → names origin_text name → HasArguments names Include tokens (NameFile path (Some name)) left
path_and_origin {names} {tokens} {mid} {behind} {left} {text} {path} {origin_text} {name} is takes ascii more spells =
    let both : takes.token ∷ behind ≡ unquoted text ∷ mid = sym takes.is ∙ is in
    let first : takes.token ≡ unquoted text = cc in
    subst (λ (l : List Token). HasArguments names Include l (NameFile path (Some name)) left)
    (sym (takes.is ∙ ap (λ (l : List Token). takes.token ∷ l) more)) (include_at first takes.fits ascii spells)

-- The path, and what follows it.
record Path (names : Names) (tokens left : List Token) : Type 0 where
  text : List ℕ
  octets : List ℕ
  behind : List Token
  is : tokens ≡ unquoted text ∷ behind
  takes : Takes (SpellsOctets octets) tokens behind
  ascii : IsAscii octets
  more : behind ≢ [] → (origin_text : List ℕ) × (name : List (List ℕ)) × (behind ≡ unquoted origin_text ∷ left) × names origin_text name

path_of : {names : Names} {word : DirectiveWord} {tokens left : List Token} {statement : Statement} → word ≡ Include
    → HasArguments names word tokens statement left → Path names tokens left
path_of same (origin spells) = absurd cc
path_of same (ttl takes number) = absurd cc
path_of same (include {token = token} {text = text} {path = path} is spells ascii) = record {
  text = text;
  octets = path;
  behind = [];
  is = ap (λ (t : Token). t ∷ []) is;
  takes = record { token = token; is = refl; fits = spells };
  ascii = ascii;
  more = λ some. absurd (some refl);
}
path_of same (include_at {token = token} {text = text} {path = path} {origin_text = origin_text} {name = name} {left = left} is spells ascii under) = record {
  text = text;
  octets = path;
  behind = unquoted origin_text ∷ left;
  is = ap (λ (t : Token). t ∷ unquoted origin_text ∷ left) is;
  takes = record { token = token; is = refl; fits = spells };
  ascii = ascii;
  more = λ some. (origin_text, name, refl, under);
}

module _ {names : Names} {tokens left : List Token} {statement : Statement} (argues : HasArguments names Include tokens statement left) where
  path : Path names tokens left
  path = path_of refl argues

  pub no_bare : ((text : List ℕ) (rest : List Token) → tokens ≡ unquoted text ∷ rest → ⊥) → ⊥
  no_bare none = none path.text path.behind path.is

  pub no_octets : ((octets : List ℕ) (rest : List Token) → IsUtf8 octets → Takes (SpellsOctets octets) tokens rest → ⊥) → ⊥
  no_octets none = none path.octets path.behind (IsUtf8-from_ascii path.octets path.ascii) path.takes

  same_path : {octets : List ℕ} {behind : List Token} → Takes (SpellsOctets octets) tokens behind → (octets ≡ path.octets) × (behind ≡ path.behind)
  same_path {octets} {behind} takes =
      let both : takes.token ∷ behind ≡ path.takes.token ∷ path.behind = sym takes.is ∙ path.takes.is in
      let first : takes.token ≡ path.takes.token = cc in
      (spells_one takes.token.text path.octets octets (subst (SpellsOctets path.octets) (sym first) path.takes.fits) takes.fits, cc)

  pub not_ascii : {octets : List ℕ} {behind : List Token} → Takes (SpellsOctets octets) tokens behind → IsNotAscii octets → ⊥
  not_ascii takes not = ascii_or_not _ (subst IsAscii (sym (same_path takes).0) path.ascii) not

  pub no_origin : {octets : List ℕ} {behind : List Token} → Takes (SpellsOctets octets) tokens behind → behind ≢ []
      → ((text : List ℕ) (rest : List Token) (name : List (List ℕ)) → behind ≡ unquoted text ∷ rest → names text name → ⊥) → ⊥
  no_origin {octets} {behind} takes some none =
      let at = (same_path takes).1 in
      let more = path.more (λ same. some (at ∙ same)) in
      none more.0 left more.1 (at ∙ more.2) more.3

-- names with the same spelling at two places
argues_same : {names later : Names} {word : DirectiveWord} {tokens left : List Token} {statement : Statement} → SameNames names later
    → HasArguments names word tokens statement left → HasArguments later word tokens statement left
argues_same same (origin {text = text} {name = name} spells) = origin ((same text name).0 spells)
argues_same same (ttl takes number) = ttl takes number
argues_same same (include bare' path' ascii) = include bare' path' ascii
argues_same same (include_at {origin_text = text} {name = name} bare' path' ascii under) = include_at bare' path' ascii ((same text name).0 under)

turned : {names later : Names} → SameNames names later → SameNames later names
turned same text name = ((same text name).1, (same text name).0)

first_bare : {tokens left : List Token} (word : DirectiveWord) → BeginsDirective tokens → (takes : Takes (IsWordOf word) tokens left) → IsUnquoted takes.token
first_bare {left = left} word begins' takes =
    let both : takes.token ∷ left ≡ unquoted (36 ∷ begins'.text) ∷ begins'.others = sym takes.is ∙ begins'.is in
    let first : takes.token ≡ unquoted (36 ∷ begins'.text) = cc in
    (36 ∷ begins'.text, first)

pub directs_by : {names later : Names} {word : DirectiveWord} {tokens mid left : List Token} {statement : Statement} → SameNames names later
    → BeginsDirective tokens → Takes (IsWordOf word) tokens (drop 1 tokens) → mid ≡ drop 1 tokens
    → HasArguments later word mid statement left → left ≡ [] → Directs names tokens statement
directs_by {names} {later} {word} {tokens} {mid} {left} {statement} same begins' takes at argues none =
    let there : HasArguments names word (drop 1 tokens) statement left =
    subst (λ (l : List Token). HasArguments names word l statement left) at (argues_same (turned same) argues) in
    subst (λ (l : List Token). Directs names l statement) (sym takes.is) (to_directs (first_bare word begins' takes) takes.fits there none)

pub not_argued : {names later : Names} {word : DirectiveWord} {tokens mid : List Token} {statement : Statement} → SameNames names later
    → Takes (IsWordOf word) tokens (drop 1 tokens) → mid ≡ drop 1 tokens
    → ((said : Statement) (more : List Token) → HasArguments later word mid said more → ⊥) → Directs names tokens statement → ⊥
not_argued same takes at none directs = no_argument takes at (λ said more argues. none said more (argues_same same argues)) directs

pub more_argued : {names later : Names} {word : DirectiveWord} {tokens mid more : List Token} {said statement : Statement} → SameNames names later
    → Takes (IsWordOf word) tokens (drop 1 tokens) → mid ≡ drop 1 tokens → HasArguments later word mid said more → more ≢ []
    → Directs names tokens statement → ⊥
more_argued same takes at argues some directs = nothing_left takes at (argues_same (turned same) argues) some directs

-- what follows the words `$origin` and `$ttl`
pub origin_argued : {names : Names} {tokens left : List Token} {name : List (List ℕ)}
    → (text : List ℕ) × (tokens ≡ unquoted text ∷ left) × names text name → HasArguments names Origin tokens (SetOrigin name) left
origin_argued {names} {left = left} {name = name} scanned =
    subst (λ (l : List Token). HasArguments names Origin l (SetOrigin name) left) (sym scanned.1) (origin scanned.2)

pub ttl_argued : {names : Names} {tokens left : List Token} {seconds : ℕ} → ScansWord (number_spelled (2 ^ 32)) tokens seconds left
    → HasArguments names Ttl tokens (SetTtl seconds) left
ttl_argued {names} {left = left} {seconds = seconds} scans =
    subst (λ (l : List Token). HasArguments names Ttl l (SetTtl seconds) left) (sym scans.takes.is) (ttl scans.takes.fits scans.reads_as)

ttl_scanned : {names : Names} {word : DirectiveWord} {tokens left : List Token} {statement : Statement} → word ≡ Ttl
    → HasArguments names word tokens statement left → (seconds : ℕ) × ScansWord (number_spelled (2 ^ 32)) tokens seconds left
ttl_scanned same (origin spells) = absurd cc
ttl_scanned same (ttl {token = token} {text = text} {seconds = seconds} takes number) =
    (seconds, record { text = text; takes = record { token = token; is = refl; fits = takes }; reads_as = number })
ttl_scanned same (include bare' path' ascii) = absurd cc
ttl_scanned same (include_at bare' path' ascii under) = absurd cc

pub no_seconds : {names : Names} {word : DirectiveWord} {tokens left : List Token} {statement : Statement} → word ≡ Ttl
    → ((seconds : ℕ) (rest : List Token) → ScansWord (number_spelled (2 ^ 32)) tokens seconds rest → ⊥)
    → HasArguments names word tokens statement left → ⊥
no_seconds {left = left} same none argues = let scanned = ttl_scanned same argues in none scanned.0 left scanned.1

-- whether tokens are left
pub ended : {more : Bool} (tokens : List Token) → (IsTrue more ↔ (tokens ≢ [])) → more ≡ false → tokens ≡ []
ended [] some none = refl
ended (token ∷ tokens) some none = let bad : true ≡ false = sym (some.1 (λ same. absurd cc)) ∙ none in absurd cc

-- what a result holds
pub held : {T E : Type 0} (P Q : T → Type 0) (result : Result T E) (found : Option T) → found ≡ result_ok result
    → ((value : T) → P value → Q value) → IfOk result P → IfSome found Q
held P Q (Ok value) found is on has = subst (λ o. IfSome o Q) (sym is) (on value has)
held P Q (Err error) found is on has = subst (λ o. IfSome o Q) (sym is) tt

pub same_on : {names later last : Names} → SameNames names later → SameNames later last → SameNames names last
same_on first second text name =
    ((λ spells. (second text name).0 ((first text name).0 spells)), (λ spells. (first text name).1 ((second text name).1 spells)))

-- no origin after the path, and one
pub no_origin_later : {names later last : Names} {tokens behind after left : List Token} {octets : List ℕ} {statement : Statement}
    → SameNames names later → SameNames later last → after ≡ behind → Takes (SpellsOctets octets) tokens behind → behind ≢ []
    → ((text : List ℕ) (rest : List Token) (name : List (List ℕ)) → after ≡ unquoted text ∷ rest → last text name → ⊥)
    → HasArguments names Include tokens statement left → ⊥
no_origin_later same on at takes some none argues =
    no_origin argues takes some (λ text rest name is spells. none text rest name (at ∙ is) ((same_on same on text name).0 spells))

pub origin_later : {names later last : Names} {tokens mid behind after left : List Token} {text path : List ℕ} {name : List (List ℕ)}
    → SameNames names later → SameNames later last → after ≡ behind → tokens ≡ unquoted text ∷ mid → Takes (SpellsOctets path) tokens behind
    → IsAscii path → (origin_text : List ℕ) × (after ≡ unquoted origin_text ∷ left) × last origin_text name
    → HasArguments names Include tokens (NameFile path (Some name)) left
origin_later {name = name} same on at is takes ascii scanned =
    path_and_origin is takes ascii (sym at ∙ scanned.1) ((same_on same on scanned.0 name).1 scanned.2)
