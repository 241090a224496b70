-- A row of a zone file says at most one thing, if a text spells at most one name.
use Rattle.std.proofs.Common.{◌≡◌, ◌^◌, ℕ, List, [], ◌∷◌, ◌++◌, length, map, Option, Some, None, refl, sym, ◌∙◌, ap, subst}
use Rattle.std.specs.Char.{to_ascii_lowercase}
use Rattle.dns_values.specs.Mnemonic.{number_spelled}
use Rattle.dns_scan.specs.Token.{Token, SpellsOctets, unquoted}
use Rattle.dns_scan.proofs.TextsBack.{spells_one}
use Rattle.dns_text.specs.Rows.{TokenRow}
use Rattle.dns_fields.specs.SpelledNames.{SpellOne}
use Rattle.dns_fields.proofs.ScannedOnce.{data_scanned_once}
use Rattle.dns_rdata.specs.Data.{Data, ScansAnyData, number_of}
use Rattle.dns_rdata.proofs.PrintedData.{any_one}
use Rattle.dns_entry_scanner.proofs.OneHead.{one_head}
use Rattle.dns_zonefile.specs.Statement.{Directs, HasOwner, IsDirectiveWord, Names, Says, Stated, Statement, StatesRecord}
use Rattle.dns_zonefile.specs.Statement.Statement.{SetOrigin, SetTtl, NameFile, StateRecord}
use Rattle.dns_zonefile.specs.Statement.Directs.{origin, ttl, include, include_at}
use Rattle.dns_zonefile.specs.Statement.HasOwner.{last, own}
use Rattle.dns_zonefile.specs.Statement.Says.{directive, resource}

pub text_of : {text text' : List ℕ} → unquoted text ≡ unquoted text' → text ≡ text'
text_of same = ap (λ (t : Token). t.text) same

same_name : {names : Names} {text text' : List ℕ} {name name' : List (List ℕ)} → SpellOne names → unquoted text ≡ unquoted text'
    → names text name → names text' name' → name ≡ name'
same_name {names} {text} {name = name} {name' = name'} once same is also =
    once text name name' is (subst (λ (t : List ℕ). names t name') (sym (text_of same)) also)

-- directives
same_word : {word word' : List ℕ} {token token' : Token} → token ≡ token' → IsDirectiveWord word token → IsDirectiveWord word' token'
    → length word ≡ length word'
same_word same is also =
    let texts = text_of (sym is.1 ∙ same ∙ also.1) in
    ap (length {A = ℕ}) (sym is.2 ∙ ap (map to_ascii_lowercase) texts ∙ also.2)

same_octets : {octets others : List ℕ} {token token' : Token} → token ≡ token' → SpellsOctets octets token → SpellsOctets others token'
    → octets ≡ others
same_octets {octets} {others} {token} same is also =
    spells_one token.text others octets (subst (λ (t : Token). SpellsOctets others t) (sym same) also) is

pub one_direction : {names : Names} {tokens tokens' : List Token} {statement statement' : Statement} → SpellOne names → tokens ≡ tokens'
    → Directs names tokens statement → Directs names tokens' statement' → statement ≡ statement'
one_direction {names} once same (origin {text = text} {name = name} is spells) (origin {text = text'} {name = name'} is' spells') =
    let second : unquoted text ≡ unquoted text' = cc in ap SetOrigin (same_name once second spells spells')
one_direction once same (origin {word = word} is spells) (ttl {word = word'} is' takes number) =
    let words : word ≡ word' = cc in let bad : ◌≡◌ {A = ℕ} 7 4 = same_word words is is' in cc
one_direction once same (origin {word = word} is spells) (include {word = word'} is' bare path ascii) =
    let words : word ≡ word' = cc in let bad : ◌≡◌ {A = ℕ} 7 8 = same_word words is is' in cc
one_direction once same (origin {word = word} is spells) (include_at {word = word'} is' bare path ascii under) =
    let words : word ≡ word' = cc in let bad : ◌≡◌ {A = ℕ} 7 8 = same_word words is is' in cc
one_direction once same (ttl {word = word} is takes number) (origin {word = word'} is' spells) =
    let words : word ≡ word' = cc in let bad : ◌≡◌ {A = ℕ} 4 7 = same_word words is is' in cc
one_direction once same (ttl {token = token} {text = text} {seconds = seconds} is takes number)
    (ttl {token = token'} {text = text'} {seconds = seconds'} is' takes' number') =
    let second : token ≡ token' = cc in
    let texts : text ≡ text' = text_of (sym takes.0 ∙ second ∙ takes'.0) in
    let numbers : Some seconds ≡ Some seconds' = sym number ∙ ap (number_spelled (2 ^ 32)) texts ∙ number' in
    let all : seconds ≡ seconds' = cc in ap SetTtl all
one_direction once same (ttl {word = word} is takes number) (include {word = word'} is' bare path ascii) =
    let words : word ≡ word' = cc in let bad : ◌≡◌ {A = ℕ} 4 8 = same_word words is is' in cc
one_direction once same (ttl {word = word} is takes number) (include_at {word = word'} is' bare path ascii under) =
    let words : word ≡ word' = cc in let bad : ◌≡◌ {A = ℕ} 4 8 = same_word words is is' in cc
one_direction once same (include {word = word} is bare path ascii) (origin {word = word'} is' spells) =
    let words : word ≡ word' = cc in let bad : ◌≡◌ {A = ℕ} 8 7 = same_word words is is' in cc
one_direction once same (include {word = word} is bare path ascii) (ttl {word = word'} is' takes number) =
    let words : word ≡ word' = cc in let bad : ◌≡◌ {A = ℕ} 8 4 = same_word words is is' in cc
one_direction once same (include {token = token} is bare path ascii) (include {token = token'} is' bare' path' ascii') =
    let second : token ≡ token' = cc in
    ap (λ (p : List ℕ). NameFile p None) (same_octets second path path')
one_direction once same (include is bare path ascii) (include_at is' bare' path' ascii' under) = absurd cc
one_direction once same (include_at {word = word} is bare path ascii under) (origin {word = word'} is' spells) =
    let words : word ≡ word' = cc in let bad : ◌≡◌ {A = ℕ} 8 7 = same_word words is is' in cc
one_direction once same (include_at {word = word} is bare path ascii under) (ttl {word = word'} is' takes number) =
    let words : word ≡ word' = cc in let bad : ◌≡◌ {A = ℕ} 8 4 = same_word words is is' in cc
one_direction once same (include_at is bare path ascii under) (include is' bare' path' ascii') = absurd cc
one_direction {names} once same (include_at {token = token} {path = path} {origin_text = text} {name = name} is bare spells ascii under)
    (include_at {token = token'} {path = path'} {origin_text = text'} {name = name'} is' bare' spells' ascii' under') =
    let second : token ≡ token' = cc in
    let third : unquoted text ≡ unquoted text' = cc in
    let paths : path ≡ path' = same_octets second spells spells' in
    let found : name ≡ name' = same_name once third under under' in
    (λ i. NameFile (paths i) (Some (found i)))

-- the owner, and the tokens after it
pub one_owner : {names : Names} {row row' : TokenRow} {owner owner' : Option (List (List ℕ))} {tokens tokens' : List Token} → SpellOne names
    → row ≡ row' → HasOwner names row owner tokens → HasOwner names row' owner' tokens' → (owner ≡ owner') × (tokens ≡ tokens')
one_owner once same last last = (refl, ap (λ (r : TokenRow). r.tokens) same)
one_owner once same last (own also) = let bad = ap (λ (r : TokenRow). r.blank_led) same in absurd cc
one_owner once same (own is) last = let bad = ap (λ (r : TokenRow). r.blank_led) same in absurd cc
one_owner {names} once same (own {text = text} {name = name} {tokens = tokens} is)
    (own {text = text'} {name = name'} {tokens = tokens'} also) =
    let all : unquoted text ∷ tokens ≡ unquoted text' ∷ tokens' = ap (λ (r : TokenRow). r.tokens) same in
    let first : unquoted text ≡ unquoted text' = cc in
    let behind : tokens ≡ tokens' = cc in
    (ap (λ (n : List (List ℕ)). Some n) (same_name once first is also), behind)

one_data : {names : Names} → SpellOne names → (number number' : ℕ) (rdata rdata' : Data) (tokens tokens' left left' : List Token)
    → number ≡ number' → tokens ≡ tokens' → ScansAnyData names number rdata tokens left → ScansAnyData names number' rdata' tokens' left'
    → rdata ≡ rdata'
one_data {names} once number number' rdata rdata' tokens tokens' left left' numbers same is also =
    let there : ScansAnyData names number rdata' tokens left' =
    subst (λ (n : ℕ). ScansAnyData names n rdata' tokens left') (sym numbers)
    (subst (λ (l : List Token). ScansAnyData names number' rdata' l left') (sym same) also) in
    (any_one names (data_scanned_once names) number rdata rdata' tokens left left' once is there).0

one_record : {names : Names} {row : TokenRow} {stated stated' : Stated} → SpellOne names → StatesRecord names row stated
    → StatesRecord names row stated' → stated ≡ stated'
one_record {names} {row} {stated} {stated'} once is also =
    let owners = one_owner once refl is.owner also.owner in
    let one = one_head owners.1 is.head also.head in
    let datas = one_data once (number_of stated.rdata) (number_of stated'.rdata) stated.rdata stated'.rdata is.data_tokens also.data_tokens
    [] [] one.types one.lefts is.scans also.scans in
    (λ i. record { owner = owners.0 i; ttl = one.ttls i; class = one.classes i; rdata = datas i })

pub one_statement : {names : Names} {row : TokenRow} {statement statement' : Statement} → SpellOne names → Says names row statement
    → Says names row statement' → statement ≡ statement'
one_statement once (directive is says) (directive also says') = one_direction once refl says says'
one_statement once (directive is says) (resource also) = absurd (also.no_directive is)
one_statement once (resource is) (directive also says) = absurd (is.no_directive also)
one_statement once (resource is) (resource also) = ap StateRecord (one_record once is also)

-- a row that says something has tokens
none_behind : (stated : List Token) (token : Token) (more : List Token) → stated ++ token ∷ more ≡ [] → ⊥
none_behind [] token more is = absurd cc
none_behind (first ∷ stated) token more is = absurd cc

no_tokens : {names : Names} {row : TokenRow} {owner : Option (List (List ℕ))} {tokens : List Token} (stated : List Token) (token : Token)
    (more : List Token) → HasOwner names row owner tokens → tokens ≡ stated ++ token ∷ more → row.tokens ≡ [] → ⊥
no_tokens stated token more last same none = none_behind stated token more (sym same ∙ none)
no_tokens stated token more (own is) same none = absurd cc

pub statement_has_tokens : {names : Names} {row : TokenRow} {statement : Statement} → Says names row statement → row.tokens ≡ [] → ⊥
statement_has_tokens (directive is says) none = let bad = sym is.is ∙ none in absurd cc
statement_has_tokens (resource is) none = no_tokens is.head.before is.head.type_token is.data_tokens is.owner is.head.is none
