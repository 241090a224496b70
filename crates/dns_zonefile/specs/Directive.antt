-- The words of directives, and what follows them. Only contracts inside the crate name it.
use Rattle.std.specs.Prelude.{◌≡◌, ◌^◌, ℕ, List, [], ◌∷◌, Some, None, codes, map}
use Rattle.std.specs.Char.{to_ascii_lowercase}
use Rattle.std.specs.Str.{IsAscii}
use Rattle.dns_values.specs.Mnemonic.{number_spelled}
use Rattle.dns_scan.specs.Token.{Token, IsWord, SpellsOctets, unquoted}
use Rattle.dns_zonefile.specs.Statement.{Names, Statement}
use Rattle.dns_zonefile.specs.Statement.Statement.{SetOrigin, SetTtl, NameFile}
use Rattle.dns_zonefile.specs.declared.statement.directive.DirectiveWord.{DirectiveWord}
use Rattle.dns_zonefile.specs.declared.statement.directive.DirectiveWord.TheVariants.{Origin, Ttl, Include}

-- the word in lower case
abbrev pub word_of : DirectiveWord → List ℕ
word_of Origin = codes "$origin"
word_of Ttl = codes "$ttl"
word_of Include = codes "$include"

-- the token's text is the word, up to ASCII case
abbrev pub IsWordOf : DirectiveWord → Token → Type 0
IsWordOf word token = map to_ascii_lowercase token.text ≡ word_of word

-- the first token is unquoted, and begins with a plain dollar sign (36)
pub record BeginsDirective (tokens : List Token) : Type 0 where
  pub text : List ℕ
  pub others : List Token
  pub is : tokens ≡ unquoted (36 ∷ text) ∷ others

-- the tokens after the word are what it says, and these are left
pub data HasArguments (names : Names) : DirectiveWord → List Token → Statement → List Token → Type 0 where
  origin : {text : List ℕ} {name : List (List ℕ)} {left : List Token} → names text name
      → HasArguments names Origin (unquoted text ∷ left) (SetOrigin name) left
  ttl : {token : Token} {text : List ℕ} {seconds : ℕ} {left : List Token} → IsWord text token
      → number_spelled (2 ^ 32) text ≡ Some seconds → HasArguments names Ttl (token ∷ left) (SetTtl seconds) left
  include : {token : Token} {text path : List ℕ} → token ≡ unquoted text → SpellsOctets path token → IsAscii path
      → HasArguments names Include (token ∷ []) (NameFile path None) []
  include_at : {token : Token} {text path origin_text : List ℕ} {name : List (List ℕ)} {left : List Token} → token ≡ unquoted text
      → SpellsOctets path token → IsAscii path → names origin_text name
      → HasArguments names Include (token ∷ unquoted origin_text ∷ left) (NameFile path (Some name)) left
