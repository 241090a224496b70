-- Values of one word.
use Rattle.std.specs.Prelude.{◌≡◌, ℕ, List, Option, Some}
use Rattle.dns_scan.specs.Token.{Token, Takes, IsWord}

-- the first token is a word, which is read as the value
pub record ScansWord {V : Type 0} (reads : List ℕ → Option V) (tokens : List Token) (value : V) (left : List Token) : Type 0 where
  pub text : List ℕ
  pub takes : Takes (IsWord text) tokens left
  pub reads_as : reads text ≡ Some value
