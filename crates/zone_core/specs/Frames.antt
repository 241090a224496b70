-- Messages on a stream, each after its length in two octets (RFC 1035 4.2.2).
use Rattle.std.specs.Prelude.{◌≡◌, ◌<◌, ◌^◌, ℕ, List, [], ◌∷◌, ◌++◌, length, flat_map, ⊤}
use Rattle.std.specs.List.{AllByRecursion}
use Rattle.std.specs.Int.{from_be_bytes, w16}
pub use Rattle.dns_message.specs.Frame.{frame}

abbrev pub frames : List (List ℕ) → List ℕ
frames messages = flat_map frame messages

-- a message whose length fits in two octets
abbrev pub IsFramable : List ℕ → Type 0
IsFramable message = length message < 2 ^ 16

-- less than a whole frame
abbrev pub IsPartial : List ℕ → Type 0
IsPartial [] = ⊤
IsPartial (high ∷ []) = ⊤
IsPartial (high ∷ low ∷ octets) = length octets < from_be_bytes w16 (high ∷ low ∷ [])

-- The stream is these messages in whole frames, and then less than a whole one.
pub record Splits (stream : List ℕ) (messages : List (List ℕ)) (rest : List ℕ) : Type 0 where
  pub each : AllByRecursion IsFramable messages
  pub whole : stream ≡ frames messages ++ rest
  pub partial : IsPartial rest
