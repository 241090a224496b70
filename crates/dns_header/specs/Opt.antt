-- The data of an OPT record: options, one after another (RFC 6891 6.1.2).
use Rattle.std.specs.Prelude.{◌≡◌, ◌+◌, ◌<◌, ◌≤◌, ◌^◌, ℕ, zero, suc, List, [], ◌∷◌, ◌++◌, length, take, drop}
use Rattle.std.specs.Int.{to_be_bytes, w16}
use Rattle.std.specs.List.{AllByRecursion, flat_map}
use Rattle.dns_octets.specs.Numbers.{number_at}

pub record EdnsOption : Type 0 where
  pub code : ℕ
  pub octets : List ℕ

-- two octets of the code, two of the option's length, and its octets
abbrev pub option_octets : EdnsOption → List ℕ
option_octets option = to_be_bytes w16 option.code ++ to_be_bytes w16 (length option.octets) ++ option.octets

abbrev pub options_octets : List EdnsOption → List ℕ
options_octets options = flat_map option_octets options

abbrev pub IsOption : EdnsOption → Type 0
IsOption option = (option.code < 2 ^ 16) × (length option.octets < 2 ^ 16)

-- the octets are whole options
pub record AreOptions (octets : List ℕ) : Type 0 where
  pub options : List EdnsOption
  pub each : AllByRecursion IsOption options
  pub written : octets ≡ options_octets options

-- an option is at the start of the octets, and then the rest
pub record StartsWithOption (octets : List ℕ) (option : EdnsOption) (rest : List ℕ) : Type 0 where
  pub spelled : octets ≡ option_octets option ++ rest
  pub is : IsOption option

-- the option at the start of octets, and what follows it
abbrev pub first_option : List ℕ → EdnsOption
first_option octets = record { code = number_at octets 0; octets = take (number_at octets 2) (drop 4 octets) }

abbrev pub behind_option : List ℕ → List ℕ
behind_option octets = drop (number_at octets 2) (drop 4 octets)

-- the first options that octets are split into, at most `count`
abbrev pub first_options : ℕ → List ℕ → List EdnsOption
first_options zero octets = []
first_options (suc count) [] = []
first_options (suc count) (octet ∷ octets) =
    first_option (octet ∷ octets) ∷ first_options count (behind_option (octet ∷ octets))

-- the options that octets are split into: each has as many octets as the length before them tells
abbrev pub options_of : List ℕ → List EdnsOption
options_of octets = first_options (length octets) octets

-- the options that octets are split into make them up
pub record AreCutOptions (octets : List ℕ) : Type 0 where
  pub each : AllByRecursion IsOption (options_of octets)
  pub written : options_octets (options_of octets) ≡ octets

-- what is from the place on is an OPT record's data: these options, in at most 65,535 octets
pub record ReadsOptions (message : List ℕ) (place number : ℕ) (options : List EdnsOption) : Type 0 where
  pub of_type : number ≡ 41
  pub each : AllByRecursion IsOption options
  pub written : drop place message ≡ options_octets options
  pub short : length (options_octets options) ≤ 65535
