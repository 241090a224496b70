-- How the octets of a value are printed, whatever they are. Only contracts inside the crate name it.
use Rattle.std.specs.Prelude.{◌≡◌, ◌+◌, ◌*◌, ◌==◌, ◌||◌, ℕ, Bool, zero, suc, List, [], ◌∷◌, ◌++◌, length, map, take, drop, decimal, nat_lt, Option, None, Some, ⊤, if◌then◌else◌, option_map, unwrap_or}
use Rattle.std.specs.Net.Addr.{segments_of}
use Rattle.std.specs.Net.Text.{ipv4_text, hex_groups_text}
use Rattle.dns_scan.specs.Encodings.{encoded_64}
use Rattle.dns_service_parameters.specs.declared.form.Form.{Form}
use Rattle.dns_service_parameters.specs.declared.form.Form.TheVariants.{Keys, Strings, Nothing, Number, Ipv4s, Ipv6s, Encoded, Plain}
use Rattle.dns_service_parameters.specs.Service.{form_at}
use Rattle.dns_service_parameters.specs.ServiceText.{assigned, key_text, list_text}

-- an item of that size, and the octets behind it
abbrev pub take_size : ℕ → List ℕ → Option (List ℕ × List ℕ)
take_size size octets = if nat_lt (length octets) size then None else Some (take size octets, drop size octets)

-- a string behind its length, and the octets behind it
abbrev pub take_string : List ℕ → Option (List ℕ × List ℕ)
take_string [] = None
take_string (len ∷ octets) = Some (take len octets, drop len octets)

-- the first item of a list
abbrev pub take_item : Form → List ℕ → Option (List ℕ × List ℕ)
take_item Keys octets = take_size 2 octets
take_item Strings octets = take_string octets
take_item Ipv4s octets = take_size 4 octets
take_item Ipv6s octets = take_size 16 octets
take_item Nothing octets = take_size 1 octets
take_item Number octets = take_size 1 octets
take_item Encoded octets = take_size 1 octets
take_item Plain octets = take_size 1 octets

-- the first items of a list, at most that number
unfoldable pub first_items : Form → ℕ → List ℕ → List (List ℕ)
first_items form zero octets = []
first_items form (suc count) octets = unwrap_or (option_map (λ split. split.0 ∷ first_items form count split.1) (take_item form octets)) []

abbrev pub items : Form → List ℕ → List (List ℕ)
items form octets = first_items form (length octets) octets

-- addresses have all their octets
abbrev pub IsItem : Form → List ℕ → Type 0
IsItem Ipv4s octets = length octets ≡ 4
IsItem Ipv6s octets = length octets ≡ 16
IsItem Keys octets = ⊤
IsItem Strings octets = ⊤
IsItem Nothing octets = ⊤
IsItem Number octets = ⊤
IsItem Encoded octets = ⊤
IsItem Plain octets = ⊤

-- the number of 16 bits that the octets begin with
abbrev pub first_number : List ℕ → ℕ
first_number [] = 0
first_number (high ∷ []) = 0
first_number (high ∷ low ∷ octets) = high * 256 + low

abbrev pub item_text : Form → List ℕ → List ℕ
item_text Keys octets = key_text (first_number octets)
item_text Ipv4s octets = ipv4_text octets
item_text Ipv6s octets = hex_groups_text (segments_of octets)
item_text Strings octets = octets
item_text Nothing octets = octets
item_text Number octets = octets
item_text Encoded octets = octets
item_text Plain octets = octets

-- a value that is a list
abbrev pub shown_items : Form → List ℕ → List ℕ
shown_items form octets = list_text (map (item_text form) (items form octets))

abbrev pub shown_value : Form → List ℕ → List ℕ
shown_value Nothing octets = []
shown_value Number octets = decimal (first_number octets)
shown_value Encoded octets = encoded_64 octets
shown_value Plain octets = octets
shown_value Keys octets = shown_items Keys octets
shown_value Strings octets = shown_items Strings octets
shown_value Ipv4s octets = shown_items Ipv4s octets
shown_value Ipv6s octets = shown_items Ipv6s octets

abbrev pub shown_parameter : ℕ → List ℕ → List ℕ
shown_parameter key octets = key_text key ++ assigned octets (shown_value (form_at key) octets)

-- what is behind a backslash in an unquoted token (RFC 1035 5.1)
abbrev pub is_marked : ℕ → Bool
is_marked octet =
    (octet == 32) || ((octet == 34) || ((octet == 40) || ((octet == 41) || ((octet == 59) || (octet == 92)))))
