-- How labels and names are printed.
use Rattle.std.specs.Prelude.{◌==◌, ◌&&◌, ◌||◌, ℕ, Bool, List, [], ◌∷◌, ◌++◌, nat_lt, not, if◌then◌else◌}
use Rattle.std.specs.List.{flat_map}
use Rattle.dns_label.specs.declared.symbol.Symbol.{Symbol}
use Rattle.dns_label.specs.declared.symbol.Symbol.TheVariants.{Char, SimpleEscape, DecimalEscape}
use Rattle.dns_label.specs.Symbol.{spelled}

-- what means something else in a zone file: a space, `"`, `$`, `(`, `)`, a dot, `;` and a backslash (RFC 1035, section
-- 5.1)
abbrev pub is_special : ℕ → Bool
is_special octet =
    (octet == 32) || ((octet == 34) || ((octet == 36) || ((octet == 40) || ((octet == 41) || ((octet == 46) || ((octet == 59)
    || (octet == 92)))))))

-- the symbol that an octet of a label is printed as
abbrev pub printed_symbol : ℕ → Symbol
printed_symbol octet =
    if is_special octet then SimpleEscape octet
    else (if nat_lt 32 octet && nat_lt octet 127 then Char octet else DecimalEscape octet)

-- an octet that is printed as itself
abbrev pub is_printed_as_itself : ℕ → Bool
is_printed_as_itself octet = (nat_lt 32 octet && nat_lt octet 127) && not (is_special octet)

abbrev pub printed_label : List ℕ → List ℕ
printed_label label = flat_map (λ octet. spelled (printed_symbol octet)) label

-- a dot after each label
abbrev pub printed_labels : List (List ℕ) → List ℕ
printed_labels [] = []
printed_labels (label ∷ labels) = printed_label label ++ 46 ∷ printed_labels labels

-- The root is a dot.
abbrev pub printed_name : List (List ℕ) → List ℕ
printed_name [] = 46 ∷ []
printed_name (label ∷ parent) = printed_labels (label ∷ parent)
