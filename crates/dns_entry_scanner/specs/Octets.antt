-- The octets that stand for themselves in tokens and comments (RFC 1035 5.1), as tests.
use Rattle.std.specs.Prelude.{◌==◌, ◌||◌, ℕ, Bool, true, false, nat_lt, not}

-- in an unquoted token: a printable character other than a space, `"`, `(`, `)`, `;` and the backslash
abbrev pub is_in_word : ℕ → Bool
is_in_word octet =
    not ((((nat_lt octet 33 || nat_lt 126 octet) || ((octet == 40) || (octet == 41))) || ((octet == 34) || (octet == 59))) || (octet == 92))

-- perhaps not in an unquoted token: each octet that is in none, and those from `!` to `'`
abbrev pub may_end_word : ℕ → Bool
may_end_word octet = (nat_lt octet 42 || nat_lt 126 octet) || ((octet == 59) || (octet == 92))

-- after an unquoted token: neither in one nor the backslash
abbrev pub ends_word : ℕ → Bool
ends_word octet = not (is_in_word octet || (octet == 92))

-- in a quoted token: a printable character other than `"` and the backslash
abbrev pub is_in_quotes : ℕ → Bool
is_in_quotes octet = not ((nat_lt octet 32 || nat_lt 126 octet) || ((octet == 34) || (octet == 92)))

-- in a token
abbrev pub is_plain_in : Bool → ℕ → Bool
is_plain_in true = is_in_quotes
is_plain_in false = is_in_word

-- in a comment
abbrev pub is_in_comment : ℕ → Bool
is_in_comment octet = not (octet == 10)
