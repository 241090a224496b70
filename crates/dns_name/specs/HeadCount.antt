-- How many heads of labels and pointers a reader looks at (RFC 1035 4.1.4).
use Rattle.std.specs.Prelude.{◌+◌, ℕ, List}
use Rattle.dns_label.specs.Spelled.{EncodesName}
use Rattle.dns_label.specs.Spelled.EncodesName.{root, label, pointer}

-- one for each label, each pointer and the root
abbrev pub heads_of : {message : List ℕ} {pointers place next : ℕ} {name : List (List ℕ)} → EncodesName message pointers place name next → ℕ
heads_of (root rest at) = 1
heads_of (label rest at is_label parent) = 1 + heads_of parent
heads_of (pointer first second after rest at both back name) = 1 + heads_of name
