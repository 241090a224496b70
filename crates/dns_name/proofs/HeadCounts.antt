-- A name that is read has few heads.
use Rattle.std.proofs.Common.{ℕ, ◌+◌, ◌≤◌, List, [], ◌∷◌, length, arith, length-append}
use Rattle.dns_label.specs.Spelled.{EncodesName, DecodesName}
use Rattle.dns_label.specs.Spelled.EncodesName.{root, label, pointer}
use Rattle.dns_name.specs.HeadCount.{heads_of}
use Rattle.dns_wire.proofs.Wire.{few_labels}

heads_few : {message : List ℕ} {pointers place next : ℕ} {name : List (List ℕ)} (spelled : EncodesName message pointers place name next)
    → heads_of spelled ≤ length name + pointers + 1
heads_few (root rest at) = omega arith
heads_few (label rest at is_label parent) = omega (arith, heads_few parent)
heads_few (pointer first second after rest at both back name) = omega (arith, heads_few name)

pub heads-reads : {message : List ℕ} {place next : ℕ} {name : List (List ℕ)} (reads : DecodesName message place name next)
    → heads_of reads.spelled ≤ 383
heads-reads {name = name} reads =
    omega (arith, heads_few reads.spelled, few_labels name reads.is_name, length-append name ([] ∷ []))
