-- Messages that spell parts freely: each name by labels and then by the root's 0 or by a pointer to any place of a
-- suffix of an earlier name that equals the rest, octet for octet (RFC 1035 4.1.4).
use Rattle.std.specs.Prelude.{◌≡◌, ◌+◌, ◌-◌, ◌*◌, ◌≤◌, ℕ, List, [], ◌∷◌, ◌++◌, length, take, drop}
use Rattle.std.specs.Int.{to_be_bytes, w16}
use Rattle.dns_name.specs.Page.{Parts}
use Rattle.dns_name.specs.Page.Parts.{End, Octets, Named, Counted}

-- a suffix other than the root, and its place: that of its first label, or of a pointer that is read as it
pub record Stand : Type 0 where
  pub label : List ℕ
  pub parent : List (List ℕ)
  pub place : ℕ

-- it is one of those
pub data IsOneOf (one : Stand) : List Stand → Type 0 where
  first : {all : List Stand} → IsOneOf one (one ∷ all)
  later : {other : Stand} {all : List Stand} → IsOneOf one all → IsOneOf one (other ∷ all)

-- From the place on the message spells the name, with pointers only to suffixes written before; `own` are the suffixes
-- that the name adds, and `next` is the place after it.
pub data SpellsNameFreely (message : List ℕ) (before : List Stand) : ℕ → List (List ℕ) → List Stand → ℕ → Type 0 where
  root : {place : ℕ} (rest : List ℕ)
      → drop place message ≡ 0 ∷ rest
      → SpellsNameFreely message before place [] [] (place + 1)
  label : {place next : ℕ} {parent : List (List ℕ)} {own : List Stand} (text rest : List ℕ)
      → drop place message ≡ length text ∷ text ++ rest
      → SpellsNameFreely message before (place + 1 + length text) parent own next
      → SpellsNameFreely message before place (text ∷ parent) (record { label = text; parent = parent; place = place } ∷ own) next
  pointer : {place : ℕ} (first second : ℕ) (rest : List ℕ) (target : Stand)
      → drop place message ≡ first ∷ second ∷ rest
      → 192 ≤ first
      → target.place ≡ 256 * (first - 192) + second
      → IsOneOf target before
      → SpellsNameFreely message before place (target.label ∷ target.parent) (record { label = target.label; parent = target.parent; place = place } ∷ []) (place + 2)

-- From the place on the message spells the parts, after the suffixes of `before`; `after` are the suffixes written
-- then, and `next` is the place after the parts.
pub data SpellsFreely : List ℕ → List Stand → ℕ → Parts → List Stand → ℕ → Type 0 where
  nothing : {message : List ℕ} {before : List Stand} {place : ℕ} → place ≤ length message
      → SpellsFreely message before place End before place
  octets : {message : List ℕ} {before after : List Stand} {place next : ℕ} {parts : Parts} (text rest : List ℕ)
      → drop place message ≡ text ++ rest
      → SpellsFreely message before (place + length text) parts after next
      → SpellsFreely message before place (Octets text parts) after next
  named : {message : List ℕ} {before after : List Stand} {place next : ℕ} {name : List (List ℕ)} {parts : Parts} (own : List Stand) (behind : ℕ)
      → SpellsNameFreely message before place name own behind
      → SpellsFreely message (own ++ before) behind parts after next
      → SpellsFreely message before place (Named name parts) after next
  counted : {message : List ℕ} {before after : List Stand} {place next : ℕ} {inner parts : Parts} (count : ℕ) (rest : List ℕ) (within : List Stand)
      → drop place message ≡ to_be_bytes w16 count ++ rest
      → place + 2 + count ≤ length message
      → SpellsFreely (take (place + 2 + count) message) before (place + 2) inner within (place + 2 + count)
      → SpellsFreely message within (place + 2 + count) parts after next
      → SpellsFreely message before place (Counted inner parts) after next

-- a message that spells the parts freely, and no more
pub record IsFree (message : List ℕ) (parts : Parts) : Type 0 where
  pub after : List Stand
  pub spelled : SpellsFreely message [] 0 parts after (length message)
