-- What the row of a record sets, by its tokens before the type (RFC 1035 5.1, RFC 2308 4).
use Rattle.std.specs.Prelude.{◌≡◌, ℕ, Bool, List, ◌++◌, Option, Some, length, unwrap_or}
use Rattle.std.specs.Option.{option_or}
use Rattle.dns_label.specs.Name.{IsName, wire}
use Rattle.dns_scan.specs.Token.{Token}
use Rattle.dns_zonefile.specs.Entry.{Context}
use Rattle.dns_zonefile.specs.Seen.{row_of}
use Rattle.dns_entry_scanner.specs.RecordHead.{States}
use Rattle.dns_zonefile.specs.Statement.{HasOwner, Names}
use Rattle.dns_zonefile.specs.declared.entry_form.front.ComposedFront.{ComposedFront}

-- The tokens are those of a record before its type: an owner, unless the row begins with white space, and then a TTL and a class, each
-- stated or not. The record has this owner in the context, and this context is that of the rows after it.
pub record IsFront (names : Names) (context : Context) (blank_led : Bool) (front : List Token) (owner : List (List ℕ)) (after : Context) : Type 0 where
  pub stated : Option (List (List ℕ))
  pub left : List Token
  pub has : HasOwner names (row_of blank_led front) stated left
  pub known : option_or stated context.owner ≡ Some owner
  pub ttl : Option ℕ
  pub class : Option ℕ
  pub states : States left ttl class
  pub number : ℕ
  pub is_class : option_or class context.class ≡ Some number
  pub one_class : option_or context.class class ≡ Some number
  pub sets : after ≡ record context { owner = Some owner; last_ttl = unwrap_or ttl context.last_ttl; class = Some number }

-- The same, composed: the owner's octets follow the old ones. Only contracts inside the crate name it.
pub record ComposesFront (names : Names) (context : Context) (blank_led : Bool) (front : List Token) (composed : ComposedFront) (old new : List ℕ)
    : Type 0 where
  pub owner : List (List ℕ)
  pub is : IsFront names context blank_led front owner
      (record context { owner = Some owner; last_ttl = composed.last_ttl; class = Some composed.class })
  pub is_name : IsName owner
  pub owner_len : composed.owner_len ≡ length (wire owner)
  pub behind : new ≡ old ++ wire owner
