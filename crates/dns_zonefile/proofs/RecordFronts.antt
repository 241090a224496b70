-- The tokens of a record's row before its type, read part by part.
use mir.Val.{bool_byte}
use Rattle.std.proofs.Common.{◌≡◌, ◌<◌, ◌≤◌, ◌+◌, ◌-◌, ℕ, zero, suc, Bool, true, false, not, List, [], ◌∷◌, ◌++◌, Option, Some, None, length, take, drop, refl, sym, ◌∙◌, ap, subst, arith, length-append, length-take, append-nil, take-append-drop}
use Rattle.std.proofs.Math.Seq.{drop-append_seam}
use Rattle.std.specs.Option.{option_or}
use Rattle.std.specs.Prelude.{if◌then◌else◌, unwrap_or}
use Rattle.dns_label.specs.Name.{wire}
use Rattle.dns_scan.specs.Token.{Token, unquoted}
use Rattle.dns_text.specs.Rows.{TokenRow}
use Rattle.dns_entry_scanner.specs.NameInText.{SpellsUnder}
use Rattle.dns_zonefile.specs.ComposedRow.{BeginsWithName, HasNoOwner, OwnerStands}
use Rattle.dns_zonefile.specs.Entry.{Context}
use Rattle.dns_zonefile.specs.RecordFront.{ComposesFront, IsFront}
use Rattle.dns_zonefile.specs.Seen.{row_of}
use Rattle.dns_entry_scanner.specs.RecordHead.{States}
use Rattle.dns_zonefile.specs.Statement.{HasOwner, Names}
use Rattle.dns_zonefile.specs.Statement.HasOwner.{last, own}
use Rattle.dns_zonefile.specs.declared.entry_form.front.ComposedFront.{ComposedFront}
use Rattle.dns_entry_scanner.proofs.OneHead.{one_class}
use Rattle.dns_zonefile.proofs.Records.{one_rest}

-- how many tokens an owner is
abbrev pub owners : Bool → ℕ
owners blank_led = if blank_led then 0 else 1

pub owners_are : (blank_led : Bool) (count : ℕ) → count ≡ bool_byte (not blank_led) → count ≡ owners blank_led
owners_are true count is = is
owners_are false count is = is

-- the owner stays whatever follows, and as long as it is among the first tokens
pub owner_before : {names : Names} {row : TokenRow} {stated : Option (List (List ℕ))} {left : List Token} → HasOwner names row stated left
    → (more : List Token) → HasOwner names (row_of row.blank_led (row.tokens ++ more)) stated (left ++ more)
owner_before last more = last
owner_before (own spells) more = own spells

pub owner_among : {names : Names} {row : TokenRow} {stated : Option (List (List ℕ))} {left : List Token} (count : ℕ)
    → HasOwner names row stated left → owners row.blank_led ≤ count
    → HasOwner names (row_of row.blank_led (take count row.tokens)) stated (take (count - owners row.blank_led) left)
owner_among {names} count (last {tokens = tokens}) within =
    let none : count ≡ count - 0 = omega arith in subst (λ (n : ℕ). HasOwner names (row_of true (take count tokens)) None (take n tokens)) none last
owner_among zero (own spells) within = absurd (omega (arith, within))
owner_among {names} (suc count) (own {text = text} {name = name} {tokens = tokens} spells) within =
    let one : count ≡ suc count - 1 = omega arith in
    subst (λ (n : ℕ). HasOwner names (row_of false (unquoted text ∷ take count tokens)) (Some name) (take n tokens)) one (own spells)

-- no tokens are an owner
owner_needed : {names : Names} {row : TokenRow} {stated : Option (List (List ℕ))} {left : List Token} → HasOwner names row stated left
    → length row.tokens < owners row.blank_led → ⊥
owner_needed last few = omega (arith, few)
owner_needed (own spells) few = omega (arith, few)

pub too_few : {names : Names} {context : Context} {blank_led : Bool} (tokens : List Token) (count : ℕ) → count < owners blank_led
    → {owner : List (List ℕ)} {after : Context} → IsFront names context blank_led (take count tokens) owner after → ⊥
too_few tokens count few is = owner_needed is.has (omega (arith, few, length-take count tokens))

module _ {names : Names} {context : Context} {blank_led : Bool} {tokens : List Token} (count : ℕ) where
  pub no_owner_among : HasNoOwner names context (row_of blank_led tokens) → {owner : List (List ℕ)} {after : Context}
      → IsFront names context blank_led (take count tokens) owner after → ⊥
  no_owner_among none {owner} is =
      none.none is.stated (is.left ++ drop count tokens) owner
      (subst (λ (l : List Token). HasOwner names (row_of blank_led l) is.stated (is.left ++ drop count tokens)) (take-append-drop count tokens)
      (owner_before is.has (drop count tokens))) is.known

  module _ {left : List Token} {old new : List ℕ} (stands : OwnerStands names context (row_of blank_led tokens) left old new)
      (within : owners blank_led ≤ count) where
    same_words : {owner : List (List ℕ)} {after : Context} (is : IsFront names context blank_led (take count tokens) owner after)
        → take (count - owners blank_led) left ≡ is.left
    same_words is = one_rest refl (owner_among count stands.has within) is.has

    pub unstated : ((ttl class : Option ℕ) → States (take (count - owners blank_led) left) ttl class → ⊥) → {owner : List (List ℕ)} {after : Context}
        → IsFront names context blank_led (take count tokens) owner after → ⊥
    unstated none is = none is.ttl is.class (subst (λ (l : List Token). States l is.ttl is.class) (sym (same_words is)) is.states)

    pub unclassed : {ttl class : Option ℕ} → States (take (count - owners blank_led) left) ttl class
        → ((number : ℕ) → option_or class context.class ≡ Some number → option_or context.class class ≡ Some number → ⊥)
        → {owner : List (List ℕ)} {after : Context} → IsFront names context blank_led (take count tokens) owner after → ⊥
    unclassed states none is =
        let same = one_class (same_words is) states is.states in
        none is.number (ap (λ (c : Option ℕ). option_or c context.class) same ∙ is.is_class)
        (ap (λ (c : Option ℕ). option_or context.class c) same ∙ is.one_class)

    pub composes_front : {ttl class : Option ℕ} {owner_len number last_ttl : ℕ} → owner_len ≡ length new - length old
        → States (take (count - owners blank_led) left) ttl class
        → (option_or class context.class ≡ Some number) × (option_or context.class class ≡ Some number) → last_ttl ≡ unwrap_or ttl context.last_ttl
        → ComposesFront names context blank_led (take count tokens)
        (record { owner_len = owner_len; class = number; last_ttl = last_ttl }) old new
    composes_front {ttl} {class} {number = number} len states is_class is_last =
        let longer : length new ≡ length old + length (wire stands.name) =
        ap (λ (l : List ℕ). length l) stands.behind ∙ length-append old (wire stands.name) in record {
          owner = stands.name;
          is = record {
            stated = stands.stated;
            left = take (count - owners blank_led) left;
            has = owner_among count stands.has within;
            known = stands.known;
            ttl = ttl;
            class = class;
            states = states;
            number = number;
            is_class = is_class.0;
            one_class = is_class.1;
            sets = ap (λ (n : ℕ). record context { owner = Some stands.name; last_ttl = n; class = Some number }) is_last;
          };
          is_name = stands.is_name;
          owner_len = omega (arith, len, longer);
          behind = stands.behind;
        }

-- its owner comes first
pub front_begins : {names : Names} {context : Context} {blank_led : Bool} {tokens : List Token} {it : ComposedFront} {old new : List ℕ}
    (front : List ℕ) (place : ℕ) → place ≡ length old → front ≡ drop place new → (composes : ComposesFront names context blank_led tokens it old new)
    → BeginsWithName front it.owner_len composes.owner
front_begins {old = old} {new} front place at is composes = record {
  rest = [];
  is_name = composes.is_name;
  is = is ∙ (λ i. drop (at i) (composes.behind i)) ∙ drop-append_seam old (wire composes.owner) ∙ sym (append-nil (wire composes.owner));
  long = composes.owner_len;
}

-- what is set by a front of the row's tokens
pub front_under : {context after : Context} {blank_led : Bool} (count : ℕ) {tokens tokens' : List Token} {owner : List (List ℕ)}
    {origin origin' : Option (List (List ℕ))} → origin ≡ origin' → tokens ≡ tokens'
    → IsFront (SpellsUnder origin) context blank_led (take count tokens) owner after
    → IsFront (SpellsUnder origin') context blank_led (take count tokens') owner after
front_under {context} {after} {blank_led} count {tokens' = tokens'} {owner} {origin = origin} origins rows is =
    subst (λ (o : Option (List (List ℕ))). IsFront (SpellsUnder o) context blank_led (take count tokens') owner after) origins
    (subst (λ (l : List Token). IsFront (SpellsUnder origin) context blank_led (take count l) owner after) rows is)

pub front_set : {context after : Context} {blank_led : Bool} (count : ℕ) {tokens tokens' : List Token} {origin : Option (List (List ℕ))}
    {it : ComposedFront} {old new : List ℕ} {owner : List (List ℕ)} → origin ≡ context.origin → tokens ≡ tokens'
    → (composes : ComposesFront (SpellsUnder origin) context blank_led (take count tokens) it old new) → owner ≡ composes.owner
    → after ≡ record context { owner = Some owner; last_ttl = it.last_ttl; class = Some it.class }
    → (name : List (List ℕ)) × IsFront (SpellsUnder context.origin) context blank_led (take count tokens') name after × (new ≡ old ++ wire name)
front_set {context} {after} {blank_led} count {tokens = tokens} {origin = origin} {it} origins rows composes owner_is sets =
    let there : after ≡ record context { owner = Some composes.owner; last_ttl = it.last_ttl; class = Some it.class } =
    sets ∙ ap (λ (o : List (List ℕ)). record context { owner = Some o; last_ttl = it.last_ttl; class = Some it.class }) owner_is in (
      composes.owner,
      front_under count origins rows
          (subst (λ (c : Context). IsFront (SpellsUnder origin) context blank_led (take count tokens) composes.owner c) (sym there) composes.is),
      composes.behind,
    )
