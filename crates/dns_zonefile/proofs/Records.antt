-- The row of a record, read part by part.
use Rattle.std.proofs.Common.{◌≡◌, ◌≢◌, ◌<◌, ℕ, Bool, true, false, List, [], ◌∷◌, length, map, Option, Some, None, refl, sym, ◌∙◌, ap, subst, arith}
use Rattle.dns_scan.specs.Token.{Token, SameNames, unquoted}
use Rattle.dns_text.specs.Rows.{TokenRow}
use Rattle.dns_fields.specs.Fields.{Field, kind_of, octets}
use Rattle.dns_fields.specs.Scanned.{ScansData, ScansLong}
use Rattle.dns_fields.specs.SpelledNames.{SpellOne}
use Rattle.dns_fields.proofs.ScannedOnce.{data_scanned_once, row_one}
use Rattle.dns_rdata.specs.Data.{Data, typed, unknown_data, NoAnyDataScans, ScansAnyData, number_of}
use Rattle.dns_rdata.proofs.PrintedData.{any_one}
use Rattle.dns_rdata.proofs.ScanAny.{same_back, text_same}
use Rattle.dns_zonefile.specs.Directive.{BeginsDirective}
use Rattle.dns_zonefile.specs.Seen.{row_of}
use Rattle.dns_entry_scanner.specs.RecordHead.{HasHead}
use Rattle.dns_zonefile.specs.Statement.{HasOwner, Directs, IsDirective, Names, Says, Stated, Statement, StatesRecord}
use Rattle.dns_zonefile.specs.Statement.Statement.{StateRecord}
use Rattle.dns_zonefile.specs.Statement.HasOwner.{last, own}
use Rattle.dns_zonefile.specs.Statement.Says.{directive, resource}
use Rattle.dns_zonefile.proofs.Directions.{same_on}
use Rattle.dns_entry_scanner.proofs.OneHead.{one_head}

-- whether the row is a directive
pub is_directive : {blank_led : Bool} {tokens : List Token} → blank_led ≡ false → BeginsDirective tokens → IsDirective (row_of blank_led tokens)
is_directive unled begins = record { unled = unled; text = begins.text; others = begins.others; is = begins.is }

pub led_no_directive : {blank_led : Bool} {tokens : List Token} → blank_led ≡ true → IsDirective (row_of blank_led tokens) → ⊥
led_no_directive blank_led is = let bad : true ≡ false = sym blank_led ∙ is.unled in cc

pub begins_no_directive : {blank_led : Bool} {tokens : List Token} → (BeginsDirective tokens → ⊥) → IsDirective (row_of blank_led tokens) → ⊥
begins_no_directive none is = none (record { text = is.text; others = is.others; is = is.is })

-- data of a type has its number
pub number_is : (names : Names) (rtype : ℕ) (rdata : Data) (tokens left : List Token) → ScansAnyData names rtype rdata tokens left
    → number_of rdata ≡ rtype
number_is names rtype (typed number row) tokens left scans = scans.1
number_is names rtype (unknown_data unknown) tokens left scans = scans.0

-- a record from its parts
pub states : {names later : Names} {row : TokenRow} {owner : Option (List (List ℕ))} {ttl class : Option ℕ} {rtype : ℕ} {rdata : Data}
    {tokens behind left : List Token} → (IsDirective row → ⊥) → HasOwner names row owner tokens → HasHead tokens ttl class rtype behind
    → SameNames names later → ScansAnyData later rtype rdata behind left → left ≡ []
    → StatesRecord names row (record { owner = owner; ttl = ttl; class = class; rdata = rdata })
states {names} {later} {ttl = ttl} {class = class} {rtype = rtype} {rdata = rdata} {tokens = tokens} {behind = behind} {left = left} none owner head
    same scans ends =
    let number = number_is later rtype rdata behind left scans in
    let here = text_same later names (same_back names later same) rtype behind behind refl rdata left scans in
    let whole : ScansAnyData names rtype rdata behind [] = subst (λ (l : List Token). ScansAnyData names rtype rdata behind l) ends here in record {
      no_directive = none;
      tokens = tokens;
      owner = owner;
      data_tokens = behind;
      head = subst (λ (n : ℕ). HasHead tokens ttl class n behind) (sym number) head;
      scans = subst (λ (n : ℕ). ScansAnyData names n rdata behind []) (sym number) whole;
    }

-- what is no directive says nothing but a record
pub no_record : {names : Names} {row : TokenRow} {statement : Statement} → (IsDirective row → ⊥)
    → ((stated : Stated) → StatesRecord names row stated → ⊥) → Says names row statement → ⊥
no_record bare none (directive is says) = bare is
no_record bare none (resource {stated = stated} is) = none stated is

-- no record without an owner
pub no_owner : {names : Names} {row : TokenRow} {stated : Stated}
    → ((owner : Option (List (List ℕ))) (tokens : List Token) → HasOwner names row owner tokens → ⊥) → StatesRecord names row stated → ⊥
no_owner {stated = stated} none is = none stated.owner is.tokens is.owner

pub one_rest : {names : Names} {row row' : TokenRow} {owner owner' : Option (List (List ℕ))} {tokens tokens' : List Token} → row ≡ row'
    → HasOwner names row owner tokens → HasOwner names row' owner' tokens' → tokens ≡ tokens'
one_rest same last last = ap (λ (r : TokenRow). r.tokens) same
one_rest same last (own also) = let bad = ap (λ (r : TokenRow). r.blank_led) same in absurd cc
one_rest same (own is) last = let bad = ap (λ (r : TokenRow). r.blank_led) same in absurd cc
one_rest same (own {text = text} {tokens = tokens} is) (own {text = text'} {tokens = tokens'} also) =
    let all : unquoted text ∷ tokens ≡ unquoted text' ∷ tokens' = ap (λ (r : TokenRow). r.tokens) same in cc

-- nor without a type
pub no_head : {names : Names} {row : TokenRow} {owner : Option (List (List ℕ))} {tokens : List Token} {stated : Stated}
    → HasOwner names row owner tokens
    → ((ttl class : Option ℕ) (rtype : ℕ) (left : List Token) → HasHead tokens ttl class rtype left → ⊥) → StatesRecord names row stated → ⊥
no_head {stated = stated} owner none is =
    none stated.ttl stated.class (number_of stated.rdata) is.data_tokens
    (subst (λ (l : List Token). HasHead l stated.ttl stated.class (number_of stated.rdata) is.data_tokens) (sym (one_rest refl owner is.owner))
    is.head)

-- A text of a type's fields has at most 65,535 octets of data, or more, but not both.
not_long : {names : Names} {rtype : ℕ} {row : List Field} {tokens left : List Token} → SpellOne names → ScansData names rtype row tokens left
    → ScansLong names rtype tokens → ⊥
not_long {names} {rtype} {row} {tokens} {left} once scans long =
    let kinds : Some (map kind_of long.row) ≡ Some (map kind_of row) = sym long.kinds ∙ scans.kinds in
    let same = (row_one names once row long.row tokens left long.left (cc) scans.scanned long.scanned).0 in
    let above : 65535 < length (octets row) = subst (λ (r : List Field). 65535 < length (octets r)) (sym same) long.long in
    let below = scans.short in
    omega (arith, above, below)

pub no_any : {names : Names} {rtype : ℕ} {tokens : List Token} → SpellOne names → NoAnyDataScans names rtype tokens → (rdata : Data)
    (left : List Token) → ScansAnyData names rtype rdata tokens left → ⊥
no_any {names} {rtype} once none (typed number row) left scans = none (λ unmarked long. not_long once scans.2 long) (typed number row) left scans
no_any once none (unknown_data unknown) left scans = none (λ unmarked long. unmarked scans.1 scans.2) (unknown_data unknown) left scans

-- data followed by tokens ends no row
pub none_whole : {names : Names} (rtype : ℕ) (tokens : List Token) {left : List Token} (rdata : Data) → SpellOne names
    → ScansAnyData names rtype rdata tokens left → left ≢ [] → (other : Data) → ScansAnyData names rtype other tokens [] → ⊥
none_whole {names} rtype tokens {left} rdata once scans some other whole =
    some (any_one names (data_scanned_once names) rtype rdata other tokens left [] once scans whole).1

-- the data tokens of a record, after an owner and a head that were read
module _ {names later : Names} {row : TokenRow} {owner : Option (List (List ℕ))} {ttl class : Option ℕ} {rtype : ℕ}
    {tokens behind : List Token} {stated : Stated} (once : SpellOne names) (has : HasOwner names row owner tokens)
    (head : HasHead tokens ttl class rtype behind) (same : SameNames names later) (is : StatesRecord names row stated) where
  there : ScansAnyData later rtype stated.rdata behind []
  there =
      let one = one_head (one_rest refl has is.owner) head is.head in
      text_same names later same rtype behind behind refl stated.rdata []
      (subst (λ (n : ℕ). ScansAnyData names n stated.rdata behind []) (sym one.types)
      (subst (λ (l : List Token). ScansAnyData names (number_of stated.rdata) stated.rdata l []) (sym one.lefts) is.scans))

  once_later : SpellOne later
  once_later text name other reads also =
      once text name other ((same text name).1 reads) ((same text other).1 also)

  pub no_data : NoAnyDataScans later rtype behind → ⊥
  no_data none = no_any once_later none stated.rdata [] there

  pub no_text : ((rdata : Data) → ScansAnyData later rtype rdata behind [] → ⊥) → ⊥
  no_text none = none stated.rdata there

  pub more_left : (rdata : Data) (left : List Token) → ScansAnyData later rtype rdata behind left → left ≢ [] → ⊥
  more_left rdata left scans some =
      some (any_one later (data_scanned_once later) rtype rdata stated.rdata behind left [] once_later scans there).1

-- the owner that a row states
pub led_owner : {names : Names} {blank_led : Bool} {tokens : List Token} → blank_led ≡ true → HasOwner names (row_of blank_led tokens) None tokens
led_owner {names} {blank_led} {tokens} is = subst (λ (b : Bool). HasOwner names (row_of b tokens) None tokens) (sym is) last

pub own_owner : {names : Names} {blank_led : Bool} {tokens left : List Token} {name : List (List ℕ)} → blank_led ≡ false
    → (text : List ℕ) × (tokens ≡ unquoted text ∷ left) × names text name → HasOwner names (row_of blank_led tokens) (Some name) left
own_owner {names} {left = left} {name = name} is scanned =
    let row : row_of false (unquoted scanned.0 ∷ left) ≡ row_of _ _ = (λ i. row_of (sym is i) (sym scanned.1 i)) in
    subst (λ (r : TokenRow). HasOwner names r (Some name) left) row (own scanned.2)

-- what a row says that is a directive
pub says_direction : {names : Names} {blank_led : Bool} {tokens : List Token} {statement : Statement} → blank_led ≡ false → BeginsDirective tokens
    → Directs names tokens statement → Says names (row_of blank_led tokens) statement
says_direction unled begins directs = directive (is_directive unled begins) directs

pub no_direction : {names : Names} {blank_led : Bool} {tokens : List Token} {statement : Statement} → blank_led ≡ false → BeginsDirective tokens
    → ((said : Statement) → Directs names tokens said → ⊥) → Says names (row_of blank_led tokens) statement → ⊥
no_direction {statement = statement} unled begins none (directive is says) = none statement says
no_direction unled begins none (resource is) = is.no_directive (is_directive unled begins)

-- what any other row says
module _ {names : Names} {row : TokenRow} (bare : IsDirective row → ⊥) where
  pub not_owned : {statement : Statement} → ((owner : Option (List (List ℕ))) (tokens : List Token) → HasOwner names row owner tokens → ⊥)
      → Says names row statement → ⊥
  not_owned none says = no_record bare (λ stated is. no_owner none is) says

  pub not_headed : {statement : Statement} {owner : Option (List (List ℕ))} {tokens : List Token} → HasOwner names row owner tokens
      → ((ttl class : Option ℕ) (rtype : ℕ) (left : List Token) → HasHead tokens ttl class rtype left → ⊥) → Says names row statement → ⊥
  not_headed owner none says = no_record bare (λ stated is. no_head owner none is) says

  module _ {later last' : Names} {owner : Option (List (List ℕ))} {ttl class : Option ℕ} {rtype : ℕ} {tokens behind : List Token}
      (has : HasOwner names row owner tokens) (same : SameNames names later) (head : HasHead tokens ttl class rtype behind)
      (on : SameNames later last') where
    pub says_record : (rdata : Data) {left : List Token} → ScansAnyData last' rtype rdata behind left → left ≡ []
        → Says names row (StateRecord (record { owner = owner; ttl = ttl; class = class; rdata = rdata }))
    says_record rdata scans ends = resource (states bare has head (same_on same on) scans ends)

    pub not_scanned : {statement : Statement} → SpellOne names → NoAnyDataScans last' rtype behind → Says names row statement → ⊥
    not_scanned once none says = no_record bare (λ stated is. no_data once has head (same_on same on) is none) says

    pub not_all : {statement : Statement} → SpellOne names → (rdata : Data) (left : List Token) → ScansAnyData last' rtype rdata behind left
        → left ≢ [] → Says names row statement → ⊥
    not_all once rdata left scans some says = no_record bare (λ stated is. more_left once has head (same_on same on) is rdata left scans some) says

    pub not_texted : {statement : Statement} → SpellOne names → ((rdata : Data) → ScansAnyData last' rtype rdata behind [] → ⊥)
        → Says names row statement → ⊥
    not_texted once none says = no_record bare (λ stated is. no_text once has head (same_on same on) is none) says
