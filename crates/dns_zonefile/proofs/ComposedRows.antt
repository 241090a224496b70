-- The record of a row, composed part by part.
use Rattle.std.proofs.Common.{◌≡◌, ◌<◌, ◌≤◌, ◌^◌, ◌+◌, ◌-◌, ℕ, Bool, true, false, List, [], ◌∷◌, ◌++◌, Option, Some, None, Ok, length, take, drop, refl, sym, ◌∙◌, ap, subst, arith, append_assoc, length-append}
use Rattle.std.proofs.Math.Seq.{take-append_seam, drop-append_seam}
use Rattle.std.specs.Int.{to_be_bytes, w16}
use Rattle.std.specs.Option.{option_or}
use Rattle.std.specs.Prelude.{unwrap_or}
use Rattle.dns_header.specs.Head.{after_length, fixed_octets}
use Rattle.dns_header.specs.Record.{RecordOf}
use Rattle.dns_label.specs.Name.{IsName, wire}
use Rattle.dns_name.specs.Remembered.{patched}
use Rattle.dns_rdata.specs.Data.{Data, ScansAnyData, number_of}
use Rattle.dns_rdata.specs.DataOctets.{data_octets}
use Rattle.dns_entry_scanner.specs.AppendedName.{AppendsName, HasBehind, SpellsNoName}
use Rattle.dns_entry_scanner.specs.NameInText.{SpellsUnder}
use Rattle.dns_scan.specs.Token.{Token, SameNames}
use Rattle.dns_scan_data.specs.Appended.{GoesOn}
use Rattle.dns_zonefile.specs.AppendedData.{AppendsData}
use Rattle.dns_scan_data.proofs.Appending.{gone_by, gone_on}
use Rattle.dns_text.specs.Rows.{TokenRow}
use Rattle.dns_zonefile.specs.Composed.{HandsOn, composed_octets}
use Rattle.dns_zonefile.specs.ComposedRow.{BeginsWithName, ComposesData, ComposesRecord, HasNoOwner, IsHandedOn, OwnerStands}
use Rattle.dns_zonefile.specs.Entry.{Context, Entry, Enters, IsEntry}
use Rattle.dns_zonefile.specs.Entry.Entry.{Resource}
use Rattle.dns_entry_scanner.specs.RecordHead.{HasHead}
use Rattle.dns_zonefile.specs.Statement.{Directs, HasOwner, IsDirective, Names, Says, Stated, Statement, StatesRecord}
use Rattle.dns_zonefile.specs.Statement.Statement.{StateRecord}
use Rattle.dns_zonefile.specs.declared.entry.ComposedEntry.TheVariants as composed
use Rattle.dns_zonefile.specs.declared.entry_form.octets.ComposedRecord.{ComposedRecord}
use Rattle.dns_zonefile.proofs.Forms.{says_under}
use Rattle.dns_wire.specs.Flat.{IsWritten}
use Rattle.dns_wire.proofs.Case.{wire_one}
use Rattle.dns_wire.proofs.Flat.{flat-written}
use Rattle.dns_zonefile.specs.Seen.{row_of}
use Rattle.dns_entry_scanner.proofs.OneHead.{one_head}
use Rattle.dns_zonefile.proofs.Records.{number_is, one_rest, says_record}

-- two octets before the data, written over
pub counted : (old more over : List ℕ) → length over ≡ 2 → patched ((old ++ 0 ∷ 0 ∷ []) ++ more) (length old) over ≡ old ++ (over ++ more)
counted old more over two =
    let place : length old + length over ≡ length (old ++ 0 ∷ 0 ∷ []) = omega (arith, two, length-append old (0 ∷ 0 ∷ [])) in
    let front : take (length old) ((old ++ 0 ∷ 0 ∷ []) ++ more) ≡ old =
    ap (take (length old)) (append_assoc old (0 ∷ 0 ∷ []) more) ∙ take-append_seam old ((0 ∷ 0 ∷ []) ++ more) in
    let behind : drop (length old + length over) ((old ++ 0 ∷ 0 ∷ []) ++ more) ≡ more =
    ap (λ (n : ℕ). drop n ((old ++ 0 ∷ 0 ∷ []) ++ more)) place ∙ drop-append_seam (old ++ 0 ∷ 0 ∷ []) more in
    λ i. front i ++ (over ++ behind i)

-- data up to the row's end, after its length
module _ {names : Names} {rtype : ℕ} {tokens left : List Token} {zeros mid : List ℕ} {unknown : Bool} (old : List ℕ) (room : zeros ≡ old ++ 0 ∷ 0 ∷ [])
    (appends : AppendsData names rtype tokens left zeros mid unknown) where
  wide : length zeros ≡ length old + 2
  wide = ap (λ (l : List ℕ). length l) room ∙ length-append old (0 ∷ 0 ∷ [])

  longer : length mid ≡ length zeros + length (data_octets appends.rdata)
  longer = ap (λ (l : List ℕ). length l) appends.behind ∙ length-append zeros (data_octets appends.rdata)

  pub composes_data : {new : List ℕ} (place len : ℕ) → place ≡ length zeros → len ≡ length mid → left ≡ []
      → new ≡ patched mid (place - 2) (to_be_bytes w16 (len - place)) → ComposesData names rtype tokens old new unknown
  composes_data {new} place len at behind ends patches =
      let more = data_octets appends.rdata in
      let first : place - 2 ≡ length old = omega (arith, at, wide) in
      let size : len - place ≡ length more = omega (arith, at, behind, longer) in record {
        rdata = appends.rdata;
        scans = subst (λ (l : List Token). ScansAnyData names rtype appends.rdata tokens l) ends appends.scans;
        short = appends.short;
        behind = patches
            ∙ (λ i. patched ((appends.behind ∙ ap (λ (l : List ℕ). l ++ more) room) i) (first i) (to_be_bytes w16 (size i)))
            ∙ counted old more (to_be_bytes w16 (length more)) refl;
        unknown_is = appends.unknown_is;
      }

  -- the length fits, and its place is there
  pub fits_two : (place len : ℕ) → place ≡ length zeros → len ≡ length mid → len - place < 2 ^ 16
  fits_two place len at behind = let short = appends.short in omega (arith, at, behind, longer, short)

  pub has_two : (place : ℕ) → place ≡ length zeros → 2 ≤ place
  has_two place at = omega (arith, at, wide)

  pub has_room : (place : ℕ) → place ≡ length zeros → (place - 2) + 2 ≤ length mid
  has_room place at = omega (arith, at, wide, longer)

-- what a statement of a record states
named' : {context : Context} {statement : Statement} {entry : Entry} {after : Context} {stated : Stated} → Enters context statement entry after
    → statement ≡ StateRecord stated → (owner : List (List ℕ)) × (option_or stated.owner context.owner ≡ Some owner)
named' Enters.origin same = absurd cc
named' Enters.ttl same = absurd cc
named' Enters.file same = absurd cc
named' {context} {stated = stated} (Enters.resource {stated = its} {owner = owner} is_owner is_class known) same =
    let all : its ≡ stated = cc in (owner, subst (λ (s : Stated). option_or s.owner context.owner ≡ Some owner) all is_owner)

classed' : {context : Context} {statement : Statement} {entry : Entry} {after : Context} {stated : Stated} → Enters context statement entry after
    → statement ≡ StateRecord stated
    → (number : ℕ) × (option_or stated.class context.class ≡ Some number) × (option_or context.class stated.class ≡ Some number)
classed' Enters.origin same = absurd cc
classed' Enters.ttl same = absurd cc
classed' Enters.file same = absurd cc
classed' {context} {stated = stated} (Enters.resource {stated = its} {class = number} is_owner is_class known) same =
    let all : its ≡ stated = cc in (
      number,
      subst (λ (s : Stated). option_or s.class context.class ≡ Some number) all is_class,
      subst (λ (s : Stated). option_or context.class s.class ≡ Some number) all known,
    )

-- what a row says that is no directive
said : {names : Names} {row : TokenRow} {statement : Statement} → (IsDirective row → ⊥) → Says names row statement
    → (stated : Stated) × (statement ≡ StateRecord stated) × StatesRecord names row stated
said bare (Says.directive is told) = absurd (bare is)
said bare (Says.resource {stated = stated} is) = (stated, refl, is)

-- a record that makes no entry in the context
module _ {names : Names} {row : TokenRow} {context : Context} {statement : Statement} {entry : Entry} {after : Context}
    (bare : IsDirective row → ⊥) (says : Says names row statement) (enters : Enters context statement entry after) where
  pub unowned : HasNoOwner names context row → ⊥
  unowned none =
      let its = said bare says in
      let known = named' enters its.1 in
      none.none its.0.owner its.2.tokens known.0 its.2.owner known.1

  pub unclassed : {owner : Option (List (List ℕ))} {tokens left : List Token} {ttl class : Option ℕ} {rtype : ℕ} → HasOwner names row owner tokens
      → HasHead tokens ttl class rtype left
      → ((number : ℕ) → option_or class context.class ≡ Some number → option_or context.class class ≡ Some number → ⊥) → ⊥
  unclassed {class = class} has head none =
      let its = said bare says in
      let known = classed' enters its.1 in
      let same = (one_head (one_rest refl has its.2.owner) head its.2.head).classes in
      none known.0 (ap (λ (c : Option ℕ). option_or c context.class) same ∙ known.1) (ap (λ (c : Option ℕ). option_or context.class c) same ∙ known.2)

-- the owner of a row
pub stated_stands : {names : Names} {context : Context} {blank_led : Bool} {tokens left : List Token} {old new : List ℕ} → blank_led ≡ false
    → AppendsName names tokens left old new → OwnerStands names context (row_of blank_led tokens) left old new
stated_stands {names} {context} {tokens = tokens} {left} {old} {new} unled appends =
    let own : HasOwner names (row_of false tokens) (Some appends.name) left =
    subst (λ (t : List Token). HasOwner names (row_of false t) (Some appends.name) left) (sym appends.is) (HasOwner.own appends.spells) in record {
      stated = Some appends.name;
      name = appends.name;
      has = subst (λ (b : Bool). HasOwner names (row_of b tokens) (Some appends.name) left) (sym unled) own;
      known = refl;
      is_name = appends.is_name;
      behind = appends.behind;
    }

pub stands_longer : {names : Names} {context : Context} {row : TokenRow} {left : List Token} {old new : List ℕ}
    → OwnerStands names context row left old new → length old ≤ length new
stands_longer {old = old} stands =
    omega (arith, ap (λ (l : List ℕ). length l) stands.behind, length-append old (wire stands.name))

pub last_stands : {names : Names} {context : Context} {blank_led : Bool} {tokens : List Token} {old new : List ℕ} {name : List (List ℕ)} → blank_led ≡ true
    → context.owner ≡ Some name → IsName name → new ≡ old ++ wire name → OwnerStands names context (row_of blank_led tokens) tokens old new
last_stands {names} {tokens = tokens} {name = name} blank_led known is_name behind = record {
  stated = None;
  name = name;
  has = subst (λ (b : Bool). HasOwner names (row_of b tokens) None tokens) (sym blank_led) HasOwner.last;
  known = known;
  is_name = is_name;
  behind = behind;
}

-- the owner, and others of any value behind it
pub room_gone : {names : Names} {context : Context} {row : TokenRow} {left : List Token} {old owned new : List ℕ} {room : ℕ}
    → OwnerStands names context row left old owned → HasBehind room owned new → GoesOn old new
room_gone stands has = gone_on (gone_by _ stands.behind) (gone_by _ has.is)

pub room_size : {owned new : List ℕ} {room : ℕ} → HasBehind room owned new → length new ≡ length owned + room
room_size {owned} has = let long = has.long in omega (arith, ap (λ (l : List ℕ). length l) has.is, length-append owned has.others, long)

-- the last owner and zeros
pub last_and_zeros : {names : Names} {context : Context} {blank_led : Bool} {tokens : List Token} {old owned new : List ℕ} {name : List (List ℕ)}
    (others : List ℕ) → blank_led ≡ true → context.owner ≡ Some name → IsName name → owned ≡ old ++ wire name → length others ≡ 10 → new ≡ owned ++ others
    → (its : List ℕ) × OwnerStands names context (row_of blank_led tokens) tokens old its × HasBehind 10 its new
last_and_zeros {owned = owned} others led known is_name behind long all =
    (owned, last_stands led known is_name behind, record { others = others; long = long; is = all })

pub stated_and_room : {names : Names} {context : Context} {blank_led : Bool} {tokens left : List Token} {old new : List ℕ} → blank_led ≡ false
    → ((named : List ℕ) × AppendsName names tokens left old named × HasBehind 10 named new)
    → (its : List ℕ) × OwnerStands names context (row_of blank_led tokens) left old its × HasBehind 10 its new
stated_and_room unled has = (has.0, stated_stands unled has.1, has.2)

no_stated' : {names : Names} {row : TokenRow} {tokens left : List Token} {stated : Option (List (List ℕ))} → SpellsNoName names tokens
    → row ≡ row_of false tokens → HasOwner names row stated left → ⊥
no_stated' none same HasOwner.last = let bad = ap (λ (r : TokenRow). r.blank_led) same in absurd cc
no_stated' none same (HasOwner.own {text = text} {name = name} {tokens = tokens} is) =
    none text tokens name (sym (ap (λ (r : TokenRow). r.tokens) same)) is

pub no_stated : {names : Names} {context : Context} {blank_led : Bool} {tokens : List Token} → blank_led ≡ false → SpellsNoName names tokens
    → HasNoOwner names context (row_of blank_led tokens)
no_stated {tokens = tokens} unled none =
    record { none = λ stated left name has known. no_stated' none (ap (λ (b : Bool). row_of b tokens) unled) has }

no_last' : {names : Names} {row : TokenRow} {tokens left : List Token} {stated owner : Option (List (List ℕ))} {name : List (List ℕ)}
    → owner ≡ None → row ≡ row_of true tokens → HasOwner names row stated left → option_or stated owner ≡ Some name → ⊥
no_last' unknown same HasOwner.last known = let no : ⊥ = cc in no
no_last' unknown same (HasOwner.own is) known = let bad = ap (λ (r : TokenRow). r.blank_led) same in absurd cc

pub no_last : {names : Names} {context : Context} {blank_led : Bool} {tokens : List Token} → blank_led ≡ true → context.owner ≡ None
    → HasNoOwner names context (row_of blank_led tokens)
no_last {tokens = tokens} blank_led unknown =
    record { none = λ stated left name has known. no_last' unknown (ap (λ (b : Bool). row_of b tokens) blank_led) has known }

-- no directive is a record
pub directs_no_record : {names : Names} {tokens : List Token} {one other : Statement} {context after : Context} {entry : Entry}
    {rr : RecordOf (List (List ℕ)) Data} → Directs names tokens one → one ≡ other → Enters context other entry after → entry ≡ Resource rr → ⊥
directs_no_record directs same Enters.origin is = let no : ⊥ = cc in no
directs_no_record directs same Enters.ttl is = let no : ⊥ = cc in no
directs_no_record directs same Enters.file is = let no : ⊥ = cc in no
directs_no_record (Directs.origin word named) same (Enters.resource is_owner is_class known) is = let no : ⊥ = cc in no
directs_no_record (Directs.ttl word text number) same (Enters.resource is_owner is_class known) is = let no : ⊥ = cc in no
directs_no_record (Directs.include word text path ascii) same (Enters.resource is_owner is_class known) is = let no : ⊥ = cc in no
directs_no_record (Directs.include_at word text path ascii named) same (Enters.resource is_owner is_class known) is = let no : ⊥ = cc in no

joined : (old owner fixed rest : List ℕ) → ((old ++ owner) ++ fixed) ++ rest ≡ old ++ ((owner ++ fixed) ++ rest)
joined old owner fixed rest = ap (λ (l : List ℕ). l ++ rest) (append_assoc old owner fixed) ∙ append_assoc old (owner ++ fixed) rest

-- the record of all parts
module _ {names later last : Names} {row : TokenRow} {ttl class : Option ℕ} {rtype : ℕ} {tokens behind : List Token} {context : Context}
    {old with_owner : List ℕ} (bare : IsDirective row → ⊥) (stands : OwnerStands names context row tokens old with_owner)
    (same : SameNames names later) (head : HasHead tokens ttl class rtype behind) (on : SameNames later last) where
  pub composes_record : {with_fixed new : List ℕ} {unknown : Bool} {owner_len number seconds last_ttl : ℕ}
      → owner_len ≡ length with_owner - length old
      → (option_or class context.class ≡ Some number) × (option_or context.class class ≡ Some number)
      → seconds ≡ unwrap_or (option_or ttl context.default_ttl) context.last_ttl → last_ttl ≡ unwrap_or ttl context.last_ttl
      → rtype < 2 ^ 16 → number < 2 ^ 16 → seconds < 2 ^ 32
      → with_fixed ≡ with_owner ++ (fixed_octets rtype number seconds ++ 0 ∷ 0 ∷ [])
      → ((front : List ℕ) → with_fixed ≡ front ++ 0 ∷ 0 ∷ [] → ComposesData last rtype behind front new unknown)
      → ComposesRecord names context row (record { owner_len = owner_len; class = number; last_ttl = last_ttl; unknown = unknown }) old new
  composes_record {with_fixed} {new} {unknown} {owner_len} {number} {seconds} {last_ttl} len is_class is_ttl is_last rtype_fits class_fits ttl_fits
      fixed composes_behind =
      let name = stands.name in
      let composes = composes_behind (with_owner ++ fixed_octets rtype number seconds)
      (fixed ∙ sym (append_assoc with_owner (fixed_octets rtype number seconds) (0 ∷ 0 ∷ []))) in
      let its = number_is last rtype composes.rdata behind [] composes.scans in
      let stated : Stated = record { owner = stands.stated; ttl = ttl; class = class; rdata = composes.rdata } in
      let longer : length with_owner ≡ length old + length (wire name) =
      ap (λ (l : List ℕ). length l) stands.behind ∙ length-append old (wire name) in record {
        stated = stated;
        rr = record { owner = name; class = number; ttl = seconds; rdata = composes.rdata };
        says = says_record bare stands.has same head on composes.rdata composes.scans refl;
        enters = subst (λ (s : ℕ). Enters context (StateRecord stated) (Resource (record { owner = name; class = number; ttl = s; rdata = composes.rdata }))
            (record context { owner = Some name; last_ttl = last_ttl; class = Some number })) (sym is_ttl)
            (subst (λ (s : ℕ). Enters context (StateRecord stated)
            (Resource (record {
              owner = name;
              class = number;
              ttl = unwrap_or (option_or ttl context.default_ttl) context.last_ttl;
              rdata = composes.rdata;
            }))
            (record context { owner = Some name; last_ttl = s; class = Some number })) (sym is_last)
            (Enters.resource stands.known is_class.0 is_class.1));
        owner_len = omega (arith, len, longer);
        held = record {
          owner = stands.is_name;
          rtype = subst (λ (n : ℕ). n < 2 ^ 16) (sym its) rtype_fits;
          class = class_fits;
          ttl = ttl_fits;
          rdata = (let short = composes.short in omega (arith, short));
        };
        behind = composes.behind
            ∙ ap (λ (l : List ℕ). l ++ after_length (data_octets composes.rdata))
            (λ i. stands.behind i ++ fixed_octets (sym its i) number seconds)
            ∙ joined old (wire name) (fixed_octets (number_of composes.rdata) number seconds) (after_length (data_octets composes.rdata));
        unknown_is = composes.unknown_is;
      }

-- its owner comes first
pub record_begins : {names : Names} {context : Context} {row : TokenRow} {it : ComposedRecord} {old new : List ℕ} (front : List ℕ) (place : ℕ)
    → place ≡ length old → front ≡ drop place new → (composes : ComposesRecord names context row it old new)
    → BeginsWithName front it.owner_len composes.rr.owner
record_begins {old = old} {new} front place at is composes =
    let rr = composes.rr in
    let fixed = fixed_octets (number_of rr.rdata) rr.class rr.ttl in
    let behind = after_length (data_octets rr.rdata) in record {
      rest = fixed ++ behind;
      is_name = composes.held.owner;
      is = is ∙ (λ i. drop (at i) (composes.behind i)) ∙ drop-append_seam old (composed_octets rr) ∙ append_assoc (wire rr.owner) fixed behind;
      long = composes.owner_len;
    }

-- the record in the form of octets
pub record_handed : {origin : Option (List (List ℕ))} {row row' : TokenRow} {context after : Context} {it : ComposedRecord} {old new : List ℕ}
    {owner : List (List ℕ)} → origin ≡ context.origin → row ≡ row' → (composes : ComposesRecord (SpellsUnder origin) context row it old new)
    → owner ≡ composes.rr.owner → after ≡ record context { owner = Some owner; last_ttl = it.last_ttl; class = Some it.class }
    → (entry : Entry) × IsEntry context row' entry after × IsHandedOn old entry (Some (composed.Record it.unknown)) new
record_handed {context = context} {after} {it} {old} {new} origins rows composes owner_is sets =
    let rr = composes.rr in
    let there : after ≡ record context { owner = Some rr.owner; last_ttl = it.last_ttl; class = Some it.class } =
    sets ∙ ap (λ (o : List (List ℕ)). record context { owner = Some o; last_ttl = it.last_ttl; class = Some it.class }) owner_is in (
      Resource rr,
      record {
        statement = StateRecord composes.stated;
        says = says_under origins rows composes.says;
        enters = subst (λ (c : Context). Enters context (StateRecord composes.stated) (Resource rr) c) (sym there) composes.enters;
      },
      (
        (λ same. let no : ⊥ = cc in no),
        subst (λ (b : Bool). HandsOn old (Ok (Some (Resource rr))) (Ok (Some (composed.Record b))) new) (sym composes.unknown_is)
            (HandsOn.resource composes.held composes.behind),
      ),
    )

-- the name at the start of octets
begins_whole : {octets : List ℕ} {len : ℕ} {name : List (List ℕ)} → BeginsWithName octets len name → take len octets ≡ wire name
begins_whole {name = name} begins = (λ i. take (begins.long i) (begins.is i)) ∙ take-append_seam (wire name) begins.rest

pub first_written : {octets : List ℕ} {len : ℕ} {name : List (List ℕ)} → BeginsWithName octets len name → IsWritten (take len octets)
first_written {octets} {len} {name} begins = flat-written (take len octets) name begins.is_name (begins_whole begins)

pub first_name : {octets : List ℕ} {len : ℕ} {name found : List (List ℕ)} → BeginsWithName octets len name → take len octets ≡ wire found → found ≡ name
first_name {name = name} {found} begins whole = wire_one found name (sym whole ∙ begins_whole begins)
