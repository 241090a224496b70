-- Rows with data in general form that differ in the words for their type and for the data state the same record.
use Rattle.std.proofs.Common.{◌≡◌, ◌++◌, ◌∙◌, ℕ, Bool, true, false, List, [], ◌∷◌, Option, Some, None, refl, sym, ap, subst}
use Rattle.std.specs.Char.{is_ascii_digit}
use Rattle.std.specs.List.{AllByRecursion, list_all}
use Rattle.dns_label.specs.Octets.{AreOctets}
use Rattle.dns_values.specs.Mnemonic.{type_read}
use Rattle.dns_scan.specs.Token.{Token, IsWord, marker, unquoted}
use Rattle.dns_scan.specs.Token.{IsEntry as AreJoined}
use Rattle.dns_scan.specs.UnknownData.{IsUnknownData}
use Rattle.dns_scan.specs.declared.encoding.base.Base.TheVariants.{Sixteen}
use Rattle.dns_text.specs.Rows.{TokenRow}
use Rattle.dns_fields.proofs.ScannedOnce.{decoded_one, left_one}
use Rattle.dns_rdata.specs.Data.{Data, ScansAnyData, typed, unknown_data, number_of}
use Rattle.dns_field_texts.specs.TypeWords.{type_word_read}
use Rattle.dns_entry_scanner.specs.NameInText.{SpellsUnder}
use Rattle.dns_zonefile.specs.Entry.{Context, Entry, Enters, IsEntry}
use Rattle.dns_entry_scanner.specs.RecordHead.{IsClass, IsTtl, IsType, States}
use Rattle.dns_zonefile.specs.Statement.{HasOwner, IsDirective, Names, Says, Stated, Statement, StatesRecord}
use Rattle.dns_zonefile.specs.Statement.HasOwner.{last as last_owner, own as own_owner}
use Rattle.dns_zonefile.specs.Statement.Says.{directive, resource}
use Rattle.dns_zonefile.specs.Statement.Statement.{StateRecord}
use Rattle.dns_entry_scanner.specs.RecordHead.States.{nothing, ttl_class, class_ttl}
use Rattle.dns_entry_scanner.specs.RecordHead.States.{ttl as ttl_alone, class as class_alone}
use Rattle.zone_general.specs.LongerRow.{HasFront, IsNoTypeWord, IsTypeWord}
use Rattle.zone_general.specs.LongerRow.HasFront.{last, own}
use Rattle.zone_general.proofs.KnownWords.{type_no_digits}
use Rattle.zone_general.proofs.PlainWords.{type_plain}

-- words are unknown data of one list of octets
pub one_unknown : {words : List Token} {text other : List ℕ} → IsUnknownData words text → IsUnknownData words other → text ≡ other
one_unknown {text = text} {other = other} is also =
    let left : is.words ≡ also.words = left_one is.number.takes also.number.takes in
    decoded_one Sixteen is.words is.text also.text text other is.joined is.decodes
    (subst (λ (l : List Token). AreJoined IsWord l also.text) (sym left) also.joined) also.decodes

pub unknown_octets : {words : List Token} {content : List ℕ} → IsUnknownData words content → AreOctets content
unknown_octets is = is.decodes.groups.are_octets

-- the token is a word for the type that zone readers know
pub record IsKnownWord (rtype : ℕ) (token : Token) : Type 0 where
  pub bare : token.quoted ≡ false
  pub reads : type_read token.text ≡ Some rtype

pub known_type : {rtype : ℕ} {token : Token} → IsKnownWord rtype token → IsType rtype token
known_type {rtype} {token} is =
    let bare = is.bare in (
      token.text,
      ((λ i. record { quoted = bare i; text = token.text }), type_plain token.text rtype is.reads),
      type_no_digits token.text rtype is.reads,
      is.reads,
    )

-- the tokens before a type are not its word
module _ {word : Token} {rtype : ℕ} (known : IsKnownWord rtype word) where
  no_ttl : {token : Token} {seconds : ℕ} → IsTtl seconds token → token ≡ word → ⊥
  no_ttl is at =
      let text : is.0 ≡ word.text = ap (λ (t : Token). t.text) (sym is.1.0 ∙ at) in
      let bad : true ≡ false = sym is.2 ∙ ap (list_all is_ascii_digit) text ∙ type_no_digits word.text rtype known.reads in cc

  no_class : {token : Token} {number : ℕ} → IsClass number token → token ≡ word → ⊥
  no_class is at =
      let text : is.0 ≡ word.text = ap (λ (t : Token). t.text) (sym is.1.0 ∙ at) in
      let bad : None ≡ Some rtype = sym is.3 ∙ ap type_read text ∙ known.reads in cc

  pub not_stated : {stated : List Token} {seconds class : Option ℕ} → States stated seconds class → AllByRecursion (λ token. token ≡ word → ⊥) stated
  not_stated nothing = tt
  not_stated (ttl_alone is) = (no_ttl is, tt)
  not_stated (class_alone is) = (no_class is, tt)
  not_stated (ttl_class is also) = (no_ttl is, (no_class also, tt))
  not_stated (class_ttl is also) = (no_class is, (no_ttl also, tt))

pub is_type_word : {rtype : ℕ} {token : Token} → IsType rtype token → IsTypeWord rtype token
unfolding type_word_read
is_type_word {rtype} {token} is =
    let text : token.text ≡ is.0 = ap (λ (t : Token). t.text) is.1.0 in record {
      bare = ap (λ (t : Token). t.quoted) is.1.0;
      reads = ap type_word_read text ∙ first_read is.0 is.3;
    }
  where
    first_read : (text : List ℕ) → type_read text ≡ Some rtype → type_word_read text ≡ Some rtype
    first_read text reads = rw reads refl

-- so the type is that word
pub head_is : (others before behind left : List Token) {word token : Token} {rtype : ℕ} → AllByRecursion IsNoTypeWord others
    → AllByRecursion (λ t. t ≡ word → ⊥) before → IsTypeWord rtype token → others ++ word ∷ behind ≡ before ++ token ∷ left
    → (others ≡ before) × (word ≡ token) × (behind ≡ left)
head_is [] [] behind left each apart is all = (refl, cc, cc)
head_is [] (first ∷ before) behind left {word} each apart is all = let at : first ≡ word = cc in absurd (apart.0 at)
head_is (other ∷ others) [] behind left {token = token} {rtype = rtype} each apart is all =
    let at : token ≡ other = cc in absurd (each.0 rtype (subst (IsTypeWord rtype) at is))
head_is (other ∷ others) (first ∷ before) behind left each apart is all =
    let first_is : other ≡ first = cc in
    let rest = head_is others before behind left each.1 apart.1 is (cc) in ((λ i. first_is i ∷ rest.0 i), rest.1, rest.2)

-- the owner stays whatever is behind the other tokens of the front
pub record OwnerStays (names : Names) (blank_led : Bool) (owner : Option (List (List ℕ))) (front others behind tokens : List Token) : Type 0 where
  pub tokens_are : tokens ≡ others ++ behind
  pub stays : (again : List Token) → HasOwner names (record { blank_led = blank_led; tokens = front ++ again }) owner (others ++ again)

pub owner_stays : {names : Names} {row : TokenRow} {owner : Option (List (List ℕ))} {tokens : List Token} (front others behind : List Token)
    → HasOwner names row owner tokens → HasFront row.blank_led front others → row.tokens ≡ front ++ behind
    → OwnerStays names row.blank_led owner front others behind tokens
owner_stays front others behind last_owner last is = record { tokens_are = is; stays = λ again. last_owner }
owner_stays {names} {owner = owner} front others behind (own_owner {text = text} spelled) (own {owner = first}) is =
    let same : unquoted text ≡ first = cc in record {
      tokens_are = cc;
      stays = λ again.
          subst (λ (t : Token). HasOwner names (record { blank_led = false; tokens = t ∷ (others ++ again) }) owner (others ++ again)) same
          (own_owner spelled);
    }

-- the row with this front, this word for its type and this data in general form
abbrev pub marked_row : Bool → List Token → Token → List Token → TokenRow
marked_row blank_led front word words = record { blank_led = blank_led; tokens = front ++ word ∷ marker ∷ words }

-- no row is a directive that begins as one that is none
pub still_none : {blank_led : Bool} {front others : List Token} → HasFront blank_led front others → (word other : Token) (words more : List Token)
    → (IsDirective (marked_row blank_led front word words) → ⊥) → IsDirective (marked_row blank_led front other more) → ⊥
still_none last word other words more none directs = let unled = directs.unled in absurd cc
still_none (own {owner = owner} {others = others}) word other words more none directs =
    let begins = directs.is in
    let same : owner ≡ unquoted (36 ∷ directs.text) = cc in
    none (record {
      unled = directs.unled;
      text = directs.text;
      others = others ++ word ∷ marker ∷ words;
      is = ap (λ (t : Token). t ∷ (others ++ word ∷ marker ∷ words)) same;
    })

module _ {blank_led : Bool} {front others : List Token} (has_front : HasFront blank_led front others) (first : AllByRecursion IsNoTypeWord others)
    {word other : Token} {rtype : ℕ} (known : IsKnownWord rtype word) (also : IsKnownWord rtype other) {words more : List Token} {content : List ℕ}
    (is : IsUnknownData words content) (again : IsUnknownData more content) where
  scans_more : (names : Names) (number : ℕ) (rdata : Data) → ScansAnyData names number rdata (marker ∷ words) []
      → ScansAnyData names number rdata (marker ∷ more) []
  scans_more names number (typed n row) scans = absurd (scans.0 words refl)
  scans_more names number (unknown_data unknown) scans =
      let same : words ≡ scans.1 = (let both = scans.2 in cc) in
      let one : content ≡ unknown.octets = one_unknown is (subst (λ (l : List Token). IsUnknownData l unknown.octets) (sym same) scans.3) in
      (scans.0, more, refl, subst (IsUnknownData more) one again, refl)

  states_more : {names : Names} {stated : Stated} → (IsDirective (marked_row blank_led front word words) → ⊥)
      → StatesRecord names (marked_row blank_led front word words) stated → StatesRecord names (marked_row blank_led front other more) stated
  states_more {names} {stated} none states =
      let owner = owner_stays front others (word ∷ marker ∷ words) states.owner has_front refl in
      let head = head_is others states.head.before (marker ∷ words) states.data_tokens first (not_stated known states.head.states)
      (is_type_word states.head.type_is) (sym owner.tokens_are ∙ states.head.is) in
      let type_is = states.head.type_is in
      let texts : word.text ≡ type_is.0 = ap (λ (t : Token). t.text) (head.1 ∙ type_is.1.0) in
      let both : Some rtype ≡ Some (number_of stated.rdata) = sym known.reads ∙ ap type_read texts ∙ type_is.3 in
      let number : rtype ≡ number_of stated.rdata = cc in record {
        no_directive = still_none has_front word other words more none;
        tokens = others ++ other ∷ marker ∷ more;
        owner = owner.stays (other ∷ marker ∷ more);
        data_tokens = marker ∷ more;
        head = record {
          before = states.head.before;
          type_token = other;
          is = λ i. head.0 i ++ other ∷ marker ∷ more;
          states = states.head.states;
          type_is = subst (λ (n : ℕ). IsType n other) number (known_type also);
        };
        scans = scans_more names (number_of stated.rdata) stated.rdata
            (subst (λ (l : List Token). ScansAnyData names (number_of stated.rdata) stated.rdata l []) (sym head.2) states.scans);
      }

  -- Both rows are the same entry.
  pub same_record : {context after : Context} {entry : Entry} → (IsDirective (marked_row blank_led front word words) → ⊥)
      → IsEntry context (marked_row blank_led front word words) entry after → IsEntry context (marked_row blank_led front other more) entry after
  same_record {context} {after} {entry} none so = by so.says so.enters
    where
      by : {statement : Statement} → Says (SpellsUnder context.origin) (marked_row blank_led front word words) statement
          → Enters context statement entry after → IsEntry context (marked_row blank_led front other more) entry after
      by (directive is_one directs) enters = absurd (none is_one)
      by (resource {stated = stated} states) enters =
          record { statement = StateRecord stated; says = resource (states_more none states); enters = enters }
