-- A row whose data is written in the form of unknown data states the same record.
use Rattle.std.proofs.Common.{◌≡◌, ◌<◌, ◌≤◌, ℕ, true, false, List, [], ◌∷◌, ◌++◌, length, Option, None, refl, sym, ◌∙◌, ap, subst, arith, append_assoc, length-append}
use Rattle.std.specs.Prelude.{unwrap_or}
use Rattle.std.specs.Option.{option_or}
use Rattle.std.proofs.lemmas.List.{append_cancel_right}
use Rattle.dns_scan.specs.Token.{Token, marker, unquoted}
use Rattle.dns_text.specs.Rows.{TokenRow}
use Rattle.dns_rdata.specs.Data.{Data, unknown_data, number_of}
use Rattle.dns_rdata.specs.DataOctets.{data_octets}
use Rattle.dns_entry_scanner.specs.NameInText.{SpellsUnder}
use Rattle.dns_zonefile.specs.Entry.{Context, Entry, Enters, IsEntry}
use Rattle.dns_zonefile.specs.Entry.Entry.{Resource}
use Rattle.dns_zonefile.specs.Entry.Enters.{origin, ttl, file}
use Rattle.dns_zonefile.specs.Entry.Enters.{resource as enters_record}
use Rattle.dns_zonefile.specs.Statement.{HasOwner, Names, Says, Stated, Statement, StatesRecord}
use Rattle.dns_zonefile.specs.Statement.HasOwner.{last, own}
use Rattle.dns_zonefile.specs.Statement.Says.{resource}
use Rattle.dns_zonefile.specs.Statement.Statement.{StateRecord}
use Rattle.dns_zonefile.proofs.OneEntry.{under_once}
use Rattle.dns_zonefile.proofs.OneStatement.{one_statement}
use Rattle.zone.specs.Unknown.{IsUnknownForm}
use Rattle.zone.specs.ZoneText.{NamesNoFile, records_in}

-- The row makes an entry of the same record, if of any.
pub record MakesSame (context : Context) (row : TokenRow) (found : Entry) (next : Context) : Type 0 where
  pub entry : Entry
  pub is : IsEntry context row entry next
  pub records_are : (behind : List Entry) → records_in (entry ∷ behind) ≡ records_in (found ∷ behind)
  pub one_file : NamesNoFile found → NamesNoFile entry

-- the one row makes what the other makes
abbrev pub MakesAs : Context → TokenRow → TokenRow → Type 0
MakesAs context row other = (found : Entry) (next : Context) → IsEntry context row found next → MakesSame context other found next

abbrev pub with_data : Stated → Data → Stated
with_data stated rdata = record stated { rdata = rdata }

-- what is entered is entered with other data of the same octets
entered : {context next : Context} {statement : Statement} {found : Entry} {row : TokenRow} (stated : Stated) (rdata : Data)
    → number_of rdata ≡ number_of stated.rdata → data_octets rdata ≡ data_octets stated.rdata
    → Says (SpellsUnder context.origin) row (StateRecord (with_data stated rdata)) → statement ≡ StateRecord stated
    → Enters context statement found next → MakesSame context row found next
entered stated rdata numbers octets says same origin = absurd cc
entered stated rdata numbers octets says same ttl = absurd cc
entered stated rdata numbers octets says same file = absurd cc
entered {context} {row = row} stated rdata numbers octets says same (enters_record {stated = s} {owner = owner} {class = class} is_owner is_class known) =
    let all : s ≡ stated = cc in
    let numbers' : number_of rdata ≡ number_of s.rdata = numbers ∙ ap (λ (t : Stated). number_of t.rdata) (sym all) in
    let octets' : data_octets rdata ≡ data_octets s.rdata = octets ∙ ap (λ (t : Stated). data_octets t.rdata) (sym all) in
    record {
      entry = Resource (record {
        owner = owner;
        class = class;
        ttl = unwrap_or (option_or s.ttl context.default_ttl) context.last_ttl;
        rdata = rdata;
      });
      is = record {
        statement = StateRecord (with_data s rdata);
        says = subst (λ (t : Stated). Says (SpellsUnder context.origin) row (StateRecord (with_data t rdata))) (sym all) says;
        enters = enters_record is_owner is_class known;
      };
      records_are = λ behind i. record {
        owner = owner;
        rtype = numbers' i;
        class = class;
        ttl = unwrap_or (option_or s.ttl context.default_ttl) context.last_ttl;
        rdata = octets' i;
      } ∷ records_in behind;
      one_file = λ whole. whole;
    }

-- The tokens before the data stay.
first_stays : (head data' other : List Token) (first : Token) (rest : List Token) → 0 < length head → head ++ other ≡ first ∷ rest
    → (more : List Token) × (head ++ data' ≡ first ∷ more)
first_stays [] data' other first rest some is = absurd (omega (arith, some))
first_stays (token ∷ head) data' other first rest some is = let e : token ≡ first = cc in (head ++ data', λ i. e i ∷ (head ++ data'))

owner_before : {names : Names} {row : TokenRow} {owner : Option (List (List ℕ))} {tokens : List Token} → HasOwner names row owner tokens
    → length tokens ≤ length row.tokens
owner_before last = omega arith
owner_before (own is) = omega arith

owner_stays : {names : Names} {row : TokenRow} {owner : Option (List (List ℕ))} {tokens : List Token} (front head data' other : List Token)
    → HasOwner names row owner tokens → tokens ≡ front ++ data' → row.tokens ≡ head ++ data'
    → HasOwner names (record { blank_led = row.blank_led; tokens = head ++ other }) owner (front ++ other)
owner_stays {names} front head data' other last tokens_are row_is =
    let same : head ≡ front = append_cancel_right head front data' (sym row_is ∙ tokens_are) in
    subst (λ (l : List Token). HasOwner names (record { blank_led = true; tokens = l ++ other }) None (front ++ other)) (sym same) last
owner_stays {names} {owner = owner} front head data' other (own {text = text} is) tokens_are row_is =
    let same : head ≡ unquoted text ∷ front =
    append_cancel_right head (unquoted text ∷ front) data' (sym row_is ∙ ap (λ (l : List Token). unquoted text ∷ l) tokens_are) in
    subst (λ (l : List Token). HasOwner names (record { blank_led = false; tokens = l ++ other }) owner (front ++ other)) (sym same) (own is)

-- the data of the other form
abbrev pub as_unknown : Data → Data
as_unknown rdata = unknown_data (record { number = number_of rdata; octets = data_octets rdata })

pub unknown_says : {names : Names} {row other : TokenRow} (form : IsUnknownForm names row other)
    → StatesRecord names other (with_data form.stated (as_unknown form.stated.rdata))
unknown_says {names} {row} form =
    let says = form.says in
    let stated = with_data form.stated (as_unknown form.stated.rdata) in
    let front = says.head.before ++ says.head.type_token ∷ [] in
    let unknown = marker ∷ form.words in
    let parts : (tokens : List Token) → says.head.before ++ says.head.type_token ∷ tokens ≡ front ++ tokens =
    λ tokens. sym (append_assoc says.head.before (says.head.type_token ∷ []) tokens) in
    let tokens_are : says.tokens ≡ front ++ says.data_tokens = says.head.is ∙ parts says.data_tokens in
    let some : 0 < length form.head =
    omega (arith, owner_before says.owner, ap (λ (l : List Token). length l) tokens_are, ap (λ (l : List Token). length l) form.row_is, length-append form.head says.data_tokens, length-append front says.data_tokens, length-append says.head.before (says.head.type_token ∷ [])) in
    subst (λ (r : TokenRow). StatesRecord names r stated) (sym form.other_is)
    (record {
      no_directive = λ directive.
          let stays = first_stays form.head says.data_tokens unknown (unquoted (36 ∷ directive.text)) directive.others some directive.is in
          says.no_directive (record { unled = directive.unled; text = directive.text; others = stays.0; is = form.row_is ∙ stays.1 });
      tokens = front ++ unknown;
      owner = owner_stays front form.head says.data_tokens unknown says.owner tokens_are form.row_is;
      data_tokens = unknown;
      head = record {
        before = says.head.before;
        type_token = says.head.type_token;
        is = sym (parts unknown);
        states = says.head.states;
        type_is = says.head.type_is;
      };
      scans = (refl, form.words, refl, form.words_are, refl);
    })

-- Either row makes what the other makes.
pub into : (context : Context) {row other : TokenRow} → IsUnknownForm (SpellsUnder context.origin) row other → MakesAs context row other
into context form found next is =
    let stated = form.stated in
    entered stated (as_unknown stated.rdata) refl refl (resource (unknown_says form))
    (one_statement (under_once context.origin) is.says (resource form.says)) is.enters

pub out_of : (context : Context) {row other : TokenRow} → IsUnknownForm (SpellsUnder context.origin) row other → MakesAs context other row
out_of context form found next is =
    let stated = form.stated in
    entered (with_data stated (as_unknown stated.rdata)) stated.rdata refl refl (resource form.says)
    (one_statement (under_once context.origin) is.says (resource (unknown_says form))) is.enters
