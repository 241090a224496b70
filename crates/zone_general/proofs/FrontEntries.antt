-- The entry of a general row, by the tokens of its row before the type.
use Rattle.std.proofs.Common.{◌≡◌, ◌≤◌, ◌++◌, ◌∙◌, ℕ, List, [], ◌∷◌, length, map, decimal, refl, sym, subst, append-nil}
use Rattle.std.specs.Prelude.{unwrap_or}
use Rattle.std.specs.Option.{option_or}
use Rattle.dns_label.specs.Octets.{AreOctets}
use Rattle.dns_name.specs.UnknownText.{hex_words}
use Rattle.dns_scan.specs.Token.{Token, unquoted}
use Rattle.dns_text.specs.Rows.{TokenRow}
use Rattle.dns_rdata.specs.Data.{unknown_data}
use Rattle.dns_entry_scanner.specs.NameInText.{SpellsUnder}
use Rattle.dns_zonefile.specs.Entry.{Context, Entry, Enters, IsEntry}
use Rattle.dns_zonefile.specs.Entry.Entry.{Resource}
use Rattle.dns_zonefile.specs.Entry.Enters.{resource as enters_record}
use Rattle.dns_zonefile.specs.RecordFront.{IsFront}
use Rattle.dns_zonefile.specs.Seen.{row_of}
use Rattle.dns_entry_scanner.specs.RecordHead.{States}
use Rattle.dns_zonefile.specs.Statement.{HasOwner, Says, Stated, Statement, StatesRecord}
use Rattle.dns_zonefile.specs.Statement.Says.{directive, resource}
use Rattle.dns_zonefile.specs.Statement.Statement.{StateRecord}
use Rattle.dns_zonefile.proofs.RecordFronts.{owner_before}
use Rattle.zone_general.specs.LongerEntries.{IsLongerEntry}
use Rattle.zone_general.specs.LongerRow.{HasType, IsGeneralRow, Stands, general_tokens, known_word}
use Rattle.zone_general.specs.LongerRow.IsGeneralRow.{same, further}
use Rattle.zone_general.proofs.KnownWords.{known_reads}
use Rattle.zone_general.proofs.LongerRows.{general_of, still_none, unknown_is}
use Rattle.zone_general.proofs.RowTypes.{one_type}
use Rattle.zone_general.proofs.SameRecords.{head_is, is_type_word, known_type, not_stated, owner_stays}

module _ {context : Context} {row : TokenRow} {front : List Token} {word : Token} {rtype : ℕ} {data' : List Token}
    (has : HasType row front word rtype data') where
  -- the front of a record, before its known type and any octets of data, is an entry
  pub front_entry : {after : Context} {owner : List (List ℕ)} (content : List ℕ) → AreOctets content → length content ≤ 65535
      → IsFront (SpellsUnder context.origin) context row.blank_led front owner after
      → (entry : Entry) × IsEntry context (general_of row front word rtype content) entry after
  front_entry {owner = owner} content are short is =
      let known = unquoted (known_word word rtype) in
      let rdata = unknown_data (record { number = rtype; octets = content }) in
      let stated : Stated = record { owner = is.stated; ttl = is.ttl; class = is.class; rdata = rdata } in
      let entry = Resource (record {
        owner = owner;
        class = is.number;
        ttl = unwrap_or (option_or is.ttl context.default_ttl) context.last_ttl;
        rdata = rdata;
      }) in (
        entry,
        record {
          statement = StateRecord stated;
          says = resource (record {
            no_directive = still_none word data' known (general_tokens content) has.no_directive has.is has.has_front;
            tokens = is.left ++ known ∷ general_tokens content;
            owner = owner_before is.has (known ∷ general_tokens content);
            data_tokens = general_tokens content;
            head = record {
              before = is.left;
              type_token = known;
              is = refl;
              states = is.states;
              type_is = known_type (record { bare = refl; reads = known_reads has.type });
            };
            scans = (refl, unquoted (decimal (length content)) ∷ map unquoted (hex_words content), refl, unknown_is content are short, refl);
          });
          enters = subst (λ (c : Context). Enters context (StateRecord stated) entry c) (sym is.sets)
              (enters_record is.known is.is_class is.one_class);
        },
      )

  stated_front : {after : Context} (content : List ℕ) {stated : Stated} {entry : Entry} → StatesRecord (SpellsUnder context.origin) (general_of row front word rtype content) stated
      → Enters context (StateRecord stated) entry after → (owner : List (List ℕ)) × IsFront (SpellsUnder context.origin) context row.blank_led front owner after
  stated_front content {stated} is (enters_record {owner = owner} {class = number} is_owner is_class one_class) =
      let known = unquoted (known_word word rtype) in
      let names = SpellsUnder context.origin in
      let stays = owner_stays front has.others (known ∷ general_tokens content) is.owner has.has_front refl in
      let head = head_is has.others is.head.before (general_tokens content) is.data_tokens has.first
      (not_stated (record { bare = refl; reads = known_reads has.type }) is.head.states) (is_type_word is.head.type_is) (sym stays.tokens_are ∙ is.head.is) in (
        owner,
        record {
          stated = stated.owner;
          left = has.others;
          has = subst (λ (l : List Token). HasOwner names (row_of row.blank_led l) stated.owner has.others) (append-nil front)
              (subst (λ (l : List Token). HasOwner names (row_of row.blank_led (front ++ [])) stated.owner l) (append-nil has.others) (stays.stays []));
          known = is_owner;
          ttl = stated.ttl;
          class = stated.class;
          states = subst (λ (l : List Token). States l stated.ttl stated.class) (sym head.0) is.head.states;
          number = number;
          is_class = is_class;
          one_class = one_class;
          sets = refl;
        },
      )

  -- and only such a front is one
  entry_front : {after : Context} {entry : Entry} (content : List ℕ) → IsEntry context (general_of row front word rtype content) entry after
      → (owner : List (List ℕ)) × IsFront (SpellsUnder context.origin) context row.blank_led front owner after
  entry_front {after} {entry} content is = by is.says is.enters
    where
      by : {statement : Statement} → Says (SpellsUnder context.origin) (general_of row front word rtype content) statement
          → Enters context statement entry after → (owner : List (List ℕ)) × IsFront (SpellsUnder context.origin) context row.blank_led front owner after
      by (directive is_one directs) enters =
          absurd (still_none word data' (unquoted (known_word word rtype)) (general_tokens content) has.no_directive has.is has.has_front is_one)
      by (resource states) enters = stated_front content states enters

  -- so a row with no front of a record is none
  pub none_fronted : {after : Context} {entry : Entry} → (Stands row → ⊥)
      → ((owner : List (List ℕ)) → IsFront (SpellsUnder context.origin) context row.blank_led front owner after → ⊥)
      → IsLongerEntry context row entry after → ⊥
  none_fronted {after} {entry} not none is = by is.is is.so
    where
      by : {general : TokenRow} → IsGeneralRow (SpellsUnder context.origin) row general → IsEntry context general entry after → ⊥
      by (same stands) so = not stands
      by (further {front = front'} {word = word'} {rtype = rtype'} {octets = octets} still has' scans) so =
          let one = one_type has' has in
          let ours : general_of row front' word' rtype' octets ≡ general_of row front word rtype octets =
          λ i. general_of row (one.fronts i) (one.words i) (one.types i) octets in
          let made = entry_front octets (subst (λ (r : TokenRow). IsEntry context r entry after) ours so) in none made.0 made.1
