-- A record is printed as one row, which states the record.
use Rattle.std.proofs.Common.{◌≡◌, ◌<◌, ◌^◌, ℕ, List, [], ◌∷◌, ◌++◌, Option, Some, decimal, refl, sym, ◌∙◌, ap, subst, arith}
use Rattle.std.specs.Option.{option_or}
use Rattle.std.specs.List.{AllByRecursion, AllZip}
use Rattle.std.proofs.lemmas.Fmt.{digits_decimal}
use Rattle.dns_label.specs.Octets.{AreOctets}
use Rattle.dns_label.specs.Printed.{printed_name}
use Rattle.dns_name.proofs.PrintedTexts.{printed_absolute}
use Rattle.dns_values.specs.Mnemonic.{class_written, type_written}
use Rattle.dns_values.proofs.ReadsBack.{type_reads_back, class_reads_back}
use Rattle.dns_values.proofs.Words.{digits_model}
use Rattle.dns_scan.specs.Token.{Token, unquoted}
use Rattle.dns_scan.specs.StringText.{SpellsOnly, between_quotes, unquoted_text}
use Rattle.dns_text.specs.Document.{Piece}
use Rattle.dns_text.specs.Document.Piece.{Newline}
use Rattle.dns_text.specs.DocumentRows.{HasRows, WritesToken}
use Rattle.dns_text.specs.DocumentRows.HasRows.{token as next_token}
use Rattle.dns_text.specs.Rows.{unled}
use Rattle.dns_fields.specs.SpelledNames.{SpellPrinted}
use Rattle.dns_fields.proofs.PrintedRows.{data_back}
use Rattle.dns_fields.proofs.PrintedTexts.{safe_decimal, number_back, word_token}
use Rattle.dns_fields.proofs.PrintedTokens.{IsWritten, number_written, rest_written, row_has_tokens}
use Rattle.dns_header.specs.Record.{RecordOf}
use Rattle.dns_header.specs.Shown.{record_document}
use Rattle.dns_rdata.specs.Data.{Data, typed, unknown_data, document_of, number_of}
use Rattle.dns_rdata.specs.DataOctets.{data_octets}
use Rattle.dns_rdata.specs.DataTokens.{HasNoEmptyTag, IsAnyData, tokens_of}
use Rattle.dns_rdata.proofs.PrintedData.{any_back, data_row, data_written}
use Rattle.zone_records.specs.Held.{record_of}
use Rattle.zone_records.specs.Printed.{IsDocument, ShowsData}
use Rattle.zone_records.specs.Printed.ShowsData.{fields, untold}
use Rattle.zone_records.specs.MessageRecord.{IsRecord}
use Rattle.dns_entry_scanner.specs.NameInText.{SpellsUnder}
use Rattle.dns_entry_scanner.specs.NameInText.SpellsUnder.{absolute}
use Rattle.dns_zonefile.specs.Entry.{Context, IsEntry}
use Rattle.dns_zonefile.specs.Entry.Entry.{Resource}
use Rattle.dns_zonefile.specs.Entry.Enters.{resource as enters_record}
use Rattle.dns_entry_scanner.specs.RecordHead.{IsClass, IsTtl, IsType}
use Rattle.dns_zonefile.specs.Statement.{Stated, StatesRecord}
use Rattle.dns_zonefile.specs.Statement.HasOwner.{own}
use Rattle.dns_zonefile.specs.Statement.Says.{resource}
use Rattle.dns_zonefile.specs.Statement.Statement.{StateRecord}
use Rattle.dns_entry_scanner.specs.RecordHead.States.{ttl_class}
use Rattle.zone_records.specs.Record.{Record}
use Rattle.zone_records.specs.Records.{IsRecordOf}
use Rattle.zone.proofs.HeadWords.{IsHeadText, class_is_no_type, class_word, name_no_dollar, name_written, type_word}

-- the data that a document shows
record Shows (r : Record) (document : List Piece) : Type 0 where
  rdata : Data
  is_any : IsAnyData rdata
  tags : HasNoEmptyTag rdata
  number : number_of rdata ≡ r.rtype
  octets_are : data_octets rdata ≡ r.rdata
  is : document ≡ document_of rdata

data_shown : (class : ℕ) (r : Record) (document : List Piece) → IsRecordOf class r → ShowsData r.rtype r.rdata document → Shows r document
data_shown class r document is (fields shown) = record {
  rdata = typed r.rtype shown.row;
  is_any = (shown.is_row, subst AreOctets shown.octets_are is.data_octets);
  tags = is.sendable.spellable shown.row shown.is_row shown.octets_are;
  number = refl;
  octets_are = sym shown.octets_are;
  is = shown.is;
}
data_shown class r document is (untold none shown) = record {
  rdata = unknown_data (record { number = r.rtype; octets = r.rdata });
  is_any = (is.sendable.lawful.rdata, is.data_octets);
  tags = tt;
  number = refl;
  octets_are = refl;
  is = shown;
}

-- the context after a record
abbrev pub behind : Context → Record → Context
behind context r = record context { owner = Some r.owner; last_ttl = r.ttl; class = Some r.class }

-- The document is one row, which is an entry that is the record.
pub record IsStated (r : Record) (document : List Piece) : Type 0 where
  pub tokens : List Token
  pub rows : HasRows 0 (document ++ Newline ∷ []) (tokens ∷ [])
  pub rr : RecordOf (List (List ℕ)) Data
  pub is : r ≡ record_of rr
  pub entry : (context : Context) → context.class ≡ Some r.class → IsEntry context (unled tokens) (Resource rr) (behind context r)

-- a word before the data
head_written : (text : List ℕ) → IsHeadText text → IsWritten text
head_written [] is = absurd (omega (arith, is.some))
head_written (c ∷ text) is = (rest_written (c ∷ text) is.safe).0

ttl_said : (ttl : ℕ) (token : Token) → ttl < 2 ^ 32 → WritesToken token (decimal ttl) → IsTtl ttl token
ttl_said ttl token small writes =
    let wide : ttl < 2 ^ 64 = omega arith in
    (decimal ttl, word_token writes (safe_decimal ttl wide), digits_decimal digits_model ttl wide, number_back (2 ^ 32) ttl small wide)

class_said : (class : ℕ) (token : Token) → class < 2 ^ 16 → WritesToken token (class_written class) → IsClass class token
class_said class token small writes =
    let word = class_word class small in
    (class_written class, word_token writes word.safe, word.no_number, class_is_no_type class, class_reads_back class small)

type_said : (rtype : ℕ) (token : Token) → rtype < 2 ^ 16 → WritesToken token (type_written rtype) → IsType rtype token
type_said rtype token small writes =
    let word = type_word rtype small in (type_written rtype, word_token writes word.safe, word.no_number, type_reads_back rtype small)

-- what the tokens of a record are
record Words (r : Record) (rdata : Data) (ttl class type' : Token) (others : List Token) : Type 0 where
  ttl_is : WritesToken ttl (decimal r.ttl)
  class_is : WritesToken class (class_written r.class)
  type_is : WritesToken type' (type_written r.rtype)
  data_is : AllZip WritesToken others (tokens_of rdata)

abbrev stated_of : Record → Data → Stated
stated_of r rdata = record { owner = Some r.owner; ttl = Some r.ttl; class = Some r.class; rdata = rdata }

names_spelled : (origin : Option (List (List ℕ))) → SpellPrinted (SpellsUnder origin)
names_spelled origin name is are = absolute (printed_absolute name is are)

-- what the texts of strings spell
module _ (in_quotes : (text : List ℕ) → AreOctets text → SpellsOnly (between_quotes text) text)
    (in_words : (text : List ℕ) → AreOctets text → SpellsOnly (unquoted_text text) text) where
  row_said : (r : Record) (document : List Piece) (shown : Shows r document) (ttl class type' : Token) (others : List Token)
      (origin : Option (List (List ℕ))) → IsRecord r → AllByRecursion AreOctets r.owner → Words r shown.rdata ttl class type' others
      → StatesRecord (SpellsUnder origin) (unled (unquoted (printed_name r.owner) ∷ ttl ∷ class ∷ type' ∷ others)) (stated_of r shown.rdata)
  row_said r document shown ttl class type' others origin lawful owner words = record {
    no_directive = λ directive.
        let first : unquoted (printed_name r.owner) ≡ unquoted (36 ∷ directive.text) = (let all = directive.is in cc) in
        name_no_dollar r.owner directive.text (ap (λ (t : Token). t.text) first);
    tokens = ttl ∷ class ∷ type' ∷ others;
    owner = own (names_spelled origin r.owner lawful.owner owner);
    data_tokens = others;
    head = record {
      before = ttl ∷ class ∷ [];
      type_token = type';
      is = refl;
      states = ttl_class (ttl_said r.ttl ttl lawful.ttl words.ttl_is) (class_said r.class class lawful.class words.class_is);
      type_is = subst (λ (n : ℕ). IsType n type') (sym shown.number) (type_said r.rtype type' lawful.rtype words.type_is);
    };
    scans =
        any_back (SpellsUnder origin) (data_back in_quotes in_words (SpellsUnder origin)) (names_spelled origin)
        shown.rdata others shown.is_any words.data_is;
  }

  pub record_stated : (class : ℕ) (r : Record) (document : List Piece) → IsRecordOf class r → IsDocument r document → IsStated r document
  record_stated class r document is printed =
      let lawful = is.sendable.lawful in
      let shown = data_shown class r printed.data_document is printed.data_is in
      let ttl = number_written r.ttl (omega (arith, lawful.ttl)) in
      let class' = head_written (class_written r.class) (class_word r.class lawful.class) in
      let type' = head_written (type_written r.rtype) (type_word r.rtype lawful.rtype) in
      let others = data_written (λ rtype row is_row small some. row_has_tokens row is_row.each some small) shown.rdata shown.is_any shown.tags in
      let words : Words r shown.rdata ttl.token class'.token type'.token others.0 =
      record { ttl_is = ttl.writes; class_is = class'.writes; type_is = type'.writes; data_is = others.1 } in
      let tokens = unquoted (printed_name r.owner) ∷ ttl.token ∷ class'.token ∷ type'.token ∷ others.0 in
      let whole : document ≡ record_document r.owner r.ttl r.class r.rtype (document_of shown.rdata) =
      printed.is ∙ ap (record_document r.owner r.ttl r.class r.rtype) shown.is in
      record {
        tokens = tokens;
        rows = subst (λ (d : List Piece). HasRows 0 (d ++ Newline ∷ []) (tokens ∷ [])) (sym whole)
            (next_token (name_written r.owner lawful.owner is.owner_octets) (next_token ttl.writes (next_token class'.writes (next_token type'.writes
            (data_row shown.rdata others.0 others.1)))));
        rr = record { owner = r.owner; class = r.class; ttl = r.ttl; rdata = shown.rdata };
        is = λ i. record { owner = r.owner; rtype = sym shown.number i; class = r.class; ttl = r.ttl; rdata = sym shown.octets_are i };
        entry = λ context at. record {
          statement = StateRecord (stated_of r shown.rdata);
          says = resource (row_said r printed.data_document shown ttl.token class'.token type'.token others.0 context.origin lawful is.owner_octets words);
          enters = enters_record refl refl (ap (λ (o : Option ℕ). option_or o (Some r.class)) at);
        };
      }
