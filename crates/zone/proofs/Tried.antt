-- Which text is a zone's, and which rule another text breaks first, tried on texts that are written out.
use Rattle.std.proofs.Common.{◌≡◌, ℕ, true, false, List, [], ◌∷◌, ◌++◌, Option, None, ◌≤◌, refl, arith, rules}
use Rattle.std.specs.Prelude.{codes}
use Rattle.std.specs.Fmt.{digits}
use Rattle.std.proofs.lemmas.Str.Ascii.{IsAscii-cons, IsAscii-nil}
use Rattle.dns_label.specs.Name.{IsName}
use Rattle.dns_label.specs.declared.symbol.Symbol.TheVariants.{Char}
use Rattle.dns_values.specs.Mnemonic.{classes, text_of, text_written, types}
use Rattle.dns_scan.specs.Token.{unquoted}
use Rattle.dns_scan.proofs.TextsBack.{text_spells_only}
use Rattle.dns_text.specs.Document.Layout.{Simple}
use Rattle.dns_text.specs.Rows.{TokenRow, unled}
use Rattle.dns_text.specs.Rows.BeginsWithRows.{none, more}
use Rattle.dns_text.specs.Tokens.{IsIn, IsRun, Row, stands_plain}
use Rattle.dns_text.specs.Tokens.Next.{ended, goes, unquoted as word}
use Rattle.dns_text.specs.Tokens.Row.{end, token}
use Rattle.dns_text.proofs.TokenSymbols.{ends_low, ends_plain}
use Rattle.dns_rdata.specs.Fields.{Field, number32, ipv4, compressible, octets, IsRow}
use Rattle.dns_rdata.specs.Fields.IsData.{typed}
use Rattle.dns_rdata.specs.Data.{document_of}
use Rattle.dns_rdata.specs.Data as data'
use Rattle.dns_header.specs.Shown.{record_document}
use Rattle.zone_records.specs.Printed.ShowsData.{fields}
use Rattle.zone_records.proofs.Spellable.{spellable_unless_caa}
use Rattle.dns_zonefile.specs.Statement.Statement.{NameFile}
use Rattle.dns_zonefile.specs.Statement.Directs.{include}
use Rattle.dns_zonefile.specs.Statement.Says.{directive}
use Rattle.dns_zonefile.specs.Entry.{Context, IsEntry}
use Rattle.dns_zonefile.specs.Entry.Entry.{Include}
use Rattle.dns_zonefile.specs.Entry.Enters.{file}
use Rattle.dns_zonefile.specs.Entries.AreEntries.{none as no_entries, entry}
use Rattle.zone_records.specs.Record.{Record}
use Rattle.zone_records.specs.Records.{AreRecordsOf}
use Rattle.zone.specs.Printed.{IsPrinted}
use Rattle.zone.specs.Printed.IsPrinted.{none as no_record, more as printed}
use Rattle.zone.specs.ZoneText.{IsZoneFault, IsZoneText}
use Rattle.zone.specs.declared.zone_error.ZoneError.TheVariants as zone_error
use Rattle.zone.proofs.OneFault.{one_fault, one_reading}
use Rattle.zone.proofs.PrintedZones.{zone_text_made}

abbrev pub soa_row : List Field
soa_row =
    compressible ((98 ∷ []) ∷ []) ∷ compressible ((99 ∷ []) ∷ []) ∷ number32 1 ∷ number32 2 ∷ number32 3 ∷ number32 4 ∷ number32 5 ∷ []

abbrev pub address_row : List Field
address_row = ipv4 (1 ∷ 2 ∷ 3 ∷ 4 ∷ []) ∷ []

-- `a. 60 IN SOA b. c. 1 2 3 4 5`
abbrev pub soa : Record
soa = record { owner = (97 ∷ []) ∷ []; rtype = 6; class = 1; ttl = 60; rdata = octets soa_row }

-- `a. 60 IN A 1.2.3.4`
abbrev pub address : Record
address = record { owner = (97 ∷ []) ∷ []; rtype = 1; class = 1; ttl = 60; rdata = octets address_row }

-- a line each
abbrev pub zone : List ℕ
zone = codes "a. 60 IN SOA b. c. 1 2 3 4 5" ++ 10 ∷ codes "a. 60 IN A 1.2.3.4" ++ 10 ∷ []

one_label : (octet : ℕ) → IsName ((octet ∷ []) ∷ [])
one_label octet = record { labels = (record { some = omega arith; short = omega arith }, tt); short = omega arith }

pub soa_is_row : IsRow 6 soa_row
soa_is_row = record {
  kinds = refl;
  each = (one_label 98, (one_label 99, (omega arith, (omega arith, (omega arith, (omega arith, (omega arith, tt)))))));
  short = omega arith;
}

pub address_is_row : IsRow 1 address_row
address_is_row = record { kinds = refl; each = (refl, tt); short = omega arith }

pub are_records : AreRecordsOf 1 (soa ∷ address ∷ [])
are_records = record {
  each = (
    record {
      sendable = record {
        lawful = record { owner = one_label 97; rtype = omega arith; class = omega arith; ttl = omega arith; rdata = omega arith };
        data_is = typed soa_row soa_is_row refl;
        class_is = refl;
        spellable = spellable_unless_caa 6 soa.rdata (λ caa. omega (arith, caa));
      };
      owner_octets = ((omega arith, tt), tt);
      data_octets = search rules;
    },
    (
      record {
        sendable = record {
          lawful = record { owner = one_label 97; rtype = omega arith; class = omega arith; ttl = omega arith; rdata = omega arith };
          data_is = typed address_row address_is_row refl;
          class_is = refl;
          spellable = spellable_unless_caa 1 address.rdata (λ caa. omega (arith, caa));
        };
        owner_octets = ((omega arith, tt), tt);
        data_octets = (omega arith, (omega arith, (omega arith, (omega arith, tt))));
      },
      tt,
    ),
  );
  zone = (refl, (record { no_soa = λ is. absurd (omega (arith, is)); under = record { front = []; whole_is = refl } }, tt));
}

pub zone_printed : IsPrinted Simple (soa ∷ address ∷ []) zone
unfolding digits text_written text_of classes types
zone_printed =
    printed (record_document soa.owner 60 1 6 (document_of (data'.typed 6 soa_row)))
    (record {
      data_document = document_of (data'.typed 6 soa_row);
      data_is = fields (record { row = soa_row; is_row = soa_is_row; octets_are = refl; is = refl });
      is = refl;
    })
    (printed (record_document address.owner 60 1 1 (document_of (data'.typed 1 address_row)))
    (record {
      data_document = document_of (data'.typed 1 address_row);
      data_is = fields (record { row = address_row; is_row = address_is_row; octets_are = refl; is = refl });
      is = refl;
    })
    no_record refl)
    refl

-- `a. 60 IN SOA b. c. 1 2 3 4 5` and `a. 60 IN A 1.2.3.4`, a line each, are a zone's text, whatever the origin: their
-- names are absolute.
pub zone_is_text : (origin : Option (List (List ℕ))) → IsZoneText zone origin 1 (soa ∷ address ∷ [])
zone_is_text origin =
    zone_text_made (search text_spells_only) (search text_spells_only) Simple origin 1 (soa ∷ address ∷ []) zone
    (λ any. absurd (omega (arith, any))) are_records zone_printed

-- Its records are not the SOA alone.
pub no_record_is_left_out : (origin : Option (List (List ℕ))) → IsZoneText zone origin 1 (soa ∷ []) → ⊥
no_record_is_left_out origin is =
    let same : soa ∷ [] ≡ soa ∷ address ∷ [] = one_reading zone origin 1 (soa ∷ []) (soa ∷ address ∷ []) is (zone_is_text origin) in cc

-- `$INCLUDE x` and `$INCLUDE y`, a line each
abbrev pub includes : List ℕ
includes = codes "$INCLUDE x" ++ 10 ∷ codes "$INCLUDE y" ++ 10 ∷ []

char_in : (octet : ℕ) → 32 ≤ octet → octet ≤ 126 → (octet ≡ 92 → ⊥) → stands_plain false octet ≡ true → IsIn false (Char octet)
char_in octet least most other stands = (((least, most), other), stands)

directive_run : (rest : List ℕ) → IsRun false (codes "$INCLUDE " ++ rest) (codes "$INCLUDE") (32 ∷ rest)
directive_run rest = record {
  symbols = Char 36 ∷ Char 73 ∷ Char 78 ∷ Char 67 ∷ Char 76 ∷ Char 85 ∷ Char 68 ∷ Char 69 ∷ [];
  each = (
    char_in 36 (omega arith) (omega arith) (λ same. omega (arith, same)) refl,
    (
      char_in 73 (omega arith) (omega arith) (λ same. omega (arith, same)) refl,
      (
        char_in 78 (omega arith) (omega arith) (λ same. omega (arith, same)) refl,
        (
          char_in 67 (omega arith) (omega arith) (λ same. omega (arith, same)) refl,
          (
            char_in 76 (omega arith) (omega arith) (λ same. omega (arith, same)) refl,
            (
              char_in 85 (omega arith) (omega arith) (λ same. omega (arith, same)) refl,
              (
                char_in 68 (omega arith) (omega arith) (λ same. omega (arith, same)) refl,
                (char_in 69 (omega arith) (omega arith) (λ same. omega (arith, same)) refl, tt),
              ),
            ),
          ),
        ),
      ),
    ),
  );
  written = refl;
  whole = refl;
  longest = ends_plain false 32 rest refl;
}

path_run : (rest : List ℕ) → IsRun false (120 ∷ 10 ∷ rest) (120 ∷ []) (10 ∷ rest)
path_run rest = record {
  symbols = Char 120 ∷ [];
  each = (char_in 120 (omega arith) (omega arith) (λ same. omega (arith, same)) refl, tt);
  written = refl;
  whole = refl;
  longest = ends_low false 10 rest (omega arith);
}

abbrev include_row : TokenRow
include_row = unled (unquoted (codes "$INCLUDE") ∷ unquoted (codes "x") ∷ [])

begins_with_include : (rest : List ℕ) → Row false (codes "$INCLUDE x" ++ 10 ∷ rest) (unquoted (codes "$INCLUDE") ∷ unquoted (codes "x") ∷ []) rest
begins_with_include rest =
    token false (32 ∷ 120 ∷ 10 ∷ rest) (word 36 refl (directive_run (120 ∷ 10 ∷ rest)) (omega arith))
    (token false (10 ∷ rest) (goes 32 false refl (word 120 refl (path_run rest) (omega arith))) (end (ended 10 refl)))

includes_file : (context : Context) → IsEntry context include_row (Include (codes "x") None) context
includes_file context = record {
  statement = NameFile (codes "x") None;
  says = directive (record { unled = refl; text = codes "INCLUDE"; others = unquoted (codes "x") ∷ []; is = refl })
      (include (codes "$INCLUDE", refl, refl) refl
      (record { symbols = Char 120 ∷ []; each = (((omega arith, omega arith), λ same. omega (arith, same)), tt); written = refl; stand = refl })
      (IsAscii-cons 120 [] (omega arith) IsAscii-nil));
  enters = file;
}

-- `$INCLUDE x`, the first entry, names another file, and no rule is broken before it.
pub first_include : IsZoneFault includes None 1 (zone_error.Include 1)
first_include = (
  [],
  codes "x",
  None,
  record {
    class_known = λ any. absurd (omega (arith, any));
    rows = include_row ∷ [];
    rest = codes "$INCLUDE y" ++ 10 ∷ [];
    after = _;
    begins = more (begins_with_include (codes "$INCLUDE y" ++ 10 ∷ [])) none;
    are = entry (includes_file _) no_entries;
    keep = record { one_file = tt; each = tt; front = tt };
    counted = refl;
  },
)

-- `$INCLUDE y`, the second, names one too, but it is not the first entry that breaks a rule.
pub no_second_include : IsZoneFault includes None 1 (zone_error.Include 2) → ⊥
no_second_include is =
    let same : zone_error.Include 1 ≡ zone_error.Include 2 =
    one_fault includes None 1 (zone_error.Include 1) (zone_error.Include 2) (λ it. cc) (λ it. cc) first_include is in
    cc
