-- The tokens that a field of a form is printed as are scanned as this field.
use Rattle.std.proofs.Common.{◌≡◌, ◌≢◌, ◌<◌, ◌≤◌, ◌^◌, inl, inr, ℕ, true, List, [], ◌∷◌, ◌++◌, length, map, decimal, refl, sym, ◌∙◌, ap, subst, arith, append-nil}
use Rattle.std.specs.List.{AllByRecursion, AllZip}
use Rattle.dns_label.specs.Name.{IsName, wire}
use Rattle.dns_label.specs.Printed.{printed_name}
use Rattle.dns_label.specs.Octets.{AreOctets}
use Rattle.dns_values.specs.Mnemonic.{number_spelled}
use Rattle.dns_scan.specs.CharStr.{string_wire}
use Rattle.dns_scan.specs.declared.encoding.base.Base.TheVariants.{Sixteen, SixtyFour}
use Rattle.dns_scan.specs.Encodings.{encoded_16, encoded_64}
use Rattle.dns_scan.specs.StringText.{Spells, SpellsOnly, between_quotes, quoted_text, unquoted_text}
use Rattle.dns_scan.specs.Scans.{ScansWord}
use Rattle.dns_scan.specs.Token.{IsEntry, IsWord, SpellsOctets, SpellsString, Takes, Token, unquoted}
use Rattle.dns_scan.proofs.Encodings.{text_decodes_only}
use Rattle.dns_text.specs.Document.{Piece}
use Rattle.dns_text.specs.Document.Piece.{Token as printed}
use Rattle.dns_text.specs.DocumentRows.{WritesToken}
use Rattle.dns_fields.specs.Fields.{Field, field_octets, octets, rest16, rest64, uncompressed}
use Rattle.dns_fields.specs.Scanned.{TakesName}
use Rattle.dns_fields.specs.Shown.{one_unless_empty}
use Rattle.dns_fields.specs.SpelledNames.{SpellPrinted}
use Rattle.dns_fields.proofs.FieldKinds.{of_number8, of_number16, of_number32, of_rest16, of_rest64, of_rest_text, of_string, of_uncompressed}
use Rattle.dns_fields.proofs.PrintedRows.{data_back, safe_16, safe_64, wire_octets}
use Rattle.dns_fields.proofs.PrintedTexts.{IsSafe, number_back, quoted_token, safe_decimal, word_token}
use Rattle.dns_field_texts.specs.Hardware.{IsHardwareText, hardware_written}
use Rattle.dns_field_texts.specs.HashWords.{hash_written, salt_written}
use Rattle.dns_field_texts.specs.LocationText.{ScansLocation, location_words}
use Rattle.dns_field_texts.specs.Time.{time_written}
use Rattle.dns_field_texts.specs.TypeBitmap.{IsTypeBitmap, ScansTypes, printed_types, type_pieces, types_in}
use Rattle.dns_field_texts.specs.TypeWords.{type_word_written}
use Rattle.dns_field_texts.proofs.HardwareText.{hardware_reads_back}
use Rattle.dns_field_texts.proofs.HashWords.{hash_reads_back, salt_reads_back}
use Rattle.dns_field_texts.proofs.LocationPrinted.{printed_scans}
use Rattle.dns_field_texts.proofs.Moments.{time_reads_back}
use Rattle.dns_field_texts.proofs.NumberedWords.{algorithm_reads_back, certificate_type_reads_back}
use Rattle.dns_field_texts.proofs.PrintedTypes.{printed_scans_back, same_windows, windows_from}
use Rattle.dns_field_texts.proofs.TypeBits.{In}
use Rattle.dns_field_texts.proofs.TypeWords.{type_word_reads_back}
use Rattle.dns_service_parameters.specs.Service.{AreParameters, Parameter, octets_of}
use Rattle.dns_service_parameters.specs.ServiceText.{ScansParameters, parameter_text}
use Rattle.dns_fields_more.specs.declared.form.Form.{Form}
use Rattle.dns_fields_more.specs.declared.form.Form.TheVariants.{Number8, Number16, Number32, Name, CasedName, String, RestText, Rest16, Rest64, Rtype as RtypeForm, Algorithm, CertificateType, Time, Salt, Hash, Types, Parameters, Location as LocationForm, Eui48, Eui64}
use Rattle.dns_fields_more.specs.Forms.{IsFieldOf, is_last}
use Rattle.dns_fields_more.specs.Printed.{HasRest}
use Rattle.dns_fields_more.specs.Text.{PrintsForm, SpellsForm}
use Rattle.dns_fields_more.proofs.SafeWords.{IsSafeWord, hardware_safe, hash_safe, location_safe, salt_safe, time_safe, type_safe, words_bare}

-- the piece is the text of the token
abbrev pub WritesPiece : Token → Piece → Type 0
WritesPiece token (printed text) = WritesToken token text
WritesPiece token piece = ⊥

pub pieces_of : (tokens : List Token) (texts : List (List ℕ)) → AllZip WritesToken tokens texts → AllZip WritesPiece tokens (map printed texts)
pieces_of [] [] writes = tt
pieces_of [] (text ∷ texts) writes = absurd writes
pieces_of (token ∷ tokens) [] writes = absurd writes
pieces_of (token ∷ tokens) (text ∷ texts) writes = (writes.0, pieces_of tokens texts writes.1)

texts_of : (tokens : List Token) (texts : List (List ℕ)) → AllZip WritesPiece tokens (map printed texts) → AllZip WritesToken tokens texts
texts_of [] [] writes = tt
texts_of [] (text ∷ texts) writes = absurd writes
texts_of (token ∷ tokens) [] writes = absurd writes
texts_of (token ∷ tokens) (text ∷ texts) writes = (writes.0, texts_of tokens texts writes.1)

texts_written : (tokens : List Token) (texts : List (List ℕ)) (pieces : List Piece) → pieces ≡ map printed texts → AllZip WritesPiece tokens pieces
    → AllZip WritesToken tokens texts
texts_written tokens texts pieces is writes = texts_of tokens texts (subst (λ (l : List Piece). AllZip WritesPiece tokens l) is writes)

-- one token, with others after it
one_token : (P : List Token → Type 0) (text : List ℕ) (pieces : List Piece) (front : List Token) → pieces ≡ printed text ∷ []
    → AllZip WritesPiece front pieces → ((token : Token) → WritesToken token text → P (token ∷ [])) → P front
one_token P text pieces front is writes found = by front (subst (λ (l : List Piece). AllZip WritesPiece front l) is writes)
  where
    by : (front : List Token) → AllZip WritesPiece front (printed text ∷ []) → P front
    by [] writes = absurd writes
    by (token ∷ []) writes = found token writes.0
    by (token ∷ more ∷ front) writes = absurd writes.1

one_taken : {Fits : Token → Type 0} (text : List ℕ) (pieces : List Piece) (front behind : List Token) → pieces ≡ printed text ∷ []
    → AllZip WritesPiece front pieces → ((token : Token) → WritesToken token text → Fits token) → Takes Fits (front ++ behind) behind
one_taken {Fits} text pieces front behind is writes fits =
    one_token (λ l. Takes Fits (l ++ behind) behind) text pieces front is writes
    (λ token one. record { token = token; is = refl; fits = fits token one })

word_taken : (text : List ℕ) (pieces : List Piece) (front behind : List Token) → AllByRecursion IsSafe text → pieces ≡ printed text ∷ []
    → AllZip WritesPiece front pieces → Takes (IsWord text) (front ++ behind) behind
word_taken text pieces front behind safe is writes = one_taken {Fits = IsWord text} text pieces front behind is writes (λ token one. word_token one safe)

-- all tokens, with none after them
at_end : (P : List Token → List Token → Type 0) (front behind : List Token) → behind ≡ [] → P front [] → P (front ++ behind) behind
at_end P front behind none is =
    subst (λ (l : List Token). P (front ++ l) l) (sym none) (subst (λ (l : List Token). P l []) (sym (append-nil front)) is)

-- a text in base 16 or 64
entry_of : (text : List ℕ) (tokens : List Token) → AllByRecursion IsSafe text → AllZip WritesToken tokens (one_unless_empty text)
    → IsEntry IsWord tokens text
entry_of [] [] safe writes = refl
entry_of [] (token ∷ tokens) safe writes = absurd writes
entry_of (c ∷ text) [] safe writes = absurd writes
entry_of (c ∷ text) (token ∷ []) safe writes = (c ∷ text, [], word_token writes.0 safe, refl, sym (append-nil (c ∷ text)))
entry_of (c ∷ text) (token ∷ (more ∷ tokens)) safe writes = absurd writes.1

-- the types of a bitmap
types_safe : (types : List ℕ) → ((type : ℕ) → In types type → type < 65536) → AllByRecursion IsSafeWord (map type_word_written types)
types_safe [] small = tt
types_safe (type ∷ types) small = (type_safe type (small type (inl refl)), types_safe types (λ other is. small other (inr is)))

type_texts : (types : List ℕ) → type_pieces types ≡ map printed (map type_word_written types)
type_texts [] = refl
type_texts (type ∷ types) = ap (λ (l : List Piece). printed (type_word_written type) ∷ l) (type_texts types)

type_tokens : (types : List ℕ) → map unquoted (map type_word_written types) ≡ printed_types types
type_tokens [] = refl
type_tokens (type ∷ types) = ap (λ (l : List Token). unquoted (type_word_written type) ∷ l) (type_tokens types)

pub bitmap_safe : (octets : List ℕ) → IsTypeBitmap octets → AllByRecursion IsSafeWord (map type_word_written (types_in octets))
bitmap_safe octets is =
    let parts = same_windows octets is in
    types_safe (types_in octets)
    (λ type has. (windows_from 0 parts.0 parts.1 type (subst (λ (l : List ℕ). In l type) parts.3 has)).below)

pub bitmap_texts : (octets : List ℕ) → type_pieces (types_in octets) ≡ map printed (map type_word_written (types_in octets))
bitmap_texts octets = type_texts (types_in octets)

types_back : (octets : List ℕ) (pieces : List Piece) (front : List Token) → IsTypeBitmap octets → pieces ≡ type_pieces (types_in octets)
    → AllZip WritesPiece front pieces → ScansTypes front [] octets
types_back octets pieces front is printed_as writes =
    let texts : List (List ℕ) = map type_word_written (types_in octets) in
    let written = texts_written front texts pieces (printed_as ∙ bitmap_texts octets) writes in
    let tokens : front ≡ printed_types (types_in octets) = words_bare texts front (bitmap_safe octets is) written ∙ type_tokens (types_in octets) in
    subst (λ (l : List Token). ScansTypes l [] octets) (sym tokens) (printed_scans_back octets is)

-- a hash has octets
pub hash_some : (hash : List ℕ) → string_wire hash ≢ 0 ∷ [] → 0 < length hash
hash_some [] keeps = absurd (keeps refl)
hash_some (octet ∷ hash) keeps = omega arith

-- What holds of texts and of parameters: quotes and words read back (`dns_scan::laws`), and so do parameters.
module _ (in_quotes : (text : List ℕ) → AreOctets text → SpellsOnly (between_quotes text) text)
    (in_words : (text : List ℕ) → AreOctets text → SpellsOnly (unquoted_text text) text)
    (parameters_back : (parameters : List Parameter) (tokens : List Token) → AreParameters parameters → AreOctets (octets_of parameters)
    → AllZip WritesToken tokens (map parameter_text parameters) → ScansParameters parameters tokens) where
  quoted_spells : {token : Token} (text : List ℕ) → AreOctets text → WritesToken token (quoted_text text) → Spells token.text text
  quoted_spells text are writes =
      subst (λ (t : List ℕ). Spells t text) (sym (quoted_token (between_quotes text) writes refl)) (in_quotes text are).spells

  -- a name is an unquoted token, as it is in a DNAME record, whose data is one name
  name_bare : {token : Token} (name : List (List ℕ)) → IsName name → AreOctets (wire name) → WritesToken token (printed_name name)
      → token ≡ unquoted (printed_name name)
  name_bare {token} name is are writes =
      let whole : wire name ++ [] ≡ wire name = append-nil (wire name) in
      let scans =
      data_back in_quotes in_words (λ text other. text ≡ printed_name other) 39 (uncompressed name ∷ []) (token ∷ [])
      (record { kinds = refl; each = (is, tt); short = (let few = is.short in let same = ap (length {A = ℕ}) whole in omega arith) })
      (subst AreOctets (sym whole) are) (λ other is_name small. refl) (writes, tt) in
      let first = scans.scanned.1 in
      let its : token ≡ unquoted first.0 = (let same = first.1 in cc) in
      its ∙ ap unquoted first.2

  module _ (names : List ℕ → List (List ℕ) → Type 0) (spelled : SpellPrinted names) where
    -- the tokens of the field, with others after them only where the form is not the last
    abbrev pub Back : Form → Field → Type 0
    Back form field =
        (pieces : List Piece) (front behind : List Token) → AreOctets (field_octets field) → PrintsForm form field pieces
        → AllZip WritesPiece front pieces → (is_last form ≡ true → behind ≡ []) → SpellsForm names form field (front ++ behind) behind

    number_taken : (limit n : ℕ) (pieces : List Piece) (front behind : List Token) → n < limit → limit ≤ 2 ^ 32 → pieces ≡ printed (decimal n) ∷ []
        → AllZip WritesPiece front pieces → ScansWord (number_spelled limit) (front ++ behind) n behind
    number_taken limit n pieces front behind small wide is writes = record {
      text = decimal n;
      takes = word_taken (decimal n) pieces front behind (safe_decimal n (omega arith)) is writes;
      reads_as = number_back limit n small (omega arith);
    }

    name_taken : (name : List (List ℕ)) (pieces : List Piece) (front behind : List Token) → IsName name → AreOctets (wire name)
        → pieces ≡ printed (printed_name name) ∷ [] → AllZip WritesPiece front pieces → TakesName names name (front ++ behind) behind
    name_taken name pieces front behind is are printed_as writes =
        one_token (λ l. TakesName names name (l ++ behind) behind) (printed_name name) pieces front printed_as writes
        (λ token one. (
          printed_name name,
          (let same = name_bare name is are one in λ i. same i ∷ behind),
          spelled name is (wire_octets name are),
        ))

    rest_entry : (text : List ℕ) (pieces : List Piece) (front : List Token) → AllByRecursion IsSafe text
        → pieces ≡ map printed (one_unless_empty text) → AllZip WritesPiece front pieces → IsEntry IsWord front text
    rest_entry text pieces front safe is writes = entry_of text front safe (texts_written front (one_unless_empty text) pieces is writes)

    address_taken : (count : ℕ) (text : List ℕ) (pieces : List Piece) (front behind : List Token) → AreOctets text → length text ≡ count → 0 < count
        → pieces ≡ printed (hardware_written text) ∷ [] → AllZip WritesPiece front pieces
        → (word : List ℕ) × Takes (IsWord word) (front ++ behind) behind × IsHardwareText count word text
    address_taken count text pieces front behind are long some is writes = (
      hardware_written text,
      word_taken (hardware_written text) pieces front behind (hardware_safe text are (omega arith)).each is writes,
      subst (λ n. IsHardwareText n (hardware_written text) text) long (hardware_reads_back text are),
    )

    pub form_back : (form : Form) (field : Field) → IsFieldOf form field → HasRest form field → Back form field
    form_back Number8 field is some =
        of_number8 (λ f. IsFieldOf Number8 f → Back Number8 f) field
        (λ n is pieces front behind are prints writes last. number_taken (2 ^ 8) n pieces front behind is.is_field (omega arith) prints writes) is.kind is
    form_back Number16 field is some =
        of_number16 (λ f. IsFieldOf Number16 f → Back Number16 f) field
        (λ n is pieces front behind are prints writes last. number_taken (2 ^ 16) n pieces front behind is.is_field (omega arith) prints writes) is.kind is
    form_back Number32 field is some =
        of_number32 (λ f. IsFieldOf Number32 f → Back Number32 f) field
        (λ n is pieces front behind are prints writes last. number_taken (2 ^ 32) n pieces front behind is.is_field (omega arith) prints writes) is.kind is
    form_back Name field is some =
        of_uncompressed (λ f. IsFieldOf Name f → Back Name f) field
        (λ name is pieces front behind are prints writes last. name_taken name pieces front behind is.is_field are prints writes) is.kind is
    form_back CasedName field is some =
        of_uncompressed (λ f. IsFieldOf CasedName f → Back CasedName f) field
        (λ name is pieces front behind are prints writes last. name_taken name pieces front behind is.is_field are prints writes) is.kind is
    form_back String field is some =
        of_string (λ f. IsFieldOf String f → Back String f) field
        (λ text is pieces front behind are prints writes last.
        one_taken {Fits = SpellsString text} (quoted_text text) pieces front behind prints writes
        (λ token one. record { spells = quoted_spells text are.1 one; short = is.is_field })) is.kind is
    form_back RestText field is some =
        of_rest_text (λ f. IsFieldOf RestText f → Back RestText f) field
        (λ text is pieces front behind are prints writes last.
        one_taken {Fits = SpellsOctets text} (quoted_text text) pieces front behind prints writes (λ token one. quoted_spells text are one)) is.kind is
    form_back Rest16 field is some =
        of_rest16 (λ f. IsFieldOf Rest16 f → HasRest Rest16 f → Back Rest16 f) field
        (λ text is some pieces front behind are prints writes last.
        at_end (λ l left. SpellsForm names Rest16 (rest16 text) l left) front behind (last refl) (
          (
            encoded_16 text,
            rest_entry (encoded_16 text) pieces front (safe_16 text are) prints writes,
            (text_decodes_only Sixteen text are).decodes,
            refl,
          ),
          some,
        )) is.kind is some
    form_back Rest64 field is some =
        of_rest64 (λ f. IsFieldOf Rest64 f → HasRest Rest64 f → Back Rest64 f) field
        (λ text is some pieces front behind are prints writes last.
        at_end (λ l left. SpellsForm names Rest64 (rest64 text) l left) front behind (last refl) (
          (
            encoded_64 text,
            rest_entry (encoded_64 text) pieces front (safe_64 text are) prints writes,
            (text_decodes_only SixtyFour text are).decodes,
            refl,
          ),
          some,
        )) is.kind is some
    form_back RtypeForm field is some =
        of_number16 (λ f. IsFieldOf RtypeForm f → Back RtypeForm f) field
        (λ n is pieces front behind are prints writes last.
        let small = is.is_field in
        let few : n < 65536 = omega arith in
        record {
          text = type_word_written n;
          takes = word_taken (type_word_written n) pieces front behind (type_safe n few).each prints writes;
          reads_as = type_word_reads_back n few;
        }) is.kind is
    form_back Algorithm field is some =
        of_number8 (λ f. IsFieldOf Algorithm f → Back Algorithm f) field
        (λ n is pieces front behind are prints writes last.
        let small = is.is_field in
        record {
          text = decimal n;
          takes = word_taken (decimal n) pieces front behind (safe_decimal n (omega arith)) prints writes;
          reads_as = algorithm_reads_back n small;
        }) is.kind is
    form_back CertificateType field is some =
        of_number16 (λ f. IsFieldOf CertificateType f → Back CertificateType f) field
        (λ n is pieces front behind are prints writes last.
        let small = is.is_field in
        record {
          text = decimal n;
          takes = word_taken (decimal n) pieces front behind (safe_decimal n (omega arith)) prints writes;
          reads_as = certificate_type_reads_back n small;
        }) is.kind is
    form_back Time field is some =
        of_number32 (λ f. IsFieldOf Time f → Back Time f) field
        (λ n is pieces front behind are prints writes last.
        record {
          text = time_written n;
          takes = word_taken (time_written n) pieces front behind (time_safe n is.is_field).each prints writes;
          reads_as = time_reads_back n is.is_field;
        }) is.kind is
    form_back Salt field is some =
        of_string (λ f. IsFieldOf Salt f → Back Salt f) field
        (λ text is pieces front behind are prints writes last. (
          salt_written text,
          word_taken (salt_written text) pieces front behind (salt_safe text are.1).each prints writes,
          salt_reads_back text are.1 is.is_field,
        )) is.kind is
    form_back Hash field is some =
        of_string (λ f. IsFieldOf Hash f → Back Hash f) field
        (λ text is pieces front behind are prints writes last.
        let some = hash_some text is.keeps in (
          hash_written text,
          word_taken (hash_written text) pieces front behind (hash_safe text are.1 some).each prints writes,
          hash_reads_back text are.1 (record { some = some; few = is.is_field }),
        )) is.kind is
    form_back Types field is some =
        of_rest16 (λ f. IsFieldOf Types f → Back Types f) field
        (λ text is pieces front behind are prints writes last.
        at_end (λ l left. ScansTypes l left text) front behind (last refl) (types_back text pieces front is.keeps prints writes)) is.kind is
    form_back Parameters field is some =
        of_rest16 (λ f. IsFieldOf Parameters f → Back Parameters f) field
        (λ text is pieces front behind are prints writes last.
        at_end (λ l left. SpellsForm names Parameters (rest16 text) l left) front behind (last refl) (
          prints.0,
          parameters_back prints.0 front prints.1 (subst AreOctets prints.2 are) (texts_written front (map parameter_text prints.0) pieces prints.3 writes),
          prints.2,
          refl,
        )) is.kind is
    form_back LocationForm field is some =
        of_rest16 (λ f. IsFieldOf LocationForm f → Back LocationForm f) field
        (λ text is pieces front behind are prints writes last.
        let words : List (List ℕ) = location_words prints.0 in
        let tokens : front ≡ map unquoted words =
        words_bare words front (location_safe prints.0 prints.1) (texts_written front words pieces prints.3 writes) in
        at_end (λ l left. SpellsForm names LocationForm (rest16 text) l left) front behind (last refl) (
          prints.0,
          subst (λ (l : List Token). ScansLocation prints.0 l) (sym tokens) (printed_scans prints.0 prints.1),
          prints.2,
          refl,
        )) is.kind is
    form_back Eui48 field is some =
        of_rest16 (λ f. IsFieldOf Eui48 f → Back Eui48 f) field
        (λ text is pieces front behind are prints writes last. address_taken 6 text pieces front behind are is.keeps (omega arith) prints writes) is.kind is
    form_back Eui64 field is some =
        of_rest16 (λ f. IsFieldOf Eui64 f → Back Eui64 f) field
        (λ text is pieces front behind are prints writes last. address_taken 8 text pieces front behind are is.keeps (omega arith) prints writes) is.kind is
