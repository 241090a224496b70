-- How data of a further type is printed, as a function of its octets.
use Rattle.std.specs.Prelude.{◌/◌, ◌%◌, ℕ, zero, suc, List, [], ◌∷◌, ◌++◌, length, map, take, drop, slice_index}
use Rattle.std.specs.Int.{from_be_bytes, w16, w32}
use Rattle.dns_text.specs.Document.{Piece}
use Rattle.dns_text.specs.Document.Piece.{Token as printed}
use Rattle.dns_text.specs.Documents.{block_of}
use Rattle.dns_fields.specs.Fields.{Field, number16, number32, string, rest16}
use Rattle.dns_fields.specs.Shown.{field_tokens}
use Rattle.dns_field_texts.specs.TypeWords.{type_word_written}
use Rattle.dns_field_texts.specs.Time.{time_written}
use Rattle.dns_field_texts.specs.HashWords.{salt_written, hash_written}
use Rattle.dns_field_texts.specs.Hardware.{hardware_written}
use Rattle.dns_field_texts.specs.TypeBitmap.{types_in}
use Rattle.dns_service_parameters.specs.Service.{Parameter}
use Rattle.dns_service_parameters.specs.ServiceParts.{read_parameter}
use Rattle.dns_service_parameters.specs.ServiceText.{parameter_text}
use Rattle.dns_field_texts.specs.Location.{Location, Precision}
use Rattle.dns_field_texts.specs.LocationText.{location_words}
use Rattle.dns_fields_more.specs.declared.form.Form.{Form}
use Rattle.dns_fields_more.specs.declared.form.Form.TheVariants.{Rtype as RtypeForm, Time, Salt, Hash, Types, Parameters, Location as LocationForm, Eui48, Eui64}
use Rattle.dns_rdata_more.specs.FurtherData.{forms_or_none, row_read}

-- the parameters of the octets, of which there are at most so many
abbrev pub parameters_up_to : ℕ → List ℕ → List Parameter
parameters_up_to zero octets = []
parameters_up_to (suc more) (a ∷ b ∷ c ∷ d ∷ octets) =
    read_parameter (from_be_bytes w16 (a ∷ b ∷ [])) (take (from_be_bytes w16 (c ∷ d ∷ [])) octets)
    ∷ parameters_up_to more (drop (from_be_bytes w16 (c ∷ d ∷ [])) octets)
parameters_up_to (suc more) octets = []

abbrev pub parameters_read : List ℕ → List Parameter
parameters_read octets = parameters_up_to (length octets) octets

-- the location of its sixteen octets
abbrev pub precision_read : ℕ → Precision
precision_read octet = record { mantissa = octet / 16; power = octet % 16 }

abbrev pub location_read : List ℕ → Location
location_read octets = record {
  size = precision_read (slice_index octets 1);
  horizontal = precision_read (slice_index octets 2);
  vertical = precision_read (slice_index octets 3);
  latitude = from_be_bytes w32 (take 4 (drop 4 octets));
  longitude = from_be_bytes w32 (take 4 (drop 8 octets));
  altitude = from_be_bytes w32 (take 4 (drop 12 octets));
}

-- The texts of the tokens that a field of the form is printed as. A field of any other form is printed as one of its kind.
abbrev pub form_tokens : Form → Field → List (List ℕ)
form_tokens RtypeForm (number16 n) = type_word_written n ∷ []
form_tokens Time (number32 n) = time_written n ∷ []
form_tokens Salt (string octets) = salt_written octets ∷ []
form_tokens Hash (string octets) = hash_written octets ∷ []
form_tokens Types (rest16 octets) = map type_word_written (types_in octets)
form_tokens Parameters (rest16 octets) = map parameter_text (parameters_read octets)
form_tokens LocationForm (rest16 octets) = location_words (location_read octets)
form_tokens Eui48 (rest16 octets) = hardware_written octets ∷ []
form_tokens Eui64 (rest16 octets) = hardware_written octets ∷ []
form_tokens form field = field_tokens field

abbrev pub forms_tokens : List Form → List Field → List (List ℕ)
forms_tokens [] row = []
forms_tokens (form ∷ forms) [] = []
forms_tokens (form ∷ forms) (field ∷ row) = form_tokens form field ++ forms_tokens forms row

-- the texts of the tokens that data of the type is printed as
unfoldable pub further_tokens : ℕ → List ℕ → List (List ℕ)
further_tokens rtype data' = forms_tokens (forms_or_none rtype) (row_read rtype data')

-- the document of data of the type: these tokens in a block
unfoldable pub further_document : ℕ → List ℕ → List Piece
further_document rtype data' = block_of (map printed (further_tokens rtype data'))
