-- Fields that are scanned, and appended to octets.
use Rattle.std.proofs.Common.{◌≡◌, ◌≤◌, ◌++◌, ◌∙◌, [], ℕ, List, length, ap, refl, sym, length-append, arith, inl, inr, subst}
use Rattle.std.specs.Prelude.{Bool, false, None, Result, Ok, Err, IfErr, OnOk}
use Rattle.std.specs.Str.{chars}
use Rattle.std.proofs.lemmas.List.{nil_from_length}
use Rattle.dns_scan.specs.Encodings.{Decodes16, Decodes64}
use Rattle.dns_scan.specs.declared.encoding.base.Base.TheVariants.{Sixteen, SixtyFour}
use Rattle.dns_scan.specs.Token.{Token, IsEntry, IsWord, Takes}
use Rattle.dns_entry_scanner.specs.AppendedName.{AppendsName, SpellsNoName}
use Rattle.dns_entry_scanner.specs.AppendedString.{AppendsString, AppendsText}
use Rattle.dns_fields.specs.Fields.{Field, field_octets, string, uncompressed, rest_text, rest16, rest64}
use Rattle.dns_fields.proofs.FieldKinds.{of_number8, of_number16, of_number32, of_uncompressed, of_string, of_rest16, of_rest64}
use Rattle.dns_fields.proofs.ScannedOnce.{decoded_one}
use Rattle.dns_field_texts.specs.Appended.{Appends, AppendsCounted}
use Rattle.dns_field_texts.specs.AppendedBase64.{AppendsBase64}
use Rattle.dns_field_texts.specs.HashWords.{IsHashWord, IsSaltWord}
use Rattle.dns_field_texts.specs.Hardware.{IsHardwareText}
use Rattle.dns_field_texts.specs.NumberedWords.{algorithm_read, certificate_type_read}
use Rattle.dns_field_texts.specs.Time.{time_read}
use Rattle.dns_field_texts.specs.TypeWords.{type_word_read}
use Rattle.dns_field_texts.specs.TypeBitmap.{AppendsTypes, SpellsNoTypes}
use Rattle.dns_service_parameters.specs.Service.{Parameter, octets_of}
use Rattle.dns_service_parameters.specs.ServiceText.{AppendsParameters, ScansParameters}
use Rattle.dns_field_texts.proofs.LocationRead.{scans_location_is}
use Rattle.dns_field_texts.specs.Location.{Location, location_octets}
use Rattle.dns_field_texts.specs.LocationText.{AppendsLocation, ScansLocation}
use Rattle.dns_fields_more.specs.Text.{AppendsForm, NoFormScans, ScansForm}
use Rattle.dns_fields_more.specs.declared.form.Form.{Form}
use Rattle.dns_fields_more.specs.declared.form.Form.TheVariants.{Name, CasedName, String, RestText, Rest16, Rest64, Rtype as RtypeForm, Algorithm, CertificateType, Time, Salt, Hash, Types, Parameters, Location as LocationForm, Eui48, Eui64}

pub scanned : {T E : Type 0} {names : List ℕ → List (List ℕ) → Type 0} {form : Form} {tokens left : List Token} (old new more : List ℕ) (field : Field)
    → ScansForm names form field tokens left → more ≡ field_octets field → (result : Result T E) → OnOk result (new ≡ old ++ more)
    → OnOk result (AppendsForm names form tokens left old new)
scanned old new more field scans same (Ok value) behind =
    record { field = field; scans = scans; behind = behind ∙ ap (λ l. old ++ l) same }
scanned old new more field scans same (Err error) behind = tt

-- the same, if there are octets
pub some_scanned : {T E : Type 0} {names : List ℕ → List (List ℕ) → Type 0} {form : Form} {tokens left : List Token} (old new more : List ℕ) (field : Field)
    → ((more ≡ [] → ⊥) → ScansForm names form field tokens left) → more ≡ field_octets field → (result : Result T E)
    → OnOk result ((more ≡ [] → ⊥) × (new ≡ old ++ more)) → OnOk result (AppendsForm names form tokens left old new)
some_scanned old new more field scans same (Ok value) behind =
    record { field = field; scans = scans behind.0; behind = behind.1 ∙ ap (λ l. old ++ l) same }
some_scanned old new more field scans same (Err error) behind = tt

-- what fails without octets
pub if_empty : {T E P : Type 0} {more : List ℕ} (is_short : E → Bool) → (more ≡ [] → P) → (result : Result T E)
    → IfErr result (λ error. is_short error ≡ false → more ≡ []) → IfErr result (λ error. is_short error ≡ false → P)
if_empty is_short so (Ok value) none = tt
if_empty is_short so (Err error) none = λ long. so (none long)

module _ {names : List ℕ → List (List ℕ) → Type 0} {tokens : List Token} where
  pub no_rest16 : ((text octets : List ℕ) → IsEntry IsWord tokens text → Decodes16 (chars text) octets → ⊥) → NoFormScans names Rest16 tokens
  no_rest16 none field left scans =
      of_rest16 (λ f. ScansForm names Rest16 f tokens left → ⊥) field (λ octets s. none s.spelled.0.0 octets s.spelled.0.1 s.spelled.0.2) scans.is.kind scans

  pub no_rest64 : ((text octets : List ℕ) → IsEntry IsWord tokens text → Decodes64 (chars text) octets → ⊥) → NoFormScans names Rest64 tokens
  no_rest64 none field left scans =
      of_rest64 (λ f. ScansForm names Rest64 f tokens left → ⊥) field (λ octets s. none s.spelled.0.0 octets s.spelled.0.1 s.spelled.0.2) scans.is.kind scans

  -- what decodes as no octets is no rest
  pub empty_rest16 : (text octets : List ℕ) → IsEntry IsWord tokens text → Decodes16 (chars text) octets → octets ≡ [] → NoFormScans names Rest16 tokens
  empty_rest16 text octets is decodes none field left scans =
      of_rest16 (λ f. ScansForm names Rest16 f tokens left → ⊥) field
      (λ others s. s.spelled.1 (decoded_one Sixteen tokens s.spelled.0.0 text others octets s.spelled.0.1 s.spelled.0.2 is decodes ∙ none)) scans.is.kind scans

  pub empty_rest64 : (text octets : List ℕ) → IsEntry IsWord tokens text → Decodes64 (chars text) octets → octets ≡ [] → NoFormScans names Rest64 tokens
  empty_rest64 text octets is decodes none field left scans =
      of_rest64 (λ f. ScansForm names Rest64 f tokens left → ⊥) field
      (λ others s. s.spelled.1 (decoded_one SixtyFour tokens s.spelled.0.0 text others octets s.spelled.0.1 s.spelled.0.2 is decodes ∙ none)) scans.is.kind scans

  -- octets that were scanned in base 64 are a rest if there are any
  pub base64_scanned : {left : List Token} {old new : List ℕ} → AppendsBase64 tokens left old new → (length new ≡ length old → ⊥)
      → AppendsForm names Rest64 tokens left old new
  base64_scanned {old = old} appends some = record {
    field = rest64 appends.octets;
    scans = record {
      is = record { kind = refl; is_field = tt; keeps = tt };
      spelled = (
        (appends.text, appends.entry, appends.decodes, appends.none),
        λ none. some (omega (arith, ap (length {A = ℕ}) appends.behind, length-append old appends.octets, ap (length {A = ℕ}) none)),
      );
    };
    behind = appends.behind;
  }

  pub empty_base64 : {left : List Token} {old new : List ℕ} → AppendsBase64 tokens left old new → length new ≡ length old
      → NoFormScans names Rest64 tokens
  empty_base64 {old = old} appends same =
      let count : length appends.octets ≡ 0 = omega (arith, same, ap (length {A = ℕ}) appends.behind, length-append old appends.octets) in
      empty_rest64 appends.text appends.octets appends.entry appends.decodes (nil_from_length appends.octets count)

  pub no_rtype : ((text : List ℕ) (left : List Token) → Takes (IsWord text) tokens left → None ≡ type_word_read text) → NoFormScans names RtypeForm tokens
  no_rtype none field left scans =
      of_number16 (λ f. ScansForm names RtypeForm f tokens left → ⊥) field
      (λ n s. let read = none s.spelled.text left s.spelled.takes ∙ s.spelled.reads_as in absurd (cc)) scans.is.kind scans

  pub no_algorithm : ((text : List ℕ) (left : List Token) → Takes (IsWord text) tokens left → None ≡ algorithm_read text) → NoFormScans names Algorithm tokens
  no_algorithm none field left scans =
      of_number8 (λ f. ScansForm names Algorithm f tokens left → ⊥) field
      (λ n s. let read = none s.spelled.text left s.spelled.takes ∙ s.spelled.reads_as in absurd (cc)) scans.is.kind scans

  pub no_certificate_type : ((text : List ℕ) (left : List Token) → Takes (IsWord text) tokens left → None ≡ certificate_type_read text)
      → NoFormScans names CertificateType tokens
  no_certificate_type none field left scans =
      of_number16 (λ f. ScansForm names CertificateType f tokens left → ⊥) field
      (λ n s. let read = none s.spelled.text left s.spelled.takes ∙ s.spelled.reads_as in absurd (cc)) scans.is.kind scans

  pub no_time : ((text : List ℕ) (left : List Token) → Takes (IsWord text) tokens left → None ≡ time_read text) → NoFormScans names Time tokens
  no_time none field left scans =
      of_number32 (λ f. ScansForm names Time f tokens left → ⊥) field
      (λ n s. let read = none s.spelled.text left s.spelled.takes ∙ s.spelled.reads_as in absurd (cc)) scans.is.kind scans

  -- words of salts, hashes and hardware addresses
  pub no_salt : ((text : List ℕ) (left : List Token) → Takes (IsWord text) tokens left → ⊥) → NoFormScans names Salt tokens
  no_salt none field left scans =
      of_string (λ f. ScansForm names Salt f tokens left → ⊥) field (λ octets s. none s.spelled.0 left s.spelled.1) scans.is.kind scans

  pub no_hash : ((text : List ℕ) (left : List Token) → Takes (IsWord text) tokens left → ⊥) → NoFormScans names Hash tokens
  no_hash none field left scans =
      of_string (λ f. ScansForm names Hash f tokens left → ⊥) field (λ octets s. none s.spelled.0 left s.spelled.1) scans.is.kind scans

  pub no_eui48 : ((text : List ℕ) (left : List Token) → Takes (IsWord text) tokens left → ⊥) → NoFormScans names Eui48 tokens
  no_eui48 none field left scans =
      of_rest16 (λ f. ScansForm names Eui48 f tokens left → ⊥) field (λ octets s. none s.spelled.0 left s.spelled.1) scans.is.kind scans

  pub no_eui64 : ((text : List ℕ) (left : List Token) → Takes (IsWord text) tokens left → ⊥) → NoFormScans names Eui64 tokens
  no_eui64 none field left scans =
      of_rest16 (λ f. ScansForm names Eui64 f tokens left → ⊥) field (λ octets s. none s.spelled.0 left s.spelled.1) scans.is.kind scans

salt_short : (text salt : List ℕ) → IsSaltWord text salt → length salt ≤ 255
salt_short text salt (inl none) = omega (arith, ap (length {A = ℕ}) none.none)
salt_short text salt (inr word) = word.countable.few

module _ {names : List ℕ → List (List ℕ) → Type 0} {tokens left : List Token} {old new text : List ℕ} (takes : Takes (IsWord text) tokens left) where
  pub salt_scanned : AppendsCounted (IsSaltWord text) old new → AppendsForm names Salt tokens left old new
  salt_scanned appends = record {
    field = string appends.octets;
    scans = record {
      is = record { kind = refl; is_field = salt_short text appends.octets appends.are; keeps = tt };
      spelled = (text, takes, appends.are);
    };
    behind = appends.behind;
  }

  pub hash_scanned : AppendsCounted (IsHashWord text) old new → AppendsForm names Hash tokens left old new
  hash_scanned appends = record {
    field = string appends.octets;
    scans = record {
      is = record {
        kind = refl;
        is_field = appends.are.countable.few;
        keeps = λ same. let none : length appends.octets ≡ 0 = (let same = same in cc) in omega (arith, none, appends.are.countable.some);
      };
      spelled = (text, takes, appends.are);
    };
    behind = appends.behind;
  }

  pub eui48_scanned : Appends (IsHardwareText 6 text) old new → AppendsForm names Eui48 tokens left old new
  eui48_scanned appends = record {
    field = rest16 appends.octets;
    scans = record { is = record { kind = refl; is_field = tt; keeps = appends.are.long }; spelled = (text, takes, appends.are) };
    behind = appends.behind;
  }

  pub eui64_scanned : Appends (IsHardwareText 8 text) old new → AppendsForm names Eui64 tokens left old new
  eui64_scanned appends = record {
    field = rest16 appends.octets;
    scans = record { is = record { kind = refl; is_field = tt; keeps = appends.are.long }; spelled = (text, takes, appends.are) };
    behind = appends.behind;
  }

module _ {names : List ℕ → List (List ℕ) → Type 0} {tokens left : List Token} {old new : List ℕ} where
  pub lowered_scanned : AppendsName names tokens left old new → AppendsForm names Name tokens left old new
  lowered_scanned appends = record {
    field = uncompressed appends.name;
    scans = record { is = record { kind = refl; is_field = appends.is_name; keeps = tt }; spelled = (appends.text, appends.is, appends.spells) };
    behind = appends.behind;
  }

  pub cased_scanned : AppendsName names tokens left old new → AppendsForm names CasedName tokens left old new
  cased_scanned appends = record {
    field = uncompressed appends.name;
    scans = record { is = record { kind = refl; is_field = appends.is_name; keeps = tt }; spelled = (appends.text, appends.is, appends.spells) };
    behind = appends.behind;
  }

  pub string_scanned : AppendsString tokens left old new → AppendsForm names String tokens left old new
  string_scanned appends = record {
    field = string appends.string;
    scans = record { is = record { kind = refl; is_field = appends.takes.fits.short; keeps = tt }; spelled = appends.takes };
    behind = appends.behind;
  }

  pub text_scanned : AppendsText tokens left old new → AppendsForm names RestText tokens left old new
  text_scanned appends = record {
    field = rest_text appends.octets;
    scans = record { is = record { kind = refl; is_field = tt; keeps = tt }; spelled = appends.takes };
    behind = appends.behind;
  }

  pub types_scanned : AppendsTypes tokens left old new → AppendsForm names Types tokens left old new
  types_scanned appends = record {
    field = rest16 appends.octets;
    scans = record { is = record { kind = refl; is_field = tt; keeps = appends.scans.bitmap.bitmap }; spelled = appends.scans };
    behind = appends.behind;
  }

  pub parameters_scanned : AppendsParameters tokens left old new → AppendsForm names Parameters tokens left old new
  parameters_scanned appends = record {
    field = rest16 (octets_of appends.parameters);
    scans = record {
      is = record {
        kind = refl;
        is_field = tt;
        keeps = record { parameters = appends.parameters; are = appends.scans.are; written = refl };
      };
      spelled = (appends.parameters, appends.scans, refl, appends.none);
    };
    behind = appends.behind;
  }

  pub location_scanned : AppendsLocation tokens left old new → AppendsForm names LocationForm tokens left old new
  location_scanned appends = record {
    field = rest16 (location_octets appends.location);
    scans = record {
      is = record {
        kind = refl;
        is_field = tt;
        keeps = record { location = appends.location; is = scans_location_is appends.scans; written = refl };
      };
      spelled = (appends.location, appends.scans, refl, appends.none);
    };
    behind = appends.behind;
  }

module _ {names : List ℕ → List (List ℕ) → Type 0} {tokens : List Token} where
  pub no_lowered : SpellsNoName names tokens → NoFormScans names Name tokens
  no_lowered none field left scans =
      of_uncompressed (λ f. ScansForm names Name f tokens left → ⊥) field (λ name s. none s.spelled.0 left name s.spelled.1 s.spelled.2) scans.is.kind scans

  pub no_cased : SpellsNoName names tokens → NoFormScans names CasedName tokens
  no_cased none field left scans =
      of_uncompressed (λ f. ScansForm names CasedName f tokens left → ⊥) field (λ name s. none s.spelled.0 left name s.spelled.1 s.spelled.2) scans.is.kind scans

  pub no_types : SpellsNoTypes tokens → NoFormScans names Types tokens
  no_types none field left scans =
      of_rest16 (λ f. ScansForm names Types f tokens left → ⊥) field (λ octets s. none s.spelled.types s.spelled.spelled) scans.is.kind scans

  pub no_parameters : ((parameters : List Parameter) → ScansParameters parameters tokens → ⊥) → NoFormScans names Parameters tokens
  no_parameters none field left scans =
      of_rest16 (λ f. ScansForm names Parameters f tokens left → ⊥) field (λ octets s. none s.spelled.0 s.spelled.1) scans.is.kind scans

  pub no_location : ((location : Location) → ScansLocation location tokens → ⊥) → NoFormScans names LocationForm tokens
  no_location none field left scans =
      of_rest16 (λ f. ScansForm names LocationForm f tokens left → ⊥) field (λ octets s. none s.spelled.0 s.spelled.1) scans.is.kind scans

-- the first word is one
same_word : {tokens left behind : List Token} {text other : List ℕ} → Takes (IsWord text) tokens left → Takes (IsWord other) tokens behind
    → other ≡ text
same_word takes also =
    let first : takes.token ≡ also.token = (let both = sym takes.is ∙ also.is in cc) in
    ap (λ token. token.text) (sym also.fits.0 ∙ sym first ∙ takes.fits.0)

-- a word that is of no hardware address
module _ {names : List ℕ → List (List ℕ) → Type 0} {tokens left : List Token} {text : List ℕ} (takes : Takes (IsWord text) tokens left) where
  pub no_eui48_word : ((address : List ℕ) → IsHardwareText 6 text address → ⊥) → NoFormScans names Eui48 tokens
  no_eui48_word none field behind scans =
      of_rest16 (λ f. ScansForm names Eui48 f tokens behind → ⊥) field
      (λ octets s. none octets (subst (λ t. IsHardwareText 6 t octets) (same_word takes s.spelled.1) s.spelled.2)) scans.is.kind scans

  pub no_eui64_word : ((address : List ℕ) → IsHardwareText 8 text address → ⊥) → NoFormScans names Eui64 tokens
  no_eui64_word none field behind scans =
      of_rest16 (λ f. ScansForm names Eui64 f tokens behind → ⊥) field
      (λ octets s. none octets (subst (λ t. IsHardwareText 8 t octets) (same_word takes s.spelled.1) s.spelled.2)) scans.is.kind scans
