-- Tokens are scanned as one row of given kinds at most, and leave the same tokens, where a text is one name at most.
use Rattle.std.proofs.Common.{◌≡◌, ℕ, List, [], ◌∷◌, ◌++◌, map, Option, Some, refl, sym, ◌∙◌, ap, subst}
use Rattle.std.specs.Str.{chars}
use Rattle.std.specs.Net.Addr.{octets_of, ipv4_octets, ipv6_segments}
use Rattle.std.specs.Net.Grammar.{IsDotted, IsColonHex}
use Rattle.std.proofs.NetLemmas.Theorems.{IsIpv4Text_unique, IsIpv6Text_unique}
use Rattle.dns_scan.specs.declared.encoding.base.Base.{Base}
use Rattle.dns_scan.specs.declared.encoding.base.Base.TheVariants.{Sixteen, SixtyFour}
use Rattle.dns_scan.specs.Base.{Decodes}
use Rattle.dns_scan.specs.Scans.{ScansWord}
use Rattle.dns_scan.specs.Token.{Token, Takes, IsWord, IsEntry, SpellsOctets, SpellsString, unquoted}
use Rattle.dns_scan.proofs.Encodings.{decodes_one}
use Rattle.dns_scan.proofs.TextsBack.{spells_one}
use Rattle.dns_fields.specs.Fields.{Field, number8, number16, number32, ipv4, ipv6, compressible, uncompressed, string, strings, tag, rest_text, rest16, rest64, kind_of}
use Rattle.dns_fields.specs.Scanned.{TakesName, AreStrings, ScansField, ScansRow, ScansData}
use Rattle.dns_fields.specs.SpelledNames.{SpellOne}
use Rattle.dns_fields.proofs.FieldKinds.{of_number8, of_number16, of_number32, of_ipv4, of_ipv6, of_compressible, of_uncompressed, of_string, of_strings, of_tag, of_rest_text, of_rest16, of_rest64}
use Rattle.dns_fields.proofs.ScanParts.{left_behind, leaves}

-- the first token
module _ {tokens left rest : List Token} where
  same_token : {Fits Also : Token → Type 0} (takes : Takes Fits tokens left) (also : Takes Also tokens rest) → takes.token ≡ also.token
  same_token takes also = let both : takes.token ∷ left ≡ also.token ∷ rest = sym takes.is ∙ also.is in cc

  pub left_one : {Fits Also : Token → Type 0} → Takes Fits tokens left → Takes Also tokens rest → left ≡ rest
  left_one takes also = let both : takes.token ∷ left ≡ also.token ∷ rest = sym takes.is ∙ also.is in cc

  word_one : {text other : List ℕ} → Takes (IsWord text) tokens left → Takes (IsWord other) tokens rest → text ≡ other
  word_one takes also = ap (λ (t : Token). t.text) (sym takes.fits.0 ∙ same_token takes also ∙ also.fits.0)

  scanned_one : {V : Type 0} {reads : List ℕ → Option V} {value other : V} → ScansWord reads tokens value left
      → ScansWord reads tokens other rest → ◌≡◌ {A = Option V} (Some value) (Some other)
  scanned_one {reads = reads} scans also = sym scans.reads_as ∙ ap reads (word_one scans.takes also.takes) ∙ also.reads_as

  number_one : {reads : List ℕ → Option ℕ} {n m : ℕ} → ScansWord reads tokens n left → ScansWord reads tokens m rest → n ≡ m
  number_one scans also = let both = scanned_one scans also in cc

  dotted_one : {text other octets others : List ℕ} → Takes (IsWord text) tokens left → IsDotted text octets → Takes (IsWord other) tokens rest
      → IsDotted other others → octets ≡ others
  dotted_one {text} {octets = octets} {others} takes is also are =
      let same = word_one takes also in
      ap ipv4_octets (IsIpv4Text_unique text (record { octets = octets }) (record { octets = others }) is
      (subst (λ (t : List ℕ). IsDotted t others) (sym same) are))

  colons_one : {text other segments others : List ℕ} → Takes (IsWord text) tokens left → IsColonHex text segments
      → Takes (IsWord other) tokens rest → IsColonHex other others → segments ≡ others
  colons_one {text} {segments = segments} {others} takes is also are =
      let same = word_one takes also in
      ap ipv6_segments (IsIpv6Text_unique text (record { segments = segments }) (record { segments = others }) is
      (subst (λ (t : List ℕ). IsColonHex t others) (sym same) are))

  string_one : {octets others : List ℕ} → Takes (SpellsString octets) tokens left → Takes (SpellsString others) tokens rest → octets ≡ others
  string_one {octets} {others} takes also =
      spells_one takes.token.text others octets
      (subst (λ (t : Token). SpellsOctets others t) (sym (same_token takes also)) also.fits.spells) takes.fits.spells

  octets_one : {octets others : List ℕ} → Takes (SpellsOctets octets) tokens left → Takes (SpellsOctets others) tokens rest → octets ≡ others
  octets_one {octets} {others} takes also =
      spells_one takes.token.text others octets
      (subst (λ (t : Token). SpellsOctets others t) (sym (same_token takes also)) also.fits) takes.fits

  name_one : {names : List ℕ → List (List ℕ) → Type 0} {name other : List (List ℕ)} → SpellOne names → TakesName names name tokens left
      → TakesName names other tokens rest → name ≡ other
  name_one {names} {name} {other} one takes also =
      let both : unquoted takes.0 ∷ left ≡ unquoted also.0 ∷ rest = sym takes.1 ∙ also.1 in
      let token : unquoted takes.0 ≡ unquoted also.0 = cc in
      let same = ap (λ (t : Token). t.text) token in
      one takes.0 name other takes.2 (subst (λ (t : List ℕ). names t other) (sym same) also.2)

-- all tokens
pub words_one : (tokens : List Token) (text other : List ℕ) → IsEntry IsWord tokens text → IsEntry IsWord tokens other → text ≡ other
words_one [] text other is also = is ∙ sym also
words_one (token ∷ tokens) text other is also =
    let first : is.0 ≡ also.0 = ap (λ (t : Token). t.text) (sym is.2.0 ∙ also.2.0) in
    let more = words_one tokens is.1 also.1 is.3 also.3 in
    is.4 ∙ (λ i. first i ++ more i) ∙ sym also.4

pub decoded_one : (base : Base) (tokens : List Token) (text other octets others : List ℕ) → IsEntry IsWord tokens text
    → Decodes base (chars text) octets → IsEntry IsWord tokens other → Decodes base (chars other) others → octets ≡ others
decoded_one base tokens text other octets others is decodes also decodes' =
    decodes_one base (chars text) others octets
    (subst (λ (t : List ℕ). Decodes base (chars t) others) (sym (words_one tokens text other is also)) decodes') decodes

each_one : (tokens : List Token) (each others : List (List ℕ)) → AreStrings tokens each → AreStrings tokens others → each ≡ others
each_one [] [] [] are also = refl
each_one [] [] (other ∷ others) are also = absurd also
each_one [] (octets ∷ each) others are also = absurd are
each_one (token ∷ tokens) [] others are also = absurd are
each_one (token ∷ tokens) (octets ∷ each) [] are also = absurd also
each_one (token ∷ tokens) (octets ∷ each) (other ∷ others) are also =
    let first = spells_one token.text other octets also.0.spells are.0.spells in
    let more = each_one tokens each others are.1 also.1 in
    λ i. first i ∷ more i

module _ (names : List ℕ → List (List ℕ) → Type 0) (one : SpellOne names) where
  value_one : (field other : Field) (tokens left rest : List Token) → kind_of other ≡ kind_of field → ScansField names field tokens left
      → ScansField names other tokens rest → field ≡ other
  value_one (number8 n) other tokens left rest same scans =
      of_number8 (λ f. ScansField names f tokens rest → number8 n ≡ f) other (λ m also. ap number8 (number_one scans also)) same
  value_one (number16 n) other tokens left rest same scans =
      of_number16 (λ f. ScansField names f tokens rest → number16 n ≡ f) other (λ m also. ap number16 (number_one scans also)) same
  value_one (number32 n) other tokens left rest same scans =
      of_number32 (λ f. ScansField names f tokens rest → number32 n ≡ f) other (λ m also. ap number32 (number_one scans also)) same
  value_one (ipv4 octets) other tokens left rest same scans =
      of_ipv4 (λ f. ScansField names f tokens rest → ipv4 octets ≡ f) other
      (λ others also. ap ipv4 (dotted_one scans.1 scans.2 also.1 also.2)) same
  value_one (ipv6 octets) other tokens left rest same scans =
      of_ipv6 (λ f. ScansField names f tokens rest → ipv6 octets ≡ f) other
      (λ others also. ap ipv6 (scans.4 ∙ ap octets_of (colons_one scans.2 scans.3 also.2 also.3) ∙ sym also.4)) same
  value_one (compressible name) other tokens left rest same scans =
      of_compressible (λ f. ScansField names f tokens rest → compressible name ≡ f) other (λ others also. ap compressible (name_one one scans also)) same
  value_one (uncompressed name) other tokens left rest same scans =
      of_uncompressed (λ f. ScansField names f tokens rest → uncompressed name ≡ f) other (λ others also. ap uncompressed (name_one one scans also)) same
  value_one (string octets) other tokens left rest same scans =
      of_string (λ f. ScansField names f tokens rest → string octets ≡ f) other (λ others also. ap string (string_one scans also)) same
  value_one (strings each) other tokens left rest same scans =
      of_strings (λ f. ScansField names f tokens rest → strings each ≡ f) other
      (λ others also. ap strings (each_one tokens each others scans.1 also.1)) same
  value_one (tag octets) other tokens left rest same scans =
      of_tag (λ f. ScansField names f tokens rest → tag octets ≡ f) other (λ others also. ap tag (string_one scans also)) same
  value_one (rest_text octets) other tokens left rest same scans =
      of_rest_text (λ f. ScansField names f tokens rest → rest_text octets ≡ f) other (λ others also. ap rest_text (octets_one scans also)) same
  value_one (rest16 octets) other tokens left rest same scans =
      of_rest16 (λ f. ScansField names f tokens rest → rest16 octets ≡ f) other
      (λ others also. ap rest16 (decoded_one Sixteen tokens scans.0 also.0 octets others scans.1 scans.2 also.1 also.2)) same
  value_one (rest64 octets) other tokens left rest same scans =
      of_rest64 (λ f. ScansField names f tokens rest → rest64 octets ≡ f) other
      (λ others also. ap rest64 (decoded_one SixtyFour tokens scans.0 also.0 octets others scans.1 scans.2 also.1 also.2)) same

  pub row_one : (row other : List Field) (tokens left rest : List Token) → map kind_of other ≡ map kind_of row → ScansRow names row tokens left
      → ScansRow names other tokens rest → (row ≡ other) × (left ≡ rest)
  row_one [] [] tokens left rest same scans also = (refl, scans ∙ sym also)
  row_one [] (other ∷ others) tokens left rest same scans also = absurd cc
  row_one (field ∷ row) [] tokens left rest same scans also = absurd cc
  row_one (field ∷ row) (other ∷ others) tokens left rest same scans also =
      let kind : kind_of other ≡ kind_of field = cc in
      let first = value_one field other tokens scans.0 also.0 kind scans.1 also.1 in
      let ends : also.0 ≡ scans.0 =
      leaves names other tokens also.0 also.1 ∙ ap (λ k. left_behind k tokens) kind ∙ sym (leaves names field tokens scans.0 scans.1) in
      let more = row_one row others scans.0 left rest (cc) scans.2 (subst (λ (l : List Token). ScansRow names others l rest) ends also.2) in
      ((λ i. first i ∷ more.0 i), more.1)

-- Tokens begin with data of a type in one way.
pub data_scanned_once : (names : List ℕ → List (List ℕ) → Type 0) (rtype : ℕ) (row other : List Field) (tokens left rest : List Token)
    → SpellOne names → ScansData names rtype row tokens left → ScansData names rtype other tokens rest → (row ≡ other) × (left ≡ rest)
data_scanned_once names rtype row other tokens left rest one scans also =
    let kinds : Some (map kind_of other) ≡ Some (map kind_of row) = sym also.kinds ∙ scans.kinds in
    row_one names one row other tokens left rest (cc) scans.scanned also.scanned
