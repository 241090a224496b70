-- Fields that tokens do not begin with.
use Rattle.std.proofs.Common.{◌∷◌, [], ℕ, List}
use Rattle.std.specs.Str.{chars}
use Rattle.std.specs.Prelude.{Result, Ok, Err, IfNone}
use Rattle.std.specs.Net.Grammar.{IsDotted, IsColonHex, IsIpv6Text, Parses}
use Rattle.std.specs.declared.net.ipv6_addr.Ipv6Addr.{Ipv6Addr}
use Rattle.std.specs.Result.{result_ok}
use Rattle.dns_scan.specs.Encodings.{Decodes16, Decodes64}
use Rattle.dns_scan.specs.Token.{Token, Takes, IsWord, IsEntry, SpellsOctets}
use Rattle.dns_fields.specs.Fields.{Kind, Ipv4, Ipv6, RestText, Rest16, Rest64}
use Rattle.dns_fields.specs.Scanned.{ScansField, NoFieldScans, NoRowScans}
use Rattle.dns_fields.proofs.FieldKinds.{of_ipv4, of_ipv6, of_rest_text, of_rest16, of_rest64}

module _ (names : List ℕ → List (List ℕ) → Type 0) (tokens : List Token) where
  pub no_ipv4 : ((text : List ℕ) (left : List Token) (octets : List ℕ) → Takes (IsWord text) tokens left → IsDotted text octets → ⊥)
      → NoFieldScans names Ipv4 tokens
  no_ipv4 none field left is =
      of_ipv4 (λ f. ScansField names f tokens left → ⊥) field (λ octets scans. none scans.0 left octets scans.1 scans.2) is

  pub no_ipv6 : ((text : List ℕ) (left : List Token) (segments : List ℕ) → Takes (IsWord text) tokens left → IsColonHex text segments → ⊥)
      → NoFieldScans names Ipv6 tokens
  no_ipv6 none field left is =
      of_ipv6 (λ f. ScansField names f tokens left → ⊥) field (λ octets scans. none scans.0 left scans.1 scans.2 scans.3) is

  -- a row of one field
  pub one_field : (its : Kind) → NoFieldScans names its tokens → NoRowScans names (its ∷ []) tokens
  one_field its none [] left are scans = absurd (cc)
  one_field its none (field ∷ row) left are scans = none field scans.0 (cc) scans.1

  pub no_rest_text : ((octets : List ℕ) (left : List Token) → Takes (SpellsOctets octets) tokens left → ⊥) → NoRowScans names (RestText ∷ []) tokens
  no_rest_text none =
      one_field RestText
      (λ field left is. of_rest_text (λ f. ScansField names f tokens left → ⊥) field (λ octets scans. none octets left scans) is)

  pub no_rest16 : ((text octets : List ℕ) → IsEntry IsWord tokens text → Decodes16 (chars text) octets → ⊥)
      → NoRowScans names (Rest16 ∷ []) tokens
  no_rest16 none =
      one_field Rest16
      (λ field left is. of_rest16 (λ f. ScansField names f tokens left → ⊥) field (λ octets scans. none scans.0 octets scans.1 scans.2) is)

  pub no_rest64 : ((text octets : List ℕ) → IsEntry IsWord tokens text → Decodes64 (chars text) octets → ⊥)
      → NoRowScans names (Rest64 ∷ []) tokens
  no_rest64 none =
      one_field Rest64
      (λ field left is. of_rest64 (λ f. ScansField names f tokens left → ⊥) field (λ octets scans. none scans.0 octets scans.1 scans.2) is)

-- octets that an address has
pub no_colon_hex : {E : Type 0} (text : List ℕ) (r : Result Ipv6Addr E) → Parses IsIpv6Text text r
    → IfNone (result_ok r) ((segments : List ℕ) → IsColonHex text segments → ⊥)
no_colon_hex text (Ok address) parsed = tt
no_colon_hex text (Err error) parsed = λ segments colon_hex. parsed (record { segments = segments }) colon_hex
