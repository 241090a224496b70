-- Tokens begin with one parameter at most.
use Rattle.std.proofs.Common.{◌≡◌, ◌≢◌, ◌<◌, ◌^◌, ℕ, true, List, [], length, refl, sym, ◌∙◌, ap, subst, arith, inl, inr, lit≤}
use Rattle.std.proofs.lemmas.List.Sorted.{length_permutation}
use Rattle.std.proofs.lemmas.List.{nil_from_length}
use Rattle.std.proofs.NetLemmas.Ipv4.{read_ipv4_complete}
use Rattle.std.proofs.NetLemmas.Ipv6.{EndsGroups-nil, read_ipv6_complete}
use Rattle.std.proofs.NetLemmas.Options.{same_parts}
use Rattle.std.specs.List.Sorted.{IsPermutation}
use Rattle.std.specs.Net.Addr.{octets_of as octets_of_segments}
use Rattle.std.specs.Net.Grammar.{IsDotted}
use Rattle.dns_scan.specs.declared.encoding.base.Base.TheVariants.{SixtyFour}
use Rattle.dns_scan.specs.StringText.{Spells}
use Rattle.dns_scan.specs.Token.{Token, Takes, HasText, SpellsOctets}
use Rattle.dns_scan.proofs.Encodings.{decodes_one}
use Rattle.dns_scan.proofs.TextsBack.{spells_one}
use Rattle.dns_field_texts.specs.Cut.{IsWithout}
use Rattle.dns_field_texts.proofs.LocationNumerals.{front_one, without_it}
use Rattle.dns_service_parameters.specs.Service.{IsValue, Parameter, Value, keys, strings, nothing, number, ipv4s, ipv6s, encoded, plain, form_at, form_of}
use Rattle.dns_service_parameters.specs.ServiceText.{IsBare, IsIpv6, IsQuoted, ScansParameter, SpellsKey, SpellsParameter, SpellsValue, TakesQuoted, TakesWord}
use Rattle.dns_service_parameters.proofs.ServiceItems.{each_one, list_one}
use Rattle.dns_service_parameters.proofs.ServiceMade.{parameter_same}
use Rattle.dns_service_parameters.proofs.ServiceNames.{key_one, name_clear, name_number, name_one, number_clear, word_one}
use Rattle.dns_service_parameters.proofs.ServiceOrder.{rises_ascend, same_order}

-- an address of one text
ipv4_one : (text octets others : List ℕ) → IsDotted text octets → IsDotted text others → octets ≡ others
ipv4_one text octets others is also =
    (same_parts _ _ _ _ (sym (read_ipv4_complete text octets [] is (lit≤ tt)) ∙ read_ipv4_complete text others [] also (lit≤ tt))).0

ipv6_one : (text octets others : List ℕ) → IsIpv6 text octets → IsIpv6 text others → octets ≡ others
ipv6_one text octets others is also =
    let segments = (same_parts _ _ _ _ (sym (read_ipv6_complete text is.0 [] is.1 EndsGroups-nil) ∙ read_ipv6_complete text also.0 [] also.1 EndsGroups-nil)).0 in
    is.2 ∙ ap octets_of_segments segments ∙ sym also.2

-- a list of keys in any order
pub some_listed : (listed each : List ℕ) → IsPermutation listed each → each ≢ [] → listed ≢ []
some_listed listed each moved some none =
    some (nil_from_length each (length_permutation listed each moved ∙ ap (length {A = ℕ}) none))

-- the text is that of one value of a form
pub text_one : (text : List ℕ) (value other : Value) → form_of value ≡ form_of other → IsValue value → IsValue other → SpellsValue text value → SpellsValue text other
    → value ≡ other
text_one text (keys each) (keys others) formed fits also is spells =
    let listed : is.0 ≡ spells.0 =
    each_one SpellsKey key_one text is.0 spells.0 (some_listed is.0 each is.2 fits.0) (some_listed spells.0 others spells.2 also.0) is.1 spells.1 in
    let moved = subst (λ (l : List ℕ). IsPermutation l each) listed is.2 in
    ap keys (same_order spells.0 each others moved spells.2 (rises_ascend each fits.2) (rises_ascend others also.2))
text_one text (strings each) (strings others) formed fits also is spells = ap strings (list_one each others fits.0 also.0 (sym is ∙ spells))
text_one text nothing nothing formed fits also is spells = refl
text_one text (number n) (number m) formed fits also is spells = let same : n ≡ m = cc in ap number same
text_one text (ipv4s each) (ipv4s others) formed fits also is spells = ap ipv4s (each_one IsDotted ipv4_one text each others fits.0 also.0 is spells)
text_one text (ipv6s each) (ipv6s others) formed fits also is spells = ap ipv6s (each_one IsIpv6 ipv6_one text each others fits.0 also.0 is spells)
text_one text (encoded octets) (encoded others) formed fits also is spells = ap encoded (decodes_one SixtyFour text others octets spells is)
text_one text (plain octets) (plain others) formed fits also is spells = ap plain (sym is ∙ spells)
text_one text value other formed fits also is spells = absurd (cc)

-- a parameter, perhaps of too many octets
pub record IsShaped (parameter : Parameter) : Type 0 where
  pub small : parameter.key < 2 ^ 16
  pub formed : form_of parameter.value ≡ form_at parameter.key
  pub fits : IsValue parameter.value

-- the word and the text are those of one parameter
pub spells_parameter_one : (word text : List ℕ) (parameter other : Parameter) → IsShaped parameter → IsShaped other → SpellsParameter word text parameter
    → SpellsParameter word text other → parameter ≡ other
spells_parameter_one word text parameter other is also (inl spells) (inl others) =
    let key = name_one parameter.key other.key word spells.0 others.0 in
    let formed = is.formed ∙ ap form_at key ∙ sym also.formed in
    let value = text_one text parameter.value other.value formed is.fits also.fits spells.1 others.1 in
    λ i. record { key = key i; value = value i }
spells_parameter_one word text parameter other is also (inl spells) (inr others) = absurd (name_number parameter.key other.key word spells.0 others.0)
spells_parameter_one word text parameter other is also (inr spells) (inl others) = absurd (name_number other.key parameter.key word others.0 spells.0)
spells_parameter_one word text parameter other is also (inr spells) (inr others) =
    parameter_same parameter other is.formed also.formed is.fits also.fits (word_one parameter.key other.key is.small also.small (sym spells.0 ∙ others.0))
    (sym spells.1 ∙ others.1)

pub word_clear : (word text : List ℕ) (parameter : Parameter) → IsShaped parameter → SpellsParameter word text parameter → IsWithout 61 word
word_clear word text parameter is (inl spells) = name_clear parameter.key word spells.0
word_clear word text parameter is (inr spells) = subst (IsWithout 61) (sym spells.0) (number_clear parameter.key is.small)

-- what the tokens begin with
pub record SameWord (word another text others : List ℕ) (left behind : List Token) : Type 0 where
  pub words : word ≡ another
  pub texts : text ≡ others
  pub tokens : left ≡ behind

pub text_of : {tokens left behind : List Token} {text others : List ℕ} → Takes (IsBare text) tokens left → Takes (IsBare others) tokens behind → (text ≡ others) × (left ≡ behind)
text_of takes also =
    let whole = sym takes.is ∙ also.is in
    let token : takes.token ≡ also.token = cc in
    (ap (λ (t : Token). t.text) (sym takes.fits ∙ token ∙ also.fits), cc)

-- a quoted token
marked : {tokens left : List Token} {text : List ℕ} → Takes (IsQuoted text) tokens left → Takes (λ token. token.quoted ≡ true) tokens left
marked takes = record { token = takes.token; is = takes.is; fits = takes.fits.0 }

quoted_one : {tokens left behind : List Token} {text others : List ℕ} → TakesQuoted text tokens left → TakesQuoted others tokens behind
    → (text ≡ others) × (left ≡ behind)
quoted_one {text = text} {others = others} (inl takes) (inl also) =
    let whole = sym takes.is ∙ also.is in
    let token : takes.token ≡ also.token = cc in
    (spells_one also.token.text others text also.fits.1 (subst (λ (t : Token). Spells t.text text) token takes.fits.1), cc)
quoted_one {left = left} (inl takes) (inr also) = absurd (also.0 left (marked takes))
quoted_one {behind = behind} (inr takes) (inl also) = absurd (takes.0 behind (marked also))
quoted_one (inr takes) (inr also) = (takes.1 ∙ sym also.1, takes.2 ∙ sym also.2)

pub takes_one : (word another text others : List ℕ) (tokens left behind : List Token) → IsWithout 61 word → IsWithout 61 another → TakesWord word text tokens left
    → TakesWord another others tokens behind → SameWord word another text others left behind
takes_one word another text others tokens left behind clear free (inl is) (inl also) =
    let same = text_of is.0 also.0 in record { words = same.0; texts = is.1 ∙ sym also.1; tokens = same.1 }
takes_one word another text others tokens left behind clear free (inl is) (inr (inl also)) =
    absurd (without_it 61 another also.0 (subst (IsWithout 61) (text_of is.0 also.2).0 clear))
takes_one word another text others tokens left behind clear free (inl is) (inr (inr also)) =
    absurd (without_it 61 another [] (subst (IsWithout 61) (text_of is.0 also.1).0 clear))
takes_one word another text others tokens left behind clear free (inr (inl is)) (inl also) =
    absurd (without_it 61 word is.0 (subst (IsWithout 61) (sym (text_of is.2 also.0).0) free))
takes_one word another text others tokens left behind clear free (inr (inl is)) (inr (inl also)) =
    let same = text_of is.2 also.2 in
    let cut = front_one 61 word another is.0 also.0 clear free same.0 in
    record {
      words = cut.0;
      texts = spells_one also.0 others text also.3 (subst (λ (l : List ℕ). Spells l text) cut.1 is.3);
      tokens = same.1;
    }
takes_one word another text others tokens left behind clear free (inr (inl is)) (inr (inr also)) =
    let cut = front_one 61 word another is.0 [] clear free (text_of is.2 also.1).0 in
    let size = ap (length {A = ℕ}) cut.1 in
    let some = is.1 in absurd (omega (arith, size, some))
takes_one word another text others tokens left behind clear free (inr (inr is)) (inl also) =
    absurd (without_it 61 word [] (subst (IsWithout 61) (sym (text_of is.1 also.0).0) free))
takes_one word another text others tokens left behind clear free (inr (inr is)) (inr (inl also)) =
    let cut = front_one 61 word another [] also.0 clear free (text_of is.1 also.2).0 in
    let size = ap (length {A = ℕ}) cut.1 in
    let some = also.1 in absurd (omega (arith, size, some))
takes_one word another text others tokens left behind clear free (inr (inr is)) (inr (inr also)) =
    let same = text_of is.1 also.1 in
    let cut = front_one 61 word another [] [] clear free same.0 in
    let next = quoted_one (subst (λ (l : List Token). TakesQuoted text l left) same.1 is.2) also.2 in
    record { words = cut.0; texts = next.0; tokens = next.1 }

-- one parameter
pub scans_one : (parameter other : Parameter) (tokens left behind : List Token) → IsShaped parameter → IsShaped other → ScansParameter parameter tokens left
    → ScansParameter other tokens behind → (parameter ≡ other) × (left ≡ behind)
scans_one parameter other tokens left behind is also scans others =
    let same = takes_one scans.word others.word scans.text others.text tokens left behind (word_clear scans.word scans.text parameter is scans.spells)
    (word_clear others.word others.text other also others.spells) scans.takes others.takes in
    let words = sym same.words in
    let spells = subst (λ (w : List ℕ). SpellsParameter w scans.text other) words
    (subst (λ (t : List ℕ). SpellsParameter others.word t other) (sym same.texts) others.spells) in
    (spells_parameter_one scans.word scans.text parameter other is also scans.spells spells, same.tokens)
