-- Lists of strings in text.
use Rattle.std.proofs.Common.{◌≡◌, ◌≢◌, ℕ, List, [], ◌∷◌, ◌++◌, refl, sym, ◌∙◌, ap, subst, append_assoc, append-nil}
use Rattle.std.specs.Prelude.{Option, None, Some, IfSome, option_map}
use Rattle.std.specs.List.{AllByRecursion, flat_map}
use Rattle.std.proofs.lemmas.Grind.{flat_map-append}
use Rattle.dns_scan.specs.CharStr.{string_wire}
use Rattle.dns_service_parameters.specs.declared.form.Form.TheVariants.{Strings}
use Rattle.dns_service_parameters.specs.Service.{keys, strings, nothing, number, ipv4s, ipv6s, encoded, plain}
use Rattle.dns_service_parameters.specs.ServiceRead.{AppendsValue, SpellsNoValue, StartsWithString, other_items}
use Rattle.dns_service_parameters.specs.ServiceText.{item_octet, list_text}
use Rattle.dns_service_parameters.proofs.ServiceItems.{item_begins, list_split, one_item, text_behind}
use Rattle.dns_service_parameters.proofs.ServiceValues.{IsSome}

-- the string that a text begins with, once it is read to its end
pub string_read : {text string : List ℕ} {others : Option (List ℕ)} (done left : List ℕ) → text ≡ flat_map item_octet done ++ left
    → ((octet : ℕ) (behind : List ℕ) → left ≡ item_octet octet ++ behind → ⊥) → StartsWithString text string others
    → (string ≡ done) × (left ≡ other_items others)
string_read {string = string} {others = others} done left is none starts = by begins.0 begins.1 begins.2
  where
    begins : (more : List ℕ) × (string ≡ done ++ more) × (left ≡ flat_map item_octet more ++ other_items others)
    begins = item_begins done string left others (sym is ∙ starts.written)

    by : (more : List ℕ) → string ≡ done ++ more → left ≡ flat_map item_octet more ++ other_items others → (string ≡ done) × (left ≡ other_items others)
    by [] whole rest = (whole ∙ append-nil done, rest)
    by (octet ∷ more) whole rest =
        absurd (none octet (flat_map item_octet more ++ other_items others)
        (rest ∙ append_assoc (item_octet octet) (flat_map item_octet more) (other_items others)))

-- the strings that are left
abbrev pub ReadsStrings : Option (List ℕ) → List (List ℕ) → Type 0
ReadsStrings None each = each ≡ []
ReadsStrings (Some text) each = (each ≢ []) × (text ≡ list_text each)

-- a list as far as it is read
pub record ListingStrings (text : List ℕ) (left : Option (List ℕ)) (done : List (List ℕ)) : Type 0 where
  pub some : AllByRecursion IsSome done
  pub ahead : (each : List (List ℕ)) → ReadsStrings left each → (done ++ each ≢ []) × (text ≡ list_text (done ++ each))
  pub back : (each : List (List ℕ)) → each ≢ [] → text ≡ list_text each → (rest : List (List ℕ)) × (each ≡ done ++ rest) × ReadsStrings left rest

pub strings_begun : (text : List ℕ) → ListingStrings text (Some text) []
strings_begun text = record { some = tt; ahead = λ each reads. reads; back = λ each some is. (each, refl, (some, is)) }

next_ahead : (items string : List ℕ) (others : Option (List ℕ)) (each : List (List ℕ)) → StartsWithString items string others → ReadsStrings others each
    → items ≡ list_text (string ∷ each)
next_ahead items string None each starts reads =
    starts.written ∙ sym (list_split string []) ∙ ap (λ (l : List (List ℕ)). list_text (string ∷ l)) (sym reads)
next_ahead items string (Some text) [] starts reads = absurd (reads.0 refl)
next_ahead items string (Some text) (next ∷ each) starts reads =
    starts.written ∙ ap (λ (l : List ℕ). flat_map item_octet string ++ 44 ∷ l) reads.1

next_back : (items string : List ℕ) (others : Option (List ℕ)) (rest : List (List ℕ)) → StartsWithString items string others → rest ≢ [] → items ≡ list_text rest
    → (behind : List (List ℕ)) × (rest ≡ string ∷ behind) × ReadsStrings others behind
next_back items string others [] starts some is = absurd (some refl)
next_back items string others (first ∷ behind) starts some is =
    let one = one_item string first others (text_behind behind) (sym starts.written ∙ is ∙ list_split first behind) in
    (behind, (λ i. sym one.0 i ∷ behind), subst (λ (o : Option (List ℕ)). ReadsStrings o behind) (sym one.1) (left behind))
  where
    left : (all : List (List ℕ)) → ReadsStrings (text_behind all) all
    left [] = refl
    left (next ∷ all) = ((λ none. cc), refl)

each_push : (done : List (List ℕ)) (string : List ℕ) → AllByRecursion IsSome done → IsSome string → AllByRecursion IsSome (done ++ string ∷ [])
each_push [] string all one = (one, tt)
each_push (first ∷ done) string all one = (all.0, each_push done string all.1 one)

pub strings_step : {text items string : List ℕ} {others : Option (List ℕ)} {done : List (List ℕ)} → ListingStrings text (Some items) done
    → StartsWithString items string others → ListingStrings text others (done ++ string ∷ [])
strings_step {text} {items} {string} {others} {done} so_far starts = record {
  some = each_push done string so_far.some (starts.some, starts.short);
  ahead = λ each reads.
      let more = so_far.ahead (string ∷ each) ((λ none. cc), next_ahead items string others each starts reads) in
      subst (λ (l : List (List ℕ)). (l ≢ []) × (text ≡ list_text l)) (sym (append_assoc done (string ∷ []) each)) more;
  back = λ each some is.
      let before = so_far.back each some is in
      let next = next_back items string others before.0 starts before.2.0 before.2.1 in
      (next.0, before.1 ∙ ap (λ (l : List (List ℕ)). done ++ l) next.1 ∙ sym (append_assoc done (string ∷ []) next.0), next.2);
}

pub strings_appended : {text old new : List ℕ} (done : List (List ℕ)) → ListingStrings text None done → new ≡ old ++ flat_map string_wire done
    → AppendsValue Strings text old new
strings_appended {text} done so_far behind =
    let whole = subst (λ (l : List (List ℕ)). (l ≢ []) × (text ≡ list_text l)) (append-nil done) (so_far.ahead [] refl) in
    record { value = strings done; formed = refl; fits = (whole.0, so_far.some); spells = whole.1; behind = behind }

last_some : (done rest : List (List ℕ)) (first : List ℕ) → AllByRecursion IsSome (done ++ first ∷ rest) → IsSome first
last_some [] rest first all = all.0
last_some (one ∷ done) rest first all = last_some done rest first all.1

pub no_strings : {text items : List ℕ} {done : List (List ℕ)} → ListingStrings text (Some items) done
    → ((string : List ℕ) (others : Option (List ℕ)) → StartsWithString items string others → ⊥) → SpellsNoValue Strings text
no_strings {text} {items} {done} so_far none (strings each) formed fits is =
    let before = so_far.back each fits.0 is in by before.0 before.1 before.2.0 before.2.1
  where
    by : (rest : List (List ℕ)) → each ≡ done ++ rest → rest ≢ [] → items ≡ list_text rest → ⊥
    by [] whole some written = some refl
    by (first ∷ rest) whole some written =
        let one = last_some done rest first (subst (AllByRecursion IsSome) whole fits.1) in
        none first (text_behind rest) (record { some = one.0; short = one.1; written = written ∙ list_split first rest })
no_strings so_far none (keys each) formed fits is = absurd (cc)
no_strings so_far none nothing formed fits is = absurd (cc)
no_strings so_far none (number n) formed fits is = absurd (cc)
no_strings so_far none (ipv4s each) formed fits is = absurd (cc)
no_strings so_far none (ipv6s each) formed fits is = absurd (cc)
no_strings so_far none (encoded octets) formed fits is = absurd (cc)
no_strings so_far none (plain octets) formed fits is = absurd (cc)

-- one string more
pub wire_more : (old value new string : List ℕ) (done : List (List ℕ)) → value ≡ old ++ flat_map string_wire done → new ≡ value ++ string_wire string
    → new ≡ old ++ flat_map string_wire (done ++ string ∷ [])
wire_more old value new string done before behind =
    behind ∙ ap (λ (l : List ℕ). l ++ string_wire string) before ∙ append_assoc old (flat_map string_wire done) (string_wire string)
    ∙ ap (λ (l : List ℕ). old ++ l)
    (sym (flat_map-append string_wire done (string ∷ []) ∙ ap (λ (l : List ℕ). flat_map string_wire done ++ l) (append-nil (string_wire string))))

-- fewer octets are left
pub behind_string : {B : Type 0} (now : B → List ℕ) (text item : List ℕ) (rest : Option B) → text ≡ item ++ other_items (option_map now rest)
    → IfSome rest (λ behind. text ≡ item ++ 44 ∷ now behind)
behind_string now text item None is = tt
behind_string now text item (Some behind) is = is
