-- The octets of parameters are printed as the parameters are.
use Rattle.std.proofs.Common.{◌≡◌, ◌<◌, ◌^◌, ℕ, Bool, false, List, [], ◌∷◌, ◌++◌, length, map, take, drop, decimal, None, Some, refl, sym, ◌∙◌, ap, subst, arith, append_assoc, append-nil, length-append, nat_lt, cond}
use Rattle.std.proofs.lemmas.Bool.Decides.{nat_tests}
use Rattle.std.proofs.Math.Seq.{take-append_seam, drop-append_seam}
use Rattle.std.specs.Int.{to_be_bytes, w16}
use Rattle.std.specs.List.{AllByRecursion, concat, flat_map}
use Rattle.dns_scan.specs.CharStr.{string_wire}
use Rattle.dns_text.specs.Document.{Piece}
use Rattle.dns_text.specs.Document.Piece.{Token}
use Rattle.dns_text.specs.Writing.{Adds, written_behind}
use Rattle.dns_service_parameters.specs.declared.form.Form.{Form}
use Rattle.dns_service_parameters.specs.declared.form.Form.TheVariants.{Keys, Strings, Ipv4s, Ipv6s}
use Rattle.dns_service_parameters.specs.Service.{IsParameter, IsValue, Parameter, Value, keys, strings, nothing, number, ipv4s, ipv6s, encoded, plain, form_of, octets_of, value_octets}
use Rattle.dns_service_parameters.specs.ServiceParts.{StartsWithNone, StartsWithPart}
use Rattle.dns_service_parameters.specs.ServiceText.{assigned, key_text, list_text, parameter_text, value_text}
use Rattle.dns_service_parameters.specs.ServiceShown.{first_number, item_text, items, shown_parameter, shown_value, take_item, take_size, take_string}
use Rattle.dns_service_parameters.proofs.ServiceParts.{no_part, split_off}
use Rattle.dns_service_parameters.proofs.ServiceShown.{items_none, items_some}

-- items that are taken back
size_back : (size : ℕ) (x rest : List ℕ) → length x ≡ size → take_size size (x ++ rest) ≡ Some (x, rest)
size_back size x rest is =
    let sum = length-append x rest in
    let long : nat_lt (length (x ++ rest)) size ≡ false = grind (arith, nat_tests) in
    let front : take size (x ++ rest) ≡ x = ap (λ (n : ℕ). take n (x ++ rest)) (sym is) ∙ take-append_seam x rest in
    let behind : drop size (x ++ rest) ≡ rest = ap (λ (n : ℕ). drop n (x ++ rest)) (sym is) ∙ drop-append_seam x rest in
    ap (λ (b : Bool). cond b None (Some (take size (x ++ rest), drop size (x ++ rest)))) long
    ∙ (λ i. Some (front i, behind i))

string_back : (x rest : List ℕ) → take_string (string_wire x ++ rest) ≡ Some (x, rest)
string_back x rest = λ i. Some (take-append_seam x rest i, drop-append_seam x rest i)

module _ (form : Form) (wrap : List ℕ → List ℕ) (P : List ℕ → Type 0)
    (back : (x rest : List ℕ) → P x → take_item form (wrap x ++ rest) ≡ Some (x, rest)) (none : take_item form [] ≡ None) where
  items_back : (each : List (List ℕ)) → AllByRecursion P each → items form (flat_map wrap each) ≡ each
  items_back [] all = items_none form [] none
  items_back (x ∷ each) all =
      items_some form (wrap x ++ flat_map wrap each) x (flat_map wrap each) (back x (flat_map wrap each) all.0)
      ∙ ap (λ (l : List (List ℕ)). x ∷ l) (items_back each all.1)

concat_map : (each : List (List ℕ)) → concat each ≡ flat_map (λ x. x) each
concat_map [] = refl
concat_map (x ∷ each) = ap (λ (l : List ℕ). x ++ l) (concat_map each)

keys_map : (each : List ℕ) → flat_map (to_be_bytes w16) each ≡ flat_map (λ x. x) (map (to_be_bytes w16) each)
keys_map [] = refl
keys_map (key ∷ each) = ap (λ (l : List ℕ). to_be_bytes w16 key ++ l) (keys_map each)

keys_sized : (each : List ℕ) → AllByRecursion (λ x. length x ≡ 2) (map (to_be_bytes w16) each)
keys_sized [] = tt
keys_sized (key ∷ each) = (refl, keys_sized each)

strings_any : (each : List (List ℕ)) → AllByRecursion (λ x. Unit {0}) each
strings_any [] = tt
strings_any (x ∷ each) = (tt, strings_any each)

pub number_first : (n : ℕ) → n < 2 ^ 16 → first_number (to_be_bytes w16 n) ≡ n
number_first n small = omega arith

keys_shown : (each : List ℕ) → AllByRecursion (λ key. (0 < key) × (key < 2 ^ 16)) each
    → map (item_text Keys) (map (to_be_bytes w16) each) ≡ map key_text each
keys_shown [] all = refl
keys_shown (key ∷ each) all =
    let first : key_text (first_number (to_be_bytes w16 key)) ≡ key_text key = ap key_text (number_first key all.0.1) in
    let others = keys_shown each all.1 in λ i. first i ∷ others i

strings_shown : (each : List (List ℕ)) → map (item_text Strings) each ≡ each
strings_shown [] = refl
strings_shown (x ∷ each) = ap (λ (l : List (List ℕ)). x ∷ l) (strings_shown each)

-- the items of lists
pub keys_items : (each : List ℕ) → items Keys (flat_map (to_be_bytes w16) each) ≡ map (to_be_bytes w16) each
keys_items each =
    ap (items Keys) (keys_map each)
    ∙ items_back Keys (λ x. x) (λ x. length x ≡ 2) (λ x rest is. size_back 2 x rest is) refl (map (to_be_bytes w16) each) (keys_sized each)

pub strings_items : (each : List (List ℕ)) → items Strings (flat_map string_wire each) ≡ each
strings_items each = items_back Strings string_wire (λ x. Unit {0}) (λ x rest is. string_back x rest) refl each (strings_any each)

pub ipv4s_items : (each : List (List ℕ)) → AllByRecursion (λ x. length x ≡ 4) each → items Ipv4s (concat each) ≡ each
ipv4s_items each sizes = ap (items Ipv4s) (concat_map each) ∙ items_back Ipv4s (λ x. x) (λ x. length x ≡ 4) (λ x rest is. size_back 4 x rest is) refl each sizes

pub ipv6s_items : (each : List (List ℕ)) → AllByRecursion (λ x. length x ≡ 16) each → items Ipv6s (concat each) ≡ each
ipv6s_items each sizes =
    ap (items Ipv6s) (concat_map each) ∙ items_back Ipv6s (λ x. x) (λ x. length x ≡ 16) (λ x rest is. size_back 16 x rest is) refl each sizes

-- a value
pub value_shown : (value : Value) → IsValue value → shown_value (form_of value) (value_octets value) ≡ value_text value
value_shown (keys each) fits = ap list_text (ap (map (item_text Keys)) (keys_items each) ∙ keys_shown each fits.1)
value_shown (strings each) fits = ap list_text (ap (map (item_text Strings)) (strings_items each) ∙ strings_shown each)
value_shown nothing fits = refl
value_shown (number n) fits = ap decimal (number_first n fits)
value_shown (ipv4s each) fits = ap (λ (l : List (List ℕ)). list_text (map (item_text Ipv4s) l)) (ipv4s_items each fits.1)
value_shown (ipv6s each) fits = ap (λ (l : List (List ℕ)). list_text (map (item_text Ipv6s) l)) (ipv6s_items each fits.1)
value_shown (encoded octets) fits = refl
value_shown (plain octets) fits = refl

pub parameter_shown : (parameter : Parameter) → IsParameter parameter
    → shown_parameter parameter.key (value_octets parameter.value) ≡ parameter_text parameter
parameter_shown parameter is =
    let octets = value_octets parameter.value in
    ap (λ (form : Form). key_text parameter.key ++ assigned octets (shown_value form octets)) (sym is.formed)
    ∙ ap (λ (text : List ℕ). key_text parameter.key ++ assigned octets text) (value_shown parameter.value is.fits)

-- parameters as tokens, one after another
module _ {F : Type 0} (writes : F → List Piece → F → Type 0) (old : F) where
  pub record ShownSoFar (rest : List ℕ) (now : F) (parameters : List Parameter) : Type 0 where
    pub done : List Parameter
    pub others : List Parameter
    pub whole : parameters ≡ done ++ others
    pub each : AllByRecursion IsParameter others
    pub written : rest ≡ octets_of others
    pub adds : Adds writes old (map Token (map parameter_text done)) now

  pub shown_none : {octets : List ℕ} (parameters : List Parameter) → AllByRecursion IsParameter parameters → octets ≡ octets_of parameters
      → ShownSoFar octets old parameters
  shown_none parameters each written = record {
    done = [];
    others = parameters;
    whole = refl;
    each = each;
    written = written;
    adds = λ start front wrote. wrote;
  }

  map_push : (done : List Parameter) (next : Parameter)
      → map Token (map parameter_text (done ++ next ∷ [])) ≡ map Token (map parameter_text done) ++ Token (parameter_text next) ∷ []
  map_push [] next = refl
  map_push (first ∷ done) next = ap (λ (l : List Piece). Token (parameter_text first) ∷ l) (map_push done next)

  adds_push : (pieces : List Piece) (piece : Piece) (mid new : F) → Adds writes old pieces mid → Adds writes mid (piece ∷ []) new
      → Adds writes old (pieces ++ piece ∷ []) new
  adds_push pieces piece mid new first next = λ start front wrote.
      subst (λ (l : List Piece). writes start l new) (behind_push pieces piece front) (next start (written_behind front pieces) (first start front wrote))
    where
      behind_push : (all : List Piece) (last : Piece) (front : List Piece) → last ∷ written_behind front all ≡ written_behind front (all ++ last ∷ [])
      behind_push [] last front = refl
      behind_push (first ∷ all) last front = behind_push all last (first ∷ front)

  pub shown_more : {rest value behind : List ℕ} {key : ℕ} {mid new : F} {parameters : List Parameter} → ShownSoFar rest mid parameters
      → StartsWithPart rest key value behind → Adds writes mid (Token (shown_parameter key value) ∷ []) new → ShownSoFar behind new parameters
  shown_more {rest} {value} {behind} {key} {mid} {new} {parameters} so_far part adds =
      let split = split_off so_far.others so_far.each so_far.written part in
      let text : shown_parameter key value ≡ parameter_text split.first =
      (λ i. shown_parameter (sym split.key_is i) (sym split.value_is i)) ∙ parameter_shown split.first split.fits in
      let one : Adds writes mid (Token (parameter_text split.first) ∷ []) new = subst (λ (l : List ℕ). Adds writes mid (Token l ∷ []) new) text adds in
      record {
        done = so_far.done ++ split.first ∷ [];
        others = split.others;
        whole = so_far.whole ∙ ap (λ (l : List Parameter). so_far.done ++ l) split.is
            ∙ sym (append_assoc so_far.done (split.first ∷ []) split.others);
        each = split.each;
        written = split.behind_is;
        adds = subst (λ (l : List Piece). Adds writes old l new) (sym (map_push so_far.done split.first))
            (adds_push (map Token (map parameter_text so_far.done)) (Token (parameter_text split.first)) mid new so_far.adds one);
      }

  pub shown_all : {rest : List ℕ} {now : F} {parameters : List Parameter} → ShownSoFar rest now parameters → StartsWithNone rest
      → Adds writes old (map Token (map parameter_text parameters)) now
  shown_all {now = now} so_far none =
      let ends = no_part so_far.others so_far.each so_far.written none in
      let all = so_far.whole ∙ ap (λ (l : List Parameter). so_far.done ++ l) ends ∙ append-nil so_far.done in
      subst (λ (l : List Parameter). Adds writes old (map Token (map parameter_text l)) now) (sym all) so_far.adds
