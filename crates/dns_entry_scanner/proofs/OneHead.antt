-- The words before a record's data say at most one thing.
use Rattle.std.proofs.Common.{◌≡◌, ◌^◌, ℕ, Bool, List, [], ◌∷◌, ◌++◌, Option, Some, None, if◌then◌else◌, refl, sym, ◌∙◌, ap, subst}
use Rattle.std.specs.Option.{option_or}
use Rattle.std.specs.List.{AllByRecursion, list_all}
use Rattle.std.specs.Char.{is_ascii_digit}
use Rattle.dns_values.specs.Mnemonic.{class_read, number_spelled, type_read}
use Rattle.dns_scan.specs.Token.{Token}
use Rattle.dns_entry_scanner.specs.RecordHead.{HasHead, IsClass, IsTtl, IsType, States}
use Rattle.dns_entry_scanner.specs.RecordHead.States.{nothing, ttl as ttl_alone, class as class_alone, ttl_class, class_ttl}

-- what a token before the data says
abbrev pub ttl_of : Token → Option ℕ
ttl_of token = if list_all is_ascii_digit token.text then number_spelled (2 ^ 32) token.text else None

abbrev pub class_of : Token → Option ℕ
class_of token = if list_all is_ascii_digit token.text then None else class_read token.text

abbrev pub type_of : Token → Option ℕ
type_of token = if list_all is_ascii_digit token.text then None else type_read token.text

module _ {n : ℕ} {token : Token} where
  pub ttl_ttl : IsTtl n token → ttl_of token ≡ Some n
  ttl_ttl is =
      subst (λ (t : Token). ttl_of t ≡ Some n) (sym is.1.0)
      (ap (λ (b : Bool). if b then number_spelled (2 ^ 32) is.0 else None) is.2 ∙ is.3)

  pub ttl_class' : IsTtl n token → class_of token ≡ None
  ttl_class' is =
      subst (λ (t : Token). class_of t ≡ None) (sym is.1.0) (ap (λ (b : Bool). if b then None else class_read is.0) is.2)

  pub ttl_type : IsTtl n token → type_of token ≡ None
  ttl_type is =
      subst (λ (t : Token). type_of t ≡ None) (sym is.1.0) (ap (λ (b : Bool). if b then None else type_read is.0) is.2)

  pub class_ttl' : IsClass n token → ttl_of token ≡ None
  class_ttl' is =
      subst (λ (t : Token). ttl_of t ≡ None) (sym is.1.0)
      (ap (λ (b : Bool). if b then number_spelled (2 ^ 32) is.0 else None) is.2)

  pub class_class : IsClass n token → class_of token ≡ Some n
  class_class is =
      subst (λ (t : Token). class_of t ≡ Some n) (sym is.1.0)
      (ap (λ (b : Bool). if b then None else class_read is.0) is.2 ∙ is.4)

  pub class_type : IsClass n token → type_of token ≡ None
  class_type is =
      subst (λ (t : Token). type_of t ≡ None) (sym is.1.0)
      (ap (λ (b : Bool). if b then None else type_read is.0) is.2 ∙ is.3)

  pub type_type : IsType n token → type_of token ≡ Some n
  type_type is =
      subst (λ (t : Token). type_of t ≡ Some n) (sym is.1.0)
      (ap (λ (b : Bool). if b then None else type_read is.0) is.2 ∙ is.3)

abbrev first_of : (Token → Option ℕ) → List Token → Option ℕ
first_of says [] = None
first_of says (token ∷ tokens) = option_or (says token) (first_of says tokens)

abbrev IsNoType : Token → Type 0
IsNoType token = type_of token ≡ None

stated_ttl : {stated : List Token} {seconds class : Option ℕ} → States stated seconds class → seconds ≡ first_of ttl_of stated
stated_ttl nothing = refl
stated_ttl (ttl_alone is) = sym (ap (λ (o : Option ℕ). option_or o None) (ttl_ttl is))
stated_ttl (class_alone is) = sym (ap (λ (o : Option ℕ). option_or o None) (class_ttl' is))
stated_ttl (ttl_class {second = second} is also) = sym (ap (λ (o : Option ℕ). option_or o (option_or (ttl_of second) None)) (ttl_ttl is))
stated_ttl (class_ttl {second = second} is also) =
    sym (ap (λ (o : Option ℕ). option_or o (option_or (ttl_of second) None)) (class_ttl' is)
    ∙ ap (λ (o : Option ℕ). option_or o None) (ttl_ttl also))

stated_class : {stated : List Token} {seconds class : Option ℕ} → States stated seconds class → class ≡ first_of class_of stated
stated_class nothing = refl
stated_class (ttl_alone is) = sym (ap (λ (o : Option ℕ). option_or o None) (ttl_class' is))
stated_class (class_alone is) = sym (ap (λ (o : Option ℕ). option_or o None) (class_class is))
stated_class (ttl_class {second = second} is also) =
    sym (ap (λ (o : Option ℕ). option_or o (option_or (class_of second) None)) (ttl_class' is)
    ∙ ap (λ (o : Option ℕ). option_or o None) (class_class also))
stated_class (class_ttl {second = second} is also) =
    sym (ap (λ (o : Option ℕ). option_or o (option_or (class_of second) None)) (class_class is))

-- the class of the same words is one
pub one_class : {stated others : List Token} {seconds seconds' class class' : Option ℕ} → stated ≡ others → States stated seconds class
    → States others seconds' class' → class ≡ class'
one_class same is also = stated_class is ∙ ap (first_of class_of) same ∙ sym (stated_class also)

stated_no_type : {stated : List Token} {seconds class : Option ℕ} → States stated seconds class → AllByRecursion IsNoType stated
stated_no_type nothing = tt
stated_no_type (ttl_alone is) = (ttl_type is, tt)
stated_no_type (class_alone is) = (class_type is, tt)
stated_no_type (ttl_class is also) = (ttl_type is, (class_type also, tt))
stated_no_type (class_ttl is also) = (class_type is, (ttl_type also, tt))

-- The type is the first token that is neither a TTL nor a class.
one_type : (stated others : List Token) {token token' : Token} {more more' : List Token} {n n' : ℕ} → AllByRecursion IsNoType stated
    → AllByRecursion IsNoType others → type_of token ≡ Some n → type_of token' ≡ Some n'
    → stated ++ token ∷ more ≡ others ++ token' ∷ more' → (stated ≡ others) × (token ≡ token') × (more ≡ more')
one_type [] [] each each' is is' same = (refl, cc, cc)
one_type [] (first ∷ others) {token} {n = n} each each' is is' same =
    let at : token ≡ first = cc in
    let bad : Some n ≡ None = sym is ∙ ap type_of at ∙ each'.0 in absurd cc
one_type (first ∷ stated) [] {token' = token'} {n' = n'} each each' is is' same =
    let at : first ≡ token' = cc in
    let bad : Some n' ≡ None = sym is' ∙ sym (ap type_of at) ∙ each.0 in absurd cc
one_type (first ∷ stated) (first' ∷ others) {token} {token'} {more} {more'} each each' is is' same =
    let heads : first ≡ first' = cc in
    let behind : stated ++ token ∷ more ≡ others ++ token' ∷ more' = cc in
    let rest = one_type stated others each.1 each'.1 is is' behind in
    ((λ i. heads i ∷ rest.0 i), rest.1, rest.2)

-- the words before the data
pub record OneHead (ttl ttl' class class' : Option ℕ) (rtype rtype' : ℕ) (left left' : List Token) : Type 0 where
  pub ttls : ttl ≡ ttl'
  pub classes : class ≡ class'
  pub types : rtype ≡ rtype'
  pub lefts : left ≡ left'

pub one_head : {tokens tokens' : List Token} {ttl ttl' class class' : Option ℕ} {rtype rtype' : ℕ} {left left' : List Token}
    → tokens ≡ tokens' → HasHead tokens ttl class rtype left → HasHead tokens' ttl' class' rtype' left'
    → OneHead ttl ttl' class class' rtype rtype' left left'
one_head {rtype = rtype} {rtype' = rtype'} same is also =
    let parts = one_type is.before also.before (stated_no_type is.states) (stated_no_type also.states) (type_type is.type_is)
    (type_type also.type_is) (sym is.is ∙ same ∙ also.is) in
    let types' : Some rtype ≡ Some rtype' = sym (type_type is.type_is) ∙ ap type_of parts.1 ∙ type_type also.type_is in record {
      ttls = stated_ttl is.states ∙ ap (first_of ttl_of) parts.0 ∙ sym (stated_ttl also.states);
      classes = stated_class is.states ∙ ap (first_of class_of) parts.0 ∙ sym (stated_class also.states);
      types = cc;
      lefts = parts.2;
    }
