-- CNAME records one after another, as a cursor over them returns them.
use Rattle.std.proofs.Common.{◌≡◌, ◌∙◌, ◌⊎◌, ℕ, Bool, true, false, List, [], ◌∷◌, map, Some, None, Ok, Err, IfOk, refl, ap, subst, sym, inl, inr}
use Rattle.std.proofs.lemmas.Bool.{eqb-true}
use Rattle.std.specs.Cmp.Lexicographic.{pointwise}
use Rattle.std.specs.Ordering.{on}
use Rattle.std.proofs.Math.Bool.{or-true, or-false}
use Rattle.std.specs.Prelude.{◌||◌, Option, Result, is_some, nat_eq}
use Rattle.dns_octets.specs.Parser.{octets_of, place_of}
use Rattle.dns_octets.specs.declared.error.ParseError.{ParseError}
use Rattle.dns_label.specs.Name.{low}
use Rattle.dns_label.proofs.Spelling.{reads_one}
use Rattle.dns_rr_data.specs.Fields.{Compressible, Field, compressible, kind_of, kinds_of}
use Rattle.dns_rr_data.specs.Reading.{ReadsRow}
use Rattle.dns_rr_data.proofs.FieldKinds.{of_compressible}
use Rattle.dns_rr_data.proofs.ReadFields.{name_opened}
use Rattle.dns_header.specs.Head.{Head}
use Rattle.dns_header.specs.ParsedRecord.{Parsed}
use Rattle.dns_header.specs.Record.{RecordOf}
use Rattle.dns_sections.specs.Aliases.{Alias, is_cname, ReadsCname, HasAliases, aliased}
use Rattle.dns_sections.specs.Cursor.{Cursor, IsSpent}
use Rattle.dns_sections.specs.Given.{GoesOver, GivesAsked, IsTaken}
use Rattle.dns_sections.proofs.GivenOnce.{SayTheSame, IsBroken, Agree, asked-one}

-- the next alias
abbrev pub GivesAlias : Cursor → Option (Result Alias ParseError) → Cursor → Type 0
GivesAlias = GivesAsked (IsTaken is_cname false) ReadsCname

-- an alias is of this name, up to ASCII case
abbrev pub is_of : List (List ℕ) → Alias → Bool
is_of name alias = on low (pointwise (pointwise nat_eq)) alias.owner name

-- the same with the row of its data
abbrev pub GivesCname : Cursor → Option (Result (RecordOf (List (List ℕ)) (List Field)) ParseError) → Cursor → Type 0
GivesCname = GivesAsked (IsTaken is_cname false) (λ message place number rdata. ReadsRow number message place rdata)

abbrev pub named : RecordOf (List (List ℕ)) (List Field) → List (List ℕ) → Alias
named rr name = record { owner = rr.owner; class = rr.class; ttl = rr.ttl; rdata = name }

-- the same if only class IN may be asked for
abbrev pub GivesRows : Bool → Cursor → Option (Result (RecordOf (List (List ℕ)) (List Field)) ParseError) → Cursor → Type 0
GivesRows only = GivesAsked (IsTaken is_cname only) (λ message place number rdata. ReadsRow number message place rdata)

-- if any class is asked for
pub any-class : {only : Bool} {old new : Cursor} {result : Option (Result (RecordOf (List (List ℕ)) (List Field)) ParseError)} → only ≡ false
    → GivesAsked (IsTaken is_cname only) (λ message place number rdata. ReadsRow number message place rdata) old result new
    → GivesCname old result new
any-class {old = old} {new = new} {result = result} any gives =
    subst (λ o. GivesAsked (IsTaken is_cname o) (λ message place number rdata. ReadsRow number message place rdata) old result new) any gives

-- a row of one name
name-row : (row : List Field) → map kind_of row ≡ Compressible ∷ [] → (name : List (List ℕ)) × (row ≡ compressible name ∷ [])
name-row [] is = let no : ⊥ = cc in absurd no
name-row (field ∷ others) is =
    let kind : kind_of field ≡ Compressible = cc in
    let rest : map kind_of others ≡ [] = cc in
    of_compressible (λ f. (name : List (List ℕ)) × (f ∷ others ≡ compressible name ∷ [])) field
    (λ name. (name, ap (λ l. compressible name ∷ l) (none others rest))) kind
  where
    none : (fields : List Field) → map kind_of fields ≡ [] → fields ≡ []
    none [] is = refl
    none (field ∷ fields) is = let no : ⊥ = cc in absurd no

-- a record of this type, with the name in its data
pub record IsNamed (old new : Cursor) (rr : RecordOf (List (List ℕ)) (List Field)) : Type 0 where
  pub name : List (List ℕ)
  pub rdata : rr.rdata ≡ compressible name ∷ []
  pub gives : GivesAlias old (Some (Ok (named rr name))) new

pub given-name : {old new : Cursor} {rr : RecordOf (List (List ℕ)) (List Field)} → GivesCname old (Some (Ok rr)) new → IsNamed old new rr
given-name {rr = rr} (GivesAsked.found {parsed = parsed} over none at asked given) =
    let five : parsed.head.rtype ≡ 5 = eqb-true _ _ asked.0 in
    let kinds : kinds_of 5 ≡ Some (map kind_of rr.rdata) = subst (λ n. kinds_of n ≡ Some (map kind_of rr.rdata)) five given.rdata.is_row.kinds in
    let row : map kind_of rr.rdata ≡ Compressible ∷ [] = cc in
    let is = name-row rr.rdata row in record {
      name = is.0;
      rdata = is.1;
      gives = GivesAsked.found {parsed = parsed} {result = Ok (named rr is.0)} over none at asked (record {
        owner = given.owner;
        class = given.class;
        ttl = given.ttl;
        rdata = subst (λ r. ReadsRow parsed.head.rtype (octets_of parsed.rdata) (place_of parsed.rdata) r) is.1 given.rdata;
      });
    }

pub given-error : {old new : Cursor} {error : ParseError} → GivesCname old (Some (Err error)) new → GivesAlias old (Some (Err error)) new
given-error {error = error} (GivesAsked.found {parsed = parsed} over none at asked never) =
    GivesAsked.found {parsed = parsed} {result = Err error} over none at asked (λ name. never (compressible name ∷ []))
given-error (GivesAsked.broken over none at) = GivesAsked.broken over none at

pub given-end : {old new : Cursor} → GivesCname old None new → GivesAlias old None new
given-end (GivesAsked.ended over none at) = GivesAsked.ended over none at

cname-one : (message : List ℕ) (place number : ℕ) (name other : List (List ℕ)) → ReadsCname message place number name
    → ReadsCname message place number other → name ≡ other
cname-one message place number name other reads others = (reads_one (name_opened reads.spelled) (name_opened others.spelled)).0

taken-too : (parsed other : Parsed) → SayTheSame parsed other → IsTaken is_cname false parsed → IsTaken is_cname false other
taken-too parsed other same taken = (
  sym (ap (λ (h : Head (List (List ℕ))). is_cname h.rtype) same.head) ∙ taken.0,
  λ only. sym (ap (λ (h : Head (List (List ℕ))). h.class) same.head) ∙ taken.1 only,
)

alias-one : {old new behind : Cursor} {result found : Option (Result Alias ParseError)} → GivesAlias old result new
    → GivesAlias old found behind → Agree result new found behind
alias-one gives others = asked-one (IsTaken is_cname false) ReadsCname taken-too cname-one gives others

-- after an error nothing is returned
over-ends : {cursor : Cursor} → IsBroken cursor → GivesAlias cursor None cursor
over-ends {cursor} broken =
    let spent : IsSpent cursor = subst (λ l. IfOk l (λ left. left ≡ 0)) (sym broken.1) tt in
    GivesAsked.ended GoesOver.here tt (spent, refl)

pub none-left : {old new : Cursor} {aliases : List Alias} → GivesAlias old None new → HasAliases old aliases → aliases ≡ []
none-left ends (HasAliases.none gives) = refl
none-left ends (HasAliases.more gives rest) = absurd (alias-one ends gives)
none-left ends (HasAliases.unread gives rest) = absurd (alias-one ends gives)

-- aliases that begin with one, and the others, which a cursor has left
pub record BeginWith (alias : Alias) (behind : Cursor) (aliases : List Alias) : Type 0 where
  pub others : List Alias
  pub is : aliases ≡ alias ∷ others
  pub left : HasAliases behind others

pub begin : {old new : Cursor} {alias : Alias} {aliases : List Alias} → GivesAlias old (Some (Ok alias)) new → HasAliases old aliases
    → BeginWith alias new aliases
begin gives (HasAliases.none ends) = absurd (alias-one gives ends)
begin {alias = alias} gives (HasAliases.more {others = others} first rest) =
    let same = alias-one gives first in record {
      others = others;
      is = ap (λ a. a ∷ others) (sym same.0);
      left = subst (λ c. HasAliases c others) (sym same.1) rest;
    }
begin gives (HasAliases.unread bad rest) = absurd (alias-one gives bad)

pub passed-error : {old new : Cursor} {error : ParseError} {aliases : List Alias} → GivesAlias old (Some (Err error)) new
    → HasAliases old aliases → HasAliases new aliases
passed-error bad (HasAliases.none ends) = absurd (alias-one bad ends)
passed-error bad (HasAliases.more gives rest) = absurd (alias-one bad gives)
passed-error {new = new} bad (HasAliases.unread {new = behind} {others = aliases} other rest) = by (alias-one bad other)
  where
    by : (new ≡ behind) ⊎ (IsBroken new × IsBroken behind) → HasAliases new aliases
    by (inl same) = subst (λ c. HasAliases c aliases) (sym same) rest
    by (inr broken) =
        subst (λ l. HasAliases new l) (sym (none-left (over-ends broken.1) rest)) (HasAliases.none (over-ends broken.0))

-- Looking up a name in the aliases of one cursor gives what it gives in those of another.
pub record LooksOn (name : List (List ℕ)) (here there : Cursor) : Type 0 where
  pub back : (rest : List Alias) → HasAliases here rest → (aliases : List Alias) × HasAliases there aliases
      × (aliased aliases name ≡ aliased rest name)
  pub forth : (aliases : List Alias) → HasAliases there aliases → (rest : List Alias) × HasAliases here rest
      × (aliased aliases name ≡ aliased rest name)

module _ {name : List (List ℕ)} {here there new : Cursor} (looks : LooksOn name here there) where
  -- an alias of another name is skipped
  pub other-passed : {alias : Alias} → GivesAlias here (Some (Ok alias)) new → is_of name alias ≡ false → LooksOn name new there
  other-passed {alias} gives other = record {
    back = λ rest left. let before = looks.back (alias ∷ rest) (HasAliases.more gives left) in
        (before.0, before.1, before.2 ∙ passes rest);
    forth = λ aliases all. let after = looks.forth aliases all in let first = begin gives after.1 in
        (first.others, first.left, after.2 ∙ ap (λ l. aliased l name) first.is ∙ passes first.others);
  }
    where
      passes : (rest : List Alias) → aliased (alias ∷ rest) name ≡ aliased rest name
      passes rest = rw other refl

  -- so is one that does not parse
  pub unread-passed : {error : ParseError} → GivesAlias here (Some (Err error)) new → LooksOn name new there
  unread-passed bad = record {
    back = λ rest left. looks.back rest (HasAliases.unread bad left);
    forth = λ aliases all. let after = looks.forth aliases all in (after.0, passed-error bad after.1, after.2);
  }

  -- the first alias of this name
  pub found-first : {alias : Alias} → GivesAlias here (Some (Ok alias)) new → is_of name alias ≡ true → (aliases : List Alias)
      → HasAliases there aliases → Some alias.rdata ≡ aliased aliases name
  found-first {alias} gives same aliases all =
      let after = looks.forth aliases all in
      let first = begin gives after.1 in
      let is : aliased (alias ∷ first.others) name ≡ Some alias.rdata = rw same refl in
      sym (after.2 ∙ ap (λ l. aliased l name) first.is ∙ is)

  -- there is none
  pub none-found : GivesAlias here None new → (aliases : List Alias) → HasAliases there aliases → None ≡ aliased aliases name
  none-found ends aliases all =
      let after = looks.forth aliases all in sym (after.2 ∙ ap (λ l. aliased l name) (none-left ends after.1))

  pub all-found : GivesAlias here None new → (aliases : List Alias) × HasAliases there aliases
  all-found ends = let before = looks.back [] (HasAliases.none ends) in (before.0, before.1)

-- All that one cursor returns makes a name an alias if what another one has left does, or if it was found to be one
-- before.
pub record FindsOn (name : List (List ℕ)) (here there : Cursor) (found : Bool) : Type 0 where
  pub back : (rest : List Alias) → HasAliases here rest → (aliases : List Alias) × HasAliases there aliases
      × (is_some (aliased aliases name) ≡ (found || is_some (aliased rest name)))

module _ {name : List (List ℕ)} {here there new : Cursor} {found : Bool} (finds : FindsOn name here there found) where
  pub finds-other : {alias : Alias} → GivesAlias here (Some (Ok alias)) new → is_of name alias ≡ false → FindsOn name new there found
  finds-other {alias} gives other = record {
    back = λ rest left. let all = finds.back (alias ∷ rest) (HasAliases.more gives left) in
        let same : aliased (alias ∷ rest) name ≡ aliased rest name = rw other refl in
        (all.0, all.1, all.2 ∙ ap (λ o. found || is_some o) same);
  }

  pub finds-same : {alias : Alias} → GivesAlias here (Some (Ok alias)) new → is_of name alias ≡ true → FindsOn name new there true
  finds-same {alias} gives same = record {
    back = λ rest left. let all = finds.back (alias ∷ rest) (HasAliases.more gives left) in
        let is : is_some (aliased (alias ∷ rest) name) ≡ true = rw same refl in
        (all.0, all.1, all.2 ∙ ap (λ b. found || b) is ∙ or-true found);
  }

  pub finds-unread : {error : ParseError} → GivesAlias here (Some (Err error)) new → FindsOn name new there found
  finds-unread bad = record { back = λ rest left. finds.back rest (HasAliases.unread bad left) }

  pub finds-all : GivesAlias here None new → (aliases : List Alias) × HasAliases there aliases × (found ≡ is_some (aliased aliases name))
  finds-all ends =
      let all = finds.back [] (HasAliases.none ends) in (all.0, all.1, sym (all.2 ∙ or-false found))
