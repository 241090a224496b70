-- A row of a zone file is at most one entry in a context.
use Rattle.std.proofs.Common.{◌≡◌, ℕ, List, [], Option, Some, refl, sym, ◌∙◌, ap}
use Rattle.std.specs.Prelude.{unwrap_or}
use Rattle.std.specs.Option.{option_or}
use Rattle.dns_text.specs.Rows.{TokenRow}
use Rattle.dns_fields.specs.SpelledNames.{SpellOne}
use Rattle.dns_entry_scanner.specs.NameInText.{SpellsUnder}
use Rattle.dns_entry_scanner.proofs.OneNameInText.{one_under}
use Rattle.dns_zonefile.specs.Statement.{Stated, Statement}
use Rattle.dns_zonefile.specs.Entry.{Context, Entry, Enters, IsEntry}
use Rattle.dns_zonefile.specs.Entry.Entry.{Include, Resource}
use Rattle.dns_zonefile.specs.Entry.Enters.{origin, ttl, file, resource}
use Rattle.dns_zonefile.proofs.OneStatement.{one_statement, statement_has_tokens}

-- under an origin a text spells at most one name
pub under_once : (known : Option (List (List ℕ))) → SpellOne (SpellsUnder known)
under_once known text name other is also = one_under refl refl is also

-- a statement makes at most one entry in a context
pub one_entered : {context : Context} {statement statement' : Statement} {entry entry' : Entry} {after after' : Context}
    → statement ≡ statement' → Enters context statement entry after → Enters context statement' entry' after'
    → (entry ≡ entry') × (after ≡ after')
one_entered {context} same (origin {name = name}) (origin {name = name'}) =
    let names : name ≡ name' = cc in (refl, ap (λ (n : List (List ℕ)). record context { origin = Some n }) names)
one_entered same origin ttl = absurd cc
one_entered same origin file = absurd cc
one_entered same origin (resource o c k) = absurd cc
one_entered same ttl origin = absurd cc
one_entered {context} same (ttl {seconds = seconds}) (ttl {seconds = seconds'}) =
    let numbers : seconds ≡ seconds' = cc in (refl, ap (λ (n : ℕ). record context { default_ttl = Some n }) numbers)
one_entered same ttl file = absurd cc
one_entered same ttl (resource o c k) = absurd cc
one_entered same file origin = absurd cc
one_entered same file ttl = absurd cc
one_entered same (file {path = path} {origin = known}) (file {path = path'} {origin = known'}) =
    let paths : path ≡ path' = cc in
    let origins : known ≡ known' = cc in
    ((λ i. Include (paths i) (origins i)), refl)
one_entered same file (resource o c k) = absurd cc
one_entered same (resource o c k) origin = absurd cc
one_entered same (resource o c k) ttl = absurd cc
one_entered same (resource o c k) file = absurd cc
one_entered {context} same (resource {stated = stated} {owner = owner} {class = class} is_owner is_class known)
    (resource {stated = stated'} {owner = owner'} {class = class'} is_owner' is_class' known') =
    let all : stated ≡ stated' = cc in
    let some_owner : Some owner ≡ Some owner' =
    sym is_owner ∙ ap (λ (s : Stated). option_or s.owner context.owner) all ∙ is_owner' in
    let some_class : Some class ≡ Some class' =
    sym is_class ∙ ap (λ (s : Stated). option_or s.class context.class) all ∙ is_class' in
    let owners : owner ≡ owner' = cc in
    let classes : class ≡ class' = cc in (
      (λ i. Resource (record {
        owner = owners i;
        class = classes i;
        ttl = unwrap_or (option_or (all i).ttl context.default_ttl) context.last_ttl;
        rdata = (all i).rdata;
      })),
      (λ i. record context { owner = Some (owners i); last_ttl = unwrap_or (all i).ttl context.last_ttl; class = Some (classes i) }),
    )

pub one_entry : {context : Context} {row : TokenRow} {entry entry' : Entry} {after after' : Context} → IsEntry context row entry after
    → IsEntry context row entry' after' → (entry ≡ entry') × (after ≡ after')
one_entry {context} is also = one_entered (one_statement (under_once context.origin) is.says also.says) is.enters also.enters

-- a row that says something has tokens
pub entry_has_tokens : {context : Context} {row : TokenRow} {entry : Entry} {after : Context} → IsEntry context row entry after
    → row.tokens ≡ [] → ⊥
entry_has_tokens is none = statement_has_tokens is.says none
