-- The entry of a statement in its context, with the code's values for both.
use Rattle.std.proofs.Common.{◌≡◌, ℕ, List, Global, String, Option, Some, None, subst, sym, ◌∙◌}
use Rattle.std.specs.Prelude.{option_map, string_bytes, unwrap_or}
use Rattle.std.specs.Option.{option_or}
use Rattle.dns_rdata.specs.Data.{Data}
use Rattle.dns_zonefile.specs.Entry.{Context, Entry, Enters}
use Rattle.dns_zonefile.specs.Entry.Entry.{Directive, Include, Resource}
use Rattle.dns_zonefile.specs.Seen.{context_of, statement_of}
use Rattle.dns_zonefile.specs.Statement.{Stated}
use Rattle.dns_zonefile.specs.Statement.Statement.{SetOrigin, StateRecord}
use Rattle.dns_zonefile.specs.declared.context.Context as kept
use Rattle.dns_zonefile.specs.declared.statement.Statement as code
use Rattle.dns_zonefile.specs.declared.statement.Statement.TheVariants as made

pub origin_enters : (old : kept.Context) (name flat : List (List ℕ)) → flat ≡ name
    → Enters (context_of old) (SetOrigin name) Directive (context_of (record old { origin = Some flat }))
origin_enters old name flat is =
    subst (λ f. Enters (context_of old) (SetOrigin name) Directive (context_of (record old { origin = Some f }))) (sym is) Enters.origin

pub ttl_enters : {Octs N : Type 0} (name : N → List (List ℕ)) (old : kept.Context) (statement : code.Statement Octs N) (ttl : ℕ)
    → statement ≡ made.SetTtl ttl
    → Enters (context_of old) (statement_of name statement) Directive (context_of (record old { default_ttl = Some ttl }))
ttl_enters name old statement ttl is =
    subst (λ s. Enters (context_of old) (statement_of name s) Directive (context_of (record old { default_ttl = Some ttl }))) (sym is) Enters.ttl

pub file_enters : {Octs N : Type 0} (name : N → List (List ℕ)) (old : kept.Context) (statement : code.Statement Octs N) (path : String Global) (origin : Option N)
    → statement ≡ made.NameFile path origin
    → Enters (context_of old) (statement_of name statement) (Include (string_bytes path) (option_map name origin)) (context_of old)
file_enters name old statement path origin is =
    subst (λ s. Enters (context_of old) (statement_of name s) (Include (string_bytes path) (option_map name origin)) (context_of old)) (sym is) Enters.file

-- a statement equal to another
pub statement_enters : {Octs N : Type 0} (name : N → List (List ℕ)) (context : Context) (statement other : code.Statement Octs N) (entry : Entry)
    (after : Context) → statement ≡ other → Enters context (statement_of name other) entry after
    → Enters context (statement_of name statement) entry after
statement_enters name context statement other entry after is enters =
    subst (λ s. Enters context (statement_of name s) entry after) (sym is) enters

pub record_enters : (old new : kept.Context) (owner : Option (List (List ℕ))) (ttl class : Option ℕ) (rdata : Data) (name : List (List ℕ))
    (number seconds : ℕ) → option_or owner old.owner ≡ Some name
    → (option_or class old.class ≡ Some number) × (option_or old.class class ≡ Some number)
    → seconds ≡ unwrap_or (option_or ttl old.default_ttl) old.last_ttl
    → context_of new ≡ record (context_of old) { owner = Some name; last_ttl = unwrap_or ttl old.last_ttl; class = Some number }
    → Enters (context_of old) (StateRecord (record { owner = owner; ttl = ttl; class = class; rdata = rdata }))
    (Resource (record { owner = name; class = number; ttl = seconds; rdata = rdata })) (context_of new)
record_enters old new owner ttl class rdata name number seconds is_owner is_class is_ttl sets =
    subst (λ (c : Context). Enters (context_of old) (StateRecord (record { owner = owner; ttl = ttl; class = class; rdata = rdata }))
    (Resource (record { owner = name; class = number; ttl = seconds; rdata = rdata })) c) (sym sets)
    (subst (λ (s : ℕ). Enters (context_of old) (StateRecord (record { owner = owner; ttl = ttl; class = class; rdata = rdata }))
    (Resource (record { owner = name; class = number; ttl = s; rdata = rdata }))
    (record (context_of old) { owner = Some name; last_ttl = unwrap_or ttl old.last_ttl; class = Some number })) (sym is_ttl)
    (Enters.resource is_owner is_class.0 is_class.1))

-- there is no entry if the class is not known, or the owner is not
pub no_class_enters : (old : Context) (stated : Stated) (entry : Entry) (after : Context)
    → ((number : ℕ) → option_or stated.class old.class ≡ Some number → option_or old.class stated.class ≡ Some number → ⊥)
    → Enters old (StateRecord stated) entry after → ⊥
no_class_enters old stated entry after none (Enters.resource {class = class} is_owner is_class known) = none class is_class known

pub no_owner_enters : (old : Context) (stated : Stated) (entry : Entry) (after : Context) → option_or stated.owner old.owner ≡ None
    → Enters old (StateRecord stated) entry after → ⊥
no_owner_enters old stated entry after none (Enters.resource {owner = owner} is_owner is_class known) =
    let bad : None ≡ Some owner = sym none ∙ is_owner in absurd cc

-- the same, as the code applies it
pub record_taken_over : (old new : kept.Context) (owner : Option (List (List ℕ))) (ttl class : Option ℕ) (rdata : Data)
    (name last : List (List ℕ)) (number seconds last_ttl : ℕ) → option_or owner old.owner ≡ Some name
    → (option_or class old.class ≡ Some number) × (option_or old.class class ≡ Some number)
    → seconds ≡ unwrap_or (option_or ttl old.default_ttl) old.last_ttl → last_ttl ≡ unwrap_or ttl old.last_ttl → last ≡ name
    → context_of new ≡ record (context_of old) { owner = option_or (Some last) old.owner; last_ttl = last_ttl; class = Some number }
    → Enters (context_of old) (StateRecord (record { owner = owner; ttl = ttl; class = class; rdata = rdata }))
    (Resource (record { owner = name; class = number; ttl = seconds; rdata = rdata })) (context_of new)
record_taken_over old new owner ttl class rdata name last number seconds last_ttl is_owner is_class is_ttl is_last_ttl is_last sets =
    record_enters old new owner ttl class rdata name number seconds is_owner is_class is_ttl
    (sets ∙ (λ i. record (context_of old) { owner = Some (is_last i); last_ttl = is_last_ttl i; class = Some number }))
