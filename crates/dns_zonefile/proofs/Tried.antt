-- Examples of the entries of zone files, with texts in full.
use Rattle.std.proofs.Common.{◌≡◌, ℕ, true, false, List, [], ◌∷◌, ◌++◌, Option, Some, None, refl, sym, ◌∙◌, ap, subst, arith, ◌≤◌}
use Rattle.std.specs.Prelude.{codes}
use Rattle.std.specs.Option.{option_or}
use Rattle.dns_label.specs.declared.symbol.Symbol.TheVariants.{Char, SimpleEscape, DecimalEscape}
use Rattle.dns_values.specs.Mnemonic.{number_spelled}
use Rattle.dns_scan.specs.Token.{Token, unquoted}
use Rattle.dns_text.specs.Tokens.{EndsToken, IsIn, IsRun, Row, stands_plain}
use Rattle.dns_text.specs.Tokens.Next.{ended, goes, unquoted as word}
use Rattle.dns_text.specs.Tokens.Row.{end, token}
use Rattle.dns_text.specs.Rows.{IsText, TokenRow, unled}
use Rattle.dns_text.specs.Rows.BeginsWithRows.{none, more}
use Rattle.dns_zonefile.specs.Statement.{HasOwner, Says, Stated, Statement}
use Rattle.dns_zonefile.specs.Statement.Statement.{SetTtl, StateRecord}
use Rattle.dns_zonefile.specs.Statement.Directs.{ttl}
use Rattle.dns_zonefile.specs.Statement.HasOwner.{last, own}
use Rattle.dns_zonefile.specs.Statement.Says.{directive, resource}
use Rattle.dns_zonefile.specs.Entry.{Context, Entry, Enters, IsEntry, at_start}
use Rattle.dns_zonefile.specs.Entry.Entry.{Directive}
use Rattle.dns_zonefile.specs.Entry.Enters.{ttl as sets_ttl, resource as enters_record}
use Rattle.dns_zonefile.specs.Entries.{HasEntries, IsRefusedAfter, refused_number}
use Rattle.dns_zonefile.specs.Entries.AreEntries.{none as no_entries, entry}
use Rattle.dns_zonefile.specs.Entries.IsRefusedAfter.{no_entry}

-- the end of a token
ends_token : (octet : ℕ) (text : List ℕ) → (octet ≡ 92 → ⊥) → (IsIn false (Char octet) → ⊥) → EndsToken false (octet ∷ text)
ends_token octet text escape plain (Char c) rest is same = let at : c ≡ octet = cc in plain (subst (λ (n : ℕ). IsIn false (Char n)) at is)
ends_token octet text escape plain (SimpleEscape c) rest is same = escape cc
ends_token octet text escape plain (DecimalEscape n) rest is same = escape cc

feed_ends : (text : List ℕ) → EndsToken false (10 ∷ text)
feed_ends text = ends_token 10 text (λ same. omega (arith, same)) (λ is. omega (arith, is.0.0.0))

space_ends : (text : List ℕ) → EndsToken false (32 ∷ text)
space_ends text = ends_token 32 text (λ same. omega (arith, same)) (λ is. let bad : false ≡ true = is.1 in cc)

-- a plain octet of a token
char_in : (octet : ℕ) → 32 ≤ octet → octet ≤ 126 → (octet ≡ 92 → ⊥) → stands_plain false octet ≡ true → IsIn false (Char octet)
char_in octet least most other stands = (((least, most), other), stands)

a_run : (rest : List ℕ) → IsRun false (97 ∷ 10 ∷ rest) (97 ∷ []) (10 ∷ rest)
a_run rest = record {
  symbols = Char 97 ∷ [];
  each = (char_in 97 (omega arith) (omega arith) (λ same. omega (arith, same)) refl, tt);
  written = refl;
  whole = refl;
  longest = feed_ends rest;
}

a_row : (rest : List ℕ) → Row false (97 ∷ 10 ∷ rest) (unquoted (97 ∷ []) ∷ []) rest
a_row rest = token false (10 ∷ rest) (word 97 refl (a_run rest) (omega arith)) (end (ended 10 refl))

-- one row and an end
one_row_and_end : IsText (97 ∷ 10 ∷ 32 ∷ []) (unled (unquoted (97 ∷ []) ∷ []) ∷ [])
one_row_and_end = record { rest = 32 ∷ []; begins = more (a_row (32 ∷ [])) none; ends = refl }

-- `$TTL 5`
ttl_run : (rest : List ℕ) → IsRun false (codes "$TTL 5" ++ 10 ∷ rest) (codes "$TTL") (32 ∷ 53 ∷ 10 ∷ rest)
ttl_run rest = record {
  symbols = Char 36 ∷ Char 84 ∷ Char 84 ∷ Char 76 ∷ [];
  each = (
    char_in 36 (omega arith) (omega arith) (λ same. omega (arith, same)) refl,
    (
      char_in 84 (omega arith) (omega arith) (λ same. omega (arith, same)) refl,
      (
        char_in 84 (omega arith) (omega arith) (λ same. omega (arith, same)) refl,
        (char_in 76 (omega arith) (omega arith) (λ same. omega (arith, same)) refl, tt),
      ),
    ),
  );
  written = refl;
  whole = refl;
  longest = space_ends (53 ∷ 10 ∷ rest);
}

five_run : (rest : List ℕ) → IsRun false (53 ∷ 10 ∷ rest) (53 ∷ []) (10 ∷ rest)
five_run rest = record {
  symbols = Char 53 ∷ [];
  each = (char_in 53 (omega arith) (omega arith) (λ same. omega (arith, same)) refl, tt);
  written = refl;
  whole = refl;
  longest = feed_ends rest;
}

ttl_row : (rest : List ℕ) → Row false (codes "$TTL 5" ++ 10 ∷ rest) (unquoted (codes "$TTL") ∷ unquoted (codes "5") ∷ []) rest
ttl_row rest =
    token false (32 ∷ 53 ∷ 10 ∷ rest) (word 36 refl (ttl_run rest) (omega arith))
    (token false (10 ∷ rest) (goes 32 false refl (word 53 refl (five_run rest) (omega arith))) (end (ended 10 refl)))

-- the value of `$TTL` is then 5, and nothing else changes
ttl_says : (context : Context) → IsEntry context (unled (unquoted (codes "$TTL") ∷ unquoted (codes "5") ∷ [])) Directive
    (record context { default_ttl = Some 5 })
unfolding number_spelled
ttl_says context = record {
  statement = SetTtl 5;
  says = directive (record { unled = refl; text = codes "TTL"; others = unquoted (codes "5") ∷ []; is = refl })
      (ttl (codes "$TTL", refl, refl) (refl, refl) refl);
  enters = sets_ttl;
}

ttl_is_set : (context : Context) → HasEntries context (codes "$TTL 5" ++ 10 ∷ []) (Directive ∷ [])
ttl_is_set context = record {
  rows = unled (unquoted (codes "$TTL") ∷ unquoted (codes "5") ∷ []) ∷ [];
  is_text = record { rest = []; begins = more (ttl_row []) none; ends = refl };
  after = record context { default_ttl = Some 5 };
  are = entry (ttl_says context) no_entries;
}

ttl_is_five : (context : Context) → (ttl_is_set context).after.default_ttl ≡ Some 5
unfolding ttl_is_set
ttl_is_five context = refl

-- a row that begins with white space is no record if no owner is known
unowned : {names : List ℕ → List (List ℕ) → Type 0} {row : TokenRow} {owner : Option (List (List ℕ))} {tokens : List Token}
    → HasOwner names row owner tokens → row.blank_led ≡ true → owner ≡ None
unowned last blank_led = refl
unowned (own is) blank_led = absurd cc

missing : {context : Context} {stated : Stated} {found : Entry} {next : Context} → stated.owner ≡ None → context.owner ≡ None
    → Enters context (StateRecord stated) found next → ⊥
missing {context} {stated} unstated unknown (enters_record {owner = owner} is_owner is_class known) =
    let bad : None ≡ Some owner = sym (ap (λ (o : Option (List (List ℕ))). option_or o context.owner) unstated ∙ unknown) ∙ is_owner in absurd cc

stated_none : {context : Context} {names : List ℕ → List (List ℕ) → Type 0} {row : TokenRow} {stated : Stated} {tokens : List Token}
    {found : Entry} {next : Context} → HasOwner names row stated.owner tokens → row.blank_led ≡ true → context.owner ≡ None
    → Enters context (StateRecord stated) found next → ⊥
stated_none {context} {names} {row} {stated} owner blank_led unknown made = missing (unowned owner blank_led) unknown made

no_owner : {context : Context} {names : List ℕ → List (List ℕ) → Type 0} {row : TokenRow} {statement : Statement} {found : Entry}
    {next : Context} → row.blank_led ≡ true → context.owner ≡ None → Says names row statement → Enters context statement found next → ⊥
no_owner blank_led unknown (directive is told) made = let bad : true ≡ false = sym blank_led ∙ is.unled in cc
no_owner blank_led unknown (resource is) made = stated_none is.owner blank_led unknown made

says_nothing : {context : Context} {row : TokenRow} → row.blank_led ≡ true → context.owner ≡ None → (found : Entry) (next : Context)
    → IsEntry context row found next → ⊥
says_nothing blank_led unknown found next is = no_owner blank_led unknown is.says is.enters

led_row : Row false (32 ∷ 97 ∷ 10 ∷ []) (unquoted (97 ∷ []) ∷ []) []
led_row = token false (10 ∷ []) (goes 32 false refl (word 97 refl (a_run []) (omega arith))) (end (ended 10 refl))

no_owner_yet : (origin : Option (List (List ℕ))) (class : Option ℕ) → IsRefusedAfter (at_start origin class) (32 ∷ 97 ∷ 10 ∷ []) []
no_owner_yet origin class =
    no_entry {rows = []} (more led_row none) no_entries (λ same. absurd cc) (says_nothing refl refl)

first_is_refused : refused_number [] ≡ 1
first_is_refused = refl

-- after a directive, which counts
no_owner_after_ttl : (origin : Option (List (List ℕ))) (class : Option ℕ)
    → IsRefusedAfter (at_start origin class) (codes "$TTL 5" ++ 10 ∷ 32 ∷ 97 ∷ 10 ∷ []) (Directive ∷ [])
no_owner_after_ttl origin class =
    no_entry {rows = unled (unquoted (codes "$TTL") ∷ unquoted (codes "5") ∷ []) ∷ []}
    (more (ttl_row (32 ∷ 97 ∷ 10 ∷ [])) (more led_row none)) (entry (ttl_says (at_start origin class)) no_entries) (λ same. absurd cc)
    (says_nothing refl refl)

second_is_refused : refused_number (Directive ∷ []) ≡ 2
second_is_refused = refl
