-- The results of a reader, called repeatedly, are the entries of its text.
use Rattle.std.proofs.Common.{◌≡◌, ◌+◌, ◌++◌, ◌∙◌, suc, true, false, List, [], ◌∷◌, None, Ok, Err, length, refl, ap, sym, arith}
use Rattle.dns_entry_scanner.specs.EntryError.{is_memory}
use Rattle.dns_entry_scanner.specs.declared.entry_error.EntryError.{EntryError}
use Rattle.dns_zonefile.specs.Entries.{HasEntries, IsRefusedAfter, refused_number}
use Rattle.dns_zonefile.specs.Entry.{Entry}
use Rattle.dns_zonefile.specs.Entry.Entry.{Directive, Include, Resource}
use Rattle.dns_zonefile.specs.Reader.{AreDirectives, Gives, GivesEach, GoesOver, IsRefusedAt, Reader, left_of, without_directives}
use Rattle.dns_zonefile.proofs.Going.{begins-on, goes-nowhere, goes-on}

without-on : (entries more : List Entry) → without_directives (entries ++ more) ≡ without_directives entries ++ without_directives more
without-on [] more = refl
without-on (Resource rr ∷ entries) more = ap (λ l. Resource rr ∷ l) (without-on entries more)
without-on (Include path origin ∷ entries) more = ap (λ l. Include path origin ∷ l) (without-on entries more)
without-on (Directive ∷ entries) more = without-on entries more

directives-left-out : (entries : List Entry) → AreDirectives entries → without_directives entries ≡ []
directives-left-out [] are = refl
directives-left-out (entry ∷ entries) are =
    ap (λ (e : Entry). without_directives (e ∷ entries)) are.0 ∙ directives-left-out entries are.1

one-left : (entry : Entry) → (entry ≡ Directive → ⊥) → without_directives (entry ∷ []) ≡ entry ∷ []
one-left (Resource rr) other = refl
one-left (Include path origin) other = refl
one-left Directive other = absurd (other refl)

-- the rows that were read for these results
record Went (old : Reader) (entries : List Entry) (new : Reader) : Type 0 where
  pub all : List Entry
  pub goes : GoesOver old all new
  pub given : entries ≡ without_directives all

went : {old new : Reader} {entries : List Entry} → GivesEach old entries new → Went old entries new
went {old} GivesEach.none = record { all = []; goes = goes-nowhere old; given = refl }
went (GivesEach.more {entry = entry} {entries = entries} (Gives.given directives are other goes) each) =
    let rest = went each in
    let front : without_directives (directives ++ entry ∷ []) ≡ entry ∷ [] =
    without-on directives (entry ∷ []) ∙ ap (λ (l : List Entry). l ++ without_directives (entry ∷ [])) (directives-left-out directives are)
    ∙ one-left entry other in record {
      all = (directives ++ entry ∷ []) ++ rest.all;
      goes = goes-on goes rest.goes;
      given = ap (λ (l : List Entry). entry ∷ l) rest.given
          ∙ sym (without-on (directives ++ entry ∷ []) rest.all ∙ ap (λ (l : List Entry). l ++ without_directives rest.all) front);
    }

behind-directives : {old mid new : Reader} {entries directives : List Entry} → Went old entries mid → AreDirectives directives
    → GoesOver mid directives new → Went old entries new
behind-directives {entries = entries} {directives = directives} before are goes = record {
  all = before.all ++ directives;
  goes = goes-on before.goes goes;
  given = before.given ∙ sym (without-on before.all directives
      ∙ ap (λ (l : List Entry). without_directives before.all ++ l) (directives-left-out directives are) ∙ append-nothing (without_directives before.all));
}
  where
    append-nothing : (l : List Entry) → l ++ [] ≡ l
    append-nothing [] = refl
    append-nothing (entry ∷ l) = ap (λ (t : List Entry). entry ∷ t) (append-nothing l)

pub whole : {old mid new : Reader} {entries : List Entry} → GivesEach old entries mid → Gives mid (Ok None) new
    → (all : List Entry) × HasEntries old.context (left_of old) all × (entries ≡ without_directives all) × (new.count ≡ old.count + length all)
whole {new = new} each (Gives.ended are goes ends) =
    let went = behind-directives (went each) are goes in (
      went.all,
      record {
        rows = went.goes.rows;
        is_text = record { rest = left_of new; begins = went.goes.begins; ends = ends };
        after = new.context;
        are = went.goes.are;
      },
      went.given,
      went.goes.count,
    )

pub refused-there : {old new : Reader} {all : List Entry} → GoesOver old all new → IsRefusedAt new → IsRefusedAfter old.context (left_of old) all
refused-there {new = new} goes (IsRefusedAt.broken goes_on no_row) =
    IsRefusedAfter.broken (record { rest = left_of new; begins = goes.begins; goes_on = goes_on; no_row = no_row }) goes.are
refused-there goes (IsRefusedAt.no_entry begins some none) = IsRefusedAfter.no_entry (begins-on goes.begins begins) goes.are some none

pub refused : {old mid new : Reader} {entries : List Entry} {error : EntryError} → GivesEach old entries mid → Gives mid (Err error) new
    → is_memory error ≡ false
    → (all : List Entry) × IsRefusedAfter old.context (left_of old) all × (entries ≡ without_directives all)
    × (suc new.count ≡ old.count + refused_number all)
refused {old} {new = new} each (Gives.refused are goes at real) is =
    let went = behind-directives (went each) are goes in
    let count = went.goes.count in
    (went.all, refused-there went.goes at, went.given, omega (arith, count))
refused each (Gives.out_of_memory are goes memory) is = let no : true ≡ false = sym memory ∙ is in absurd cc
