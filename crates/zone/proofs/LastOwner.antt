-- The owner in the context after a record is the record's.
use Rattle.std.proofs.Common.{◌≡◌, ◌++◌, ◌∙◌, ℕ, List, [], ◌∷◌, Option, Some, Ok, refl, ap}
use Rattle.std.specs.Prelude.{Result}
use Rattle.dns_text.specs.Rows.{TokenRow}
use Rattle.dns_header.specs.Record.{RecordOf}
use Rattle.dns_rdata.specs.Data.{Data}
use Rattle.dns_entry_scanner.specs.declared.entry_error.EntryError.{EntryError}
use Rattle.dns_zonefile.specs.Entries.{AreEntries}
use Rattle.dns_zonefile.specs.Entry.{Context, Entry, Enters}
use Rattle.dns_zonefile.specs.Entry.Entry.{Resource}
use Rattle.dns_zonefile.specs.Reader.{Gives, Reader}
use Rattle.dns_zonefile.specs.Statement.{Statement}

owner_entered : {context after : Context} {statement : Statement} {entry : Entry} {rr : RecordOf (List (List ℕ)) Data} → entry ≡ Resource rr
    → Enters context statement entry after → after.owner ≡ Some rr.owner
owner_entered same Enters.origin = absurd cc
owner_entered same Enters.ttl = absurd cc
owner_entered same Enters.file = absurd cc
owner_entered {rr = rr} same (Enters.resource {owner = owner} is known alike) = let one : owner ≡ rr.owner = cc in ap Some one

same_after : {context after : Context} {rows : List TokenRow} {all : List Entry} → all ≡ [] → AreEntries context rows all after → after ≡ context
same_after none AreEntries.none = refl
same_after none (AreEntries.bare are) = same_after none are
same_after none (AreEntries.entry is are) = absurd cc

owner_last : {context after : Context} {rows : List TokenRow} {all : List Entry} (entries : List Entry) (rr : RecordOf (List (List ℕ)) Data)
    → all ≡ entries ++ Resource rr ∷ [] → AreEntries context rows all after → after.owner ≡ Some rr.owner
owner_last [] rr same AreEntries.none = absurd cc
owner_last (first ∷ entries) rr same AreEntries.none = absurd cc
owner_last entries rr same (AreEntries.bare are) = owner_last entries rr same are
owner_last [] rr same (AreEntries.entry {next = next} {after = after} {entry = entry} {entries = others} is are) =
    let one : entry ≡ Resource rr = cc in
    let none : others ≡ [] = cc in
    ap (λ (c : Context). c.owner) (same_after none are) ∙ owner_entered one is.enters
owner_last (first ∷ entries) rr same (AreEntries.entry {entries = others} is are) =
    let rest : others ≡ entries ++ Resource rr ∷ [] = cc in
    owner_last entries rr rest are

-- after the record that a reader gives
pub owner_given : {reader new : Reader} {given : Result (Option Entry) EntryError} {rr : RecordOf (List (List ℕ)) Data}
    → given ≡ Ok (Some (Resource rr)) → Gives reader given new → new.context.owner ≡ Some rr.owner
owner_given {rr = rr} same (Gives.given directives {entry = entry} are other goes) =
    let is : entry ≡ Resource rr = cc in
    owner_last directives rr (ap (λ (e : Entry). directives ++ e ∷ []) is) goes.are
owner_given same (Gives.ended are goes ends) = absurd cc
owner_given same (Gives.refused are goes at real) = absurd cc
owner_given same (Gives.out_of_memory are goes memory) = absurd cc
