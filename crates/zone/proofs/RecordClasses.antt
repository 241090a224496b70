-- The records of a zone's text have the class that the text is read for.
use Rattle.std.proofs.Common.{◌≡◌, ℕ, List, [], ◌∷◌, Option, Some, refl, sym, ◌∙◌, ap, subst}
use Rattle.std.specs.Prelude.{⊤}
use Rattle.std.specs.List.{AllByRecursion}
use Rattle.std.specs.Option.{option_or}
use Rattle.dns_text.specs.Rows.{TokenRow}
use Rattle.dns_zonefile.specs.Entries.{AreEntries}
use Rattle.dns_zonefile.specs.Entry.{Context, Enters, Entry}
use Rattle.dns_zonefile.specs.Entry.Entry.{Directive, Include, Resource}
use Rattle.dns_zonefile.specs.Statement.{Statement}
use Rattle.zone_records.specs.Record.{Record}
use Rattle.zone.specs.ZoneText.{IsZoneText, records_in}

abbrev HasClass : ℕ → Entry → Type 0
HasClass class (Resource rr) = rr.class ≡ class
HasClass class (Include path origin) = ⊤
HasClass class Directive = ⊤

-- once the class is known, it stays
entered_class : {context after : Context} {statement : Statement} {entry : Entry} (class : ℕ) → context.class ≡ Some class
    → Enters context statement entry after → (after.class ≡ Some class) × HasClass class entry
entered_class class known Enters.origin = (known, tt)
entered_class class known Enters.ttl = (known, tt)
entered_class class known Enters.file = (known, tt)
entered_class class known (Enters.resource {stated = stated} {class = found} is_owner is_class is_known) =
    let first : Some found ≡ Some class = sym is_known ∙ ap (λ (o : Option ℕ). option_or o stated.class) known in
    let same : found ≡ class = cc in (first, same)

each_class : {context after : Context} {rows : List TokenRow} {entries : List Entry} (class : ℕ) → context.class ≡ Some class
    → AreEntries context rows entries after → AllByRecursion (HasClass class) entries
each_class class known AreEntries.none = tt
each_class class known (AreEntries.bare are) = each_class class known are
each_class class known (AreEntries.entry is are) =
    let first = entered_class class known is.enters in (first.1, each_class class first.0 are)

classes_in : (class : ℕ) (entries : List Entry) → AllByRecursion (HasClass class) entries
    → AllByRecursion (λ (r : Record). r.class ≡ class) (records_in entries)
classes_in class [] each = tt
classes_in class (Resource rr ∷ entries) each = (each.0, classes_in class entries each.1)
classes_in class (Include path origin ∷ entries) each = classes_in class entries each.1
classes_in class (Directive ∷ entries) each = classes_in class entries each.1

pub zone_text_class : {given : List ℕ} {origin : Option (List (List ℕ))} {class : ℕ} {records : List Record}
    → IsZoneText given origin class records → AllByRecursion (λ (r : Record). r.class ≡ class) records
zone_text_class {class = class} zone =
    subst (λ (l : List Record). AllByRecursion (λ (r : Record). r.class ≡ class) l) (sym zone.are)
    (classes_in class zone.entries (each_class class refl zone.has.are))
