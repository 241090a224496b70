-- How many records are left if a cursor goes on into the next sections.
use Rattle.std.proofs.Common.{◌≡◌, ◌∙◌, subst, sym, ◌<◌, Some, Ok, Err, arith}
use Rattle.std.specs.Prelude.{Option}
use Rattle.std.specs.Iterator.{size}
use Rattle.dns_octets.specs.declared.error.ParseError.{ParseError}
use Rattle.dns_sections.specs.Cursor.{Cursor}
use Rattle.dns_header.specs.ParsedRecord.{Parsed}
use Rattle.dns_sections.specs.Given.{GivesRecord, GivesAll}
use Rattle.dns_sections.specs.Sections.{SectionCursor, LeadsOn, all_left}
use Rattle.dns_sections.specs.declared.section.Section.{Section}
use Rattle.dns_sections.specs.declared.section.Section.TheVariants.{Answer, Authority, Additional}

-- fewer if a section follows
pub less-on : {cursor : Cursor} {section : Section} {behind : Option SectionCursor}
    → LeadsOn (record { cursor = cursor; section = section }) (Ok behind)
    → size (all_left behind) < size (all_left (Some (record { cursor = cursor; section = section })))
less-on {section = Answer} (LeadsOn.last none) = let no : ⊥ = cc in absurd no
less-on {section = Authority} (LeadsOn.last none) = let no : ⊥ = cc in absurd no
less-on {section = Additional} (LeadsOn.last none) = omega arith
less-on {section = Answer} (LeadsOn.on {section = Answer} leads passes) = let no : ⊥ = cc in absurd no
less-on {section = Answer} (LeadsOn.on {section = Authority} leads passes) = omega arith
less-on {section = Answer} (LeadsOn.on {section = Additional} leads passes) = let no : ⊥ = cc in absurd no
less-on {section = Authority} (LeadsOn.on {section = Answer} leads passes) = let no : ⊥ = cc in absurd no
less-on {section = Authority} (LeadsOn.on {section = Authority} leads passes) = let no : ⊥ = cc in absurd no
less-on {section = Authority} (LeadsOn.on {section = Additional} leads passes) = omega arith
less-on {section = Additional} (LeadsOn.on leads passes) = let no : ⊥ = cc in absurd no

-- at least one, an error, if no section can be reached
pub one-stuck : (cursor : Cursor) (section : Section) → 0 < size (all_left (Some (record { cursor = cursor; section = section })))
one-stuck cursor Answer = omega arith
one-stuck cursor Authority = omega arith
one-stuck cursor Additional = omega arith

-- a step within a section
module _ (old new : SectionCursor) (same : new.section ≡ old.section) where
  there : new ≡ record { cursor = new.cursor; section = old.section }
  there = λ i. record { cursor = new.cursor; section = same i }

  pub item-given : (parsed : Parsed) (section : Section) → section ≡ new.section → GivesRecord old.cursor (Some (Ok parsed)) new.cursor
      → GivesAll (Some old) (Some (Ok (record { parsed = parsed; section = section }))) (Some new)
  item-given parsed section is gives =
      subst (λ (s : Section). GivesAll (Some old) (Some (Ok (record { parsed = parsed; section = s }))) (Some new)) (sym (is ∙ same))
      (subst (λ (c : SectionCursor). GivesAll (Some old) (Some (Ok (record { parsed = parsed; section = old.section }))) (Some c)) (sym there)
      (GivesAll.item {old = old.cursor} {new = new.cursor} {section = old.section} {parsed = parsed} gives))

  pub error-given : (error : ParseError) → GivesRecord old.cursor (Some (Err error)) new.cursor
      → GivesAll (Some old) (Some (Err error)) (Some new)
  error-given error gives =
      subst (λ (c : SectionCursor). GivesAll (Some old) (Some (Err error)) (Some c)) (sym there)
      (GivesAll.broken {old = old.cursor} {new = new.cursor} {section = old.section} {error = error} gives)
