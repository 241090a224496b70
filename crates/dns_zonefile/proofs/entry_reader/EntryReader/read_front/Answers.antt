use Rattle.std.proofs.Common.{◌≡◌, List, ℕ, false, map, take, IfErr, subst}
use Rattle.dns_entry_scanner.specs.EntryError.{is_memory}
use Rattle.dns_entry_scanner.specs.NameInText.{SpellsUnder}
use Rattle.dns_entry_scanner.specs.TokenSpan.{token_in}
use Rattle.dns_zonefile.specs.Entry as spec
use Rattle.dns_zonefile.specs.RecordFront.{IsFront}
use Rattle.dns_zonefile.proofs.entry_reader.EntryReader.read_front.Goals as goal

pub returns-clause-err : goal.returns-clause-err
returns-clause-err c =
    let tokens = take c.args.count (map (λ span. token_in c.args.text.now span) c.args.spans.now) in
    subst (λ (context : spec.Context). IfErr c.take_front.result (λ error. is_memory error ≡ false → (owner : List (List ℕ)) (after : spec.Context)
    → IsFront (SpellsUnder context.origin) context c.args.blank_led tokens owner after → ⊥))
    c.self.view_is c.take_front.ensures.err
