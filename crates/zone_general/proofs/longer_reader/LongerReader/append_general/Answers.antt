use Rattle.std.proofs.Common.{◌≡◌, ◌∙◌, ◌+◌, ◌++◌, ℕ, List, Option, ap, drop, refl, subst}
use Rattle.dns_label.specs.Octets.{AreOctets}
use Rattle.dns_name.specs.UnknownText.{unknown_text}
use Rattle.dns_entry_scanner.specs.NameInText.{SpellsUnder}
use Rattle.zone_general.specs.LongerRow.{ScansLonger}
use Rattle.zone_general.specs.Seen.{tokens_in}
use Rattle.zone_general.proofs.WrittenRows.{rewrites_same}
use Rattle.zone_general.proofs.longer_reader.LongerReader.append_general.Goals as goal

pub returns-clause-ok : goal.returns-clause-ok
returns-clause-ok c =
    let scanned = c.in_ok-scan_found_data.ensures.ok in
    let appended = c.in_ok-append_in_general_form.ensures.rewrites in
    let content = scanned.0 in
    let same : c.deref.result.now ≡ content = c.deref.ensures.value ∙ scanned.3 ∙ ap (λ (l : List ℕ). l ++ content) c.clear.ensures.items in (
      appended.0,
      record {
        content = content;
        scans = subst (λ (o : Option (List (List ℕ))). ScansLonger (SpellsUnder o) c.args.kind.rtype (drop (c.args.kind.index + 1) (tokens_in c.args.row)) content) c.origin.ensures scanned.1;
        octets = subst AreOctets same c.append_in_general_form.ensures.octets;
        short = scanned.2;
        word = c.in_ok-word.word.now;
        word_is = c.in_ok-word.ensures;
        so = rewrites_same c.args.row c.args.kind.index refl (ap unknown_text same) refl appended.1;
      },
      appended.2,
    )
