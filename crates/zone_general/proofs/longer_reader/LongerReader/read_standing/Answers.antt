use Rattle.std.proofs.Common.{◌++◌, ◌∙◌, List, ℕ, ap}
use Rattle.dns_entry_scanner.proofs.HandedOn.{handed_on}
use Rattle.zone_general.specs.Seen.{octets_in}
use Rattle.zone_general.proofs.FoundRows.{found_row}
use Rattle.zone_general.proofs.WrittenRows.{goes_stands, standing_entry}
use Rattle.zone_general.proofs.longer_reader.LongerReader.read_standing.Goals as goal

pub returns-in_err-read_entry-clause-err : goal.returns-in_err-read_entry-clause-err
returns-in_err-read_entry-clause-err c =
    handed_on c.from_residual-in_err-read_entry.result c.in_err-read_entry.field-0.0 _ c.from_residual-in_err-read_entry.ensures.1
    (λ real entry after is. c.in_err-read_entry.ensures.err real entry after (standing_entry c.requires.stands is))

pub returns-clause-ok : goal.returns-clause-ok
returns-clause-ok c =
    let read = c.in_ok-read_entry.ensures.ok in (
      read.0,
      octets_in c.args.row,
      goes_stands c.requires.stands (found_row c.args.row c.requires.found).are read.1,
      c.in_ok-extend_from_slice.ensures.items ∙ ap (λ (l : List ℕ). c.args.out.now.items ++ l) c.octets.ensures,
    )
