use Rattle.std.proofs.Common.{◌≡◌, ◌∙◌, ap, rules, List, ℕ}
use Rattle.dns_label.specs.Name.{wire}
use Rattle.dns_name.specs.Spelling.{static_spelling, place_in}
use Rattle.dns_compress.specs.Spots.{read_all}
use Rattle.dns_compress.proofs.static_table.StaticTableTable.find.Goals as goal

pub returns : goal.returns
returns c = λ suffix is_name is.
    let found : c.find_among.result ≡ place_in static_spelling (read_all c.args.octets.now c.args.self.now.written.items) (wire c.args.key.now) =
    search rules in
    found
    ∙ ap (λ (n : List (List ℕ)). place_in static_spelling (read_all c.args.octets.now c.args.self.now.written.items) (wire n)) is
