use Rattle.std.proofs.Common.{◌≡◌, ◌∙◌, ◌+◌, ◌-◌, ◌++◌, ℕ, List, length, ap, sym, rules, arith, append_assoc, length-append, ◌∷◌}
use Rattle.dns_label.specs.Label.{label_octets}
use Rattle.dns_label.specs.Name.{wire}
use Rattle.dns_name.specs.Spelling.{static_spelling}
use Rattle.dns_compress.specs.declared.spot.Spot.{Spot}
use Rattle.dns_compress.specs.Tables.{added}
use Rattle.dns_compress.specs.Spots.{spots_of}
use Rattle.dns_compress.proofs.SpotsFound.{spots-label, length-label}
use Rattle.dns_compress.proofs.static_table.StaticTable.+push_all.Goals as goal

pub push-requires : goal.push-requires
push-requires t c =
    omega (
      arith,
      c.requires.few,
      length-label (c.args.count - 1) c.args.count c.args.place (c.args.place + 1 + length (label_octets c.in-Some.label)) c.args.stop c.args.name.now
          (label_octets c.in-Some.label) c.in-Some.parent (search rules) (omega arith) (omega arith),
    )

pub push_all-requires : goal.push_all-requires
push_all-requires t c =
    let long : c.len.result ≡ length (label_octets c.in-Some.label) = search rules in
    let is : c.args.name.now ≡ label_octets c.in-Some.label ∷ c.in-Some.parent = search rules in (
      search (rules, arith),
      (
        omega (
          arith,
          c.requires.few,
          length-label (c.args.count - 1) c.args.count c.args.place (c.args.place + 1 + c.len.result) c.args.stop c.args.name.now
              (label_octets c.in-Some.label) c.in-Some.parent is (omega arith) (omega (arith, long)),
          c.push.ensures.len,
        ),
        omega (
          arith,
          c.requires.room,
          long,
          ap (λ (n : List (List ℕ)). length (wire n)) is,
          length-append (label_octets c.in-Some.label) (wire c.in-Some.parent),
        ),
      ),
    )

pub returns : goal.returns
returns t c =
    let long : c.len.result ≡ length (label_octets c.in-Some.label) = search rules in
    c.push_all.ensures
    ∙ ap (λ (l : List Spot). l ++ spots_of (added static_spelling (c.args.count - 1) (c.args.place + 1 + c.len.result) c.args.stop c.in-Some.parent))
    c.push.ensures.items
    ∙ append_assoc c.args.self.now.written.items _ _
    ∙ ap (λ (l : List Spot). c.args.self.now.written.items ++ l)
    (sym (spots-label (c.args.count - 1) c.args.count c.args.place (c.args.place + 1 + c.len.result) c.args.stop c.args.name.now
    (label_octets c.in-Some.label) c.in-Some.parent (search rules) (omega arith) (omega (arith, long))))
