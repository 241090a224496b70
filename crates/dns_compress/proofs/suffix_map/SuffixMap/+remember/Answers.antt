use Rattle.std.proofs.Common.{◌≡◌, ◌∙◌, ◌+◌, ◌-◌, ◌*◌, ◌++◌, ◌∷◌, [], ℕ, List, true, length, ap, sym, subst, rules, arith, length-append}
use Rattle.dns_octets.specs.Builder.{Known}
use Rattle.dns_label.specs.Label.{label_octets}
use Rattle.dns_label.specs.Name.{wire}
use Rattle.dns_name.specs.Spelling.{tree_spelling}
use Rattle.dns_compress.specs.Tables.{added, in_order}
use Rattle.dns_compress.specs.Listed.{listed}
use Rattle.dns_compress.proofs.Adding.{added-label, order_first, order_rest, all_added, room_rest}
use Rattle.dns_compress.proofs.suffix_map.SuffixMap.+remember.Goals as goal

pub push-requires-clause-ready : goal.push-requires-clause-ready
push-requires-clause-ready t c =
    let long : length c.as_slice.result.now ≡ length (wire c.args.name.now) = ap (length {A = ℕ}) c.as_slice.ensures.octets in
    let room = room_rest c.args.count (length (wire c.args.name.now)) 0 (omega arith) (omega arith) in
    let ready = c.requires.ready.list in (
      omega (arith, ready.0),
      omega (arith, ready.1, room, long),
    )

pub push-requires-clause-order : goal.push-requires-clause-order
push-requires-clause-order t c =
    let known : Known = listed c.args.self.now.list in
    let is : c.args.name.now ≡ label_octets c.in-Some.label ∷ c.in-Some.parent = search rules in
    subst (λ (l : List ℕ). in_order tree_spelling (known ++ record { suffix = l; place = c.args.place; stop = c.args.stop } ∷ []) ≡ true)
    (sym c.as_slice.ensures.octets)
    (order_first known (added tree_spelling (c.args.count - 1) (c.args.place + 1 + length (label_octets c.in-Some.label)) c.args.stop c.in-Some.parent) _ _
    (added-label (c.args.count - 1) c.args.count c.args.place _ c.args.stop c.args.name.now (label_octets c.in-Some.label) c.in-Some.parent
    is (omega arith) (omega arith)) c.requires.order)

pub remember-requires : goal.remember-requires
remember-requires t c =
    let known : Known = listed c.args.self.now.list in
    let long : c.len.result ≡ length (label_octets c.in-Some.label) = search rules in
    let is : c.args.name.now ≡ label_octets c.in-Some.label ∷ c.in-Some.parent = search rules in
    let whole : length (wire c.args.name.now) ≡ 1 + c.len.result + length (wire c.in-Some.parent) =
    omega (arith, long, ap (λ (n : List (List ℕ)). length (wire n)) is, length-append (label_octets c.in-Some.label) (wire c.in-Some.parent)) in
    let room = room_rest c.args.count (length (wire c.args.name.now)) (length (wire c.in-Some.parent)) (omega arith) (omega (arith, whole)) in
    let octets : length c.as_slice.result.now ≡ length (wire c.args.name.now) = ap (length {A = ℕ}) c.as_slice.ensures.octets in
    let ready = c.requires.ready.list in (
      search (rules, arith),
      (
        record {
          buckets = c.push.ensures.buckets;
          list = c.push.ensures.room (c.args.count - 1) ((c.args.count - 1) * length (wire c.in-Some.parent)) (
            omega (arith, ready.0),
            omega (arith, ready.1, room, octets),
          );
        },
        (
          order_rest known (added tree_spelling (c.args.count - 1) (c.args.place + 1 + c.len.result) c.args.stop c.in-Some.parent) _ _
              (added-label (c.args.count - 1) c.args.count c.args.place (c.args.place + 1 + c.len.result) c.args.stop c.args.name.now
              (label_octets c.in-Some.label) c.in-Some.parent is (omega arith) (omega (arith, long)))
              (listed c.push.new.self.list)
              (c.push.ensures.last
              ∙ ap (λ (l : List ℕ). known ++ record { suffix = l; place = c.args.place; stop = c.args.stop } ∷ []) c.as_slice.ensures.octets)
              c.requires.order,
          omega (arith, c.requires.room, whole),
        ),
      ),
    )

pub returns : goal.returns
returns t c =
    let known : Known = listed c.args.self.now.list in
    let long : c.len.result ≡ length (label_octets c.in-Some.label) = search rules in
    c.remember.ensures
    ∙ all_added known (added tree_spelling (c.args.count - 1) (c.args.place + 1 + c.len.result) c.args.stop c.in-Some.parent) _ _
    (added-label (c.args.count - 1) c.args.count c.args.place (c.args.place + 1 + c.len.result) c.args.stop c.args.name.now (label_octets c.in-Some.label)
    c.in-Some.parent (search rules) (omega arith) (omega (arith, long)))
    (listed c.push.new.self.list)
    (c.push.ensures.last
    ∙ ap (λ (l : List ℕ). known ++ record { suffix = l; place = c.args.place; stop = c.args.stop } ∷ []) c.as_slice.ensures.octets)
