use Rattle.std.proofs.Common.{◌≡◌, ◌∙◌, ◌+◌, length, sym, subst, rules, arith}
use Rattle.dns_label.specs.Label.{label_octets}
use Rattle.dns_label.specs.Name.{IsName}
use Rattle.dns_wire.proofs.Readable.{name_behind}
use Rattle.dns_compress.specs.declared.walk.Walk.{Walk}
use Rattle.dns_compress.specs.Walk.{IsWalked}
use Rattle.dns_compress.proofs.Keys.{key_root, key_label}
use Rattle.dns_compress.proofs.Walking.{walked_root, walked_found, walked_full, walked_label}
use Rattle.dns_compress.proofs.walk.+walk_labels.Goals as goal

pub returns-in_default-clause-walked : goal.returns-in_default-clause-walked
returns-in_default-clause-walked g t c = λ name is_name is.
    let known = g.T.Table.known c.args.table.now c.args.octets.now in
    subst (λ (w : Walk). IsWalked g.T.Table.spelling known (length known + c.args.more) c.args.place name w.labels w.front w.near w.target)
    (sym c.stop.ensures) (walked_root _ _ _ _ _ (key_root g.T.Table.lowers c.args.key.now name is (search rules)))

pub returns-in-Some-find-clause-walked : goal.returns-in-Some-find-clause-walked
returns-in-Some-find-clause-walked g t c = λ name is_name is.
    let known = g.T.Table.known c.args.table.now c.args.octets.now in
    let begun = key_label g.T.Table.lowers c.args.key.now name (label_octets c.in-Some.label) c.in-Some.parent is (search rules) in
    subst (λ (w : Walk). IsWalked g.T.Table.spelling known (length known + c.args.more) c.args.place name w.labels w.front w.near w.target)
    (sym c.stop-in-Some-find.ensures)
    (walked_found _ _ _ _ _ begun.first begun.rest begun.begins c.in-Some-find.target
    (sym (c.find.ensures name is_name is) ∙ c.in-Some-find.is))

pub returns-then-not-may_stand-clause-walked : goal.returns-then-not-may_stand-clause-walked
returns-then-not-may_stand-clause-walked g t c = λ name is_name is.
    let known = g.T.Table.known c.args.table.now c.args.octets.now in
    let begun = key_label g.T.Table.lowers c.args.key.now name (label_octets c.in-Some.label) c.in-Some.parent is (search rules) in
    subst (λ (w : Walk). IsWalked g.T.Table.spelling known (length known + c.args.more) c.args.place name w.labels w.front w.near w.target)
    (sym c.stop-then-not-may_stand.ensures)
    (walked_full _ _ _ _ _ begun.first begun.rest begun.begins (sym (c.find.ensures name is_name is) ∙ search rules)
    (sym (c.may_stand.ensures c.args.octets.now) ∙ c.if-not-may_stand.true))

pub returns-clause-walked : goal.returns-clause-walked
returns-clause-walked g t c = λ name is_name is.
    let known = g.T.Table.known c.args.table.now c.args.octets.now in
    let begun = key_label g.T.Table.lowers c.args.key.now name (label_octets c.in-Some.label) c.in-Some.parent is (search rules) in
    let len_is : c.len-len.result ≡ length (label_octets c.in-Some.label) = search rules in
    let long : c.len-len.result ≡ length begun.first = len_is ∙ sym begun.long in
    subst (λ (w : Walk). IsWalked g.T.Table.spelling known (length known + c.args.more) c.args.place name w.labels w.front w.near w.target)
    (sym c.after.ensures)
    (walked_label g.T.Table.spelling known (length known + c.args.more) c.args.place name begun.first begun.rest
    begun.begins c.walk_labels.result.labels c.walk_labels.result.front
    (length known + (c.args.more + 1)) (c.args.place + (1 + c.len-len.result)) (c.walk_labels.result.labels + 1)
    (1 + c.len-len.result + c.walk_labels.result.front) c.walk_labels.result.near c.walk_labels.result.target
    (omega arith) (omega (arith, long)) (omega arith) (omega (arith, long)) (sym (c.find.ensures name is_name is) ∙ search rules)
    (sym (c.may_stand.ensures c.args.octets.now) ∙ c.if-not-may_stand.false)
    (c.walk_labels.ensures.walked begun.rest (name_behind begun.first begun.rest (subst IsName begun.begins is_name)) begun.on))
