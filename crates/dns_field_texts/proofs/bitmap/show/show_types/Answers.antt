use Rattle.dns_field_texts.proofs.ShownTypes.{nothing_shown, few_octets, show_more, all_shown}
use Rattle.dns_field_texts.proofs.bitmap.show.show_types.Goals as goal

pub loop-number-init : goal.loop-number-init
loop-number-init g c = nothing_shown g.F.Formatter.writes c.args.formatter.now c.args.octets.now c.requires

pub show_window-requires : goal.show_window-requires
show_window-requires g c =
    few_octets g.F.Formatter.writes c.args.formatter.now c.loop-number.formatter c.args.octets.now c.loop-number.left.now c.loop-number.invariant
    c.in-Some.number c.in-Some.window.now c.in-Some.behind.now c.in-Some.ensures.some

pub loop-number-preserved : goal.loop-number-preserved
loop-number-preserved g c =
    show_more g.F.Formatter.writes c.args.formatter.now c.loop-number.formatter c.show_window.new.formatter c.args.octets.now c.loop-number.left.now
    c.loop-number.invariant c.in-Some.number c.in-Some.window.now c.in-Some.behind.now c.in-Some.ensures.some c.in_ok-show_window.ensures

pub returns : goal.returns
returns g c =
    all_shown g.F.Formatter.writes c.args.formatter.now c.loop-number.formatter c.args.octets.now c.loop-number.left.now c.loop-number.invariant
    c.in_default.ensures.none
