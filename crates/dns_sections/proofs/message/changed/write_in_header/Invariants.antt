use Rattle.std.proofs.Common.{◌≡◌, ◌+◌, ◌++◌, take, drop}
use Rattle.dns_sections.proofs.message.changed.write_in_header.Given as goal

-- the first `i` octets are written
abbrev pub invariant-loop-i : goal.invariant-loop-i
invariant-loop-i g l = g.Octs.Octets.list l.target
    ≡ take l.place (g.Octs.Octets.list l.fn.target) ++ (take l.i l.octets ++ drop (l.place + l.i) (g.Octs.Octets.list l.fn.target))
