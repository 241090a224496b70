use Rattle.std.proofs.Common.{◌≡◌, ◌∙◌, ◌-◌, ◌++◌, ℕ, List, length, drop, sym, arith}
use Rattle.std.specs.Int.{to_be_bytes, w16, w32}
use Rattle.dns_name.specs.Remembered.{patched}
use Rattle.dns_builder.specs.OptSeen.{start_of}
use Rattle.dns_builder.proofs.OptPages.{length-last, free_behind}
use Rattle.dns_builder.proofs.opt.OptBuilder.write_fields.Goals as goal

pub patch-requires-clause-free : goal.patch-requires-clause-free
patch-requires-clause-free g c =
    free_behind (start_of g.Target.Octets.list c.args.self.now - 8) _ _ (g.Target.Remembers.known c.args.self.now.target) c.requires.stops
    (omega (arith, c.requires.alone, c.options_start-start.ensures))

pub returns-clause-written : goal.returns-clause-written
returns-clause-written g c =
    let octets : List ℕ = g.Target.Octets.list c.args.self.now.target in
    let start : c.options_start-start.result ≡ start_of g.Target.Octets.list c.args.self.now =
    c.options_start-start.ensures ∙ sym c.requires.alone in
    let over : c.head_octets-head.result ≡ to_be_bytes w16 c.args.self.now.fields.payload_size ++ (to_be_bytes w32 c.ttl.result
    ++ to_be_bytes w16 (length (drop (length octets - c.args.self.now.rdlen) octets))) =
    c.head_octets-head.ensures ∙ λ i. to_be_bytes w16 (c.class.ensures i) ++ (to_be_bytes w32 c.ttl.result
    ++ to_be_bytes w16 (sym (length-last octets c.args.self.now.rdlen (omega (arith, c.requires.behind))) i)) in
    record {
      ttl = c.ttl.result;
      says = c.ttl.ensures;
      written = c.patch.ensures.octets ∙ λ i. patched octets (start i - 8) (over i);
    }
