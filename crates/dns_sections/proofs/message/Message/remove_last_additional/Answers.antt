use Rattle.std.proofs.Common.{◌≡◌, ◌∙◌, ◌-◌, drop, ap, arith}
use Rattle.std.specs.Int.{to_be_bytes, w16}
use Rattle.dns_name.specs.Remembered.{patched}
use Rattle.dns_header.specs.HeaderCounts.{Counts, counts_in}
use Rattle.dns_sections.specs.Message.{octets_in}
use Rattle.dns_sections.proofs.Written.{counts-patched, drop-patched}
use Rattle.dns_sections.proofs.message.Message.remove_last_additional.Goals as goal

pub returns-clause-counts : goal.returns-clause-counts
returns-clause-counts g c =
    let old = octets_in g.Octs.Octets.list c.args.self.now in
    let count = c.arcount-count.result - 1 in
    let written : g.Octs.Octets.list c.write_in_header.new.target ≡ patched old 10 (to_be_bytes w16 count) =
    c.write_in_header.ensures ∙ ap (λ octets. patched old 10 octets) c.to_be_bytes.ensures in
    ap counts_in written ∙ counts-patched old count (omega arith) (omega arith)
    ∙ ap (λ n. record (counts_in old) { ar = n - 1 }) (c.arcount-count.ensures ∙ ap (λ (k : Counts). k.ar) c.header_counts.ensures.said)

pub returns-clause-rest : goal.returns-clause-rest
returns-clause-rest g c =
    let old = octets_in g.Octs.Octets.list c.args.self.now in
    let count = c.arcount-count.result - 1 in
    let written : g.Octs.Octets.list c.write_in_header.new.target ≡ patched old 10 (to_be_bytes w16 count) =
    c.write_in_header.ensures ∙ ap (λ octets. patched old 10 octets) c.to_be_bytes.ensures in
    ap (λ l. drop 12 l) written ∙ drop-patched old count (omega arith)
