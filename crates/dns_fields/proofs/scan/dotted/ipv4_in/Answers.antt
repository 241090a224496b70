use Rattle.std.proofs.Common.{sym, ap, ◌∙◌, arith}
use Rattle.std.proofs.lemmas.Grind.{common_steps}
use Rattle.std.specs.Net.Addr.{ipv4_octets}
use Rattle.std.specs.Net.Reader.{read_view}
use Rattle.dns_fields.proofs.DottedNumbers.{whole_read, none_at_all, none_with_rest}
use Rattle.dns_fields.proofs.scan.dotted.ipv4_in.Goals as goal

pub returns-in_default-clause-none : goal.returns-in_default-clause-none
returns-in_default-clause-none c = none_at_all _ (sym c.split_address.ensures ∙ ap (read_view ipv4_octets) c.in_default.is)

pub returns-then-is_empty-clause-some : goal.returns-then-is_empty-clause-some
returns-then-is_empty-clause-some c =
    whole_read _ _ c.in-Some.rest.now (sym c.split_address.ensures ∙ ap (read_view ipv4_octets) c.in-Some.is) (grind (arith, common_steps))

pub returns-else-is_empty-clause-none : goal.returns-else-is_empty-clause-none
returns-else-is_empty-clause-none c =
    none_with_rest _ _ c.in-Some.rest.now (sym c.split_address.ensures ∙ ap (read_view ipv4_octets) c.in-Some.is) (λ none. grind (arith, common_steps))
