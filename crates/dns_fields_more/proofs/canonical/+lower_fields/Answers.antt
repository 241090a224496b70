use Rattle.std.proofs.Common.{rules}
use Rattle.dns_fields_more.proofs.Lowered.{lowered_step}
use Rattle.dns_fields_more.proofs.canonical.+lower_fields.Goals as goal

pub returns : goal.returns
returns t c =
    lowered_step c.split_at_mut-first.result.0.now (let cases = c.in-Some.ensures.cases in cc) c.requires c.field_len.ensures.len c.split_at_mut-first.ensures.value (search rules)
    c.lower_field.ensures c.lower_fields.ensures
