use Rattle.std.proofs.Common.{◌++◌, ℕ, length, false, ap, ◌∙◌, arith}
use Rattle.std.specs.Int.{to_be_bytes, w16}
use Rattle.zone_tool.proofs.ShortQueries.{query_short}
use Rattle.zone_tool.proofs.queries.framed_query.Goals as goal

pub overflow_cast-len : goal.overflow_cast-len
overflow_cast-len c =
    omega (
      arith,
      query_short (record { id = c.args.id; recursion = false; name = c.args.apex.now; class = c.args.class }) c.as_slice-octets.ensures.name,
      ap (length {A = ℕ}) c.in_ok-query.ensures,
    )

pub returns : goal.returns
returns c =
    c.in_ok-extend_from_slice.ensures.items
    ∙ ap (λ l. l ++ c.as_slice.result.now) (c.in_ok-octets.ensures.items ∙ c.to_be_bytes.ensures ∙ ap (to_be_bytes w16) (c.len.ensures ∙ c.in_ok-query.query.ok.0))
    ∙ ap (λ l. to_be_bytes w16 (length c.in_ok-query.query.items) ++ l) c.as_slice.ensures.value
    ∙ ap (λ l. to_be_bytes w16 (length l) ++ l) c.in_ok-query.ensures
