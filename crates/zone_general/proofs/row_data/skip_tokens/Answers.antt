use Rattle.std.proofs.Common.{◌∙◌, ap, drop}
use Rattle.std.proofs.lemmas.List.{drop-drop}
use Rattle.dns_scan.specs.Token.{Token}
use Rattle.dns_scan.proofs.SymbolsRead.{same_names_join}
use Rattle.zone_general.proofs.row_data.skip_tokens.Goals as goal

pub loop-preserved : goal.loop-preserved
loop-preserved c = record {
  tokens = c.skip_token.ensures.taken ∙ ap (drop {A = Token} 1) c.loop.invariant.tokens ∙ drop-drop 1 c.loop.counter _;
  names = same_names_join _ _ _ c.loop.invariant.names c.skip_token.ensures.names;
}
