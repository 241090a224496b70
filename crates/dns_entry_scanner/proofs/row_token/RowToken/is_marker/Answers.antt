use Rattle.std.proofs.Common.{◌≡◌, false, ap}
use Rattle.dns_scan.specs.Token.{Token}
use Rattle.dns_entry_scanner.proofs.Words.{token_by}
use Rattle.dns_entry_scanner.proofs.row_token.RowToken.is_marker.Goals as goal

pub returns-then-self : goal.returns-then-self
returns-then-self c =
    (λ bad. cc, λ same. let plain : c.args.self.quoted ≡ false = ap (λ (t : Token). t.quoted) same in cc)

pub returns : goal.returns
returns c = (
  λ yes. λ i. token_by (c.if-self.false i) (c.is_marker_text.ensures.0 yes i),
  λ same. c.is_marker_text.ensures.1 (ap (λ (t : Token). t.text) same),
)
