-- Data that is scanned and appended to octets.
use Rattle.std.specs.Prelude.{◌≡◌, ◌≤◌, ℕ, Bool, List, ◌++◌, length}
use Rattle.dns_scan.specs.Token.{Token}
use Rattle.dns_rdata.specs.Data.{Data, ScansAnyData, is_unknown}
use Rattle.dns_rdata.specs.DataOctets.{data_octets}

-- The tokens begin with data of the type, unknown data or not, and these are left. The octets of the data, at most 65,535
-- (RFC 1035 3.2.1), follow the old ones.
pub record AppendsData (names : List ℕ → List (List ℕ) → Type 0) (rtype : ℕ) (tokens left : List Token) (old new : List ℕ) (unknown : Bool) : Type 0 where
  pub rdata : Data
  pub scans : ScansAnyData names rtype rdata tokens left
  pub short : length (data_octets rdata) ≤ 65535
  pub behind : new ≡ old ++ data_octets rdata
  pub unknown_is : unknown ≡ is_unknown rdata
