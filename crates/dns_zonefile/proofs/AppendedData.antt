-- Data of any type that is appended to octets.
use Rattle.std.proofs.Common.{◌≡◌, ◌≤◌, ℕ, Bool, true, false, List, [], ◌∷◌, ◌++◌, Result, Ok, Err, IfOk, length, refl}
use Rattle.dns_scan.specs.Token.{Token, SameNames, marker}
use Rattle.dns_scan.specs.UnknownData.{IsUnknownData}
use Rattle.dns_rdata.specs.Data.{IsUnmarked, typed, unknown_data}
use Rattle.dns_rdata.specs.DataOctets.{data_octets}
use Rattle.dns_rdata.proofs.ScanAny.{same_back, text_same}
use Rattle.dns_scan_data.specs.Appended.{AppendsTyped, GoesOn}
use Rattle.dns_zonefile.specs.AppendedData.{AppendsData}
use Rattle.dns_zonefile.specs.Statement.{Names}

-- data of a type, unknown data or not
pub data_typed : {names : Names} {rtype : ℕ} {tokens left : List Token} {old new : List ℕ} → IsUnmarked tokens
    → AppendsTyped names rtype tokens left old new → AppendsData names rtype tokens left old new false
data_typed {rtype = rtype} unmarked appends = record {
  rdata = typed rtype appends.row;
  scans = (unmarked, refl, appends.scans);
  short = appends.scans.short;
  behind = appends.behind;
  unknown_is = refl;
}

pub data_unknown : (names : Names) (rtype : ℕ) (tokens left : List Token) (old new more : List ℕ) → IsUnknownData tokens more → left ≡ []
    → length more ≤ 65535 → new ≡ old ++ more → AppendsData names rtype (marker ∷ tokens) left old new true
data_unknown names rtype tokens left old new more is ends short behind = record {
  rdata = unknown_data (record { number = rtype; octets = more });
  scans = (refl, tokens, refl, is, ends);
  short = short;
  behind = behind;
  unknown_is = refl;
}

-- the same data, if the tokens and the spelling of names are the same
pub data_moved : {E : Type 0} (result : Result Bool E) (names later : Names) → SameNames names later → (rtype : ℕ)
    (before after left : List Token) → before ≡ after → (old new : List ℕ)
    → IfOk result (λ unknown. AppendsData later rtype before left old new unknown)
    → IfOk result (λ unknown. AppendsData names rtype after left old new unknown)
data_moved (Ok unknown) names later same rtype before after left is old new appends = record {
  rdata = appends.rdata;
  scans = text_same later names (same_back names later same) rtype before after is appends.rdata left appends.scans;
  short = appends.short;
  behind = appends.behind;
  unknown_is = appends.unknown_is;
}
data_moved (Err error) names later same rtype before after left is old new appends = tt

pub went : {names : Names} {rtype : ℕ} {tokens left : List Token} {old new : List ℕ} {unknown : Bool}
    → AppendsData names rtype tokens left old new unknown → GoesOn old new
went appends = record { more = data_octets appends.rdata; is = appends.behind }
