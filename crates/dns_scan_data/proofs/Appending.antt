-- Fields and their rows that are appended to octets.
use Rattle.std.proofs.Common.{◌≡◌, ◌≤◌, ◌<◌, ◌+◌, ◌-◌, ℕ, Bool, true, false, List, [], ◌∷◌, ◌++◌, Some, Result, Ok, Err, IfOk, length, map, take, refl, sym, ◌∙◌, ap, subst, arith, length-append, append_assoc, append-nil}
use Rattle.std.proofs.Math.Seq.{take-append_seam}
use Rattle.dns_name.specs.Page.{write}
use Rattle.dns_name.specs.RecordData.{page_of}
use Rattle.dns_name.specs.Spelling.{plain}
use Rattle.dns_scan.specs.Token.{Token, SameNames}
use Rattle.dns_fields.specs.Fields.{Field, Kind, field_octets, kind_of, kinds_of, octets}
use Rattle.dns_fields.specs.Scanned.{NoRowScans, ScansData, ScansLong, ScansRow}
use Rattle.dns_fields.specs.Written.{written_parts}
use Rattle.dns_fields.proofs.ScanParts.{no_others, row_scanned}
use Rattle.dns_scan_data.specs.Appended.{AppendsField, AppendsRow, AppendsTyped, GoesOn}
use Rattle.dns_scan_data.proofs.InFull.{row_behind}

-- which names texts spell
abbrev pub Names : Type 1
Names = List ℕ → List (List ℕ) → Type 0

pub gone_on : {old mid new : List ℕ} → GoesOn old mid → GoesOn mid new → GoesOn old new
gone_on {old} first next = record {
  more = first.more ++ next.more;
  is = next.is ∙ ap (λ (l : List ℕ). l ++ next.more) first.is ∙ append_assoc old first.more next.more;
}

-- what was appended is cut off again
pub cut_back : (old new : List ℕ) → GoesOn old new → take (length old) new ≡ old
cut_back old new goes = ap (take (length old)) goes.is ∙ take-append_seam old goes.more

-- a row that was scanned and composed
pub whole_row_appended : {names : Names} {kinds : List Kind} {tokens left : List Token} {old new : List ℕ} (row : List Field)
    → map kind_of row ≡ kinds → ScansRow names row tokens left → page_of new [] ≡ write plain (page_of old []) (written_parts row)
    → AppendsRow names kinds tokens left old new
whole_row_appended {old = old} {new} row are scans written =
    record { row = row; are = are; scans = scans; behind = row_behind old new row written }

-- a field, and the row after it
module _ {names later : Names} {its : Kind} {kinds : List Kind} {tokens behind : List Token} {old mid : List ℕ} (same : SameNames names later)
    (first : AppendsField names its tokens behind old mid) where
  pub row_appended : {left : List Token} {new : List ℕ} → AppendsRow later kinds behind left mid new
      → AppendsRow names (its ∷ kinds) tokens left old new
  row_appended {left} others = record {
    row = first.field ∷ others.row;
    are = λ i. first.kind i ∷ others.are i;
    scans = row_scanned names later same first.field others.row tokens behind left first.scans others.scans;
    behind = others.behind ∙ ap (λ (l : List ℕ). l ++ octets others.row) first.behind
        ∙ append_assoc old (field_octets first.field) (octets others.row);
  }

  pub no_back : NoRowScans later kinds behind → NoRowScans names (its ∷ kinds) tokens
  no_back none =
      subst (λ (k : Kind). NoRowScans names (k ∷ kinds) tokens) first.kind
      (no_others names later same first.field kinds tokens behind first.scans none)

-- the row of a type
longer : {names : Names} {kinds : List Kind} {tokens left : List Token} {old new : List ℕ} (appends : AppendsRow names kinds tokens left old new)
    → length new ≡ length old + length (octets appends.row)
longer {old = old} appends = ap (λ (l : List ℕ). length l) appends.behind ∙ length-append old (octets appends.row)

its_kinds : {names : Names} {kinds : List Kind} {tokens left : List Token} {old new : List ℕ} (rtype : ℕ) → kinds_of rtype ≡ Some kinds
    → (appends : AppendsRow names kinds tokens left old new) → kinds_of rtype ≡ Some (map kind_of appends.row)
its_kinds rtype of_type appends = of_type ∙ sym (ap (λ (k : List Kind). Some k) appends.are)

pub no_typed : {names : Names} {rtype : ℕ} {kinds : List Kind} {tokens : List Token} → kinds_of rtype ≡ Some kinds
    → NoRowScans names kinds tokens → (ScansLong names rtype tokens → ⊥) → (row : List Field) (left : List Token)
    → ScansData names rtype row tokens left → ⊥
no_typed {kinds = kinds} of_type none long row left scans =
    let both : Some (map kind_of row) ≡ Some kinds = sym scans.kinds ∙ of_type in none row left (cc) scans.scanned

pub typed_appended : {names : Names} {rtype : ℕ} {kinds : List Kind} {tokens left : List Token} {old new : List ℕ} → kinds_of rtype ≡ Some kinds
    → AppendsRow names kinds tokens left old new → length new - length old ≤ 65535 → AppendsTyped names rtype tokens left old new
typed_appended {rtype = rtype} of_type appends short =
    let more = longer appends in record {
      row = appends.row;
      scans = record { kinds = its_kinds rtype of_type appends; scanned = appends.scans; short = omega (arith, short, more) };
      behind = appends.behind;
    }

pub typed_long : {names : Names} {rtype : ℕ} {kinds : List Kind} {tokens left : List Token} {old new : List ℕ} → kinds_of rtype ≡ Some kinds
    → AppendsRow names kinds tokens left old new → 65535 < length new - length old → (ScansLong names rtype tokens → ⊥) → ⊥
typed_long {rtype = rtype} {left = left} of_type appends over fits =
    let more = longer appends in
    fits (record {
      row = appends.row;
      left = left;
      kinds = its_kinds rtype of_type appends;
      scanned = appends.scans;
      long = omega (arith, over, more);
    })

-- what the new octets begin with
pub gone_same : {old new : List ℕ} → new ≡ old → GoesOn old new
gone_same {old} same = record { more = []; is = same ∙ sym (append-nil old) }

pub gone_by : {old new : List ℕ} (more : List ℕ) → new ≡ old ++ more → GoesOn old new
gone_by more is = record { more = more; is = is }
