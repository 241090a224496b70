-- The walk over each fault of a zone's text. Only contracts inside the crate name it.
use Rattle.std.specs.Prelude.{◌≡◌, ◌<◌, ℕ, List, [], ◌∷◌, Option, Some, None, length, IfSome, ⊤}
use Rattle.dns_label.specs.Name.{IsName}
use Rattle.dns_entry_scanner.specs.LineMark.{MarksLine}
use Rattle.dns_zonefile.specs.Reader.{Reader, left_of}
use Rattle.dns_zonefile.specs.ReaderSeen.{reader_of, refused_in}
use Rattle.zone_explain.specs.AllFaults.{AreFaults, Front}
use Rattle.zone_explain.specs.declared.explain.Finding.{Finding}
use Rattle.zone_explain.specs.declared.explain.walk.Front.{Front as Shown}
use Rattle.zone_explain.specs.declared.explain.walk.Front.TheVariants as shown
use Rattle.zone_explain.specs.declared.explain.walk.Start.{Start}
use Rattle.zone_explain.specs.declared.explain.walk.Step.{Step}
use Rattle.zone_explain.specs.declared.explain.walk.Step.TheVariants as step
use Rattle.zone_explain.specs.declared.explain.walk.Walk.{Walk}

-- what the entries so far have shown
abbrev pub front_of : Shown → Front
front_of shown.Unseen = Front.unseen
front_of shown.Missing = Front.missing
front_of (shown.Under apex line) = Front.under apex

-- The walk is over the text. Its reader may go on, and its origin is a name.
pub record IsOver (text : List ℕ) (walk : Walk) : Type 0 where
  pub text_is : (reader_of walk.zonefile).text ≡ text
  pub unrefused : refused_in walk.zonefile ≡ None
  pub named : IfSome (reader_of walk.zonefile).context.origin IsName
  pub marks : MarksLine text walk.mark

-- The reader of the text was at this start.
pub record StartsAt (text : List ℕ) (start : Start) (reader : Reader) : Type 0 where
  pub text_is : reader.text ≡ text
  pub place_is : reader.place ≡ start.place
  pub count_is : reader.count ≡ start.count

-- the faults from a reader on, by those from where a step leads
abbrev pub Leads : Reader → Front → Step → Reader → Front → Type 0
Leads old before step.Ended new after = AreFaults old before []
Leads old before step.Kept new after = (findings : List Finding) → AreFaults new after findings → AreFaults old before findings
Leads old before (step.Found finding) new after =
    (findings : List Finding) → AreFaults new after findings → AreFaults old before (finding ∷ findings)

-- a step goes on, except at the end of the text
abbrev pub GoesOn : Reader → Step → Reader → Type 0
GoesOn old step.Ended new = ⊤
GoesOn old step.Kept new = length (left_of new) < length (left_of old)
GoesOn old (step.Found finding) new = length (left_of new) < length (left_of old)

-- the same up to the next fault, if there is one
abbrev pub LeadsTo : Reader → Front → Option Finding → Reader → Front → Type 0
LeadsTo old before None new after = AreFaults old before []
LeadsTo old before (Some finding) new after =
    ((findings : List Finding) → AreFaults new after findings → AreFaults old before (finding ∷ findings))
    × (length (left_of new) < length (left_of old))
