-- Texts of names that may be absolute or relative.
use Rattle.std.proofs.Common.{◌≡◌, ℕ, List, inr, Result, Ok, Err, IfOk, IfErr, ap, subst}
use Rattle.std.specs.List.{AllByRecursion}
use Rattle.dns_label.specs.Name.{IsName}
use Rattle.dns_label.specs.Printed.{printed_name}
use Rattle.dns_label.specs.NameText.{IsAbsoluteText, IsNameText, IsRelativeNameText}
use Rattle.dns_label.specs.NameText.IsNameText.{absolute}
use Rattle.dns_name.specs.FromStrError.{FromStrError}
use Rattle.dns_name.specs.FromStrError.TheVariants.{Presentation, ShortBuf}
use Rattle.dns_label.specs.Octets.{AreOctets}
use Rattle.dns_name.specs.PrintedLabels.{printed_relative}
use Rattle.dns_name.specs.RelativeText.{SpellsAbsolute}
use Rattle.dns_name.specs.Text.{IsRefused}
use Rattle.dns_text.specs.declared.uncertain.UncertainName.{UncertainName}
use Rattle.dns_text.specs.declared.uncertain.UncertainName.TheVariants.{Absolute, Relative}
use Rattle.dns_name.specs.SpelledText.{IsNotSpelled}
use Rattle.dns_text.specs.Uncertain.{IsTextOf, labels_of, text_of}

-- a text spells one name
abbrev pub OneName : Type 0
OneName = (text : List ℕ) (name other : List (List ℕ)) → IsNameText text name → IsNameText text other → name ≡ other

-- the one name of a text with its last dot
pub read_ok : {E : Type 0} (text : List ℕ) (result : Result (List (List ℕ)) E) → OneName → SpellsAbsolute text
    → IfOk result (IsNameText text) → IfOk result (IsAbsoluteText text)
read_ok text (Ok name) one spells is = subst (IsAbsoluteText text) (one text spells.0 name (absolute spells.1) is) spells.1
read_ok text (Err error) one spells is = tt

pub read_err : {T : Type 0} (text : List ℕ) (result : Result T FromStrError) → SpellsAbsolute text → IfErr result (IsRefused IsNameText text)
    → IfErr result (IsNotSpelled text)
read_err text (Ok name) spells refused = tt
read_err text (Err (Presentation error)) spells refused = absurd (refused spells.0 (absolute spells.1))
read_err text (Err ShortBuf) spells refused = inr spells

pub spells_back : {O : Type 0} (name : UncertainName O)
    → ((name : List (List ℕ)) → IsName name → AllByRecursion AreOctets name → IsAbsoluteText (printed_name name) name)
    → ((name : List (List ℕ)) → IsName name → AllByRecursion AreOctets name → IsRelativeNameText (printed_relative name) name)
    → IsName (labels_of name) → AllByRecursion AreOctets (labels_of name) → IsTextOf (text_of name) name
spells_back (Absolute name) dotted dotless is octets = dotted name is octets
spells_back (Relative name) dotted dotless is octets = dotless name is octets

pub no_other : {O : Type 0} (text : List ℕ) (name other : UncertainName O) → OneName
    → ((text : List ℕ) (name other : List (List ℕ)) → IsRelativeNameText text name → IsRelativeNameText text other → name ≡ other)
    → ((text : List ℕ) (name other : List (List ℕ)) → IsRelativeNameText text name → IsAbsoluteText text other → ⊥)
    → IsTextOf text name → IsTextOf text other → other ≡ name
no_other text (Absolute name) (Absolute other) one one_relative apart is are = ap Absolute (one text other name (absolute are) (absolute is))
no_other text (Absolute name) (Relative other) one one_relative apart is are = absurd (apart text other name are is)
no_other text (Relative name) (Absolute other) one one_relative apart is are = absurd (apart text name other is are)
no_other text (Relative name) (Relative other) one one_relative apart is are = ap Relative (one_relative text other name are is)
