-- A field that is written as octets, and one that is written as a name.
use Rattle.std.proofs.Common.{◌≡◌, ℕ, List, ◌++◌, length}
use Rattle.std.specs.Prelude.{Result, Ok, Err, Option, OnOk}
use Rattle.dns_octets.specs.Builder.{Known, IsPast}
use Rattle.dns_octets.specs.declared.error.AppendError.{AppendError}
use Rattle.dns_octets.specs.declared.error.AppendError.TheVariants.{ShortBuf}
use Rattle.dns_name.specs.Spelling.{Spelling, name_text, known_after}
use Rattle.dns_name.specs.Page.{write}
use Rattle.dns_name.specs.Page.Parts.{End, Octets, Named}
use Rattle.dns_name.specs.RecordData.{page_of}
use Rattle.dns_name.proofs.WrittenParts.{page_same}

pub octets_written : {T E : Type 0} (result : Result T E) (s : Spelling) (new old more : List ℕ) (known before : Known)
    → OnOk result (new ≡ old ++ more) → known ≡ before
    → OnOk result (page_of new known ≡ write s (page_of old before) (Octets more End))
unfolding write
octets_written (Ok value) s new old more known before octets same = page_same octets same
octets_written (Err error) s new old more known before octets same = tt

pub octets_past : {T : Type 0} (result : Result T AppendError) (s : Spelling) (old more : List ℕ) (known : Known) (bound : Option ℕ)
    → (result ≡ Err ShortBuf → IsPast bound (length (old ++ more)))
    → result ≡ Err ShortBuf → IsPast bound (length (write s (page_of old known) (Octets more End)).octets)
unfolding write
octets_past result s old more known bound past = past

pub name_written : {T E : Type 0} (result : Result T E) (s : Spelling) (new old : List ℕ) (known before : Known) (name : List (List ℕ))
    → OnOk result (new ≡ old ++ name_text s before (length old) name) → OnOk result (known ≡ known_after s before (length old) name)
    → OnOk result (page_of new known ≡ write s (page_of old before) (Named name End))
unfolding write
name_written (Ok value) s new old known before name octets same = page_same octets same
name_written (Err error) s new old known before name octets same = tt

pub name_past : {T : Type 0} (result : Result T AppendError) (s : Spelling) (old : List ℕ) (known : Known) (name : List (List ℕ)) (bound : Option ℕ)
    → (result ≡ Err ShortBuf → IsPast bound (length (old ++ name_text s known (length old) name)))
    → result ≡ Err ShortBuf → IsPast bound (length (write s (page_of old known) (Named name End)).octets)
unfolding write
name_past result s old known name bound past = past

pub ruleset leaf_rules = (octets_written, octets_past, name_written, name_past)
