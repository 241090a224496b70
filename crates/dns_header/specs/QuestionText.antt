-- How a text spells a question: words with white space between them, the name first.
use Rattle.std.specs.Prelude.{◌≡◌, ◌<◌, ℕ, List, ◌++◌, length, Some, None}
use Rattle.std.specs.Char.{is_whitespace, is_not_whitespace}
use Rattle.std.specs.Str.{NoCharPasses, EmptyOrStartsWithPassing}
use Rattle.dns_label.specs.NameText.{IsNameText}
use Rattle.dns_values.specs.Mnemonic.{class_read, type_read}
use Rattle.dns_wire.specs.Text.{IsRefused}
use Rattle.dns_wire.specs.declared.text.FromStrError as name
use Rattle.dns_wire.specs.declared.text.FromStrError.TheVariants as name_error
use Rattle.dns_header.specs.Question.{Question}
use Rattle.dns_header.specs.declared.question.error.FromStrError.{FromStrError}
use Rattle.dns_header.specs.declared.question.error.FromStrError.TheVariants.{Presentation, ShortBuf}
use Rattle.dns_header.specs.declared.question.error.PresentationError.{PresentationError}
use Rattle.dns_header.specs.declared.question.error.PresentationError.TheVariants.{BadName, MissingQname, MissingClassAndQtype, MissingQtype, BadClass, BadQtype}

-- the text has no word
abbrev pub IsBlank : List ℕ → Type 0
IsBlank text = NoCharPasses is_not_whitespace text

-- the text has white space, a word, and then the rest, which is empty or begins with white space
pub record StartsWithWord (text word rest : List ℕ) : Type 0 where
  pub gap : List ℕ
  pub is : text ≡ gap ++ (word ++ rest)
  pub blank : IsBlank gap
  pub some : 0 < length word
  pub solid : NoCharPasses is_whitespace word
  pub more : List ℕ
  pub ends : EmptyOrStartsWithPassing is_whitespace rest more

-- The words ask for a type in a class. If the first word is a class, the type follows it; else it is the type, and the
-- class may follow it, or is IN. Further words are ignored.
pub data AsksFor (text : List ℕ) : ℕ → ℕ → Type 0 where
  class_first : {word rest next behind : List ℕ} {qtype qclass : ℕ} → StartsWithWord text word rest → class_read word ≡ Some qclass
      → StartsWithWord rest next behind → type_read next ≡ Some qtype → AsksFor text qtype qclass
  type_first : {word rest next behind : List ℕ} {qtype qclass : ℕ} → StartsWithWord text word rest → class_read word ≡ None
      → type_read word ≡ Some qtype → StartsWithWord rest next behind → class_read next ≡ Some qclass → AsksFor text qtype qclass
  type_alone : {word rest : List ℕ} {qtype : ℕ} → StartsWithWord text word rest → class_read word ≡ None → type_read word ≡ Some qtype
      → IsBlank rest → AsksFor text qtype 1

-- why they ask for none
pub data AsksForNone (text : List ℕ) : PresentationError → Type 0 where
  no_word : IsBlank text → AsksForNone text MissingClassAndQtype
  no_type : {word rest : List ℕ} {qclass : ℕ} → StartsWithWord text word rest → class_read word ≡ Some qclass → IsBlank rest
      → AsksForNone text MissingQtype
  class_and_no_type : {word rest next behind : List ℕ} {qclass : ℕ} → StartsWithWord text word rest → class_read word ≡ Some qclass
      → StartsWithWord rest next behind → type_read next ≡ None → AsksForNone text BadQtype
  neither : {word rest : List ℕ} → StartsWithWord text word rest → class_read word ≡ None → type_read word ≡ None → AsksForNone text BadQtype
  type_and_no_class : {word rest next behind : List ℕ} {qtype : ℕ} → StartsWithWord text word rest → class_read word ≡ None
      → type_read word ≡ Some qtype → StartsWithWord rest next behind → class_read next ≡ None → AsksForNone text BadClass

-- The text spells the question: its first word is the name, with or without its final dot.
pub record SpellsQuestion (text : List ℕ) (q : Question) : Type 0 where
  pub word : List ℕ
  pub rest : List ℕ
  pub first : StartsWithWord text word rest
  pub name : IsNameText word q.name
  pub asks : AsksFor rest q.qtype q.qclass

-- why the text is parsed as no question; the name is parsed first
pub data SpellsNoQuestion (text : List ℕ) : FromStrError → Type 0 where
  no_name : IsBlank text → SpellsNoQuestion text (Presentation MissingQname)
  bad_name : {word rest : List ℕ} {error : _} → StartsWithWord text word rest → IsRefused IsNameText word (name_error.Presentation error)
      → SpellsNoQuestion text (Presentation (BadName error))
  no_room : {word rest : List ℕ} → StartsWithWord text word rest → IsRefused IsNameText word name_error.ShortBuf
      → SpellsNoQuestion text ShortBuf
  asks_none : {word rest : List ℕ} {name : List (List ℕ)} {error : PresentationError} → StartsWithWord text word rest
      → IsNameText word name → AsksForNone rest error → SpellsNoQuestion text (Presentation error)

-- the error of a question for that of its name
abbrev pub name_fault : name.FromStrError → FromStrError
name_fault (name_error.Presentation error) = Presentation (BadName error)
name_fault name_error.ShortBuf = ShortBuf
