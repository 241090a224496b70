-- What contracts see of the cursors.
use Rattle.std.specs.Prelude.{Bool, Option, option_map}
use Rattle.dns_octets.specs.Parser as parser
use Rattle.dns_sections.specs.Cursor.{Cursor}
use Rattle.dns_sections.specs.Sections.{SectionCursor}
use Rattle.dns_sections.specs.declared.cursor.ItemCursor.{ItemCursor}
use Rattle.dns_sections.specs.declared.question_section.QuestionSection.{QuestionSection}
use Rattle.dns_sections.specs.declared.record_section.RecordSection.{RecordSection}
use Rattle.dns_sections.specs.declared.record_iter.RecordIter.{RecordIter}
use Rattle.dns_sections.specs.declared.record_iter.AnyRecordIter.{AnyRecordIter}
use Rattle.dns_sections.specs.declared.message_iter.MessageIter.{MessageIter}

abbrev pub cursor_of : ItemCursor → Cursor
cursor_of cursor = record { message = parser.octets_of cursor.parser; place = parser.place_of cursor.parser; left = cursor.left }

-- the place of a cursor over questions
abbrev pub questions_at : QuestionSection → Cursor
questions_at section = cursor_of section.cursor

-- the place of a cursor over the records of a section
abbrev pub records_at : RecordSection → SectionCursor
records_at section = record { cursor = cursor_of section.cursor; section = section.section }

-- the place of a cursor over records of some types, and whether it returns only those of class IN
abbrev pub asked_at : {Data : Type 0} → RecordIter Data → SectionCursor
asked_at iter = records_at iter.section

abbrev pub only_in : {Data : Type 0} → RecordIter Data → Bool
only_in iter = iter.in_only

-- the place of a cursor over records of any type
abbrev pub any_at : {Data : Type 0} → AnyRecordIter Data → SectionCursor
any_at iter = records_at iter.section

-- the place of a cursor over all records of a message, if anything is left
abbrev pub all_at : MessageIter → Option SectionCursor
all_at iter = option_map records_at iter.section
