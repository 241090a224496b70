-- The encodings of RFC 4648: base 64 (section 4), base 32 with the hex alphabet and without padding (section 7), base
-- 16 (section 8).
use Rattle.std.specs.Prelude.{◌≡◌, ◌+◌, ◌-◌, ◌%◌, ◌<◌, ◌==◌, ℕ, List, [], ◌++◌, length, map, replicate, nat_lt, if◌then◌else◌}
use Rattle.std.specs.List.{AllByRecursion}
use Rattle.std.specs.Char.{digit_value}
use Rattle.dns_label.specs.Octets.{AreOctets}
use Rattle.dns_scan.specs.declared.encoding.base.Base.{Base}
use Rattle.dns_scan.specs.declared.encoding.base.Base.TheVariants.{Sixteen, ThirtyTwoHex, SixtyFour}
use Rattle.dns_scan.specs.Bits.{all_bits, numbers_of}

-- how many bits a character stands for
abbrev pub width : Base → ℕ
width Sixteen = 4
width ThirtyTwoHex = 5
width SixtyFour = 6

-- how many characters the alphabet has
abbrev pub size : Base → ℕ
size Sixteen = 16
size ThirtyTwoHex = 32
size SixtyFour = 64

-- digits, and then capitals
abbrev pub hex_character : ℕ → ℕ
hex_character number = if nat_lt number 10 then 48 + number else 55 + number

-- capitals, small letters, digits, plus and slash
abbrev pub character_64 : ℕ → ℕ
character_64 number =
    if nat_lt number 26 then 65 + number
    else (if nat_lt number 52 then 71 + number
    else (if nat_lt number 62 then number - 4 else (if number == 62 then 43 else 47)))

-- the character of a number
abbrev pub character : Base → ℕ → ℕ
character Sixteen number = hex_character number
character ThirtyTwoHex number = hex_character number
character SixtyFour number = character_64 number

-- the number of a character of base 64, and 64 if there is none
abbrev pub digit_64 : ℕ → ℕ
digit_64 c =
    if c == 43 then 62 else (if c == 47 then 63
    else (if nat_lt c 48 then 64 else (if nat_lt c 58 then c + 4
    else (if nat_lt c 65 then 64 else (if nat_lt c 91 then c - 65
    else (if nat_lt c 97 then 64 else (if nat_lt c 123 then c - 71 else 64)))))))

-- a number has one hexadecimal digit
abbrev pub IsHexNumber : ℕ → Type 0
IsHexNumber number = number < 16

-- The number that a character stands for: letters in upper or lower case in base 16 and 32. What is no character has a
-- number that the alphabet lacks.
abbrev pub digit : Base → ℕ → ℕ
digit Sixteen c = digit_value c
digit ThirtyTwoHex c = digit_value c
digit SixtyFour c = digit_64 c

abbrev pub IsCharacter : Base → ℕ → Type 0
IsCharacter base c = digit base c < size base

-- The characters' bits are those of the octets, and a rest that is too short for another character.
pub record Groups (base : Base) (characters octets : List ℕ) : Type 0 where
  pub each : AllByRecursion (IsCharacter base) characters
  pub are_octets : AreOctets octets
  pub rest : List ℕ
  pub cut : all_bits (width base) (map (digit base) characters) ≡ all_bits 8 octets ++ rest
  pub little : length rest < width base

-- fewer than four pads, `=`, fill the text up to fours of characters
pub record IsPadded (text characters : List ℕ) : Type 0 where
  pub pads : ℕ
  pub few : pads < 4
  pub written : text ≡ characters ++ replicate pads 61
  pub fours : length text % 4 ≡ 0

-- the text is that of the characters: in base 64 with padding
abbrev pub IsTextOf : Base → List ℕ → List ℕ → Type 0
IsTextOf Sixteen text characters = text ≡ characters
IsTextOf ThirtyTwoHex text characters = text ≡ characters
IsTextOf SixtyFour text characters = IsPadded text characters

-- The text is one of the octets. It may have other bits left over than zeros.
pub record Decodes (base : Base) (text octets : List ℕ) : Type 0 where
  pub characters : List ℕ
  pub text_of : IsTextOf base text characters
  pub groups : Groups base characters octets

-- the pads after that number of characters modulo four, in base 64
abbrev pub padding : Base → ℕ → List ℕ
padding Sixteen count = []
padding ThirtyTwoHex count = []
padding SixtyFour count = replicate ((4 - count) % 4) 61

-- the characters of the groups of the octets' bits, the last group filled up with zeros
abbrev pub characters_of : Base → List ℕ → List ℕ
characters_of base octets = map (character base) (numbers_of (width base) (all_bits 8 octets))

-- the text of octets
abbrev pub encoded : Base → List ℕ → List ℕ
encoded base octets = characters_of base octets ++ padding base (length (characters_of base octets) % 4)

-- the text is one of these octets and of no others
pub record DecodesOnly (base : Base) (text octets : List ℕ) : Type 0 where
  pub decodes : Decodes base text octets
  pub only : (others : List ℕ) → Decodes base text others → others ≡ octets
