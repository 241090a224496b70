-- A location is read from tokens, and written by no others: its parts in turn, and the location as a whole.
use Rattle.std.proofs.Common.{◌≡◌, ◌+◌, ◌*◌, ◌<◌, ◌≤◌, ◌^◌, ◌⊎◌, inl, inr, ℕ, List, [], ◌∷◌, ◌++◌, length, map, drop, refl, sym, ◌∙◌, ap, subst, arith, append_assoc}
use Rattle.std.specs.Prelude.{codes}
use Rattle.std.specs.List.{AllByRecursion, AllZip}
use Rattle.dns_scan.specs.Token.{Takes, Token}
use Rattle.dns_field_texts.specs.declared.location.scan.Axis.{Axis}
use Rattle.dns_field_texts.specs.Location.{IsLocation, IsPrecision, IsWithin, Location, Precision, degrees}
use Rattle.dns_field_texts.specs.LocationText.{IsAngle, IsNumeral, ScansLocation, SpellsAltitude, SpellsAngle, SpellsArc, SpellsSize, SpellsSizes, usual_sizes}
use Rattle.dns_field_texts.specs.LocationParts.{EndsArc, HasArc, HasMinutes, HasSeconds, HasSize, IsAltitude, IsAxis, IsDirection, IsPart, TakesText}
use Rattle.dns_field_texts.proofs.LocationNumerals.{part_one}
use Rattle.dns_field_texts.proofs.LocationScans.{arc_one, ended, same_token}

abbrev texts : List Token → List (List ℕ)
texts tokens = map (λ token. token.text) tokens

abbrev pub latitude_axis : Axis
latitude_axis = record { most = 90; up = 78; down = 83 }

abbrev pub longitude_axis : Axis
longitude_axis = record { most = 180; up = 69; down = 87 }

pub latitude_is : IsAxis latitude_axis
latitude_is = record { few = omega arith; up = omega arith; down = omega arith }

pub longitude_is : IsAxis longitude_axis
longitude_is = record { few = omega arith; up = omega arith; down = omega arith }

-- the numeral 0
zero_minutes : IsNumeral 0 (codes "0") 0
zero_minutes = record {
  whole = codes "0";
  point = [];
  fraction = [];
  written = refl;
  digits = record { some = omega arith; each = refl };
  behind = inl (refl, refl);
  few = omega arith;
  is = refl;
}

zero_seconds : IsNumeral 3 (codes "0") 0
zero_seconds = record {
  whole = codes "0";
  point = [];
  fraction = [];
  written = refl;
  digits = record { some = omega arith; each = refl };
  behind = inl (refl, refl);
  few = omega arith;
  is = refl;
}

none_written : {places value : ℕ} → IsNumeral places (codes "0") 0 → IsNumeral places (codes "0") value → value ≡ 0
none_written {places} {value} none is =
    part_one {most = value} {more = 0} (record { spelled = is; few = omega arith }) (record { spelled = none; few = omega arith })

-- an angle in words, from tokens
record ArcWords (axis : Axis) (tokens left : List Token) (value : ℕ) : Type 0 where
  words : List (List ℕ)
  written : texts tokens ≡ words ++ texts left
  spells : SpellsArc axis.most (axis.up ∷ []) (axis.down ∷ []) words value

closed : {axis : Axis} {angle value : ℕ} {tokens behind left : List Token} (front : List (List ℕ)) → SpellsAngle front angle
    → texts tokens ≡ front ++ texts behind → EndsArc axis angle behind left value → ArcWords axis tokens left value
closed {axis} {angle} {value} {tokens} {behind} {left} front spelled written ends =
    let direction : List ℕ = ends.takes.token.text in
    let next : texts behind ≡ direction ∷ texts left = ap texts ends.takes.is in
    record {
      words = front ++ direction ∷ [];
      written = written ∙ ap (λ (l : List (List ℕ)). front ++ l) next ∙ sym (append_assoc front (direction ∷ []) (texts left));
      spells = record {
        front = front;
        direction = direction;
        angle = angle;
        written = refl;
        spelled = spelled;
        within = ends.within;
        is = ends.takes.fits;
      };
    }

words_of : {axis : Axis} {tokens left : List Token} {value : ℕ} → HasArc axis tokens left value → ArcWords axis tokens left value
words_of {axis} {tokens} {left} {value} has = by has.ends
  where
    first : texts tokens ≡ has.takes.token.text ∷ texts has.behind
    first = ap texts has.takes.is

    by_seconds : (minute : ℕ) (behind : List Token) → TakesText (IsPart 0 59 minute) has.behind behind
        → HasSeconds axis (degrees has.degree + minute * 60000) behind left value → ArcWords axis tokens left value
    by_seconds minute behind takes more =
        let few = takes.fits.few in
        let less = more.takes.fits.few in
        closed {angle = degrees has.degree + minute * 60000 + more.second} (has.takes.token.text ∷ takes.token.text ∷ more.takes.token.text ∷ [])
        (record {
          d = has.degree;
          m = minute;
          s = more.second;
          spelled = (has.takes.fits.spelled, takes.fits.spelled, more.takes.fits.spelled);
          below = (omega arith, omega arith);
          is = refl;
        })
        (first ∙ ap (λ (l : List (List ℕ)). has.takes.token.text ∷ l) (ap texts takes.is ∙ ap (λ (l : List (List ℕ)). takes.token.text ∷ l) (ap texts more.takes.is)))
        more.ends

    by_minutes : (more : HasMinutes axis (degrees has.degree) has.behind left value)
        → EndsArc axis (degrees has.degree + more.minute * 60000) more.behind left value ⊎ HasSeconds axis (degrees has.degree + more.minute * 60000) more.behind left value
        → ArcWords axis tokens left value
    by_minutes more (inl ends) =
        let few = more.takes.fits.few in
        closed {angle = degrees has.degree + more.minute * 60000} (has.takes.token.text ∷ more.takes.token.text ∷ [])
        (record {
          d = has.degree;
          m = more.minute;
          s = 0;
          spelled = (has.takes.fits.spelled, more.takes.fits.spelled, zero_seconds);
          below = (omega arith, omega arith);
          is = omega arith;
        })
        (first ∙ ap (λ (l : List (List ℕ)). has.takes.token.text ∷ l) (ap texts more.takes.is))
        ends
    by_minutes more (inr seconds) = by_seconds more.minute more.behind more.takes seconds

    by : EndsArc axis (degrees has.degree) has.behind left value ⊎ HasMinutes axis (degrees has.degree) has.behind left value → ArcWords axis tokens left value
    by (inl ends) =
        closed {angle = degrees has.degree} (has.takes.token.text ∷ [])
        (record {
          d = has.degree;
          m = 0;
          s = 0;
          spelled = (has.takes.fits.spelled, zero_minutes, zero_seconds);
          below = (omega arith, omega arith);
          is = omega arith;
        })
        first ends
    by (inr more) = by_minutes more more.ends

-- the first word is that of a token
record FirstWord (Fits : List ℕ → Type 0) (tokens : List Token) (others : List (List ℕ)) : Type 0 where
  behind : List Token
  takes : TakesText Fits tokens behind
  rest : texts behind ≡ others

first_word : {Fits : List ℕ → Type 0} (tokens : List Token) (word : List ℕ) (others : List (List ℕ)) → texts tokens ≡ word ∷ others → Fits word
    → FirstWord Fits tokens others
first_word [] word others written fits =
    let none : [] ≡ word ∷ others = written in absurd (cc)
first_word {Fits} (token ∷ tokens) word others written fits =
    let whole : token.text ∷ texts tokens ≡ word ∷ others = written in
    let same : token.text ≡ word = cc in
    record { behind = tokens; takes = record { token = token; is = refl; fits = subst Fits (sym same) fits }; rest = cc }

-- an angle in tokens, from words
record ArcTokens (axis : Axis) (tokens : List Token) (rest : List (List ℕ)) (value : ℕ) : Type 0 where
  left : List Token
  has : HasArc axis tokens left value
  others : texts left ≡ rest

record EndTokens (axis : Axis) (angle : ℕ) (tokens : List Token) (rest : List (List ℕ)) (value : ℕ) : Type 0 where
  left : List Token
  ends : EndsArc axis angle tokens left value
  others : texts left ≡ rest

tokens_of : {axis : Axis} {words rest : List (List ℕ)} {value : ℕ} (tokens : List Token) → SpellsArc axis.most (axis.up ∷ []) (axis.down ∷ []) words value
    → texts tokens ≡ words ++ rest → ArcTokens axis tokens rest value
tokens_of {axis} {words} {rest} {value} tokens arc written =
    by arc.front arc.spelled (written ∙ ap (λ (l : List (List ℕ)). l ++ rest) arc.written ∙ append_assoc arc.front (arc.direction ∷ []) rest)
  where
    ending : (angle : ℕ) (behind : List Token) → arc.angle ≡ angle → texts behind ≡ arc.direction ∷ rest → EndTokens axis angle behind rest value
    ending angle behind same also =
        let word = first_word {Fits = IsDirection axis angle value} behind arc.direction rest also
        (subst (λ (n : ℕ). IsDirection axis n value arc.direction) same arc.is) in
        record {
          left = word.behind;
          ends = record { takes = word.takes; within = subst (λ (n : ℕ). n ≤ degrees axis.most) same arc.within };
          others = word.rest;
        }

    by : (front : List (List ℕ)) → SpellsAngle front arc.angle → texts tokens ≡ front ++ (arc.direction ∷ rest) → ArcTokens axis tokens rest value
    by [] spelled also = absurd spelled
    by (degree ∷ []) spelled also =
        let m = none_written zero_minutes spelled.spelled.1 in
        let s = none_written zero_seconds spelled.spelled.2 in
        let most = arc.within in
        let is = spelled.is in
        let whole : arc.angle ≡ degrees spelled.d = omega (arith, is, m, s) in
        let one = first_word {Fits = IsPart 0 axis.most spelled.d} tokens degree (arc.direction ∷ rest) also
        (record { spelled = spelled.spelled.0; few = omega (arith, whole, most) }) in
        let end = ending (degrees spelled.d) one.behind whole one.rest in
        record {
          left = end.left;
          has = record { degree = spelled.d; behind = one.behind; takes = one.takes; ends = inl end.ends };
          others = end.others;
        }
    by (degree ∷ minute ∷ []) spelled also =
        let s = none_written zero_seconds spelled.spelled.2 in
        let most = arc.within in
        let below = spelled.below.0 in
        let is = spelled.is in
        let whole : arc.angle ≡ degrees spelled.d + spelled.m * 60000 = omega (arith, is, s) in
        let one = first_word {Fits = IsPart 0 axis.most spelled.d} tokens degree (minute ∷ arc.direction ∷ rest) also
        (record { spelled = spelled.spelled.0; few = omega (arith, whole, most) }) in
        let two = first_word {Fits = IsPart 0 59 spelled.m} one.behind minute (arc.direction ∷ rest) one.rest
        (record { spelled = spelled.spelled.1; few = omega (arith, below) }) in
        let end = ending (degrees spelled.d + spelled.m * 60000) two.behind whole two.rest in
        record {
          left = end.left;
          has = record {
            degree = spelled.d;
            behind = one.behind;
            takes = one.takes;
            ends = inr (record { minute = spelled.m; behind = two.behind; takes = two.takes; ends = inl end.ends });
          };
          others = end.others;
        }
    by (degree ∷ minute ∷ second ∷ []) spelled also =
        let most = arc.within in
        let below = spelled.below.0 in
        let less = spelled.below.1 in
        let is = spelled.is in
        let one = first_word {Fits = IsPart 0 axis.most spelled.d} tokens degree (minute ∷ second ∷ arc.direction ∷ rest) also
        (record { spelled = spelled.spelled.0; few = omega (arith, is, most) }) in
        let two = first_word {Fits = IsPart 0 59 spelled.m} one.behind minute (second ∷ arc.direction ∷ rest) one.rest
        (record { spelled = spelled.spelled.1; few = omega (arith, below) }) in
        let three = first_word {Fits = IsPart 3 59999 spelled.s} two.behind second (arc.direction ∷ rest) two.rest
        (record { spelled = spelled.spelled.2; few = omega (arith, less) }) in
        let end = ending (degrees spelled.d + spelled.m * 60000 + spelled.s) three.behind is three.rest in
        record {
          left = end.left;
          has = record {
            degree = spelled.d;
            behind = one.behind;
            takes = one.takes;
            ends = inr (record {
              minute = spelled.m;
              behind = two.behind;
              takes = two.takes;
              ends = inr (record { second = spelled.s; behind = three.behind; takes = three.takes; ends = end.ends });
            });
          };
          others = end.others;
        }
    by (degree ∷ minute ∷ second ∷ more ∷ others) spelled also = absurd spelled

-- the parts of a location that are left, from the last one on
abbrev pub VerticalLeft : List Token → Location → Type 0
VerticalLeft tokens location = (left : List Token) × HasSize (codes "10m") tokens left location.vertical × (left ≡ [])

abbrev pub HorizontalLeft : List Token → Location → Type 0
HorizontalLeft tokens location = (left : List Token) × HasSize (codes "10000m") tokens left location.horizontal × VerticalLeft left location

abbrev pub SizeLeft : List Token → Location → Type 0
SizeLeft tokens location = (left : List Token) × HasSize (codes "1m") tokens left location.size × HorizontalLeft left location

abbrev pub AltitudeLeft : List Token → Location → Type 0
AltitudeLeft tokens location = (left : List Token) × TakesText (IsAltitude location.altitude) tokens left × SizeLeft left location

abbrev pub LongitudeLeft : List Token → Location → Type 0
LongitudeLeft tokens location = (left : List Token) × HasArc longitude_axis tokens left location.longitude × AltitudeLeft left location

abbrev pub LatitudeLeft : List Token → Location → Type 0
LatitudeLeft tokens location = (left : List Token) × HasArc latitude_axis tokens left location.latitude × LongitudeLeft left location

-- sizes
absent : (tokens : List Token) → texts tokens ≡ [] → tokens ≡ []
absent [] none = refl
absent (token ∷ tokens) none =
    let some : token.text ∷ texts tokens ≡ [] = none in absurd (cc)

usual_here : {usual : List ℕ} {size : Precision} (tokens : List Token) → texts tokens ≡ [] → SpellsSize usual size → HasSize usual tokens [] size
usual_here tokens none spells = inr (absent tokens none, refl, spells)

sizes_left : (location : Location) (tokens : List Token) (words : List (List ℕ)) → texts tokens ≡ words
    → SpellsSizes words (location.size ∷ location.horizontal ∷ location.vertical ∷ []) → SizeLeft tokens location
sizes_left location tokens [] written spells =
    let each = spells.each in
    ([], usual_here tokens written each.0, ([], usual_here [] refl each.1.0, ([], usual_here [] refl each.1.1.0, refl)))
sizes_left location tokens (a ∷ []) written spells =
    let each = spells.each in
    let one = first_word {Fits = λ text. SpellsSize text location.size} tokens a [] written each.0 in
    (one.behind, inl one.takes, ([], usual_here one.behind one.rest each.1.0, ([], usual_here [] refl each.1.1.0, refl)))
sizes_left location tokens (a ∷ b ∷ []) written spells =
    let each = spells.each in
    let one = first_word {Fits = λ text. SpellsSize text location.size} tokens a (b ∷ []) written each.0 in
    let two = first_word {Fits = λ text. SpellsSize text location.horizontal} one.behind b [] one.rest each.1.0 in
    (one.behind, inl one.takes, (two.behind, inl two.takes, ([], usual_here two.behind two.rest each.1.1.0, refl)))
sizes_left location tokens (a ∷ b ∷ d ∷ []) written spells =
    let each = spells.each in
    let one = first_word {Fits = λ text. SpellsSize text location.size} tokens a (b ∷ d ∷ []) written each.0 in
    let two = first_word {Fits = λ text. SpellsSize text location.horizontal} one.behind b (d ∷ []) one.rest each.1.0 in
    let three = first_word {Fits = λ text. SpellsSize text location.vertical} two.behind d [] two.rest each.1.1.0 in
    (one.behind, inl one.takes, (two.behind, inl two.takes, (three.behind, inl three.takes, absent three.behind three.rest)))
sizes_left location tokens (a ∷ b ∷ d ∷ e ∷ words) written spells = let few = spells.few in absurd (omega (arith, few))

pub read_from : {location : Location} {tokens : List Token} → ScansLocation location tokens → LatitudeLeft tokens location
read_from {location} {tokens} scans =
    let north = tokens_of {axis = latitude_axis} tokens scans.north
    (scans.written ∙ append_assoc scans.latitude scans.longitude (scans.altitude ∷ scans.sizes)) in
    let east = tokens_of {axis = longitude_axis} north.left scans.east north.others in
    let above = first_word {Fits = IsAltitude location.altitude} east.left scans.altitude scans.sizes east.others
    (record { spelled = scans.above; small = scans.high }) in
    (north.left, north.has, (east.left, east.has, (above.behind, above.takes, sizes_left location above.behind scans.sizes above.rest scans.sized)))

-- and back
sizes_from : (location : Location) (tokens : List Token) → SizeLeft tokens location
    → SpellsSizes (texts tokens) (location.size ∷ location.horizontal ∷ location.vertical ∷ [])
sizes_from location tokens left = by left.1 left.2.1 left.2.2.1
  where
    by : HasSize (codes "1m") tokens left.0 location.size → HasSize (codes "10000m") left.0 left.2.0 location.horizontal
        → HasSize (codes "10m") left.2.0 left.2.2.0 location.vertical → SpellsSizes (texts tokens) (location.size ∷ location.horizontal ∷ location.vertical ∷ [])
    by (inl one) (inl two) (inl three) =
        let whole : texts tokens ≡ one.token.text ∷ two.token.text ∷ three.token.text ∷ [] =
        ap texts (one.is ∙ ap (λ (l : List Token). one.token ∷ l) (two.is ∙ ap (λ (l : List Token). two.token ∷ l) (three.is ∙ ap (λ (l : List Token). three.token ∷ l) left.2.2.2))) in
        subst (λ (l : List (List ℕ)). SpellsSizes l (location.size ∷ location.horizontal ∷ location.vertical ∷ [])) (sym whole)
        (record { few = omega arith; each = (one.fits, (two.fits, (three.fits, tt))) })
    by (inl one) (inl two) (inr three) =
        let whole : texts tokens ≡ one.token.text ∷ two.token.text ∷ [] =
        ap texts (one.is ∙ ap (λ (l : List Token). one.token ∷ l) (two.is ∙ ap (λ (l : List Token). two.token ∷ l) three.0)) in
        subst (λ (l : List (List ℕ)). SpellsSizes l (location.size ∷ location.horizontal ∷ location.vertical ∷ [])) (sym whole)
        (record { few = omega arith; each = (one.fits, (two.fits, (three.2, tt))) })
    by (inl one) (inr two) (inl three) = absurd (ended two.1 three)
    by (inl one) (inr two) (inr three) =
        let whole : texts tokens ≡ one.token.text ∷ [] = ap texts (one.is ∙ ap (λ (l : List Token). one.token ∷ l) two.0) in
        subst (λ (l : List (List ℕ)). SpellsSizes l (location.size ∷ location.horizontal ∷ location.vertical ∷ [])) (sym whole)
        (record { few = omega arith; each = (one.fits, (two.2, (three.2, tt))) })
    by (inr one) (inl two) three = absurd (ended one.1 two)
    by (inr one) (inr two) (inl three) = absurd (ended two.1 three)
    by (inr one) (inr two) (inr three) =
        let whole : texts tokens ≡ [] = ap texts one.0 in
        subst (λ (l : List (List ℕ)). SpellsSizes l (location.size ∷ location.horizontal ∷ location.vertical ∷ [])) (sym whole)
        (record { few = omega arith; each = (one.2, (two.2, (three.2, tt))) })

pub scans_from : {location : Location} {tokens : List Token} → LatitudeLeft tokens location → ScansLocation location tokens
scans_from {location} {tokens} left =
    let north = words_of left.1 in
    let east = words_of left.2.1 in
    let above = left.2.2.1 in
    record {
      latitude = north.words;
      longitude = east.words;
      altitude = above.token.text;
      sizes = texts left.2.2.0;
      written = north.written ∙ ap (λ (l : List (List ℕ)). north.words ++ l) (east.written ∙ ap (λ (l : List (List ℕ)). east.words ++ l) (ap texts above.is))
          ∙ sym (append_assoc north.words east.words (above.token.text ∷ texts left.2.2.0));
      north = north.spells;
      east = east.spells;
      above = above.fits.spelled;
      high = above.fits.small;
      sized = sizes_from location left.2.2.0 left.2.2.2;
    }

pub scans_parts : (location : Location) {tokens one two three four five six : List Token} → HasArc latitude_axis tokens one location.latitude
    → HasArc longitude_axis one two location.longitude → TakesText (IsAltitude location.altitude) two three
    → HasSize (codes "1m") three four location.size → HasSize (codes "10000m") four five location.horizontal
    → HasSize (codes "10m") five six location.vertical → six ≡ [] → ScansLocation location tokens
scans_parts location {one = one} {two = two} {three = three} {four = four} {five = five} {six = six} north east above size horizontal vertical none =
    scans_from (one, north, (two, east, (three, above, (four, size, (five, horizontal, (six, vertical, none))))))

-- what is left behind parts that are there
pub past_latitude : (location : Location) {tokens behind : List Token} {value : ℕ} → HasArc latitude_axis tokens behind value
    → ScansLocation location tokens → LongitudeLeft behind location
past_latitude location has scans =
    let left = read_from scans in
    subst (λ (l : List Token). LongitudeLeft l location) (sym (arc_one latitude_is has left.1)) left.2

pub past_longitude : (location : Location) {tokens behind : List Token} {value : ℕ} → HasArc longitude_axis tokens behind value
    → LongitudeLeft tokens location → AltitudeLeft behind location
past_longitude location has left =
    subst (λ (l : List Token). AltitudeLeft l location) (sym (arc_one longitude_is has left.1)) left.2

pub past_altitude : (location : Location) {tokens behind : List Token} {altitude : ℕ} → TakesText (IsAltitude altitude) tokens behind
    → AltitudeLeft tokens location → SizeLeft behind location
past_altitude location takes left = subst (λ (l : List Token). SizeLeft l location) (sym (same_token takes left.1).1) left.2

size_one : (usual : List ℕ) {size other : Precision} {tokens left also : List Token} → HasSize usual tokens left size → HasSize usual tokens also other
    → left ≡ also
size_one usual (inl one) (inl two) = (same_token one two).1
size_one usual (inl one) (inr two) = absurd (ended two.0 one)
size_one usual (inr one) (inl two) = absurd (ended one.0 two)
size_one usual (inr one) (inr two) = one.1 ∙ sym two.1

pub past_size : (location : Location) {tokens behind : List Token} {size : Precision} → HasSize (codes "1m") tokens behind size
    → SizeLeft tokens location → HorizontalLeft behind location
past_size location has left = subst (λ (l : List Token). HorizontalLeft l location) (sym (size_one (codes "1m") has left.1)) left.2

pub past_horizontal : (location : Location) {tokens behind : List Token} {size : Precision} → HasSize (codes "10000m") tokens behind size
    → HorizontalLeft tokens location → VerticalLeft behind location
past_horizontal location has left = subst (λ (l : List Token). VerticalLeft l location) (sym (size_one (codes "10000m") has left.1)) left.2

pub past_vertical : (location : Location) {tokens behind : List Token} {size : Precision} → HasSize (codes "10m") tokens behind size
    → VerticalLeft tokens location → behind ≡ []
past_vertical location has left = size_one (codes "10m") has left.1 ∙ left.2

-- the usual sizes
usual : (text numeral : List ℕ) (centimetres : ℕ) (size : Precision) → IsNumeral 2 numeral centimetres → text ≡ numeral ++ codes "m"
    → centimetres ≤ 9000000000 → IsPrecision size → centimetres ≡ size.mantissa * 10 ^ size.power
    → centimetres < (size.mantissa + 1) * 10 ^ size.power → SpellsSize text size
usual text numeral centimetres size is written most precision same above = record {
  centimetres = centimetres;
  metres = record { numeral = numeral; is = is; unit = inr written };
  most = most;
  is = precision;
  below = omega (arith, same);
  above = above;
}

pub usual_size : SpellsSize (codes "1m") (record { mantissa = 1; power = 2 })
usual_size = usual (codes "1m") (codes "1") 100 (record { mantissa = 1; power = 2 })
    (record { whole = codes "1"; point = []; fraction = []; written = refl; digits = record { some = omega arith; each = refl }; behind = inl (refl, refl); few = omega arith; is = refl })
    refl (omega arith) (record { mantissa = omega arith; power = omega arith; zero = λ none. absurd (omega (arith, none)) }) refl (omega arith)

pub usual_horizontal : SpellsSize (codes "10000m") (record { mantissa = 1; power = 6 })
usual_horizontal = usual (codes "10000m") (codes "10000") 1000000 (record { mantissa = 1; power = 6 })
    (record { whole = codes "10000"; point = []; fraction = []; written = refl; digits = record { some = omega arith; each = refl }; behind = inl (refl, refl); few = omega arith; is = refl })
    refl (omega arith) (record { mantissa = omega arith; power = omega arith; zero = λ none. absurd (omega (arith, none)) }) refl (omega arith)

pub usual_vertical : SpellsSize (codes "10m") (record { mantissa = 1; power = 3 })
usual_vertical = usual (codes "10m") (codes "10") 1000 (record { mantissa = 1; power = 3 })
    (record { whole = codes "10"; point = []; fraction = []; written = refl; digits = record { some = omega arith; each = refl }; behind = inl (refl, refl); few = omega arith; is = refl })
    refl (omega arith) (record { mantissa = omega arith; power = omega arith; zero = λ none. absurd (omega (arith, none)) }) refl (omega arith)

-- what is scanned is a location
arc_within : {most value : ℕ} {up down : List ℕ} {words : List (List ℕ)} → SpellsArc most up down words value → IsWithin most value
arc_within {most} {value} {up} {down} arc = by arc.is
  where
    by : ((arc.direction ≡ up) × (value ≡ 2 ^ 31 + arc.angle)) ⊎ ((arc.direction ≡ down) × (value + arc.angle ≡ 2 ^ 31)) → IsWithin most value
    by (inl upward) =
        let is = upward.1 in
        let within = arc.within in
        record { low = omega (arith, is, within); high = omega (arith, is, within) }
    by (inr downward) =
        let is = downward.1 in
        let within = arc.within in
        record { low = omega (arith, is, within); high = omega (arith, is, within) }

precisions : (words : List (List ℕ)) (sizes : List Precision) → AllZip SpellsSize words sizes → AllByRecursion IsPrecision sizes
precisions [] [] each = tt
precisions [] (size ∷ sizes) each = absurd each
precisions (word ∷ words) [] each = absurd each
precisions (word ∷ words) (size ∷ sizes) each = (each.0.is, precisions words sizes each.1)

pub scans_location_is : {location : Location} {tokens : List Token} → ScansLocation location tokens → IsLocation location
scans_location_is {location} scans =
    let sizes = precisions (scans.sizes ++ drop (length scans.sizes) usual_sizes) (location.size ∷ location.horizontal ∷ location.vertical ∷ []) scans.sized.each in
    record {
      size = sizes.0;
      horizontal = sizes.1.0;
      vertical = sizes.1.1.0;
      latitude = arc_within scans.north;
      longitude = arc_within scans.east;
      altitude = scans.high;
    }
