-- The printed form of labels and names, tried on some that are written out.
use Rattle.std.specs.Prelude.{◌≡◌, [], ◌∷◌, ◌++◌, codes, refl}
use Rattle.dns_label.specs.Printed.{printed_label, printed_name}

-- the root, `a.b.`, and a label with a dot
pub names_tried : (printed_name [] ≡ codes ".") × (printed_name (codes "a" ∷ codes "b" ∷ []) ≡ codes "a.b.")
    × (printed_name (codes "a.b" ∷ []) ≡ codes "a" ++ 92 ∷ codes ".b.")
names_tried = (refl, refl, refl)

-- each character that is escaped by a backslash (92)
pub special_tried : printed_label (codes " $().;" ++ 34 ∷ 92 ∷ [])
    ≡ 92 ∷ 32 ∷ 92 ∷ 36 ∷ 92 ∷ 40 ∷ 92 ∷ 41 ∷ 92 ∷ 46 ∷ 92 ∷ 59 ∷ 92 ∷ 34 ∷ 92 ∷ 92 ∷ []
special_tried = refl

-- the first and the last visible character, and the octets 0, 9, 127 and 255 as three digits
pub others_tried : (printed_label (codes "!~") ≡ codes "!~")
    × (printed_label (0 ∷ 9 ∷ 127 ∷ 255 ∷ []) ≡ 92 ∷ codes "000" ++ 92 ∷ codes "009" ++ 92 ∷ codes "127" ++ 92 ∷ codes "255")
others_tried = (refl, refl)
