-- The definitions tried on three records: an SOA of 39 octets, an A of 17 and the SOA again, in messages whose header
-- and question take 19. Each record is given as its size.
use Rattle.std.proofs.Common.{ℕ, ◌+◌, List, [], ◌∷◌, refl, arith}
use Rattle.std.specs.Prelude.{sum}
use Rattle.zone_core.specs.Cutting.{Fits, IsFull, IsFullCut, IsBlocked}

abbrev size : List ℕ → ℕ
size group = 19 + sum group

abbrev rows : List ℕ
rows = 39 ∷ 17 ∷ 39 ∷ []

-- 512 octets hold all of them
cut_at_512 : IsFullCut size 512 rows ((39 ∷ 17 ∷ 39 ∷ []) ∷ [])
cut_at_512 = record {
  fits = record { cut = record { nonempty = (tt, tt); joins = refl }; small = (omega arith, tt) };
  full = (tt, tt);
}

-- 75 octets hold the first two
cut_at_75 : IsFullCut size 75 rows ((39 ∷ 17 ∷ []) ∷ (39 ∷ []) ∷ [])
cut_at_75 = record {
  fits = record { cut = record { nonempty = (tt, (tt, tt)); joins = refl }; small = (omega arith, (omega arith, tt)) };
  full = (omega arith, (tt, tt));
}

-- They could hold the last two as well: that cutting fits, but it isn't the full one.
other_at_75 : Fits size 75 rows ((39 ∷ []) ∷ (17 ∷ 39 ∷ []) ∷ [])
other_at_75 = record { cut = record { nonempty = (tt, (tt, tt)); joins = refl }; small = (omega arith, (omega arith, tt)) }

other_is_not_full : IsFull size 75 ((39 ∷ []) ∷ (17 ∷ 39 ∷ []) ∷ []) → ⊥
other_is_not_full full = let large = full.0 in omega arith

-- 58 octets hold any one of them, but no two
cut_at_58 : IsFullCut size 58 rows ((39 ∷ []) ∷ (17 ∷ []) ∷ (39 ∷ []) ∷ [])
cut_at_58 = record {
  fits = record {
    cut = record { nonempty = (tt, (tt, (tt, tt))); joins = refl };
    small = (omega arith, (omega arith, (omega arith, tt)));
  };
  full = (omega arith, (omega arith, (tt, tt)));
}

-- 57 don't hold the first
blocked_at_57 : IsBlocked size 57 rows 1
blocked_at_57 = record {
  before = [];
  x = 39;
  after = 17 ∷ 39 ∷ [];
  splits = refl;
  counted = refl;
  groups = [];
  cut = record { fits = record { cut = record { nonempty = tt; joins = refl }; small = tt }; full = tt };
  behind = tt;
  alone = omega arith;
}

-- Without the first SOA they hold the A, and then the second record is blocked.
blocked_behind : IsBlocked size 57 (17 ∷ 39 ∷ []) 2
blocked_behind = record {
  before = 17 ∷ [];
  x = 39;
  after = [];
  splits = refl;
  counted = refl;
  groups = (17 ∷ []) ∷ [];
  cut = record { fits = record { cut = record { nonempty = (tt, tt); joins = refl }; small = (omega arith, tt) }; full = (tt, tt) };
  behind = omega arith;
  alone = omega arith;
}
