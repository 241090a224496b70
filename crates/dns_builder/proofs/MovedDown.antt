-- Octets that are moved down, some at a time.
use Rattle.std.proofs.Common.{◌≡◌, ◌≤◌, ◌+◌, ◌-◌, ℕ, List, ◌++◌, length, take, drop, sym, ◌∙◌, ap, arith, length-append, append_assoc, length-drop}
use Rattle.std.proofs.lemmas.List.{length-take, take_min, drop-drop}
use Rattle.std.proofs.Math.Seq.{take-add, drop-append-add}
use Rattle.dns_name.specs.Remembered.{patched}
use Rattle.dns_builder.proofs.Patches.{patched_behind}

-- those before one place, and then those from another up to a third
abbrev pub moved_front : List ℕ → ℕ → ℕ → ℕ → List ℕ
moved_front octets to from read = take to octets ++ take (read - from) (drop from octets)

-- those up to `read` are moved, over those up to `write`
abbrev pub moved_some : List ℕ → ℕ → ℕ → ℕ → ℕ → List ℕ
moved_some octets to from read write = moved_front octets to from read ++ drop write octets

module _ (octets : List ℕ) (to from read write : ℕ) (down : to ≤ from) (behind : from ≤ read) (within : read ≤ length octets)
    (level : read + to ≡ write + from) where
  pub front-long : length (moved_front octets to from read) ≡ write
  front-long = omega (
    arith,
    length-append (take to octets) (take (read - from) (drop from octets)),
    length-take to octets,
    length-take (read - from) (drop from octets),
    length-drop from octets,
  )

  -- what is read next is still there
  pub unread : drop read (moved_some octets to from read write) ≡ drop read octets
  unread = ap (λ n. drop n (moved_some octets to from read write)) (omega (arith, front-long))
      ∙ drop-append-add (moved_front octets to from read) (drop write octets) (read - write)
      ∙ drop-drop (read - write) write octets ∙ ap (λ n. drop n octets) (omega arith)

  pub moved-more : (now chunk : List ℕ) → now ≡ moved_some octets to from read write → chunk ≡ take 64 (drop read now)
      → patched now write chunk ≡ moved_some octets to from (read + length chunk) (write + length chunk)
  moved-more now chunk is chunked =
      ap (λ l. patched l write chunk) is
      ∙ ap (λ n. patched (moved_some octets to from read write) n chunk) (omega (arith, front-long))
      ∙ patched_behind (moved_front octets to from read) (drop write octets) 0 chunk
      ∙ ap (λ n. moved_front octets to from read ++ (chunk ++ drop n (drop write octets))) (omega arith)
      ∙ sym (append_assoc (moved_front octets to from read) chunk (drop (length chunk) (drop write octets)))
      ∙ λ i. grown i ++ drop-drop (length chunk) write octets i
    where
      part : chunk ≡ take 64 (drop read octets)
      part = chunked ∙ ap (λ l. take 64 (drop read l)) is ∙ ap (take 64) unread

      taken : take (length chunk) (drop (read - from) (drop from octets)) ≡ chunk
      taken = ap (take (length chunk)) (drop-drop (read - from) from octets ∙ ap (λ n. drop n octets) (omega arith))
          ∙ ap (λ n. take n (drop read octets)) (ap (length {A = ℕ}) part ∙ length-take 64 (drop read octets))
          ∙ take_min 64 (drop read octets) ∙ sym part

      grown : moved_front octets to from read ++ chunk ≡ moved_front octets to from (read + length chunk)
      grown = append_assoc (take to octets) (take (read - from) (drop from octets)) chunk
          ∙ ap (λ l. take to octets ++ l)
          (ap (λ l. take (read - from) (drop from octets) ++ l) (sym taken)
          ∙ sym (take-add (read - from) (length chunk) (drop from octets))
          ∙ ap (λ n. take n (drop from octets)) (omega arith))

  -- there are as many octets as before
  pub moved-long : (now : List ℕ) → now ≡ moved_some octets to from read write → length now ≡ length octets
  moved-long now is = omega (
    arith,
    ap (length {A = ℕ}) is,
    length-append (moved_front octets to from read) (drop write octets),
    front-long,
    length-drop write octets,
  )

  pub chunk-long : (now chunk : List ℕ) → now ≡ moved_some octets to from read write → chunk ≡ take 64 (drop read now)
      → read + length chunk ≤ length octets
  chunk-long now chunk is chunked = omega (
    arith,
    ap (length {A = ℕ}) chunked,
    length-take 64 (drop read now),
    length-drop read now,
    moved-long now is,
  )
