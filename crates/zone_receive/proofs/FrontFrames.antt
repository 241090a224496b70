-- Two lists of messages in frames at the front of one stream: they are equal, or one continues the other.
use Rattle.std.proofs.Common.{◌≡◌, ℕ, List, [], ◌∷◌, ◌++◌, refl, sym, ap, ◌∙◌, append_assoc}
use Rattle.std.specs.List.{AllByRecursion}
use Rattle.zone_core.specs.Frames.{frame, frames, IsFramable}
use Rattle.zone_core.proofs.Framing.{frames_push, same_message}

pub record SameFrames (messages others : List (List ℕ)) (more rest : List ℕ) : Type 0 where
  pub same : messages ≡ others
  pub back : more ≡ rest

-- The messages are the others, then `next`, and then `behind`.
pub record FramesPast (messages others : List (List ℕ)) (more rest : List ℕ) : Type 0 where
  pub next : List ℕ
  pub behind : List (List ℕ)
  pub front : messages ≡ others ++ next ∷ behind
  pub fits : IsFramable next
  pub back : rest ≡ frame next ++ (frames behind ++ more)

pub data ComparedFrames (messages others : List (List ℕ)) (more rest : List ℕ) : Type 0 where
  same_frames : SameFrames messages others more rest → ComparedFrames messages others more rest
  more_frames : FramesPast messages others more rest → ComparedFrames messages others more rest
  fewer_frames : FramesPast others messages rest more → ComparedFrames messages others more rest

pub two_fronts : (messages others : List (List ℕ)) (more rest : List ℕ) → AllByRecursion IsFramable messages
    → AllByRecursion IsFramable others → frames messages ++ more ≡ frames others ++ rest
    → ComparedFrames messages others more rest
two_fronts [] [] more rest each each' e = same_frames (record { same = refl; back = e })
two_fronts [] (n ∷ others) more rest each each' e = fewer_frames (record {
  next = n;
  behind = others;
  front = refl;
  fits = each'.0;
  back = e ∙ append_assoc (frame n) (frames others) rest;
})
two_fronts (m ∷ messages) [] more rest each each' e = more_frames (record {
  next = m;
  behind = messages;
  front = refl;
  fits = each.0;
  back = sym e ∙ append_assoc (frame m) (frames messages) more;
})
two_fronts (m ∷ messages) (n ∷ others) more rest each each' e =
    let here : frame m ++ (frames messages ++ more) ≡ frame n ++ (frames others ++ rest) =
    sym (append_assoc (frame m) (frames messages) more) ∙ e ∙ append_assoc (frame n) (frames others) rest in
    let first = same_message m n (frames messages ++ more) (frames others ++ rest) each.0 each'.0 here in
    elim (two_fronts messages others more rest each.1 each'.1 first.1) [
      | same_frames s ↦ same_frames (record { same = cc (first.0, s.same); back = s.back })
      | more_frames s ↦ more_frames (record { next = s.next; behind = s.behind; front = cc (first.0, s.front); fits = s.fits; back = s.back })
      | fewer_frames s ↦ fewer_frames (record { next = s.next; behind = s.behind; front = cc (first.0, s.front); fits = s.fits; back = s.back })
    ]

-- one more message in frames
pub frames_more : (messages : List (List ℕ)) (message behind : List ℕ)
    → frames messages ++ (frame message ++ behind) ≡ frames (messages ++ message ∷ []) ++ behind
frames_more messages message behind =
    sym (append_assoc (frames messages) (frame message) behind) ∙ ap (λ l. l ++ behind) (frames_push messages message)
